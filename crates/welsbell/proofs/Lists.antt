-- Lists of exported calls: each is a list of the library's calls, so what is proved of those holds of it. Assumes nothing.
use Prim.Native.Nat.{ℕ}
use mathlib.Core.Path.{◌≡◌, refl, sym, ap, ◌∙◌}
use mathlib.Core.Bool.{false}
use mathlib.Core.List.{List, [], ◌∷◌}
use lib.Dec.{eqb}
use Rattle.spec.specs.declared.types.Setup.{Setup}
use Rattle.spec.specs.declared.types.Answer.{Answer}
use Rattle.spec.specs.declared.types.Answer.TheVariants.{Opened, Refused}
use Rattle.spec.specs.Every.{exists}
use Rattle.spec.specs.Tables.{State}
use Rattle.spec.specs.Calls.Readings.{is_refused, kind_of, reading}
use Rattle.spec.specs.Calls.{Call, opening}
use Rattle.spec.specs.Lists.{Event, is_opened, refused_event}
use Rattle.spec.proofs.Laws.Answers.{readable}
use Rattle.spec.proofs.Demands.Demand1.{CountsGiven}
use Rattle.spec.proofs.Demands.Demand3.{Largest}
use Rattle.queue.specs.Gives.{Reply, said, Gives}
use Rattle.queue.specs.Runs.{Ran}
use Rattle.queue.specs.Runs as runs
use Rattle.queue.proofs.Lists.{library_largest, library_counts}
use Rattle.welsbell.specs.Numbers.{Exported}

-- a list of exported calls that meet their contract, with the answers whose kinds and values they gave, the newest first: each is
-- lent the head's numbers and the tables that the one before left, and any array of values. Among them may stand refused calls that
-- were lent other tables
pub data Answering (from : State) : List Event → State → Type 0 where
  none : Answering from [] from
  next : {es : List Event} {before after : State} (c : Call) (values₀ : List ℕ) (kind : ℕ) (values : List ℕ) → Answering from es before
      → (x : Exported c before values₀ kind values after) → Answering from (record { call = c; answers = x.answer ∷ [] } ∷ es) after
  refused :
      {es : List Event} {now other otherAfter : State} (c : Call) (values₀ : List ℕ) (kind : ℕ) (values : List ℕ) (number : ℕ)
      → Answering from es now → (x : Exported c other values₀ kind values otherAfter) → x.answer ≡ Refused number
      → Answering from (refused_event c number ∷ es) now

-- one call: the library's reply, as the exported call hands it on
abbrev replied : Answer → State → Reply
replied a after = record { head = after.head; answer = a }

exported_gives : {c : Call} {before : State} {values₀ : List ℕ} {kind : ℕ} {values : List ℕ} {after : State}
    → (x : Exported c before values₀ kind values after) → Gives c before (replied x.answer after) after
exported_gives x = record { answers_same = x.answers_same; head_kept = refl; after_same = x.after_same }

-- "For every list of calls": exported ones too
pub answering_ran : {from after : State} {es : List Event} → Answering from es after → Ran from es after
answering_ran none = runs.none
answering_ran (next {es} {before} {after} c values₀ kind values list x) =
    runs.next c (replied x.answer after) (answering_ran list) (exported_gives x)
answering_ran (refused {es} {now} {other} {otherAfter} c values₀ kind values number list x e) =
    runs.refused c (replied x.answer otherAfter) number (answering_ran list) (exported_gives x) e

-- an answer of the kind opened is no refusal
opened_accepted : (a : Answer) → kind_of a ≡ kind_of Opened → (reading a).refuses ≡ false
opened_accepted a e = (readable a).refusal_kind ∙ ap (λ (k : ℕ). eqb k (kind_of (Refused 0))) e

-- an exported open that gave the kind opened, and a list of exported calls from there on in which no other open is accepted
module _ (setup : Setup) (before from after : State) (values₀ : List ℕ) (kind : ℕ) (values : List ℕ) (es : List Event)
    (x : Exported (opening setup) before values₀ kind values from) (accepted : kind ≡ kind_of Opened)
    (list : Answering from es after) (none_opened : exists is_opened es ≡ false) where
  abbrev r : Reply
  r = replied x.answer from

  no_refusal : is_refused (said r) ≡ false
  no_refusal = rw (opened_accepted x.answer (sym x.kind_same ∙ accepted))

  -- "For every list of calls from open on, served plus waiting is as many as the largest plan has, even one made by somebody
  -- who knew the whole list beforehand."
  pub exported_largest : Largest es after
  exported_largest =
      library_largest setup before from after r es (exported_gives x) no_refusal (answering_ran list) none_opened

  -- To be shut out: "counts in a report that the calls since open do not give"
  pub exported_counts : CountsGiven setup.period es after
  exported_counts =
      library_counts setup before from after r es (exported_gives x) no_refusal (answering_ran list) none_opened
