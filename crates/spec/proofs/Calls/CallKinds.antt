-- The kinds of calls, an open, a submit, a tick, and calls that change nothing, as report and chart; and what a frame asks for, an open,
-- a chart, nothing, or any other call. Of what is proved of the definitions `call_kind` alone goes by cases on calls, and `asks` alone by
-- cases on frames. The laws of all calls and of all frames go by these kinds, so that a new call that changes nothing, with a frame of its
-- own, has its clauses here and nowhere else. Assumes nothing.
use Prim.Native.Nat.{ℕ, ◌≤◌}
use mathlib.Core.Path.{◌≡◌, refl, sym, ap, ◌∙◌}
use mathlib.Core.Bool.{false}
use mathlib.Core.List.{List, [], ◌∷◌}
use native.Mathlib.Omega.{arith}
use lib.Dec.{eqb}
use lib.ListN.{length, get_or}
use Rattle.slots.proofs.Laws.Sums.{All}
use Rattle.spec.specs.declared.types.Setup.{Setup}
use Rattle.spec.specs.declared.types.Answer.{Answer}
use Rattle.spec.specs.declared.types.Answer.TheVariants.{Charted}
use Rattle.spec.specs.Tables.{zero_setup, zero_counts, State, waiting, client_table}
use Rattle.spec.specs.Setup.{Refusal, first_match}
use Rattle.spec.specs.Sound.{waiting_of}
use Rattle.spec.specs.Calls.Readings.{reading, nobody, values_of}
use Rattle.spec.specs.Calls.Refusals.{refusal4, refusal5, refusal6, refusal12}
use Rattle.spec.specs.Calls.Outcomes.{saying}
use Rattle.spec.specs.Calls.Report.{report_refusals, report_accepted, report_answer}
use Rattle.spec.specs.Calls.Chart.{chart_refusals, chart_accepted}
use Rattle.spec.specs.Calls.{Call, opening, submit, tick, report, chart, meaning, refusals_of, accepted_of}
use Rattle.spec.proofs.Demands.Words.{FitsField}
use Rattle.spec.proofs.Laws.Every.{count_most}
use Rattle.spec.proofs.Laws.Answers.{tags_but}
use Rattle.spec.proofs.Laws.Accepted.{Ready, ready, report_ready, chart_ready, waiting_length}
use types.Run.{OneOf, miss}
use denote.Enum.Declared.{tag_of, variants}
use Rattle.spec.specs.declared.types.Frame.{Frame}
use Rattle.spec.specs.declared.types.Frame.TheVariants.{Open, Submit, Tick, Report, Chart, Bad}
use Rattle.spec.specs.Lines.Frames.{Task, task_by, task}
use Rattle.spec.specs.contracts.types.Frame.{the_type}

-- a number of the papers' list of refusals
abbrev pub Listed : ℕ → Type 0
Listed n = (1 ≤ n) × (n ≤ 15)

-- ---- calls that change nothing
pub record ReadsOnly (c : Call) (s : State) : Type 0 where
  -- behind refusals 4 and 5, which all calls but open have, its own
  pub own : List Refusal
  pub refusals_are : refusals_of c s ≡ refusal4 s ∷ refusal5 s ∷ own
  pub own_listed : All (λ (r : Refusal). Listed r.number) own
  -- where none matches it has one answer, and leaves the state as it was
  pub answer : Answer
  pub accepted_is : accepted_of c s ≡ saying answer s
  -- its answer is no refusal, names no request and fits its fields; a call that is lent no output draws no chart
  pub unrefused : (reading answer).refuses ≡ false
  pub names_nobody : (reading answer).names ≡ nobody
  pub fits : first_match (refusals_of c s) ≡ 0 → All FitsField (values_of answer)
  pub uncharted : (meaning c).outputs s ≡ [] → (reading answer).charted ≡ []
  -- it is no tick, and puts nothing in
  pub no_tick : (meaning c).is_tick ≡ false
  pub wants_none : (meaning c).wants ≡ []

-- one that is accepted finds tables of the right lengths, which are sound
pub read_ready : {c : Call} {s : State} → ReadsOnly c s → first_match (refusals_of c s) ≡ 0 → Ready s
read_ready {c} {s} r e = (ready s r.own (sym (ap first_match r.refusals_are) ∙ e)).0

report_reads : (client : ℕ) (s : State) → ReadsOnly (report client) s
unfolding report_refusals report_accepted
report_reads client s =
    record {
      own = refusal6 client s ∷ [];
      refusals_are = refl;
      own_listed = omega arith;
      answer = report_answer client (get_or (client_table s) client zero_counts) waits;
      accepted_is = refl;
      unrefused = refl;
      names_nobody = refl;
      fits =
          λ e. let r = report_ready client s e in
          let sound = r.ready.sound in
          let shape = r.ready.shape in
          omega (
            arith,
            r.exists,
            sound.headed.setup.most_clients_lem,
            sound.balanced client (omega (arith, r.exists, shape.clients)),
            waits_most,
            waiting_length s shape,
            shape.waits,
            shape.most_records_lem,
          );
      uncharted = λ e. refl;
      no_tick = refl;
      wants_none = refl;
    }
  where
    waits : ℕ
    waits = waiting_of client (waiting s)

    waits_most : waits ≤ length (waiting s)
    waits_most = unfold waiting_of in count_most (λ w. eqb w.client client) (waiting s)

chart_reads : (output : List ℕ) (s : State) → ReadsOnly (chart output) s
unfolding chart_refusals chart_accepted
chart_reads output s =
    record {
      own = refusal12 output s ∷ [];
      refusals_are = refl;
      own_listed = omega arith;
      answer = Charted s.head.waiting;
      accepted_is = refl;
      unrefused = refl;
      names_nobody = refl;
      fits = λ e. let shape = (chart_ready output s e).ready.shape in omega (arith, shape.waits, shape.most_records_lem);
      uncharted = λ e. absurd (some_none e);
      no_tick = refl;
      wants_none = refl;
    }
  where
    some_none : {x : List ℕ} {xs : List (List ℕ)} → x ∷ xs ≡ [] → ⊥
    some_none e = omega (arith, ap length e)

-- ---- every call
pub data CallKind (s : State) : Call → Type 0 where
  of_opening : (setup : Setup) → CallKind s (opening setup)
  of_submit : (client deadline : ℕ) → CallKind s (submit client deadline)
  of_tick : CallKind s tick
  reads_only : (c : Call) → ReadsOnly c s → CallKind s c

pub call_kind : (c : Call) (s : State) → CallKind s c
call_kind (opening setup) s = of_opening setup
call_kind (submit client deadline) s = of_submit client deadline
call_kind tick s = of_tick
call_kind (report client) s = reads_only (report client) (report_reads client s)
call_kind (chart output) s = reads_only (chart output) (chart_reads output s)

-- ---- every frame
pub data Asks : Frame → Type 0 where
  asks_open : (setup : Setup) (records : ℕ) → Asks (Open setup records)
  asks_chart : Asks Chart
  asks_nothing : Asks Bad
  -- a call that is no open and is lent no output
  asks_call :
      (frame : Frame) (c : Call) → task frame ≡ task_by (λ output. c ∷ []) → (meaning c).is_opening ≡ false
      → ((s : State) → (meaning c).outputs s ≡ []) → Asks frame

pub asks : (frame : Frame) → Asks frame
asks (Open setup records) = asks_open setup records
asks (Submit client deadline) = asks_call (Submit client deadline) (submit client deadline) refl refl (λ s. refl)
asks Tick = asks_call Tick tick refl refl (λ s. refl)
asks (Report client) = asks_call (Report client) (report client) refl refl (λ s. refl)
asks Chart = asks_chart
asks Bad = asks_nothing

-- ---- any frame but an open: those that the last arm of a `match` is left with, by their tags
abbrev unopened_tags : List ℕ
unopened_tags = tags_but (tag_of the_type (Open zero_setup 0)) (variants the_type)

abbrev pub NotOpen : Frame → Type 0
NotOpen frame = OneOf unopened_tags (tag_of the_type frame)

-- it names no lengths
pub not_open : (frame : Frame) → NotOpen frame → (task frame).named ≡ []
not_open frame = by_case (asks frame)
  where
    by_case : {frame : Frame} → Asks frame → NotOpen frame → (task frame).named ≡ []
    by_case (asks_open setup records) other = absurd (miss unopened_tags (tag_of the_type (Open zero_setup 0)) tt other)
    by_case asks_chart other = refl
    by_case asks_nothing other = refl
    by_case (asks_call frame c e no-open none) other = ap (λ (t : Task). t.named) e
