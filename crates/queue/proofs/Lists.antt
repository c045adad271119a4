-- Demand 3 of the library: a list of its calls is a list of the definitions' calls, so what is proved of those holds of it.
-- Assumes nothing.
use mathlib.Core.Path.{◌≡◌, refl, sym, ap, subst, ◌∙◌}
use mathlib.Core.Bool.{false}
use mathlib.Core.List.{List, [], ◌∷◌}
use Rattle.spec.specs.declared.types.Setup.{Setup}
use Rattle.spec.specs.Every.{exists}
use Rattle.spec.specs.Tables.{State}
use Rattle.spec.specs.Calls.Readings.{is_refused}
use Rattle.spec.specs.Calls.{Call, opening, outcome_of}
use Rattle.spec.specs.Lists.{run, Event, history, is_opened, empty, own, other, refused_event, WithRefused}
use Rattle.spec.specs.Lists.{refused as refused-call}
use Rattle.spec.proofs.Demands.Demand1.{CountsGiven, counts_given_lem}
use Rattle.spec.proofs.Demands.Demand3.{Largest, largest_plan}
use Rattle.spec.proofs.Calls.Refused.{first_answer, call_answers}
use Rattle.queue.specs.Gives.{Reply, said, Gives}
use Rattle.queue.specs.Runs.{Ran, none, next, refused}

-- the calls of a list that were lent these tables
unfoldable pub own_calls : {from after : State} {es : List Event} → Ran from es after → List Call
own_calls none = []
own_calls (next c r ran m) = c ∷ own_calls ran
own_calls (refused c r number ran m e) = own_calls ran

-- so a list of calls has the state and the answers of the definitions' calls, and refused ones among them
pub ran_run : {from after : State} {es : List Event} (ran : Ran from es after) → after ≡ run from (own_calls ran)
unfolding run own_calls
ran_run none = refl
ran_run (next {es} {before} {after} c r ran m) =
    m.after_same ∙ ap (λ (s : State). (outcome_of c s).after) (ran_run ran)
ran_run (refused c r number ran m e) = ran_run ran

pub ran_history : {from after : State} {es : List Event} (ran : Ran from es after)
    → WithRefused (history from (own_calls ran)) es
unfolding history own_calls
ran_history none = empty
ran_history {from} (next {es} {before} {after} c r ran m) =
    let a = m.answers_same ∙ ap (λ (s : State). (outcome_of c s).answers) (ran_run ran) in
    rw a (own (record { call = c; answers = (outcome_of c (run from (own_calls ran))).answers }) (ran_history ran))
ran_history (refused c r number ran m e) = other (refused_event c number) (refused-call c number) (ran_history ran)

-- no contract is one that nothing meets: whatever the caller has, each call has a reply and leaves tables that meet its contract
pub made_some : (c : Call) (before : State) → (r : Reply) × (after : State) × Gives c before r after
made_some c before =
    let o = outcome_of c before in (
      record { head = o.after.head; answer = first_answer o.answers },
      o.after,
      record { answers_same = sym (call_answers c before).one; head_kept = refl; after_same = refl },
    )

-- so whatever calls are listed, there is a list of the library's calls that makes them
pub ran_some : (from : State) (cs : List Call)
    → (es : List Event) × (after : State) × (ran : Ran from es after) × (own_calls ran ≡ cs)
unfolding own_calls
ran_some from [] = ([], from, none, refl)
ran_some from (c ∷ cs) =
    let (es, before, ran, e) = ran_some from cs in
    let (r, after, m) = made_some c before in
    (record { call = c; answers = said r } ∷ es, after, next c r ran m, ap (λ (l : List Call). c ∷ l) e)

-- what holds of every list of the definitions' calls from an accepted open on holds of every list of the library's
module _ (setup : Setup) (before from after : State) (r : Reply) (es : List Event)
    (m : Gives (opening setup) before r from) (accepted : is_refused (said r) ≡ false) (ran : Ran from es after)
    (none_opened : exists is_opened es ≡ false) where
  start : State
  start = (outcome_of (opening setup) before).after

  of_library : (Φ : State → Type 0)
      → ((cs : List Call) → is_refused (outcome_of (opening setup) before).answers ≡ false
      → WithRefused (history start cs) es → exists is_opened es ≡ false → Φ (run start cs))
      → Φ after
  unfolding outcome_of start
  of_library Φ f =
      let started = m.after_same in
      subst Φ (sym (ran_run ran ∙ ap (λ (s : State). run s (own_calls ran)) started))
      (f (own_calls ran) (ap is_refused (sym m.answers_same) ∙ accepted) (subst (λ (t : State). WithRefused (history t (own_calls ran)) es) started (ran_history ran)) none_opened)

  -- "For every list of calls from open on, served plus waiting is as many as the largest plan has, even one made by somebody
  -- who knew the whole list beforehand."
  pub library_largest : Largest es after
  unfolding start
  library_largest = of_library (Largest es) (λ cs. largest_plan setup before cs es)

  -- To be shut out: "counts in a report that the calls since open do not give"
  pub library_counts : CountsGiven setup.period es after
  unfolding start
  library_counts = of_library (CountsGiven setup.period es) (λ cs. counts_given_lem setup before cs es)
