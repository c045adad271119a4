-- Demand 3 and the counts, of a session: what holds of the list that its input and the lines that it prints show. Statements; that it
-- is such a list stands in Lines/SinceOpen. Assumes nothing.
use Prim.Native.Nat.{ℕ, ◌+◌}
use mathlib.Core.Path.{◌≡◌, subst}
use mathlib.Core.Bool.{true, false}
use mathlib.Core.List.{List}
use lib.ListN.{length}
use Rattle.spec.specs.declared.types.Setup.{Setup}
use Rattle.spec.specs.Every.{exists}
use Rattle.spec.specs.Tables.{State}
use Rattle.spec.specs.Calls.Readings.{is_refused}
use Rattle.spec.specs.Calls.{Call, opening, outcome_of}
use Rattle.spec.specs.Lists.{run, Event, history, is_opened}
use Rattle.spec.specs.Lines.Session.{text_of, session, session_state}
use Rattle.spec.specs.Lines.Printed.{answers_in, events_in, since_open, setup_in, unended}
use Rattle.spec.proofs.Demands.Words.{FromOpen}
use Rattle.spec.proofs.Demands.Demand1.{CountsGiven, counts_passing}
use Rattle.spec.proofs.Demands.Demand3.{Largest, largest_passing}
use Rattle.spec.proofs.Lists.Passing.{WithPassing}
use Rattle.spec.proofs.Lists.Printed.{session_answered}
use Rattle.spec.proofs.Lists.SinceOpen.{since_opened, printed_pass}

-- "One frame a line": each line gets one answer, and so does "a last line without its line feed"
pub each_answered : (input : List ℕ)
    → length (answers_in (text_of (session input)).lines) ≡ length (text_of input).lines + unended (text_of input).rest
each_answered input = session_answered input

-- for every input for which an open was accepted
module _ (input : List ℕ) (opened : exists is_opened (events_in input (session input)) ≡ true) where
  abbrev list : List Event
  list = since_open (events_in input (session input))

  abbrev setup : Setup
  setup = setup_in (events_in input (session input))

  -- the frames since the last accepted open, with their answers, are a list of calls from an accepted open on, as a session prints it:
  -- each submit, tick and report in it has the answer that its definition gives
  pub session_list :
      FromOpen (setup_in (events_in input (session input))) (since_open (events_in input (session input))) (session_state input)
  session_list = since_opened input opened

  -- what holds of every list from an accepted open on holds of the session's
  of_session : (Φ : State → Type 0)
      → ((before : State) (cs : List Call) → is_refused (outcome_of (opening setup) before).answers ≡ false
      → WithPassing (history (outcome_of (opening setup) before).after cs) list → exists is_opened list ≡ false
      → Φ (run (outcome_of (opening setup) before).after cs))
      → Φ (session_state input)
  of_session Φ f =
      let F = session_list in
      subst Φ F.state (f F.before F.calls F.accepted (printed_pass F.printed) F.none_opened)

  -- "For every list of calls from open on, served plus waiting is as many as the largest plan has, even one made by somebody who knew
  -- the whole list beforehand.": the list is what the input and the printed lines show since the last accepted open
  pub session_largest : Largest (since_open (events_in input (session input))) (session_state input)
  session_largest = of_session (Largest list) (λ before cs. largest_passing setup before cs list)

  -- To be shut out: "counts in a report that the calls since open do not give": the counts, and what a report then gives
  pub session_counts :
      CountsGiven (setup_in (events_in input (session input))).period (since_open (events_in input (session input))) (session_state input)
  session_counts =
      of_session (CountsGiven setup.period list) (λ before cs. counts_passing setup before cs list)
