-- What a submit has to do, before anything is changed: document 01, "Calls", "Refusals" and "Chart and victim". Assumes nothing.
use Rattle.std.specs.Prelude.{ℕ, Result, Ok, Err, cond, eqb}
use Rattle.spec.specs.declared.types.Reason.{Reason}
use Rattle.spec.specs.Reasons.{number_of}
use Rattle.spec.specs.Tables.{State, waiting}
use Rattle.spec.specs.Setup.{first_match}
use Rattle.spec.specs.Order.{place_of}
use Rattle.spec.specs.Chart.{has_no_overfull}
use Rattle.spec.specs.Calls.Submit.{submit_refusals, new_request, with_new, victim_place}
use Rattle.decide.specs.declared.submit.Decision.{Decision}
use Rattle.decide.specs.declared.submit.Decision.TheVariants.{Keep, Drop}

-- "If every request can still finish, the answer is kept, with number and place (from 0). Otherwise one record is taken out"
unfoldable pub submit_choice : ℕ → ℕ → State → Decision
submit_choice client deadline s =
    cond (has_no_overfull s.head (with_new client deadline s))
    (Keep (place_of (new_request client deadline s) (waiting s)))
    (Drop (place_of (new_request client deadline s) (waiting s)) (victim_place client deadline s))

-- "first match wins": what the submit goes on to do, or else the number of the first refusal that matches
unfoldable pub submit_decision : ℕ → ℕ → State → Result Decision ℕ
submit_decision client deadline s =
    cond (eqb (first_match (submit_refusals client deadline s)) 0) (Ok (submit_choice client deadline s))
    (Err (first_match (submit_refusals client deadline s)))

-- the same as code has it, where a reason stands for its number
abbrev pub decided_by : Result Decision Reason → Result Decision ℕ
decided_by (Ok decision) = Ok decision
decided_by (Err why) = Err (number_of why)
