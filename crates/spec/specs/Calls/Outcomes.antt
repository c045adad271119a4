-- What a call comes to, and what any definition asks of a call: document 01, "Calls" and "Refusals, first match wins". Assumes nothing.
use Rattle.std.specs.Prelude.{ℕ, Bool, false, cond, List, [], ◌∷◌, eqb}
use Rattle.spec.specs.declared.types.Setup.{Setup}
use Rattle.spec.specs.declared.types.Answer.{Answer}
use Rattle.spec.specs.declared.types.Answer.TheVariants.{Refused}
use Rattle.spec.specs.Tables.{zero_setup, State}
use Rattle.spec.specs.Setup.{Refusal, first_match}

-- what a call answers, and the state after it
pub record Outcome : Type 0 where
  pub answers : List Answer
  pub after : State

-- one answer
abbrev pub saying : Answer → State → Outcome
saying a s = record { answers = a ∷ []; after = s }

-- "Each answers with its number only; head, tables and output stay unchanged."
abbrev pub refusing : ℕ → State → Outcome
refusing number s = saying (Refused number) s

-- the accepted outcome, unless a refusal matches
abbrev pub unless_refused : List Refusal → State → Outcome → Outcome
unless_refused rs s accepted = cond (eqb (first_match rs) 0) accepted (refusing (first_match rs) s)

-- a request that a call asks to put in
pub record Wanted : Type 0 where
  pub client : ℕ
  pub deadline : ℕ

-- all that is asked of a call with its arguments
pub record Meaning : Type 0 where
  -- its refusals in the paper's order, and what it does where none matches
  pub refusals : State → List Refusal
  pub accepted : State → Outcome
  -- whether it is a tick, or an open, and what an open sets
  pub is_tick : Bool
  pub is_opening : Bool
  pub sets : Setup
  -- the request that a submit asks to put in
  pub wants : List Wanted
  -- the output table that a chart is lent, as it is after the call
  pub outputs : State → List (List ℕ)

-- a call that is no tick and no open, puts nothing in and is lent no output
abbrev pub plainly : (State → List Refusal) → (State → Outcome) → Meaning
plainly refusals accepted =
    record {
      refusals = refusals;
      accepted = accepted;
      is_tick = false;
      is_opening = false;
      sets = zero_setup;
      wants = [];
      outputs = λ s. [];
    }
