-- Tick: document 01, "Calls", and document 02, 2.2. Assumes nothing.
use Rattle.std.specs.Prelude.{ℕ, suc, ◌%◌, Bool, true, false, cond, List, [], ◌∷◌, eqb}
use Rattle.spec.specs.declared.types.Request.{Request}
use Rattle.spec.specs.declared.types.Counts.{Counts}
use Rattle.spec.specs.declared.types.Answer.TheVariants.{Served, Idle, Closed}
use Rattle.spec.specs.Every.{map_from}
use Rattle.spec.specs.Tables.{zero_setup, State, waiting, next_state, client_table, change, one_more_served}
use Rattle.spec.specs.Hours.{is_open}
use Rattle.spec.specs.Sound.{waiting_of}
use Rattle.spec.specs.Setup.{Refusal}
use Rattle.spec.specs.Calls.Refusals.{refusal4, refusal5, refusal11}
use Rattle.spec.specs.Calls.Outcomes.{Outcome, saying, Meaning}

-- the refusals, in the paper's order
unfoldable pub tick_refusals : State → List Refusal
tick_refusals s = refusal4 s ∷ refusal5 s ∷ refusal11 s ∷ []

-- "Then the clock rises by 1. If it is now a multiple of the period, .."
abbrev pub is_period_start : ℕ → ℕ → Bool
is_period_start period clock = eqb (clock % period) 0

-- ".. each client's submitted becomes its waiting count, served and dropped become 0."
abbrev pub restarted : List Request → ℕ → Counts → Counts
restarted ws client k = record { submitted = waiting_of client ws; served = 0; dropped = 0 }

abbrev pub counts_after : ℕ → ℕ → List Request → List Counts → List Counts
counts_after period clock ws cs = cond (is_period_start period clock) (map_from (restarted ws) 0 cs) cs

-- the state one slot later, with these requests waiting and these counts before a period start
abbrev pub one_later : List Request → List Counts → State → State
one_later ws cs s =
    next_state (suc s.head.clock) s.head.last ws (counts_after s.head.setup.period (suc s.head.clock) ws cs) s

-- "Tick serves the first waiting record in the slot that starts at the clock, takes it out, and adds 1 to that client's served;
-- with none waiting it answers idle."
abbrev pub tick_open : List Request → State → Outcome
tick_open [] s = saying (Idle s.head.clock) (one_later [] (client_table s) s)
tick_open (w ∷ ws) s =
    saying (Served s.head.clock w.number w.client)
    (one_later ws (change one_more_served w.client (client_table s)) s)

-- document 02, 2.2: "A closed slot serves nobody and tick answers 89 with the slot"
abbrev pub tick_closed : List Request → State → Outcome
tick_closed ws s = saying (Closed s.head.clock) (one_later ws (client_table s) s)

unfoldable pub tick_accepted : List Request → State → Outcome
tick_accepted ws s = cond (is_open s.head.setup s.head.clock) (tick_open ws s) (tick_closed ws s)

abbrev pub tick_meaning : Meaning
tick_meaning =
    record {
      refusals = tick_refusals;
      accepted = λ s. tick_accepted (waiting s) s;
      is_tick = true;
      is_opening = false;
      sets = zero_setup;
      wants = [];
      outputs = λ s. [];
    }
