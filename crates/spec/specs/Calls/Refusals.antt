-- The refusals from 4 on: document 01, "Refusals, first match wins", and document 02, 2.2. Those of a setup, 2, 3, 13 and 14, stand in
-- `Setup`, and each call's own list of refusals in its file. Assumes nothing.
use Rattle.std.specs.Prelude.{ℕ, ◌*◌, Bool, not, ◌||◌, List, ltb, eqb, length, get_or}
use Rattle.spec.specs.Every.{is_within}
use Rattle.spec.specs.Tables.{most_records, most_counted, clock_end, number_end, zero_counts, State, client_table, client_width}
use Rattle.spec.specs.Setup.{Refusal}
use Rattle.spec.specs.Chart.{room_to}
use Rattle.spec.specs.Sound.{is_ahead, is_client, is_sound}

-- "4. All calls: the waiting table has no records or more than 2,048, or the client table's length differs from the number of
-- clients (in open, the number given)."
abbrev pub is_misshapen : ℕ → State → Bool
is_misshapen clients s =
    not (is_within 1 most_records (length s.waiting_table)) || not (eqb (length s.client_numbers) (client_width * clients))

abbrev pub refusal4_open : ℕ → State → Refusal
refusal4_open clients s = record { number = 4; holds = is_misshapen clients s }

-- ".. All but open: the waiting count exceeds the waiting table's length."
abbrev pub refusal4 : State → Refusal
refusal4 s =
    record { number = 4; holds = is_misshapen s.head.setup.clients s || ltb (length s.waiting_table) s.head.waiting }

-- "5. All calls but open: the tables are not sound."
abbrev pub refusal5 : State → Refusal
refusal5 s = record { number = 5; holds = not (is_sound s) }

-- "6. Submit and report: the client does not exist."
abbrev pub refusal6 : ℕ → State → Refusal
refusal6 client s = record { number = 6; holds = not (is_client s.head.setup.clients client) }

-- "7. Submit: the deadline is not after the clock, or more than 65,535 after it, all slots counted."
abbrev pub refusal7 : ℕ → State → Refusal
refusal7 deadline s = record { number = 7; holds = not (is_ahead s.head.clock deadline) }

-- document 02, 2.2: "15, no open slot from the clock to the deadline, after 7"
abbrev pub refusal15 : ℕ → State → Refusal
refusal15 deadline s = record { number = 15; holds = eqb (room_to s.head deadline) 0 }

-- "8. Submit: the client's submitted is 268,435,455."
abbrev pub refusal8 : ℕ → State → Refusal
refusal8 client s = record { number = 8; holds = eqb (get_or (client_table s) client zero_counts).submitted most_counted }

-- "9. Submit: the last request number has been given."
abbrev pub refusal9 : State → Refusal
refusal9 s = record { number = 9; holds = eqb s.head.last number_end }

-- "10. Submit: the waiting count equals the table's length."
abbrev pub refusal10 : State → Refusal
refusal10 s = record { number = 10; holds = eqb s.head.waiting (length s.waiting_table) }

-- "11. Tick: the clock is at its end."
abbrev pub refusal11 : State → Refusal
refusal11 s = record { number = 11; holds = eqb s.head.clock clock_end }

-- "12. Chart: the output is shorter than the waiting count."
abbrev pub refusal12 : List ℕ → State → Refusal
refusal12 output s = record { number = 12; holds = ltb (length output) s.head.waiting }
