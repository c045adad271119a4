-- Damaged tables as one table that is checked by one theorem: each clause of refusal 4 and of "Tables are sound when" broken at its
-- bound, beside tables just within it. Each row lists the clauses that its state breaks: one alone, but for a deadline that is not
-- after the clock. Two rows with a deadline 65,535 slots ahead, and one more, stand behind it, and the bounds of the waiting table's length
-- and of the head, as numbers. Assumes nothing.
use Prim.Native.Nat.{ℕ, ◌*◌, ◌≤◌}
use mathlib.Core.Path.{◌≡◌, refl, ap}
use mathlib.Core.Bool.{Bool, true, false, not, cond, ◌&&◌, ◌||◌, and_assoc, and-true}
use mathlib.Core.List.{List, [], ◌∷◌, ◌++◌, map}
use lib.Dec.{eqb, ltb, lit≤}
use lib.ListN.{length}
use Rattle.spec.specs.declared.types.Head.{Head}
use Rattle.spec.specs.declared.types.Request.{Request}
use Rattle.spec.specs.declared.types.Counts.{Counts}
use Rattle.spec.specs.Every.{is_within, every, every_from}
use Rattle.spec.specs.Tables.{most_records, clock_end, zero_request, zero_counts, State, waiting, behind, holding}
use Rattle.spec.specs.Tables.{client_table, numbers_of, client_width}
use Rattle.spec.specs.Setup.{first_match, setup_refusals}
use Rattle.spec.specs.Order.{is_in_order}
use Rattle.spec.specs.Chart.{has_no_overfull}
use Rattle.spec.specs.Hours.{mark_of, sum_from}
use Rattle.spec.specs.Sound.{is_head_within, is_ahead, is_given, is_client, is_zero_request, is_balanced, is_sound}
use Rattle.spec.specs.Calls.Refusals.{refusal4}
use Rattle.spec.specs.Calls.Tick.{tick_refusals}
use native.Mathlib.Omega.{arith}
use Rattle.spec.proofs.Demands.AllOpen.{all_marked}
use Rattle.spec.proofs.Laws.Order.{earlier}
use Rattle.spec.proofs.Laws.Room.{open_room}
use Rattle.spec.proofs.Laws.Places.{roomy_feasible}
use Rattle.spec.proofs.Acceptance.Computed.{hourly, all_open, setting, refusals}

-- ---- clauses
-- the three of refusal 4, and the eight of "Tables are sound when", each named for what it speaks of
pub data Clause : Type 0 where
  waiting_length : Clause
  client_length : Clause
  waiting_count_lem : Clause
  head_bounds : Clause
  chart_order : Clause
  deadline_ahead : Clause
  number_given : Clause
  client_exists : Clause
  no_overfull : Clause
  zero_behind : Clause
  balance : Clause

-- a clause, and whether it holds
pub record ClauseTest : Type 0 where
  pub clause : Clause
  pub holds : Bool

abbrev tested : Clause → Bool → ClauseTest
tested clause holds = record { clause = clause; holds = holds }

abbrev shape_tests : State → List ClauseTest
shape_tests s =
    tested waiting_length (is_within 1 most_records (length s.waiting_table))
    ∷ tested client_length (eqb (length s.client_numbers) (client_width * s.head.setup.clients))
    ∷ tested waiting_count_lem (not (ltb (length s.waiting_table) s.head.waiting))
    ∷ []

-- .. where it is known whether a deadline is overfull
abbrev sound_tests_by : Bool → State → List ClauseTest
sound_tests_by hasRoom s =
    tested head_bounds (is_head_within s.head)
    ∷ tested chart_order (is_in_order (waiting s))
    ∷ tested deadline_ahead (every (λ w. is_ahead s.head.clock w.deadline) (waiting s))
    ∷ tested number_given (every (λ w. is_given s.head.last w.number) (waiting s))
    ∷ tested client_exists (every (λ w. is_client s.head.setup.clients w.client) (waiting s))
    ∷ tested no_overfull hasRoom
    ∷ tested zero_behind (every is_zero_request (behind s))
    ∷ tested balance (every_from (is_balanced (waiting s)) 0 (client_table s))
    ∷ []

abbrev sound_tests : State → List ClauseTest
sound_tests s = sound_tests_by (has_no_overfull s.head (waiting s)) s

abbrev are_met : List ClauseTest → Bool
are_met ts = every (λ t. t.holds) ts

-- these clauses make the definitions: refusal 4 is given where one of the three is broken ..
pub shape_clauses : (s : State) → (refusal4 s).holds ≡ not (are_met (shape_tests s))
unfolding every
shape_clauses s =
    go (is_within 1 most_records (length s.waiting_table)) (eqb (length s.client_numbers) (client_width * s.head.setup.clients))
    (ltb (length s.waiting_table) s.head.waiting)
  where
    go : (a b c : Bool) → (not a || not b || c) ≡ not (a && (b && (not c && true)))
    go false b c = refl
    go true false c = refl
    go true true false = refl
    go true true true = refl

-- .. and tables are sound where all of the eight hold
pub sound_clauses : (s : State) → is_sound s ≡ are_met (sound_tests s)
unfolding every is_sound
sound_clauses s = simp (and_assoc, and-true)

-- so 4 refuses a tick just where one of the three is broken, and 5 where none of them is and one of the eight
abbrev tick_number : Bool → Bool → Bool → ℕ
tick_number isShaped isSoundState isAtEnd = cond isShaped (cond isSoundState (cond isAtEnd 11 0) 5) 4

pub tick_refused : (s : State)
    → first_match (tick_refusals s) ≡ tick_number (are_met (shape_tests s)) (are_met (sound_tests s)) (eqb s.head.clock clock_end)
unfolding first_match tick_refusals
tick_refused s =
    rw (shape_clauses s, sound_clauses s)
    (go (are_met (shape_tests s)) (are_met (sound_tests s)) (eqb s.head.clock clock_end))
  where
    first_of : Bool → Bool → Bool → ℕ
    first_of a b c = cond a 4 (cond b 5 (cond c 11 0))

    go : (a b c : Bool) → first_of (not a) (not b) c ≡ tick_number a b c
    go true true c = refl
    go true false c = refl
    go false true c = refl
    go false false c = refl

abbrev broken : List ClauseTest → List Clause
broken [] = []
broken (t ∷ ts) = cond t.holds (broken ts) (t.clause ∷ broken ts)

-- ---- the table
-- a state, and the clauses that it breaks
pub record Damage : Type 0 where
  pub state : State
  pub clauses : List Clause

abbrev request : ℕ → ℕ → ℕ → Request
request deadline number client = record { deadline = deadline; number = number; client = client }

abbrev counts : ℕ → ℕ → ℕ → Counts
counts submitted served dropped = record { submitted = submitted; served = served; dropped = dropped }

-- clients, period, clock, last number and waiting count
abbrev head : ℕ → ℕ → ℕ → ℕ → ℕ → Head
head clients period clock last waits =
    record { setup = setting clients period; clock = clock; last = last; waiting = waits }

abbrev breaks : Head → List Request → List Counts → List Clause → Damage
breaks h rs cs clauses = record { state = record { head = h; waiting_table = rs; client_numbers = numbers_of cs }; clauses = clauses }

-- a sound state: at clock 5 a request of each of two clients waits in a table of four records
abbrev two : Head
two = head 2 10 5 4 2

abbrev first : Request
first = request 7 2 0

abbrev second : Request
second = request 9 4 1

abbrev both : List Counts
both = counts 3 1 1 ∷ counts 1 0 0 ∷ []

-- .. with three slots an hour, of which hour 2, slots 6 to 8, is closed
abbrev closing : Head
closing =
    record {
      setup = hourly 2 10 3 (16140901064495857663 ∷ 18446744073709551615 ∷ 4294967295 ∷ 255 ∷ []);
      clock = 5;
      last = 4;
      waiting = 2;
    }

-- .. with these numbers lent for its client table
abbrev lending : List ℕ → List Clause → Damage
lending xs clauses =
    record {
      state = record { head = two; waiting_table = holding 4 (first ∷ second ∷ []); client_numbers = xs };
      clauses = clauses;
    }

abbrev damages : List Damage
damages =
    breaks two (holding 4 (first ∷ second ∷ [])) both []
    -- "The waiting requests are records in a lent table of 1 to 2,048 records."
    ∷ breaks (head 2 10 5 4 0) [] (zero_counts ∷ zero_counts ∷ []) (waiting_length ∷ [])
    -- "the client table's length differs from the number of clients"
    ∷ breaks two (holding 4 (first ∷ second ∷ [])) (counts 3 1 1 ∷ []) (client_length ∷ [])
    ∷ breaks two (holding 4 (first ∷ second ∷ [])) (counts 3 1 1 ∷ counts 1 0 0 ∷ zero_counts ∷ []) (client_length ∷ [])
    -- .. nor is it a table where it has one number less, one more or two more than its records
    ∷ lending (3 ∷ 1 ∷ 1 ∷ 1 ∷ 0 ∷ 0 ∷ []) []
    ∷ lending (3 ∷ 1 ∷ 1 ∷ 1 ∷ 0 ∷ []) (client_length ∷ [])
    ∷ lending (3 ∷ 1 ∷ 1 ∷ 1 ∷ 0 ∷ 0 ∷ 0 ∷ []) (client_length ∷ [])
    ∷ lending (3 ∷ 1 ∷ 1 ∷ 1 ∷ 0 ∷ 0 ∷ 0 ∷ 0 ∷ []) (client_length ∷ [])
    -- "the waiting count exceeds the waiting table's length"
    ∷ breaks (head 2 10 5 4 2) (first ∷ second ∷ []) both []
    ∷ breaks (head 2 10 5 4 3) (first ∷ second ∷ []) both (waiting_count_lem ∷ [])
    -- "the head is within these bounds"
    ∷ breaks (head 1 0 5 4 0) (holding 4 []) (zero_counts ∷ []) (head_bounds ∷ [])
    -- "earlier deadline first, equal deadlines by smaller number, no two equal in both"
    ∷ breaks two (holding 4 (second ∷ first ∷ [])) both (chart_order ∷ [])
    ∷ breaks two (holding 4 (request 9 2 0 ∷ request 9 4 1 ∷ [])) both []
    ∷ breaks two (holding 4 (request 9 4 1 ∷ request 9 2 0 ∷ [])) both (chart_order ∷ [])
    ∷ breaks two (holding 4 (request 9 4 0 ∷ request 9 4 1 ∷ [])) both (chart_order ∷ [])
    -- "each deadline is past the clock by 1 to 65,535"; one that is not after the clock is overfull too, for no slot is left to it. Those that
    -- are far ahead: `far_tables`
    ∷ breaks two (holding 4 (request 6 2 0 ∷ second ∷ [])) both []
    ∷ breaks two (holding 4 (request 5 2 0 ∷ second ∷ [])) both (deadline_ahead ∷ no_overfull ∷ [])
    -- "each number is from 1 to the last given"
    ∷ breaks two (holding 4 (request 7 1 0 ∷ second ∷ [])) both []
    ∷ breaks two (holding 4 (request 7 0 0 ∷ second ∷ [])) both (number_given ∷ [])
    ∷ breaks two (holding 4 (request 7 5 0 ∷ second ∷ [])) both (number_given ∷ [])
    -- "each client exists"
    ∷ breaks two (holding 4 (first ∷ request 9 4 2 ∷ [])) (counts 3 1 1 ∷ counts 0 0 0 ∷ []) (client_exists ∷ [])
    -- "for each deadline D in the table, the records with deadline at most D number at most D minus the clock"
    ∷ breaks two (holding 4 (request 7 2 0 ∷ request 7 4 1 ∷ [])) both []
    ∷ breaks two (holding 4 (request 6 2 0 ∷ request 6 4 1 ∷ [])) both (no_overfull ∷ [])
    -- .. document 02, 2.2: "only open ones count, in sound tables too": slots 5 and 9 are left to the two, and then slot 5 alone
    ∷ breaks closing (holding 4 (first ∷ request 10 4 1 ∷ [])) both []
    ∷ breaks closing (holding 4 (first ∷ second ∷ [])) both (no_overfull ∷ [])
    -- "every record behind the waiting ones is zero"
    ∷ breaks two (first ∷ second ∷ request 1 0 0 ∷ zero_request ∷ []) both (zero_behind ∷ [])
    ∷ breaks two (first ∷ second ∷ zero_request ∷ request 0 1 0 ∷ []) both (zero_behind ∷ [])
    ∷ breaks two (first ∷ second ∷ zero_request ∷ request 0 0 1 ∷ []) both (zero_behind ∷ [])
    -- "for each client submitted = served + dropped + its waiting records, submitted within its bound"
    ∷ breaks two (holding 4 (first ∷ second ∷ [])) (counts 2 1 1 ∷ counts 1 0 0 ∷ []) (balance ∷ [])
    ∷ breaks two (holding 4 (first ∷ second ∷ [])) (counts 3 1 1 ∷ counts 2 0 0 ∷ []) (balance ∷ [])
    ∷ breaks two (holding 4 (first ∷ second ∷ [])) (counts 268435455 268435453 1 ∷ counts 1 0 0 ∷ []) []
    ∷ breaks two (holding 4 (first ∷ second ∷ [])) (counts 268435456 268435454 1 ∷ counts 1 0 0 ∷ []) (balance ∷ [])
    ∷ []

abbrev found : Damage → List Clause
found d = broken (shape_tests d.state ++ sound_tests d.state)

pub damaged_tables : map found damages ≡ map (λ (d : Damage). d.clauses) damages
unfolding refusals numbers_of
damaged_tables = refl

-- ---- a deadline at its bound and beyond: to compute the room of 65,535 slots takes long, so that it is known by a law
abbrev far : ℕ → List Clause → Damage
far d clauses = breaks two (holding 4 (first ∷ request d 4 1 ∷ [])) both clauses

has_room : (d : ℕ) → 9 ≤ d → has_no_overfull two (first ∷ request d 4 1 ∷ []) ≡ true
has_room d l =
    roomy_feasible two (first ∷ request d 4 1 ∷ []) ((earlier (omega arith), tt), (tt, tt))
    (omega (arith, open_room (setting 2 10) (all_marked 2 10 1) 5 7), (omega (arith, open_room (setting 2 10) (all_marked 2 10 1) 5 d), tt))

found_far : (d : ℕ) (clauses : List Clause) → 9 ≤ d
    → found (far d clauses) ≡ broken (shape_tests (far d clauses).state ++ sound_tests_by true (far d clauses).state)
found_far d clauses l =
    ap (λ (b : Bool). broken (shape_tests (far d clauses).state ++ sound_tests_by b (far d clauses).state)) (has_room d l)

-- "each deadline is past the clock by 1 to 65,535"
pub far_tables : (found (far 65540 []) ≡ []) × (found (far 65541 (deadline_ahead ∷ [])) ≡ deadline_ahead ∷ [])
unfolding refusals numbers_of
far_tables = (found_far 65540 [] (lit≤ tt), found_far 65541 (deadline_ahead ∷ []) (lit≤ tt))

-- ---- numbers at their bounds and beyond
-- "a lent table of 1 to 2,048 records": whether a waiting table may be so long
pub waiting_lengths : map (is_within 1 most_records) (0 ∷ 1 ∷ 2048 ∷ 2049 ∷ []) ≡ false ∷ true ∷ true ∷ false ∷ []
waiting_lengths = refl

-- a head, and whether it is within its bounds
pub record HeadRow : Type 0 where
  pub head : Head
  pub is_within_bounds : Bool

abbrev within : Head → HeadRow
within h = record { head = h; is_within_bounds = true }

abbrev beyond : Head → HeadRow
beyond h = record { head = h; is_within_bounds = false }

-- one with these slots per hour and marks
abbrev hour_head : ℕ → List ℕ → Head
hour_head hour marks = record { setup = hourly 1 10 hour marks; clock = 5; last = 4; waiting = 0 }

abbrev heads : List HeadRow
heads =
    -- "Clients: 1 to 256"
    beyond (head 0 10 5 4 0)
    ∷ within (head 1 10 5 4 0)
    ∷ within (head 256 10 5 4 0)
    ∷ beyond (head 257 10 5 4 0)
    -- "Period: 1 to 4,294,967,295 slots."
    ∷ beyond (head 1 0 5 4 0)
    ∷ within (head 1 1 5 4 0)
    ∷ within (head 1 4294967295 5 4 0)
    ∷ beyond (head 1 4294967296 5 4 0)
    -- document 02, 2.2: "slots per hour outside 1 to 360,000", and "all hours closed": the first hour's mark or the last one's is enough
    ∷ beyond (hour_head 0 all_open)
    ∷ within (hour_head 1 all_open)
    ∷ within (hour_head 360000 all_open)
    ∷ beyond (hour_head 360001 all_open)
    ∷ beyond (hour_head 1 (0 ∷ 0 ∷ 0 ∷ 0 ∷ []))
    ∷ within (hour_head 1 (9223372036854775808 ∷ 0 ∷ 0 ∷ 0 ∷ []))
    ∷ within (hour_head 1 (0 ∷ 1 ∷ 0 ∷ 0 ∷ []))
    ∷ within (hour_head 1 (0 ∷ 0 ∷ 1 ∷ 0 ∷ []))
    ∷ within (hour_head 1 (0 ∷ 0 ∷ 0 ∷ 1 ∷ []))
    -- "Clock and request numbers end at 281,474,976,710,655."
    ∷ within (head 1 10 281474976710655 4 0)
    ∷ beyond (head 1 10 281474976710656 4 0)
    ∷ within (head 1 10 5 281474976710655 0)
    ∷ beyond (head 1 10 5 281474976710656 0)
    ∷ []

pub heads_within : map (λ (r : HeadRow). is_head_within r.head) heads ≡ map (λ (r : HeadRow). r.is_within_bounds) heads
unfolding is_head_within first_match setup_refusals mark_of sum_from
heads_within = refl
