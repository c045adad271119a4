-- The tests of one pass over the waiting records, of one over the clients, and of a second one over the waiting records where hours are
-- closed. Assumes nothing.
use Rattle.std.specs.Prelude.{◌%◌, ℕ, zero, suc, ◌+◌, ◌*◌, ◌≤◌, ◌<◌, ◌≡◌, Bool, true, cond, ◌&&◌, List, [], ◌∷◌, ◌++◌}
use Rattle.std.specs.Prelude.{leb, ltb, eqb, get_or, set}
use Rattle.std.specs.Int.Bits.{bit_or}
use Rattle.spec.specs.declared.types.Head.{Head}
use Rattle.spec.specs.declared.types.Request.{Request}
use Rattle.spec.specs.declared.types.Counts.{Counts}
use Rattle.spec.specs.Every.{is_within, every, every_from}
use Rattle.spec.specs.Tables.{most_clients, most_records, most_ahead, most_counted, clock_end, zero_request, zero_counts, State}
use Rattle.spec.specs.Tables.{client_width, records_of, waiting, behind, client_table}
use Rattle.spec.specs.Setup.{first_match}
use Rattle.spec.specs.Order.{comes_before}
use Rattle.spec.specs.Chart.{room_to}
use Rattle.spec.specs.Sound.{is_given, is_client, is_head_within, waiting_of, is_zero_request, is_balanced}
use Rattle.spec.specs.Calls.Refusals.{refusal4, refusal5}
use Rattle.table.specs.Widths.{largest16}

-- where refusal 4 does not hold: a waiting table of so many records and a client table of so many numbers fit the head
unfoldable pub has_shape : Head → ℕ → ℕ → Bool
has_shape head records numbers =
    is_within 1 most_records records && eqb numbers (client_width * head.setup.clients) && leb head.waiting records

-- the clauses of soundness that speak of waiting records, but for how far ahead a deadline is (`is_near`) and for closed slots
-- (`have_room`), of one record: its index, the record before it, the record
unfoldable pub is_next : Head → ℕ → Request → Request → Bool
is_next head i before w =
    is_given head.last w.number
    && is_client head.setup.clients w.client
    && ltb (head.clock + i) w.deadline
    && comes_before before w

-- ---- a count per client, in four parts: records are counted in them by turns, and a client's count is the sum of its four
abbrev pub parts : ℕ
parts = 4

abbrev pub tally_size : ℕ
tally_size = parts * most_clients

-- where a part counts a client
abbrev pub tally_place : ℕ → ℕ → ℕ
tally_place part client = part * most_clients + client

-- f of each number below n, added up
abbrev pub sum_below : ℕ → (ℕ → ℕ) → ℕ
sum_below zero f = 0
sum_below (suc n) f = sum_below n f + f n

abbrev pub tallied_of : List ℕ → ℕ → ℕ
tallied_of tally client = sum_below parts (λ part. get_or tally (tally_place part client) 0)

abbrev pub one_more : ℕ → List ℕ → List ℕ
one_more place tally = set tally place (get_or tally place 0 + 1)

-- a count per client to which so many more can be added
pub record Countable (more : ℕ) (tally : List ℕ) : Type 0 where
  pub most : (c : ℕ) → c < most_clients → tallied_of tally c + more ≤ largest16

-- ---- the pass over the waiting records, and the one over the clients
-- what it relies on: bounds of the head, and a number of records that a table can have
pub record Bounded (head : Head) (n : ℕ) : Type 0 where
  pub clients : head.setup.clients ≤ most_clients
  pub clock : head.clock ≤ clock_end
  pub slots : 1 ≤ head.setup.hour
  pub records : n ≤ most_records

-- a deadline is past the clock by no more than it may
abbrev pub is_near : Head → ℕ → Bool
is_near head deadline = leb deadline (head.clock + most_ahead)

-- whether all of them are as they should be, the first with the index i; deadlines ascend, so that all are near if the last is
unfoldable pub are_next : Head → ℕ → Request → List Request → Bool
are_next head i before [] = is_near head before.deadline
are_next head i before (w ∷ ws) = is_next head i before w && are_next head (suc i) w ws

-- whether each of them may stand where it does, however far ahead; the first has the index i and stands behind `before`
unfoldable pub each_is_next : Head → ℕ → Request → List Request → Bool
each_is_next head i before [] = true
each_is_next head i before (w ∷ ws) = is_next head i before w && each_is_next head (suc i) w ws

-- the last of them, the one before them where there is none
abbrev pub last_of : Request → List Request → Request
last_of before [] = before
last_of before (w ∷ ws) = last_of w ws

-- whether each has room for those before it and itself, by open slots; the first has the index i
unfoldable pub have_room : Head → ℕ → List Request → Bool
have_room head i [] = true
have_room head i (w ∷ ws) = ltb i (room_to head w.deadline) && have_room head (suc i) ws

-- a client's counts balance with so many waiting
unfoldable pub does_balance : Counts → ℕ → Bool
does_balance k waits = eqb k.submitted (k.served + k.dropped + waits) && leb k.submitted most_counted

-- whether a client's counts balance
abbrev pub balances_at : List ℕ → List ℕ → ℕ → Bool
balances_at tally numbers c = does_balance (get_or (records_of numbers) c zero_counts) (tallied_of tally c)

-- whether those of four clients do
abbrev pub do_four_balance : List ℕ → List ℕ → ℕ → Bool
do_four_balance tally numbers c =
    (balances_at tally numbers c && balances_at tally numbers (c + 1))
    && (balances_at tally numbers (c + 2) && balances_at tally numbers (c + 3))

-- a count per client with these requests counted
pub record Tallied (ws : List Request) (tally₀ tally : List ℕ) : Type 0 where
  pub at : (c : ℕ) → c < most_clients → tallied_of tally c ≡ tallied_of tally₀ c + waiting_of c ws

-- a request w with the index i, counted for its client if it passed
abbrev pub counted_if : Bool → ℕ → Request → List ℕ → List ℕ
counted_if passed i w tally = cond passed (one_more (tally_place (i % parts) w.client) tally) tally

-- what turns over these records find, the first with the index i, behind the one before it: whether each may stand where it does, and then
-- the count per client with them
pub record Counted (head : Head) (i : ℕ) (before : Request) (ws : List Request) (tally₀ : List ℕ) (r : Bool) (tally : List ℕ)
    : Type 0 where
  pub verdict : r ≡ each_is_next head i before ws
  pub tallied : r ≡ true → Tallied ws tally₀ tally

-- what the pass over the records finds: whether they are as they should be, and then the count per client
pub record Passed (head : Head) (ws : List Request) (tally₀ : List ℕ) (r : Bool) (tally : List ℕ) : Type 0 where
  pub verdict : r ≡ are_next head 0 zero_request ws
  pub tallied : r ≡ true → Tallied ws tally₀ tally

-- the records of fours, one four after the other
abbrev pub joined : List (List Request) → List Request
joined [] = []
joined (four ∷ fours) = four ++ joined fours

-- all the bits of a record's fields
abbrev pub bits_of : Request → ℕ
bits_of w = bit_or (bit_or w.deadline w.number) w.client

-- what the tables call for, before a call's own refusals: 4 or 5, or 0 where neither matches
unfoldable pub tables_refusal : State → ℕ
tables_refusal s = first_match (refusal4 s ∷ refusal5 s ∷ [])

-- what the contents of tables that fit call for, where all slots count: 5, or 0
unfoldable pub contents_refusal : State → ℕ
contents_refusal s =
    cond (are_next s.head 0 zero_request (waiting s)
    && (every is_zero_request (behind s) && every_from (is_balanced (waiting s)) 0 (client_table s))) 0 5

-- what the lengths and the head call for, before any record is looked at: 4 or 5, or 0
unfoldable pub head_refusal : Head → ℕ → ℕ → ℕ
head_refusal head records numbers = cond (has_shape head records numbers) (cond (is_head_within head) 0 5) 4
