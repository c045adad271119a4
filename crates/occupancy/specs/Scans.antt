-- What the searches find: the first overfull deadline, each client's last request, the victim. Assumes nothing.
use Rattle.std.specs.Prelude.{ℕ, zero, suc, ◌+◌, ◌-◌, ◌/◌, ◌%◌, ◌^◌, ◌≤◌, ◌<◌, min, ◌≡◌, Bool, false, cond, Option, None, Some, List, [], ◌∷◌, ◌++◌, leb, ltb, eqb, length, get_or, take, drop, set}
use Rattle.spec.specs.declared.types.Head.{Head}
use Rattle.spec.specs.declared.types.Counts.{Counts}
use Rattle.spec.specs.Tables.{most_clients, zero_counts, change, one_more_submitted}
use Rattle.spec.specs.Chart.{room_to, has_smaller_ratio}
use Rattle.occupancy.specs.declared.overfull.LastCandidate.{LastCandidate}

-- no entry is larger than a later one
abbrev pub Sorted : List ℕ → Type 0
Sorted xs = (j k : ℕ) → j ≤ k → k < length xs → get_or xs j 0 ≤ get_or xs k 0

-- the place in the middle of two
abbrev pub middle : ℕ → ℕ → ℕ
middle low high = low + (high - low) / 2

-- a search by halves between two places, of at most so many looks: it goes on behind an entry of at most d, and before a larger one
unfoldable pub halved : ℕ → List ℕ → ℕ → ℕ → ℕ → ℕ
halved zero xs d low high = low
halved (suc looks) xs d low high =
    cond (ltb low high)
    (cond (leb (get_or xs (middle low high) 0) d)
    (halved looks xs d (middle low high + 1) high)
    (halved looks xs d low (middle low high)))
    low

-- the place that it finds among the first n entries: where none is larger than a later one, so many are at most d
abbrev pub place_by : List ℕ → ℕ → ℕ → ℕ
place_by xs n d = halved n xs d 0 n

-- "These are exactly those with deadlines up to the smallest overfull one": how many of n waiting requests are marked as candidates,
-- those that are due by it, and never more than wait; none has to be marked where no deadline is overfull
abbrev pub candidate_count : ℕ → ℕ → ℕ → ℕ
candidate_count n due found = cond (eqb found 0) 0 (min due n)

-- "The search for an overfull deadline ends at the first one found and yields it.": the first of these deadlines with fewer slots
-- up to it than requests up to its place, 0 where there is none; the first stands at the place i
unfoldable pub overfull_from : Head → ℕ → List ℕ → ℕ
overfull_from head i [] = 0
overfull_from head i (d ∷ ds) = cond (ltb (room_to head d) (suc i)) d (overfull_from head (suc i) ds)

-- the first of these deadlines for which a test says yes, 0 where there is none; the test is told a number too, i at the first deadline and
-- one more at each further one
unfoldable pub first_by : (ℕ → ℕ → Bool) → ℕ → List ℕ → ℕ
first_by test i [] = 0
first_by test i (d ∷ ds) = cond (test i d) d (first_by test (suc i) ds)

-- a call at a number below n and a deadline is allowed, and answers what a test says
abbrev pub Takes : (ℕ → ℕ → Type 0) → ℕ → Type 0
Takes pre n = (i d : ℕ) → i < n → d < 2 ^ 64 → pre i d

abbrev pub Answers : (ℕ → ℕ → Bool → Type 0) → ℕ → (ℕ → ℕ → Bool) → Type 0
Answers post n test = (i d : ℕ) (r : Bool) → i < n → d < 2 ^ 64 → post i d r → r ≡ test i d

-- what such a search finds, where it finds one
abbrev pub if_any : ℕ → Option ℕ
if_any found = cond (eqb found 0) None (Some found)

-- of each client the place of its last one among requests of these clients, 1 added: the first of them is p, and what is known of
-- those before stays where none follows. An entry is found by the remainder, which is the client itself where it exists
unfoldable pub latest_of : ℕ → List ℕ → List ℕ → List ℕ
latest_of p [] known = known
latest_of p (c ∷ cs) known = latest_of (suc p) cs (set known (c % most_clients) p)

-- a list with x at a place, those from there on one place further
abbrev pub put_at : ℕ → ℕ → List ℕ → List ℕ
put_at k x xs = take k xs ++ x ∷ drop k xs

-- the counts of the client c, a new request of `client` counted in submitted already
abbrev pub counts_with : ℕ → List Counts → ℕ → Counts
counts_with client cs c = get_or (change one_more_submitted client cs) c zero_counts

-- the better of two clients' last candidates: a smaller miss ratio, among equals the later place
unfoldable pub better_candidate : LastCandidate → LastCandidate → LastCandidate
better_candidate best next =
    cond (has_smaller_ratio best.counts next.counts) best
    (cond (has_smaller_ratio next.counts best.counts) next
    (cond (ltb next.at best.at) best next))

-- the better of the best so far, where there is one, and the next
abbrev pub better_of : Option LastCandidate → LastCandidate → LastCandidate
better_of None next = next
better_of (Some best) next = better_candidate best next

-- the best of n clients' last candidates, one after the other; a client whose entry is 0 has none
unfoldable pub best_of : (ℕ → Counts) → List ℕ → ℕ → Option LastCandidate
best_of counts latest zero = None
best_of counts latest (suc n) =
    cond (eqb (get_or latest n 0) 0)
    (best_of counts latest n)
    (Some (better_of (best_of counts latest n) (record { at = get_or latest n 0; counts = counts n })))

-- a candidate's place, 0 where there is none
abbrev pub place_of : Option LastCandidate → ℕ
place_of None = 0
place_of (Some best) = best.at - 1

-- the victim's place, from each of n clients' last candidate; 0 where no client has one
abbrev pub smallest_ratio_place : (ℕ → Counts) → List ℕ → ℕ → ℕ
smallest_ratio_place counts latest n = place_of (best_of counts latest n)

-- of n clients those that have a candidate, with the place of the last one, 1 added: no ratio of theirs has the divisor 0
abbrev pub HaveRatios : (ℕ → Counts) → List ℕ → ℕ → Type 0
HaveRatios counts latest n = (c : ℕ) → c < n → 0 < get_or latest c 0 → 1 ≤ (counts c).submitted

-- "The smallest wins; among equals, the last in chart order.": r is the victim's place
pub record Wins (counts : ℕ → Counts) (latest : List ℕ) (n r : ℕ) : Type 0 where
  pub owner : ℕ
  pub exists : owner < n
  pub here : get_or latest owner 0 ≡ suc r
  pub least : (c : ℕ) → c < n → 0 < get_or latest c 0 → has_smaller_ratio (counts c) (counts owner) ≡ false
  pub last : (c : ℕ) → c < n → 0 < get_or latest c 0 → has_smaller_ratio (counts owner) (counts c) ≡ false
      → get_or latest c 0 ≤ suc r
