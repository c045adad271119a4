-- Candidates, and the victim among them: document 01, "Victim". Assumes nothing.
use Prim.Native.Nat.{ℕ, zero, suc, ◌+◌, ◌*◌, ◌≤◌, ◌<◌}
use mathlib.Core.Path.{◌≡◌, refl, ap}
use mathlib.Core.Logic.{◌↔◌}
use mathlib.Core.Bool.{Bool, true, false, cond}
use mathlib.Core.List.{List, [], ◌∷◌}
use native.Mathlib.Nat.{zero-add, mul_right_comm, mul-le-mul_right, le_of_mul-le-mul_right}
use native.Mathlib.Omega.{arith}
use borrow.Author.Tests.{ltb-false, le-ltb}
use lib.Dec.{ltb, eqb}
use lib.ListN.{length, get_or}
use lib.Seq.{get_or-set_same, get_or-set_other}
use Rattle.slots.proofs.Laws.Tests.{Test, holds, fails, test, Same, same_yes, same_no, same}
use Rattle.slots.proofs.Laws.Sums.{All}
use Rattle.spec.specs.declared.types.Head.{Head}
use Rattle.spec.specs.declared.types.Request.{Request}
use Rattle.spec.specs.declared.types.Counts.{Counts}
use Rattle.spec.specs.Every.{to_number}
use Rattle.spec.specs.Tables.{State, waiting, zero_request, zero_counts, client_table, change, one_more_submitted}
use Rattle.spec.specs.Order.{place_of}
use Rattle.spec.specs.Chart.{is_candidate, keep_if, candidates_from, candidates, has_smaller_ratio, counts_at, smallest_of}
use Rattle.spec.specs.Chart.{victim_of}
use Rattle.spec.specs.Sound.{waiting_of}
use Rattle.spec.specs.Calls.Submit.{new_request, counted_in, with_new, victim_place}
use Rattle.spec.proofs.Demands.Words.{Ascending}
use Rattle.spec.proofs.Laws.Clients.{waiting_self}
use Rattle.spec.proofs.Laws.Every.{all_at}
use Rattle.spec.proofs.Laws.Order.{all_put, length_put, place_most, remove_put}
use Rattle.spec.proofs.Laws.Feasible.{feasible_test}
use Rattle.spec.proofs.Laws.Sound.{ClientExists}
use Rattle.spec.proofs.Laws.Accepted.{SubmitReady}

-- ---- the candidates: what holds of the places of all candidates holds of each in the list, and the other way round
from_all : (p : ℕ → Type 0) (head : Head) (all : List Request) (i : ℕ) (ws : List Request)
    → ((k : ℕ) → k < length ws → is_candidate head all (i + k) ≡ true → p (i + k)) → All p (candidates_from head all i ws)
unfolding candidates_from
from_all p head all i [] f = tt
from_all p head all i (w ∷ ws) f =
    go (is_candidate head all i) first (from_all p head all (suc i) ws (λ k h. rest k (f (suc k) (omega arith))))
  where
    later : List ℕ
    later = candidates_from head all (suc i) ws

    first : is_candidate head all i ≡ true → p i
    first = let e : i + 0 ≡ i = omega arith in rw e at (f 0 (omega arith))

    rest : (k : ℕ) → (is_candidate head all (i + suc k) ≡ true → p (i + suc k))
        → is_candidate head all (suc i + k) ≡ true → p (suc i + k)
    rest k g = let e : i + suc k ≡ suc i + k = omega arith in rw e at g

    go : (x : Bool) → (x ≡ true → p i) → All p later → All p (keep_if x i later)
    go true h a = (h refl, a)
    go false h a = a

from_each : (p : ℕ → Type 0) (head : Head) (all : List Request) (i : ℕ) (ws : List Request) → All p (candidates_from head all i ws)
    → (k : ℕ) → k < length ws → is_candidate head all (i + k) ≡ true → p (i + k)
unfolding candidates_from
from_each p head all i [] a k h = absurd (omega arith)
from_each p head all i (w ∷ ws) a zero h =
    let e : i + 0 ≡ i = omega arith in rw e (go (is_candidate head all i) a)
  where
    go : (x : Bool) → All p (keep_if x i (candidates_from head all (suc i) ws)) → x ≡ true → p i
    go true a e = a.0
    go false a e = absurd (let z : ◌≡◌ {A = ℕ} 0 1 = ap to_number e in omega arith)
from_each p head all i (w ∷ ws) a (suc k) h =
    let e : i + suc k ≡ suc i + k = omega arith in
    rw e (from_each p head all (suc i) ws (go (is_candidate head all i) a) k (omega arith))
  where
    go : (x : Bool) → All p (keep_if x i (candidates_from head all (suc i) ws)) → All p (candidates_from head all (suc i) ws)
    go true a = a.1
    go false a = a

-- "Candidates are the requests .. whose removal leaves no overfull deadline.": k is in the list of candidates just where k is a
-- request's place and passes the test
pub candidates_are : (p : ℕ → Type 0) (head : Head) (ws : List Request)
    → ((k : ℕ) → k < length ws → is_candidate head ws k ≡ true → p k) ↔ All p (candidates head ws)
candidates_are p head ws = (
  (λ f. from_all p head ws 0 ws (λ k. rw zero-add (f k))),
  (λ a k. rw zero-add at (from_each p head ws 0 ws a k)),
)

from_ascending : (head : Head) (all : List Request) (i : ℕ) (ws : List Request) → Ascending (candidates_from head all i ws)
unfolding candidates_from
from_ascending head all i [] = tt
from_ascending head all i (w ∷ ws) =
    go (is_candidate head all i)
    (from_all (λ (k : ℕ). i < k) head all (suc i) ws (λ k h e. omega arith)) (from_ascending head all (suc i) ws)
  where
    later : List ℕ
    later = candidates_from head all (suc i) ws

    go : (x : Bool) → All (λ (k : ℕ). i < k) later → Ascending later → Ascending (keep_if x i later)
    go true a o = (a, o)
    go false a o = o

-- the places stand in chart order
pub candidates_ascending : (head : Head) (ws : List Request) → Ascending (candidates head ws)
candidates_ascending head ws = from_ascending head ws 0 ws

-- ---- the miss ratio: the ratio of a is not greater than that of b
abbrev pub AtMost : Counts → Counts → Type 0
AtMost a b = a.dropped * b.submitted ≤ b.dropped * a.submitted

pub at_most_facts : (a b : Counts) → has_smaller_ratio b a ≡ false → AtMost a b
unfolding has_smaller_ratio
at_most_facts a b e = ltb-false (b.dropped * a.submitted) (a.dropped * b.submitted) e

pub at_most_test : (a b : Counts) → AtMost a b → has_smaller_ratio b a ≡ false
unfolding has_smaller_ratio
at_most_test a b h = le-ltb (b.dropped * a.submitted) (a.dropped * b.submitted) h

pub at_most_trans : (a b c : Counts) → 1 ≤ b.submitted → AtMost a b → AtMost b c → AtMost a c
at_most_trans a b c pos h g = le_of_mul-le-mul_right {k = b.submitted} scaled pos
  where
    scaled : a.dropped * c.submitted * b.submitted ≤ c.dropped * a.submitted * b.submitted
    scaled =
        omega (
          arith,
          mul_right_comm a.dropped c.submitted b.submitted,
          mul-le-mul_right c.submitted h,
          mul_right_comm b.dropped a.submitted c.submitted,
          mul-le-mul_right a.submitted g,
          mul_right_comm c.dropped b.submitted a.submitted,
        )

-- one has a smaller ratio than another, or not
pub data Rated (a b : Counts) : Bool → Type 0 where
  smaller : a.dropped * b.submitted < b.dropped * a.submitted → Rated a b true
  not_smaller : AtMost b a → Rated a b false

pub rated : (a b : Counts) → Rated a b (has_smaller_ratio a b)
unfolding has_smaller_ratio
rated a b =
    go (ltb (a.dropped * b.submitted) (b.dropped * a.submitted))
    (test (suc (a.dropped * b.submitted)) (b.dropped * a.submitted))
  where
    go : (x : Bool) → Test (suc (a.dropped * b.submitted)) (b.dropped * a.submitted) x → Rated a b x
    go true (holds h) = smaller h
    go false (fails h) = not_smaller (omega arith)

-- ---- the smallest of some places, the last of those
module _ (cs : List Counts) (ws : List Request) where
  -- it is one of them
  smallest_among : (p : ℕ → Type 0) (k : ℕ) (ks : List ℕ) → All p (k ∷ ks) → p (smallest_of cs ws (k ∷ ks))
  unfolding smallest_of
  smallest_among p k [] a = a.0
  smallest_among p k (j ∷ ks) a =
      go (has_smaller_ratio (counts_at cs ws k) (counts_at cs ws (smallest_of cs ws (j ∷ ks)))) (smallest_among p j ks a.1)
    where
      go : (x : Bool) → p (smallest_of cs ws (j ∷ ks)) → p (cond x k (smallest_of cs ws (j ∷ ks)))
      go true h = a.0
      go false h = h

  abbrev at : ℕ → Counts
  at = counts_at cs ws

  -- the place j has no smaller ratio than v, and if it has the same, it stands there or before
  abbrev Beats : ℕ → ℕ → Type 0
  Beats v j = AtMost (at v) (at j) × (AtMost (at j) (at v) → j ≤ v)

  abbrev CountedIn : ℕ → Type 0
  CountedIn j = 1 ≤ (at j).submitted

  smallest_wins : (k : ℕ) (ks : List ℕ) → Ascending (k ∷ ks) → All CountedIn (k ∷ ks)
      → All (Beats (smallest_of cs ws (k ∷ ks))) (k ∷ ks)
  unfolding smallest_of
  smallest_wins k [] o c = ((omega arith, λ h. omega arith), tt)
  smallest_wins k (j ∷ ks) o c =
      go (has_smaller_ratio (at k) (at v)) (rated (at k) (at v)) (smallest_wins j ks o.1 c.1)
    where
      v : ℕ
      v = smallest_of cs ws (j ∷ ks)

      behind : k < v
      behind = smallest_among (λ (y : ℕ). k < y) j ks o.0

      positive : CountedIn v
      positive = smallest_among CountedIn j ks c.1

      go : (x : Bool) → Rated (at k) (at v) x → All (Beats v) (j ∷ ks) → All (Beats (cond x k v)) (k ∷ j ∷ ks)
      go true (smaller h) a = ((omega arith, λ g. omega arith), later (j ∷ ks) c.1 a)
        where
          later : (ys : List ℕ) → All CountedIn ys → All (Beats v) ys → All (Beats k) ys
          later [] d a = tt
          later (y ∷ ys) d a = (
            (
              at_most_trans (at k) (at v) (at y) positive (omega arith) a.0.0,
              λ g. absurd (omega (arith, at_most_trans (at v) (at y) (at k) d.0 a.0.0 g)),
            ),
            later ys d.1 a.1,
          )
      go false (not_smaller h) a = ((h, λ g. omega (arith, behind)), a)

-- ---- the victim, where there is a candidate
module _
    (head : Head) (cs : List Counts) (ws : List Request)
    (k : ℕ) (inside : k < length ws) (fit : is_candidate head ws k ≡ true) where
  -- it is one of the candidates
  pub victim_among : (p : ℕ → Type 0) → ((j : ℕ) → j < length ws → is_candidate head ws j ≡ true → p j) → p (victim_of head cs ws)
  unfolding victim_of
  victim_among p f =
      go (candidates head ws) ((candidates_are p head ws).0 f) (λ a. (candidates_are (λ j. ⊥) head ws).1 a k inside fit)
    where
      go : (xs : List ℕ) → All p xs → (All (λ (j : ℕ). ⊥) xs → ⊥) → p (smallest_of cs ws xs)
      go [] a none = absurd (none tt)
      go (x ∷ xs) a none = smallest_among cs ws p x xs a

  victim_wins : ((j : ℕ) → j < length ws → 1 ≤ (counts_at cs ws j).submitted) → Beats cs ws (victim_of head cs ws) k
  unfolding victim_of
  victim_wins c =
      (candidates_are (Beats cs ws (smallest_of cs ws (candidates head ws))) head ws).1
      (go (candidates head ws) (candidates_ascending head ws) ((candidates_are (CountedIn cs ws) head ws).0 (λ j h e. c j h)))
      k inside fit
    where
      go : (xs : List ℕ) → Ascending xs → All (CountedIn cs ws) xs → All (Beats cs ws (smallest_of cs ws xs)) xs
      go [] o a = tt
      go (x ∷ xs) o a = smallest_wins cs ws x xs o a

  -- "The smallest wins;": the candidate at k has no smaller ratio
  pub victim_least : ((j : ℕ) → j < length ws → 1 ≤ (counts_at cs ws j).submitted)
      → has_smaller_ratio (counts_at cs ws k) (counts_at cs ws (victim_of head cs ws)) ≡ false
  victim_least c = at_most_test (counts_at cs ws (victim_of head cs ws)) (counts_at cs ws k) (victim_wins c).0

  -- ".. among equals, the last in chart order."
  pub victim_last : ((j : ℕ) → j < length ws → 1 ≤ (counts_at cs ws j).submitted)
      → has_smaller_ratio (counts_at cs ws (victim_of head cs ws)) (counts_at cs ws k) ≡ false → k ≤ victim_of head cs ws
  victim_last c e = (victim_wins c).1 (at_most_facts (counts_at cs ws k) (counts_at cs ws (victim_of head cs ws)) e)

-- ---- of an accepted submit
-- without the new request all have room: it is a candidate
pub new_candidate : (client deadline : ℕ) (s : State) → SubmitReady client deadline s
    → is_candidate s.head (with_new client deadline s) (place_of (new_request client deadline s) (waiting s)) ≡ true
unfolding is_candidate
new_candidate client deadline s r =
    rw (remove_put (new_request client deadline s) (waiting s))
    (feasible_test s.head (waiting s) r.ready.sound.feasible)

pub new_inside : (client deadline : ℕ) (s : State)
    → place_of (new_request client deadline s) (waiting s) < length (with_new client deadline s)
new_inside client deadline s =
    omega (arith, place_most (new_request client deadline s) (waiting s), length_put (new_request client deadline s) (waiting s))

-- the victim is a candidate
pub victim_place_lem : (client deadline : ℕ) (s : State) → SubmitReady client deadline s
    → (victim_place client deadline s < length (with_new client deadline s))
    × (is_candidate s.head (with_new client deadline s) (victim_place client deadline s) ≡ true)
victim_place_lem client deadline s r =
    victim_among s.head (counted_in client s) (with_new client deadline s)
    (place_of (new_request client deadline s) (waiting s)) (new_inside client deadline s) (new_candidate client deadline s r)
    (λ (j : ℕ). (j < length (with_new client deadline s)) × (is_candidate s.head (with_new client deadline s) j ≡ true))
    (λ j h e. (h, e))

-- "the new request already counted in submitted": no ratio has the divisor 0
pub counted_some : (client deadline : ℕ) (s : State) → SubmitReady client deadline s
    → (j : ℕ) → j < length (with_new client deadline s)
    → 1 ≤ (counts_at (counted_in client s) (with_new client deadline s) j).submitted
counted_some client deadline s r j h =
    all_at some (with_new client deadline s) j zero_request h
    (all_put some (new_request client deadline s) (waiting s) mine
    (each (waiting s) r.ready.sound.owned (waiting_self (waiting s))))
  where
    cs : List Counts
    cs = client_table s

    more : Counts
    more = one_more_submitted (get_or cs client zero_counts)

    some : Request → Type 0
    some w = 1 ≤ (get_or (counted_in client s) w.client zero_counts).submitted

    inside : (c : ℕ) → c < s.head.setup.clients → c < length cs
    inside c l = omega (arith, r.ready.shape.clients)

    mine : some (new_request client deadline s)
    mine = unfold change in rw (get_or-set_same cs client more zero_counts (inside client r.exists)) (omega arith)

    one : (w : Request) → ClientExists s.head.setup.clients w → 1 ≤ waiting_of w.client (waiting s) → some w
    one w o n = go (eqb w.client client) (same w.client client)
      where
        go : (x : Bool) → Same w.client client x → some w
        go true (same_yes e) = rw e mine
        go false (same_no e) =
            unfold change in
            rw (get_or-set_other cs client w.client more zero_counts e)
            (omega (arith, (r.ready.sound.balanced w.client (inside w.client o)).0))

    each : (ws : List Request) → All (ClientExists s.head.setup.clients) ws
        → All (λ (w : Request). 1 ≤ waiting_of w.client (waiting s)) ws → All some ws
    each [] a b = tt
    each (w ∷ ws) a b = (one w a.0 b.0, each ws a.1 b.1)
