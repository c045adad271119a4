-- The place of a new request and the smallest overfull deadline, read off the column of deadlines. Assumes nothing.
use Prim.Native.Nat.{ℕ, zero, suc, ◌+◌, ◌≤◌, ◌<◌}
use mathlib.Core.Bool.{Bool, true, false, cond}
use mathlib.Core.List.{List, [], ◌∷◌, ◌++◌}
use mathlib.Core.Path.{◌≡◌, refl, sym}
use native.Mathlib.Omega.{arith}
use lib.Dec.{leb, ltb}
use lib.ListN.{length, get_or, take}
use borrow.Author.Tests.{le-ltb}
use Rattle.occupancy.specs.Scans.{Sorted, overfull_from}
use Rattle.slots.proofs.Laws.Sums.{All, all_imp, all_each}
use Rattle.slots.proofs.Laws.Tests.{Test, holds, fails, test, le, gt, order}
use Rattle.spec.proofs.Laws.Every.{all_two, count_most}
use Rattle.spec.proofs.Laws.Feasible.{due_yes, due_no, due_by_cons, due_by_none, Verdict, fine, over, verdict, feasible_test}
use Rattle.spec.proofs.Laws.Order.{Before, InOrder, Compared, before, after, After, later, alike_later, compared, before_deadline}
use Rattle.spec.proofs.Laws.Places.{Roomy, feasible_roomy}
use Rattle.spec.proofs.Laws.Room.{room_mono}
use Rattle.spec.specs.Tables.{zero_request, deadlines_of}
use Rattle.spec.specs.Order.{comes_before, place_of}
use Rattle.spec.specs.Chart.{room_to, due_by, Search, nothing, found, first_overfull}
use Rattle.spec.specs.declared.types.Head.{Head}
use Rattle.spec.specs.declared.types.Request.{Request}

-- none of these is due before a number that is smaller than the first one's deadline
pub none_before : (D : ℕ) (w : Request) (ws : List Request) → D < w.deadline → All (Before w) ws → due_by D ws ≡ 0
none_before D w ws h a =
    due_by_none D ws (all_imp (Before w) (λ (v : Request). D < v.deadline) ws (λ v b. omega (arith, before_deadline w v b)) a)

pub few_due : (D : ℕ) (ws : List Request) → due_by D ws ≤ length ws
unfolding due_by
few_due D ws = count_most (λ w. leb w.deadline D) ws

-- in chart order those that are due by D are the first ones
pub due_early : (D k : ℕ) (ws : List Request) → InOrder ws → k < due_by D ws → (get_or ws k zero_request).deadline ≤ D
due_early D k [] o h = absurd (omega (arith, due_by_none D [] tt))
due_early D k (w ∷ ws) o h =
    elim (order w.deadline D) [
      | le g ↦ first k h g (λ j l. due_early D j ws o.1 l)
      | gt g ↦ absurd (omega (arith, due_by_cons D w ws, due_no D w g, none_before D w ws g o.0))
    ]
  where
    first : (k : ℕ) → k < due_by D (w ∷ ws) → w.deadline ≤ D
        → ((j : ℕ) → j < due_by D ws → (get_or ws j zero_request).deadline ≤ D) → (get_or (w ∷ ws) k zero_request).deadline ≤ D
    first zero h g f = g
    first (suc k) h g f = f k (omega (arith, due_by_cons D w ws, due_yes D w g))

pub early_due : (D k : ℕ) (ws : List Request) → InOrder ws → k < length ws → (get_or ws k zero_request).deadline ≤ D → k < due_by D ws
early_due D k [] o l h = absurd (omega arith)
early_due D zero (w ∷ ws) o l h = omega (arith, due_by_cons D w ws, due_yes D w h)
early_due D (suc k) (w ∷ ws) o l h =
    let n = early_due D k ws o.1 (omega arith) h in
    elim (order w.deadline D) [
      | le g ↦ omega (arith, n, due_by_cons D w ws, due_yes D w g)
      | gt g ↦ absurd (omega (arith, n, none_before D w ws g o.0))
    ]

-- ---- the place: behind all with deadlines up to the new one's
pub place_due : (r : Request) (ws : List Request) → All (λ (w : Request). w.number < r.number) ws → InOrder ws
    → place_of r ws ≡ due_by r.deadline ws
unfolding place_of
place_due r [] a o = sym (due_by_none r.deadline [] tt)
place_due r (w ∷ ws) a o = go (comes_before w r) (compared w r) (place_due r ws a.1 o.1)
  where
    ahead : After w r → r.deadline < w.deadline
    ahead (later h) = h
    ahead (alike_later e n) = absurd (omega (arith, a.0))

    go : (x : Bool) → Compared w r x → place_of r ws ≡ due_by r.deadline ws
        → cond x (suc (place_of r ws)) 0 ≡ due_by r.deadline (w ∷ ws)
    go true (before b) e =
        omega (arith, due_by_cons r.deadline w ws, due_yes r.deadline w (before_deadline w r b))
    go false (after b) e =
        omega (
          arith,
          due_by_cons r.deadline w ws,
          due_no r.deadline w (ahead b),
          none_before r.deadline w ws (ahead b) o.0,
        )

-- in chart order the deadlines ascend
first_least : (w : Request) (ws : List Request) (k : ℕ) → k < length (deadlines_of ws) → All (Before w) ws
    → w.deadline ≤ get_or (deadlines_of ws) k 0
first_least w [] k h a = absurd (omega arith)
first_least w (v ∷ ws) zero h a = before_deadline w v a.0
first_least w (v ∷ ws) (suc k) h a = first_least w ws k (omega arith) a.1

pub sorted : (ws : List Request) → InOrder ws → Sorted (deadlines_of ws)
sorted [] o j k l h = absurd (omega arith)
sorted (w ∷ ws) o zero zero l h = omega arith
sorted (w ∷ ws) o zero (suc k) l h = first_least w ws k (omega arith) o.0
sorted (w ∷ ws) o (suc j) zero l h = absurd (omega arith)
sorted (w ∷ ws) o (suc j) (suc k) l h = sorted ws o.1 j k (omega arith) (omega arith)

-- ---- the search: by places it finds the smallest overfull deadline, or none
-- the first i requests and these: those due before D have room
abbrev Below : Head → ℕ → ℕ → List Request → Request → Type 0
Below head D i ws v = v.deadline < D → i + due_by v.deadline ws ≤ room_to head v.deadline

below_later : (head : Head) (D i : ℕ) (w : Request) (ws : List Request) (v : Request) → Before w v → Below head D i (w ∷ ws) v
    → Below head D (suc i) ws v
below_later head D i w ws v b f h =
    omega (arith, f h, due_by_cons v.deadline w ws, due_yes v.deadline w (before_deadline w v b))

search_over : (head : Head) (D i : ℕ) (ws : List Request) → InOrder ws → i ≤ room_to head D → room_to head D < i + due_by D ws
    → All (Below head D i ws) ws → overfull_from head i (deadlines_of ws) ≡ D
unfolding overfull_from
search_over head D i [] o h f a = absurd (omega (arith, due_by_none D [] tt))
search_over head D i (w ∷ ws) o h f a =
    go (ltb (room_to head w.deadline) (suc i)) (test (suc (room_to head w.deadline)) (suc i))
    (λ l. search_over head D (suc i) ws o.1 l (omega (arith, due_by_cons D w ws, due_yes D w early))
    (all_two (Before w) (Below head D i (w ∷ ws)) (Below head D (suc i) ws) ws (below_later head D i w ws) o.0 a.1))
  where
    early : w.deadline ≤ D
    early =
        elim (order w.deadline D) [
          | le g ↦ g
          | gt g ↦ absurd (omega (arith, due_by_cons D w ws, due_no D w g, none_before D w ws g o.0))
        ]

    here : room_to head w.deadline ≤ i → w.deadline ≡ D
    here g =
        elim (order D w.deadline) [
          | le k ↦ omega (arith, early)
          | gt k ↦ absurd (omega (
            arith,
            a.0 k,
            due_by_cons w.deadline w ws,
            due_yes w.deadline w (omega arith),
          ))
        ]

    go : (x : Bool) → Test (suc (room_to head w.deadline)) (suc i) x
        → (suc i ≤ room_to head D → overfull_from head (suc i) (deadlines_of ws) ≡ D)
        → cond x w.deadline (overfull_from head (suc i) (deadlines_of ws)) ≡ D
    go true (holds g) ih = here (omega arith)
    go false (fails g) ih = ih (omega (arith, room_mono head.setup head.clock w.deadline D early))

search_none : (head : Head) (i : ℕ) (ws : List Request) → Roomy head i ws → overfull_from head i (deadlines_of ws) ≡ 0
unfolding overfull_from
search_none head i [] r = refl
search_none head i (w ∷ ws) r =
    rw (le-ltb (room_to head w.deadline) (suc i) r.0) (search_none head (suc i) ws r.1)

-- what stands in front and has room is passed over
pub search_skip : (head : Head) (i k : ℕ) (ws : List Request) (ds : List ℕ) → k ≤ length ws → Roomy head i ws
    → overfull_from head i (take k (deadlines_of ws) ++ ds) ≡ overfull_from head (i + k) ds
unfolding overfull_from
search_skip head i zero ws ds h r = let e : i + 0 ≡ i = omega arith in rw e
search_skip head i (suc k) [] ds h r = absurd (omega arith)
search_skip head i (suc k) (w ∷ ws) ds h r =
    let e : i + suc k ≡ suc i + k = omega arith in
    rw (le-ltb (room_to head w.deadline) (suc i) r.0, e) (search_skip head (suc i) k ws ds (omega arith) r.1)

-- so it finds what the definition's search does
abbrev pub overfull_of : Search → ℕ
overfull_of nothing = 0
overfull_of (found D) = D

pub search_same : (head : Head) (ws : List Request) → InOrder ws
    → overfull_from head 0 (deadlines_of ws) ≡ overfull_of (first_overfull head ws)
search_same head ws o = go (verdict head ws o)
  where
    go : {f : Search} → Verdict head ws f → overfull_from head 0 (deadlines_of ws) ≡ overfull_of f
    go (fine f) = search_none head 0 ws (feasible_roomy head ws o (feasible_test head ws f))
    go (over D h g) =
        search_over head D 0 ws o (omega arith) (omega arith)
        (all_each (Below head D 0 ws) ws (λ v l. omega (arith, g v.deadline l)))
