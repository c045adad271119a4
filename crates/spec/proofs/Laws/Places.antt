-- Overfull deadlines by place: in chart order none is overfull just where each request has room for those before it and itself.
-- Assumes nothing.
use Prim.Native.Nat.{ℕ, suc, ◌+◌, ◌≤◌, ◌<◌}
use mathlib.Core.Path.{◌≡◌, ap}
use mathlib.Core.Bool.{true, not}
use mathlib.Core.List.{List, [], ◌∷◌}
use native.Mathlib.Omega.{arith}
use Rattle.slots.proofs.Laws.Sums.{All, all_imp, all_each}
use Rattle.spec.specs.declared.types.Head.{Head}
use Rattle.spec.specs.declared.types.Request.{Request}
use Rattle.spec.specs.Chart.{room_to, due_by, is_overfull, has_no_overfull}
use Rattle.spec.proofs.Laws.Every.{every_test, all_two}
use Rattle.spec.proofs.Laws.Room.{room_mono}
use Rattle.spec.proofs.Laws.Order.{Before, InOrder, before_deadline}
use Rattle.spec.proofs.Laws.Feasible.{due_yes, due_by_cons, LastDue, none_due, last_due, last, feasible_facts, roomy_test}

-- each request, the first at the place i, has room for those before it and itself
abbrev pub Roomy : Head → ℕ → List Request → Type 0
Roomy head i [] = Unit {0}
Roomy head i (w ∷ ws) = (i < room_to head w.deadline) × Roomy head (suc i) ws

-- each deadline has room for i requests and those of these that are due by it
abbrev HasRoomFor : Head → ℕ → List Request → Request → Type 0
HasRoomFor head i ws v = i + due_by v.deadline ws ≤ room_to head v.deadline

-- with one more in front, which is due by all deadlines behind it
fits_later : (head : Head) (i : ℕ) (w : Request) (ws : List Request) (v : Request) → w.deadline ≤ v.deadline
    → HasRoomFor head i (w ∷ ws) v → HasRoomFor head (suc i) ws v
fits_later head i w ws v h f = omega (arith, due_by_cons v.deadline w ws, due_yes v.deadline w h)

fits_front : (head : Head) (i : ℕ) (w : Request) (ws : List Request) (v : Request) → w.deadline ≤ v.deadline
    → HasRoomFor head (suc i) ws v → HasRoomFor head i (w ∷ ws) v
fits_front head i w ws v h f = omega (arith, due_by_cons v.deadline w ws, due_yes v.deadline w h)

fits_roomy : (head : Head) (i : ℕ) (ws : List Request) → InOrder ws → All (HasRoomFor head i ws) ws → Roomy head i ws
fits_roomy head i [] o f = tt
fits_roomy head i (w ∷ ws) o f = (
  omega (arith, f.0, due_by_cons w.deadline w ws, due_yes w.deadline w (omega arith)),
  fits_roomy head (suc i) ws o.1
      (all_two (Before w) (HasRoomFor head i (w ∷ ws)) (HasRoomFor head (suc i) ws) ws
      (λ v b g. fits_later head i w ws v (before_deadline w v b) g) o.0 f.1),
)

-- of those with the first one's deadline the last one counts them all
first_fits : (head : Head) (i : ℕ) (w : Request) (ws : List Request) → i < room_to head w.deadline
    → LastDue (HasRoomFor head (suc i) ws) w.deadline ws → HasRoomFor head i (w ∷ ws) w
first_fits head i w ws r (none_due e) =
    omega (arith, due_by_cons w.deadline w ws, due_yes w.deadline w (omega arith))
first_fits head i w ws r (last_due v f l h) =
    omega (
      arith,
      due_by_cons w.deadline w ws,
      due_yes w.deadline w (omega arith),
      room_mono head.setup head.clock v.deadline w.deadline l,
    )

roomy_fits : (head : Head) (i : ℕ) (ws : List Request) → InOrder ws → Roomy head i ws → All (HasRoomFor head i ws) ws
roomy_fits head i [] o r = tt
roomy_fits head i (w ∷ ws) o r =
    let later = roomy_fits head (suc i) ws o.1 r.1 in (
      first_fits head i w ws r.0 (last (HasRoomFor head (suc i) ws) w.deadline ws later),
      all_two (Before w) (HasRoomFor head (suc i) ws) (HasRoomFor head i (w ∷ ws)) ws
          (λ v b g. fits_front head i w ws v (before_deadline w v b) g) o.0 later,
    )

pub roomy_feasible : (head : Head) (ws : List Request) → InOrder ws → Roomy head 0 ws → has_no_overfull head ws ≡ true
unfolding has_no_overfull
roomy_feasible head ws o r =
    every_test (λ w. not (is_overfull head ws w.deadline)) ws
    (all_imp (HasRoomFor head 0 ws) (λ (w : Request). not (is_overfull head ws w.deadline) ≡ true) ws
    (λ w f. ap not (roomy_test head ws w.deadline (omega arith))) (roomy_fits head 0 ws o r))

pub feasible_roomy : (head : Head) (ws : List Request) → InOrder ws → has_no_overfull head ws ≡ true → Roomy head 0 ws
feasible_roomy head ws o e =
    fits_roomy head 0 ws o (all_each (HasRoomFor head 0 ws) ws (λ w. omega (arith, feasible_facts head ws e w.deadline)))
