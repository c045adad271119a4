-- Overfull deadlines as counts: no deadline of the requests is overfull where no number at all is. Assumes nothing.
use Prim.Native.Nat.{ℕ, ◌+◌, ◌≤◌, ◌<◌}
use mathlib.Core.Path.{◌≡◌, refl, ap}
use mathlib.Core.Bool.{Bool, true, false, not, cond}
use mathlib.Core.List.{List, [], ◌∷◌}
use native.Mathlib.Omega.{arith}
use borrow.Author.Tests.{le-leb, lt-leb, ltb-true, ltb-false, le-ltb, lt-ltb, not-true}
use lib.Dec.{leb}
use lib.ListN.{length, get_or}
use Rattle.slots.proofs.Laws.Tests.{le, gt, order}
use Rattle.slots.proofs.Laws.Sums.{All, all_each, all_imp, total, total_le}
use Rattle.spec.specs.declared.types.Head.{Head}
use Rattle.spec.specs.declared.types.Request.{Request}
use Rattle.spec.specs.Every.{to_number, count_if}
use Rattle.spec.specs.Order.{put_in_order, remove_at}
use Rattle.spec.specs.Chart.{room_to, due_by, is_overfull, has_no_overfull, Search, nothing, found, search_overfull}
use Rattle.spec.specs.Hours.{room}
use Rattle.spec.specs.Chart.{first_overfull}
use Rattle.spec.proofs.Laws.Room.{room_mono}
use Rattle.spec.proofs.Laws.Every.{number_yes, number_no, every_facts, every_test, count_total, number_most}
use Rattle.spec.proofs.Laws.Order.{count_put, count_remove, InOrder, Before, before_deadline}

-- ---- one request due by D, counted
unfoldable pub due : ℕ → Request → ℕ
due D w = to_number (leb w.deadline D)

pub due_most : (D : ℕ) (w : Request) → due D w ≤ 1
unfolding due
due_most D w = number_most (leb w.deadline D)

pub due_yes : (D : ℕ) (w : Request) → w.deadline ≤ D → due D w ≡ 1
unfolding due
due_yes D w h = number_yes (leb w.deadline D) (le-leb w.deadline D h)

pub due_no : (D : ℕ) (w : Request) → D < w.deadline → due D w ≡ 0
unfolding due
due_no D w h = number_no (leb w.deadline D) (lt-leb w.deadline D h)

pub due_mono : (x y : ℕ) → x ≤ y → (w : Request) → due x w ≤ due y w
due_mono x y h w =
    elim (order w.deadline x) [
      | le g ↦ omega (arith, due_yes x w g, due_yes y w (omega arith))
      | gt g ↦ omega (arith, due_no x w g)
    ]

pub due_by_total : (D : ℕ) (ws : List Request) → due_by D ws ≡ total (due D) ws
unfolding due_by due
due_by_total D ws = count_total (λ w. leb w.deadline D) ws

pub due_by_cons : (D : ℕ) (w : Request) (ws : List Request) → due_by D (w ∷ ws) ≡ due D w + due_by D ws
unfolding due_by due count_if
due_by_cons D w ws = refl

pub due_by_mono : (x y : ℕ) (ws : List Request) → x ≤ y → due_by x ws ≤ due_by y ws
due_by_mono x y ws h = omega (arith, due_by_total x ws, due_by_total y ws, total_le (due x) (due y) ws (due_mono x y h))

pub due_by_put : (D : ℕ) (r : Request) (ws : List Request) → due_by D (put_in_order r ws) ≡ due D r + due_by D ws
unfolding due_by due
due_by_put D r ws = count_put (λ w. leb w.deadline D) r ws

pub due_by_remove : (D k : ℕ) (z : Request) (ws : List Request) → k < length ws
    → due_by D ws ≡ due D (get_or ws k z) + due_by D (remove_at k ws)
unfolding due_by due
due_by_remove D k z ws h = count_remove (λ w. leb w.deadline D) k z ws h

-- none is due before the first in order
pub due_by_none : (D : ℕ) (ws : List Request) → All (λ (w : Request). D < w.deadline) ws → due_by D ws ≡ 0
unfolding due_by count_if
due_by_none D [] a = refl
due_by_none D (w ∷ ws) a = omega (arith, due_by_cons D w ws, due_no D w a.0, due_by_none D ws a.1)

-- each request is due by its own deadline
pub due_by_self : (ws : List Request) → All (λ (w : Request). 1 ≤ due_by w.deadline ws) ws
due_by_self [] = tt
due_by_self (w ∷ ws) = (
  omega (arith, due_by_cons w.deadline w ws, due_yes w.deadline w (omega arith)),
  all_imp (λ (v : Request). 1 ≤ due_by v.deadline ws) (λ (v : Request). 1 ≤ due_by v.deadline (w ∷ ws)) ws
      (λ v h. omega (arith, due_by_cons v.deadline w ws)) (due_by_self ws),
)

-- ---- there is room for all that are due by any D: from a clock on, or from the head's
abbrev pub FeasibleAt : Head → ℕ → List Request → Type 0
FeasibleAt head clock ws = (D : ℕ) → due_by D ws ≤ room head.setup clock D

abbrev pub Feasible : Head → List Request → Type 0
Feasible head ws = FeasibleAt head head.clock ws

pub overfull_facts : (head : Head) (ws : List Request) (D : ℕ) → is_overfull head ws D ≡ true → room_to head D < due_by D ws
unfolding is_overfull
overfull_facts head ws D e = ltb-true (room_to head D) (due_by D ws) e

pub roomy_facts : (head : Head) (ws : List Request) (D : ℕ) → is_overfull head ws D ≡ false → due_by D ws ≤ room_to head D
unfolding is_overfull
roomy_facts head ws D e = ltb-false (room_to head D) (due_by D ws) e

pub roomy_test : (head : Head) (ws : List Request) (D : ℕ) → due_by D ws ≤ room_to head D → is_overfull head ws D ≡ false
unfolding is_overfull
roomy_test head ws D h = le-ltb (room_to head D) (due_by D ws) h

pub overfull_test : (head : Head) (ws : List Request) (D : ℕ) → room_to head D < due_by D ws → is_overfull head ws D ≡ true
unfolding is_overfull
overfull_test head ws D h = lt-ltb (room_to head D) (due_by D ws) h

-- of those that are due by D one is the last, and all of those are due by its deadline; p holds of it
pub data LastDue (p : Request → Type 0) (D : ℕ) (ws : List Request) : Type 0 where
  none_due : due_by D ws ≡ 0 → LastDue p D ws
  last_due : (w : Request) → p w → w.deadline ≤ D → due_by D ws ≤ due_by w.deadline ws → LastDue p D ws

pub last : (p : Request → Type 0) (D : ℕ) (ws : List Request) → All p ws → LastDue p D ws
last p D [] a = none_due (due_by_none D [] tt)
last p D (w ∷ ws) a = go (last p D ws a.1)
  where
    go : LastDue p D ws → LastDue p D (w ∷ ws)
    go (none_due h) =
        elim (order w.deadline D) [
          | le g ↦ last_due w a.0 g (omega (
            arith,
            due_by_cons D w ws,
            due_by_cons w.deadline w ws,
            due_most D w,
            due_yes w.deadline w (omega arith),
          ))
          | gt g ↦ none_due (omega (arith, due_by_cons D w ws, due_no D w g))
        ]
    go (last_due v q l h) =
        elim (order w.deadline D) [
          | le g ↦
              elim (order w.deadline v.deadline) [
                | le k ↦ last_due v q l (omega (
                  arith,
                  due_by_cons D w ws,
                  due_by_cons v.deadline w ws,
                  due_most D w,
                  due_yes v.deadline w k,
                ))
                | gt k ↦
                    last_due w a.0 g
                    (omega (
                      arith,
                      due_by_cons D w ws,
                      due_by_cons w.deadline w ws,
                      due_most D w,
                      due_yes w.deadline w (omega arith),
                      due_by_mono v.deadline w.deadline ws (omega arith),
                    ))
              ]
          | gt g ↦ last_due v q l (omega (arith, due_by_cons D w ws, due_by_cons v.deadline w ws, due_no D w g))
        ]

-- where the last that is due by D has room, D has
roomy_last : (head : Head) (D : ℕ) (ws : List Request)
    → LastDue (λ (w : Request). due_by w.deadline ws ≤ room_to head w.deadline) D ws
    → due_by D ws ≤ room_to head D
roomy_last head D ws (none_due h) = omega arith
roomy_last head D ws (last_due w p l h) = omega (arith, room_mono head.setup head.clock w.deadline D l)

pub feasible_facts : (head : Head) (ws : List Request) → has_no_overfull head ws ≡ true → Feasible head ws
unfolding has_no_overfull
feasible_facts head ws e D =
    roomy_last head D ws (last ok D ws (all_imp passed ok ws each (every_facts (λ w. not (is_overfull head ws w.deadline)) ws e)))
  where
    ok : Request → Type 0
    ok w = due_by w.deadline ws ≤ room_to head w.deadline

    passed : Request → Type 0
    passed w = not (is_overfull head ws w.deadline) ≡ true

    each : (w : Request) → passed w → ok w
    each w p = roomy_facts head ws w.deadline (not-true (is_overfull head ws w.deadline) p)

pub feasible_test : (head : Head) (ws : List Request) → Feasible head ws → has_no_overfull head ws ≡ true
unfolding has_no_overfull
feasible_test head ws f =
    every_test (λ w. not (is_overfull head ws w.deadline)) ws
    (all_each (λ (w : Request). not (is_overfull head ws w.deadline) ≡ true) ws
    (λ w. ap not (roomy_test head ws w.deadline (f w.deadline))))

-- ---- the search: the deadline that it yields is the smallest overfull one
data Scan (head : Head) (all ys : List Request) : Search → Type 0 where
  clear : All (λ (w : Request). due_by w.deadline all ≤ room_to head w.deadline) ys → Scan head all ys nothing
  hit :
      (D : ℕ) → room_to head D < due_by D all
      → All (λ (w : Request). w.deadline < D → due_by w.deadline all ≤ room_to head w.deadline) ys → Scan head all ys (found D)

scan : (head : Head) (all ys : List Request) → InOrder ys → Scan head all ys (search_overfull head all ys)
unfolding search_overfull
scan head all [] o = clear tt
scan head all (w ∷ ys) o =
    go (is_overfull head all w.deadline) (overfull_facts head all w.deadline) (roomy_facts head all w.deadline)
    (scan head all ys o.1)
  where
    go : (x : Bool) → (x ≡ true → room_to head w.deadline < due_by w.deadline all)
        → (x ≡ false → due_by w.deadline all ≤ room_to head w.deadline) → {f : Search} → Scan head all ys f
        → Scan head all (w ∷ ys) (cond x (found w.deadline) f)
    go true t u r =
        hit w.deadline (t refl) (
          (λ h. absurd (omega arith)),
          all_imp (Before w) (λ (v : Request). v.deadline < w.deadline → due_by v.deadline all ≤ room_to head v.deadline) ys
              (λ v b h. absurd (omega (arith, before_deadline w v b))) o.0,
        )
    go false t u (clear a) = clear (u refl, a)
    go false t u (hit D h a) = hit D h ((λ g. u refl), a)

pub data Verdict (head : Head) (ws : List Request) : Search → Type 0 where
  fine : Feasible head ws → Verdict head ws nothing
  over :
      (D : ℕ) → room_to head D < due_by D ws → ((x : ℕ) → x < D → due_by x ws ≤ room_to head x) → Verdict head ws (found D)

pub verdict : (head : Head) (ws : List Request) → InOrder ws → Verdict head ws (first_overfull head ws)
verdict head ws o = go (scan head ws ws o)
  where
    ok : Request → Type 0
    ok w = due_by w.deadline ws ≤ room_to head w.deadline

    below : (D x : ℕ) → x < D → LastDue (λ (w : Request). w.deadline < D → ok w) x ws → LastDue ok x ws
    below D x h (none_due e) = none_due e
    below D x h (last_due w p l e) = last_due w (p (omega arith)) l e

    go : {f : Search} → Scan head ws ws f → Verdict head ws f
    go (clear a) = fine (λ D. roomy_last head D ws (last ok D ws a))
    go (hit D h a) = over D h (λ x l. roomy_last head x ws (below D x l (last (λ (w : Request). w.deadline < D → ok w) x ws a)))
