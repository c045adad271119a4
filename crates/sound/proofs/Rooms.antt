-- Laws of records that passed where all slots count: their deadlines ascend, and whether each has room by open slots is whether the
-- search for an overfull deadline finds none. Assumes nothing.
use Prim.Native.Nat.{ℕ, zero, suc, ◌+◌, ◌≤◌, ◌<◌}
use mathlib.Core.Path.{◌≡◌, refl, sym}
use mathlib.Core.Bool.{Bool, true, false, not, cond, and-eq-true_iff, false≢true}
use Rattle.std.specs.Prelude.{None, Some}
use Rattle.std.specs.Option.{is_some}
use mathlib.Core.List.{List, [], ◌∷◌}
use native.Mathlib.Omega.{arith}
use borrow.Author.Tests.{ltb-true, lt-ltb, le-ltb, ne_eqb}
use lib.Dec.{eqb}
use Rattle.slots.proofs.Laws.Tests.{le, gt, order}
use Rattle.spec.specs.declared.types.Head.{Head}
use Rattle.spec.specs.declared.types.Request.{Request}
use Rattle.spec.specs.Tables.{zero_request, deadlines_of}
use Rattle.spec.specs.Chart.{room_to}
use Rattle.spec.proofs.Laws.Order.{before_facts, before_deadline}
use Rattle.hours.specs.Week.{are_all_open}
use Rattle.hours.proofs.OpenSlots.{all_open_room}
use Rattle.occupancy.specs.Scans.{Sorted, overfull_from, if_any}
use Rattle.sound.specs.Checks.{is_next, are_next, have_room}

-- a record, the one before it, and those behind it
next_cons : (head : Head) (i : ℕ) (before w : Request) (ws : List Request) → are_next head i before (w ∷ ws) ≡ true
    → (head.clock + i < w.deadline) × (before.deadline ≤ w.deadline) × (are_next head (suc i) w ws ≡ true)
unfolding are_next is_next
next_cons head i before w ws e =
    let p = (and-eq-true_iff (is_next head i before w) (are_next head (suc i) w ws)).0 e in
    let q = simp and-eq-true_iff at p.0 in
    (ltb-true (head.clock + i) w.deadline q.0.1, before_deadline before w (before_facts before w q.1), p.1)

-- where all hours are open, each has room
each_has_room : (head : Head) → are_all_open head.setup ≡ true → (i : ℕ) (before : Request) (ws : List Request)
    → are_next head i before ws ≡ true → have_room head i ws ≡ true
unfolding have_room
each_has_room head all i before [] e = refl
each_has_room head all i before (w ∷ ws) e =
    let p = next_cons head i before w ws e in
    let room : i < room_to head w.deadline = omega (arith, p.0, all_open_room head.setup all head.clock w.deadline) in
    rw (lt-ltb i (room_to head w.deadline) room) (each_has_room head all (suc i) w ws p.2)

-- each has room where the search finds nothing, 0: no deadline is 0
searched_room : (head : Head) (i : ℕ) (before : Request) (ws : List Request) → are_next head i before ws ≡ true
    → eqb (overfull_from head i (deadlines_of ws)) 0 ≡ have_room head i ws
unfolding have_room overfull_from
searched_room head i before [] e = refl
searched_room head i before (w ∷ ws) e =
    let p = next_cons head i before w ws e in
    let r = room_to head w.deadline in
    elim (order (suc i) r) [
      | le h ↦ rw (le-ltb r (suc i) h, lt-ltb i r h) (searched_room head (suc i) w ws p.2)
      | gt h ↦ rw (lt-ltb r (suc i) h, le-ltb i r (omega arith), ne_eqb w.deadline 0 (λ z. omega (arith, p.0)))
    ]

-- the deadlines ascend, from that of the record before them on
next_sorted : (head : Head) (i : ℕ) (before : Request) (ws : List Request) → are_next head i before ws ≡ true
    → Sorted (deadlines_of (before ∷ ws))
next_sorted head i before ws e zero zero l h = omega arith
next_sorted head i before ws e (suc j) zero l h = absurd (omega arith)
next_sorted head i before [] e j (suc k) l h = absurd (omega arith)
next_sorted head i before (w ∷ ws) e zero (suc k) l h =
    let p = next_cons head i before w ws e in
    omega (arith, p.1, next_sorted head (suc i) w ws p.2 0 k (omega arith) (omega arith))
next_sorted head i before (w ∷ ws) e (suc j) (suc k) l h =
    next_sorted head (suc i) w ws (next_cons head i before w ws e).2 j k (omega arith) (omega arith)

-- ---- the two ways to the verdict on room, and what the search asks
module _ (head : Head) (ws : List Request) (all_next : are_next head 0 zero_request ws ≡ true) where
  pub passed_open : are_all_open head.setup ≡ true → true ≡ have_room head 0 ws
  passed_open o = sym (each_has_room head o 0 zero_request ws all_next)

  pub ascending : Sorted (deadlines_of ws)
  ascending = λ j k l h. next_sorted head 0 zero_request ws all_next (suc j) (suc k) (omega arith) (omega arith)

  pub none_overfull : {none : Bool} → is_some (if_any (overfull_from head 0 (deadlines_of ws))) ≡ not none → none ≡ have_room head 0 ws
  none_overfull {none} e =
      go (eqb (overfull_from head 0 (deadlines_of ws)) 0) none (overfull_from head 0 (deadlines_of ws))
      (searched_room head 0 zero_request ws all_next) e
    where
      go : (b x : Bool) (found : ℕ) {y : Bool} → b ≡ y → is_some (cond b None (Some found)) ≡ not x → x ≡ y
      go true true found e h = e
      go true false found e h = absurd (false≢true h)
      go false true found e h = absurd (false≢true (sym h))
      go false false found e h = e
