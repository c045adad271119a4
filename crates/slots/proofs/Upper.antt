-- No plan of the requests has more than were served, were withdrawn and still wait. Assumes nothing.
use Prim.Native.Nat.{ℕ, suc, ◌+◌, ◌≤◌, ◌<◌}
use mathlib.Core.Path.{◌≡◌}
use mathlib.Core.List.{List, [], ◌∷◌}
use native.Mathlib.Omega.{arith}
use lib.ListN.{length}
use Rattle.slots.specs.Plan.{Window, Slot, none, at, Fits, uses, Plan, planned, size}
use Rattle.slots.proofs.Laws.Tests.{le, gt, order}
use Rattle.slots.proofs.Laws.Sums.{total}
use Rattle.slots.proofs.Queue.{opens, Entry, Queue, empty, arrival, asking, ticked, Joined, Swapped, Taken, withdrawing}
use Rattle.slots.proofs.Laws.Count.{length_log, length_joined, length_swapped, length_taken, before, below, below_mono}
use Rattle.slots.proofs.Laws.Count.{below_suc, opens_suc, opens_mono, pigeon}
use Rattle.slots.proofs.Laws.Sorted.{Sorted, sorted_drop, due, upto, due_one, due_yes, due_no, upto_drop}

-- ---- the newest entry of a plan, and the plan without it
record New (t d : ℕ) (x : Slot) : Type 0 where
  early : before t x ≡ 0
  late : (y : ℕ) → d ≤ y → before y x ≡ planned x
  one : planned x ≤ 1

new : (t d : ℕ) (R : List Window) (x : Slot) (P : List Slot) → Fits (record { release = t; deadline = d } ∷ R) (x ∷ P) → New t d x
unfolding before
new t d R none P f = record { early = omega arith; late = λ y h. omega arith; one = omega arith }
new t d R (at s) P f = record { early = omega arith; late = λ y h. omega arith; one = omega arith }

rest_fits : (r : Window) (R : List Window) (x : Slot) (P : List Slot) → Fits (r ∷ R) (x ∷ P) → Fits R P
rest_fits r R none P f = f
rest_fits r R (at s) P f = f.2

after : {a b c : ℕ} → a ≤ b → b ≤ c → a ≤ c
after p q = omega arith

module _ (heads : ℕ → ℕ) where
  rest : (r : Window) (R : List Window) (x : Slot) (P : List Slot) → Plan heads (r ∷ R) (x ∷ P) → Plan heads R P
  unfolding uses
  rest r R x P p = record { fits = rest_fits r R x P p.fits; shared = λ t. omega (arith, p.shared t) }

  -- the slots of a plan before the clock, or not before D, are no more than were served, were withdrawn and wait for a deadline
  -- after D
  abbrev pub PlanBound : Queue → List Slot → Type 0
  PlanBound q P =
      (D : ℕ) → q.clock ≤ D
      → size P + below q.clock P + upto D q.waiting ≤ length q.log + q.withdrawn + length q.waiting + below D P

  -- those of the waiting ones that are due by a time have room from the clock on
  abbrev pub Feasible : ℕ → List Entry → Type 0
  Feasible t ws = (D : ℕ) → t ≤ D → upto D ws + opens heads t ≤ opens heads D

  pub record Inv (q : Queue) : Type 0 where
    pub sorted : Sorted 0 q.waiting
    pub feasible : Feasible q.clock q.waiting
    pub bound : (P : List Slot) → Plan heads q.asked P → PlanBound q P

  pub inv_empty : Inv empty
  unfolding total size
  inv_empty = record { sorted = tt; feasible = λ D h. omega (arith, opens_mono heads 0 D h); bound = none_asked }
    where
      none_asked : (P : List Slot) → Plan heads [] P → PlanBound empty P
      none_asked [] p = λ D h. omega arith
      none_asked (x ∷ P) p = absurd p.fits

  -- ---- a request comes
  module _ (d : ℕ) (q : Queue) (vs : List Entry) (late : q.clock < d) (s : Sorted 0 vs) (I : Inv q) where
    abbrev t : ℕ
    t = q.clock

    abbrev ws : List Entry
    ws = q.waiting

    abbrev e : Entry
    e = arrival d q

    abbrev r : Window
    r = record { release = q.clock; deadline = d }

    -- ---- it is kept
    kept_bound : Joined e ws vs → (P : List Slot) → Plan heads (r ∷ q.asked) P → PlanBound (asking d vs q) P
    unfolding total size
    kept_bound J [] p D h = absurd p.fits
    kept_bound J (x ∷ P) p D h =
        elim (order d D) [
          | le g ↦ omega (arith, old, J.sums (due D), length_joined e ws vs J, n.early, n.late D g, due_one D e)
          | gt g ↦ omega (arith, old, J.sums (due D), length_joined e ws vs J, n.early, n.one, due_no D e g)
        ]
      where
        n : New t d x
        n = new t d q.asked x P p.fits

        old : size P + below t P + upto D ws ≤ length q.log + q.withdrawn + length ws + below D P
        old = I.bound P (rest r q.asked x P p) D h

    pub inv_kept : Joined e ws vs → Feasible t vs → Inv (asking d vs q)
    inv_kept J f = record { sorted = s; feasible = f; bound = kept_bound J }

    -- ---- one is dropped: full is the smallest deadline that is overfull with the new one
    module _ (victim : Entry) (full : ℕ) (S : Swapped e victim ws vs) (picked : victim.deadline ≤ full)
        (over : opens heads full < due full e + upto full ws + opens heads t)
        (under : (D : ℕ) → t ≤ D → D < full → due D e + upto D ws + opens heads t ≤ opens heads D) where
      -- none of them is due by the clock, the victim neither
      ripe : t < full
      ripe =
          elim (order full t) [
            | le h ↦
                absurd (omega (
                  arith,
                  S.sums (due t),
                  due_yes t victim (after picked h),
                  due_no t e late,
                  I.feasible t (omega arith),
                ))
            | gt h ↦ h
          ]

      -- without the new one nothing was overfull
      fresh : d ≤ full
      fresh =
          elim (order d full) [
            | le h ↦ h
            | gt h ↦ absurd (omega (arith, ripe, I.feasible full (omega (arith, ripe)), due_no full e h))
          ]

      dropped_bound : (P : List Slot) → Plan heads (r ∷ q.asked) P → PlanBound (asking d vs q) P
      unfolding total size
      dropped_bound [] p D h = absurd p.fits
      dropped_bound (x ∷ P) p D h =
          elim (order full D) [
            | le g ↦
                omega (
                  arith,
                  old D h,
                  S.sums (due D),
                  alike,
                  n.early,
                  n.late D (after fresh g),
                  due_yes D victim (after picked g),
                  due_one D e,
                )
            | gt g ↦
                omega (
                  arith,
                  old full (omega (arith, ripe)),
                  S.sums (due D),
                  alike,
                  n.early,
                  n.late full fresh,
                  due_one full e,
                  under D h g,
                  pigeon heads (x ∷ P) p.shared D full (omega arith),
                )
          ]
        where
          n : New t d x
          n = new t d q.asked x P p.fits

          alike : length vs ≡ length ws
          alike = length_swapped e victim ws vs S

          old : (D : ℕ) → t ≤ D → size P + below t P + upto D ws ≤ length q.log + q.withdrawn + length ws + below D P
          old = I.bound P (rest r q.asked x P p)

      dropped_feasible : Feasible t vs
      dropped_feasible D h =
          elim (order full D) [
            | le g ↦ omega (arith, S.sums (due D), I.feasible D h, due_one D e, due_yes D victim (after picked g))
            | gt g ↦ omega (arith, S.sums (due D), under D h g)
          ]

      pub inv_dropped : Inv (asking d vs q)
      inv_dropped = record { sorted = s; feasible = dropped_feasible; bound = dropped_bound }

  -- ---- a tick
  -- the bound asks that those that wait are in order, and no room for them, so that it stands too where every request is kept
  pub bound_ticked : (q : Queue) → Sorted 0 q.waiting → (P : List Slot) → Plan heads q.asked P → PlanBound q P
      → PlanBound (ticked heads q) P
  bound_ticked q s P p b D h =
      let t = q.clock in
      let k = heads t in
      let ws = q.waiting in
      omega (
        arith,
        upto_drop D 0 k ws s,
        below_suc t P,
        p.shared t,
        b D (omega arith),
        b t (omega arith),
        below_mono (suc t) D P h,
        length_log t k ws q.log,
      )

  pub inv_ticked : (q : Queue) → Inv q → Inv (ticked heads q)
  inv_ticked q I =
      record {
        sorted = sorted_drop 0 k ws I.sorted;
        feasible =
            λ D h.
            omega (
              arith,
              upto_drop D 0 k ws I.sorted,
              I.feasible D (omega arith),
              opens_suc heads t,
              opens_mono heads (suc t) D h,
            );
        bound = λ P p. bound_ticked q I.sorted P p (I.bound P p);
      }
    where
      t : ℕ
      t = q.clock

      k : ℕ
      k = heads t

      ws : List Entry
      ws = q.waiting

  -- ---- one is withdrawn
  -- it counts as withdrawn where it counted as waiting, so that the bound stands, and those that are left have room as before
  pub inv_withdrawn : (e : Entry) (q : Queue) (vs : List Entry) → Taken e q.waiting vs → Sorted 0 vs → Inv q
      → Inv (withdrawing vs q)
  inv_withdrawn e q vs T s I =
      record {
        sorted = s;
        feasible = λ D h. omega (arith, T.sums (due D), I.feasible D h);
        bound = λ P p D h. omega (arith, T.sums (due D), due_one D e, length_taken e q.waiting vs T, I.bound P p D h);
      }

  -- ---- the bound at the clock is one on the size of a plan
  pub upper : (q : Queue) → Inv q → (P : List Slot) → Plan heads q.asked P
      → size P ≤ length q.log + q.withdrawn + length q.waiting
  upper q I P p = omega (arith, I.bound P p q.clock (omega arith))
