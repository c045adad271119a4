-- One block at most in each slot: a plan gives no slot to two requests, and uses those slots only that can take one. Assumes nothing.
use Prim.Native.Nat.{ℕ, zero, suc, ◌+◌, ◌≤◌, ◌<◌}
use mathlib.Core.Path.{◌≡◌, refl, sym, ap, ◌∙◌}
use mathlib.Core.Bool.{Bool, true, false, cond}
use mathlib.Core.List.{List, [], ◌∷◌}
use native.Mathlib.Omega.{arith}
use lib.Dec.{eqb}
use lib.ListN.{get_or}
use Rattle.slots.specs.Plan.{Window, Slot, none, at, Fits, is_at, uses, Plan}
use Rattle.slots.proofs.Laws.Tests.{Same, same_yes, same_no, same, le, gt, order}
use Rattle.slots.proofs.Laws.Count.{is_at_yes}

-- ---- plans
-- "no slot to two of them": requests that have one slot are one request
abbrev pub Distinct : List Slot → Type 0
Distinct P = (i j s : ℕ) → get_or P i none ≡ at s → get_or P j none ≡ at s → i ≡ j

-- each slot of a plan can take a request
abbrev pub Usable : (ℕ → ℕ) → List Slot → Type 0
Usable heads P = (i s : ℕ) → get_or P i none ≡ at s → 0 < heads s

at_is_at : (s : ℕ) (p : Slot) → p ≡ at s → is_at s p ≡ 1
at_is_at s p e = ap (is_at s) e ∙ is_at_yes s s refl

-- the slot of one request is used, that of two twice
used : (s i : ℕ) (P : List Slot) → get_or P i none ≡ at s → 1 ≤ uses s P
unfolding uses
used s i [] e = let z : ◌≡◌ {A = ℕ} 0 1 = cc in omega arith
used s zero (p ∷ P) e = omega (arith, at_is_at s p e)
used s (suc i) (p ∷ P) e = omega (arith, used s i P e)

used_twice : (s i j : ℕ) (P : List Slot) → i < j → get_or P i none ≡ at s → get_or P j none ≡ at s → 2 ≤ uses s P
unfolding uses
used_twice s i j [] h e f = let z : ◌≡◌ {A = ℕ} 0 1 = cc in omega arith
used_twice s i zero (p ∷ P) h e f = absurd (omega arith)
used_twice s zero (suc j) (p ∷ P) h e f = omega (arith, at_is_at s p e, used s j P f)
used_twice s (suc i) (suc j) (p ∷ P) h e f = omega (arith, used_twice s i j P (omega arith) e f)

-- a slot that no request has is not used
unused : (s : ℕ) (P : List Slot) → ((j : ℕ) → get_or P j none ≡ at s → ⊥) → uses s P ≡ 0
unfolding uses
unused s [] f = refl
unused s (none ∷ P) f = omega (arith, unused s P (λ j. f (suc j)))
unused s (at u ∷ P) f = go (eqb s u) (same s u) (unused s P (λ j. f (suc j)))
  where
    go : (c : Bool) → Same s u c → uses s P ≡ 0 → cond c 1 0 + uses s P ≡ 0
    go true (same_yes e) r = absurd (f 0 (ap at (sym e)))
    go false (same_no n) r = omega arith

rest_distinct : (p : Slot) (P : List Slot) → Distinct (p ∷ P) → Distinct P
rest_distinct p P d i j s e f = omega (arith, d (suc i) (suc j) s e f)

used_once : (s : ℕ) (P : List Slot) → Distinct P → uses s P ≤ 1
unfolding uses
used_once s [] d = omega arith
used_once s (none ∷ P) d = omega (arith, used_once s P (rest_distinct none P d))
used_once s (at u ∷ P) d = go (eqb s u) (same s u) (used_once s P (rest_distinct (at u) P d))
  where
    go : (c : Bool) → Same s u c → uses s P ≤ 1 → cond c 1 0 + uses s P ≤ 1
    go true (same_yes e) r = omega (arith, unused s P (λ j f. omega (arith, d 0 (suc j) s (ap at (sym e)) f)))
    go false (same_no n) r = omega arith

module _ (heads : ℕ → ℕ) where
  pub usable : (R : List Window) (P : List Slot) → Plan heads R P → Usable heads P
  usable R P p i s e = omega (arith, used s i P e, p.shared s)

  -- no slot can take two
  module _ (most : (s : ℕ) → heads s ≤ 1) where
    pub distinct : (R : List Window) (P : List Slot) → Plan heads R P → Distinct P
    distinct R P p i j s e f =
        elim (order i j) [
          | le h ↦ elim (order j i) [
            | le g ↦ omega arith
            | gt g ↦ absurd (omega (
              arith,
              used_twice s i j P g e f,
              p.shared s,
              most s,
            ))
          ]
          | gt h ↦ absurd (omega (arith, used_twice s j i P h f e, p.shared s, most s))
        ]

  used_most : (s : ℕ) (P : List Slot) → Distinct P → Usable heads P → uses s P ≤ heads s
  used_most s P d u =
      elim (order (heads s) 0) [
        | le h ↦ omega (arith, unused s P (λ j e. omega (arith, u j s e)))
        | gt h ↦ omega (arith, used_once s P d)
      ]

  pub distinct_plan : (R : List Window) (P : List Slot) → Fits R P → Distinct P → Usable heads P → Plan heads R P
  distinct_plan R P f d u = record { fits = f; shared = λ s. used_most s P d u }
