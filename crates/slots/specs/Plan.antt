-- Plans, document 01, "Lists and plans". Assumes nothing.
use Rattle.std.specs.Prelude.{ℕ, suc, ◌+◌, ◌≤◌, ◌≡◌, cond, List, [], ◌∷◌, map, eqb, length}

-- when a request may be served: from "the clock at that request's submission" to its deadline
pub record Window : Type 0 where
  pub release : ℕ
  pub deadline : ℕ

-- what a plan gives a request: no slot, or one
pub data Slot : Type 0 where
  none : Slot
  at : ℕ → Slot

-- "Slot s is ended by deadline D if s + 1 is at most D."
abbrev pub EndedBy : ℕ → ℕ → Type 0
EndedBy D s = suc s ≤ D

-- "each slot at least the clock at that request's submission and ended by its deadline": an entry for each request, in the
-- order of the requests
abbrev pub Fits : List Window → List Slot → Type 0
Fits [] [] = Unit {0}
Fits [] (p ∷ P) = ⊥
Fits (r ∷ R) [] = ⊥
Fits (r ∷ R) (none ∷ P) = Fits R P
Fits (r ∷ R) (at s ∷ P) = (r.release ≤ s) × EndedBy r.deadline s × Fits R P

-- 1 where a plan's entry is the slot s
abbrev pub is_at : ℕ → Slot → ℕ
is_at s none = 0
is_at s (at u) = cond (eqb s u) 1 0

-- how many requests have the slot s
unfoldable pub uses : ℕ → List Slot → ℕ
uses s [] = 0
uses s (p ∷ P) = is_at s p + uses s P

-- "A plan gives some of the list's requests one slot each, no slot to two of them, each slot at least the clock at that
-- request's submission and ended by its deadline.": no slot to more requests than it can take
pub record Plan (capacity : ℕ → ℕ) (R : List Window) (P : List Slot) : Type 0 where
  pub fits : Fits R P
  pub shared : (s : ℕ) → uses s P ≤ capacity s

-- "It has as many requests as it gives slots"
abbrev pub planned : Slot → ℕ
planned none = 0
planned (at s) = 1

unfoldable pub size : List Slot → ℕ
size [] = 0
size (p ∷ P) = planned p + size P

-- the window of a request that may be served from the clock on
abbrev pub since : ℕ → ℕ → Window
since clock deadline = record { release = clock; deadline = deadline }

-- "every request can still finish": a plan from the clock on that has a slot for each request; these are the requests' deadlines
abbrev pub CanAllFinish : (ℕ → ℕ) → ℕ → List ℕ → Type 0
CanAllFinish capacity clock deadlines = (P : List Slot) × Plan capacity (map (since clock) deadlines) P × (size P ≡ length deadlines)
