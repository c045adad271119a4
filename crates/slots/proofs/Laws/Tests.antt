-- Tests of numbers as facts: match on the fact, and the test's value comes with it. Assumes nothing.
use Prim.Native.Nat.{ℕ, ◌≤◌, ◌<◌}
use mathlib.Core.Path.{◌≡◌}
use mathlib.Core.Bool.{Bool, true, false, not}
use mathlib.Core.Logic.{◌≢◌}
use lib.Dec.{T, leb, eqb, leb→le, nleb→lt, eqb→eq, eqb_refl}

pub data Test (a b : ℕ) : Bool → Type 0 where
  holds : a ≤ b → Test a b true
  fails : b < a → Test a b false

pub test : (a b : ℕ) → Test a b (leb a b)
test a b = go (leb a b) (leb→le a b) (nleb→lt a b)
  where
    go : (c : Bool) → (T c → a ≤ b) → (T (not c) → b < a) → Test a b c
    go true f g = holds (f tt)
    go false f g = fails (g tt)

pub data Same (a b : ℕ) : Bool → Type 0 where
  same_yes : a ≡ b → Same a b true
  same_no : a ≢ b → Same a b false

pub same : (a b : ℕ) → Same a b (eqb a b)
same a b = go (eqb a b) (eqb→eq a b) (λ e. rw e (eqb_refl b))
  where
    go : (c : Bool) → (T c → a ≡ b) → (a ≡ b → T c) → Same a b c
    go true f g = same_yes (f tt)
    go false f g = same_no g

-- the same without the test
pub data Order (a b : ℕ) : Type 0 where
  le : a ≤ b → Order a b
  gt : b < a → Order a b

pub order : (a b : ℕ) → Order a b
order a b = go (leb a b) (test a b)
  where
    go : (c : Bool) → Test a b c → Order a b
    go true (holds h) = le h
    go false (fails h) = gt h
