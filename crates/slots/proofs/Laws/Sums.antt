-- Sums over a list, and what holds of each of its elements. Assumes nothing.
use Prim.Native.Nat.{ℕ, zero, suc, ◌+◌, ◌-◌, ◌≤◌}
use mathlib.Core.Path.{◌≡◌, refl}
use mathlib.Core.List.{List, [], ◌∷◌, ◌++◌, map}
use mathlib.Core.Logic.{◌≢◌}
use native.Mathlib.Omega.{arith}
use lib.ListN.{length, take, drop}

-- ---- 1 where the two are the same, else 0
unfoldable pub one : ℕ → ℕ → ℕ
one i j = 1 - ((i - j) + (j - i))

pub one_yes : (i j : ℕ) → i ≡ j → one i j ≡ 1
unfolding one
one_yes i j e = omega arith

pub one_no : (i j : ℕ) → i ≢ j → one i j ≡ 0
unfolding one
one_no i j n = omega arith

pub one_most : (i j : ℕ) → one i j ≤ 1
unfolding one
one_most i j = omega arith

-- ---- what holds of each
abbrev pub All : {A : Type 0} → (A → Type 0) → List A → Type 0
All p [] = Unit {0}
All p (x ∷ xs) = p x × All p xs

module _ {A : Type 0} where
  pub all_each : (p : A → Type 0) (xs : List A) → ((x : A) → p x) → All p xs
  all_each p [] f = tt
  all_each p (x ∷ xs) f = (f x, all_each p xs f)

  pub all_imp : (p q : A → Type 0) (xs : List A) → ((x : A) → p x → q x) → All p xs → All q xs
  all_imp p q [] f a = tt
  all_imp p q (x ∷ xs) f a = (f x a.0, all_imp p q xs f a.1)

  pub all_append : (p : A → Type 0) (xs ys : List A) → All p xs → All p ys → All p (xs ++ ys)
  all_append p [] ys a b = b
  all_append p (x ∷ xs) ys a b = (a.0, all_append p xs ys a.1 b)

  pub all_take : (p : A → Type 0) (k : ℕ) (xs : List A) → All p xs → All p (take k xs)
  all_take p zero xs a = tt
  all_take p (suc k) [] a = tt
  all_take p (suc k) (x ∷ xs) a = (a.0, all_take p k xs a.1)

  pub all_drop : (p : A → Type 0) (k : ℕ) (xs : List A) → All p xs → All p (drop k xs)
  all_drop p zero xs a = a
  all_drop p (suc k) [] a = tt
  all_drop p (suc k) (x ∷ xs) a = all_drop p k xs a.1

pub all_map : {A B : Type 0} (p : B → Type 0) (g : A → B) (xs : List A) → All (λ (x : A). p (g x)) xs → All p (map g xs)
all_map p g [] a = tt
all_map p g (x ∷ xs) a = (a.0, all_map p g xs a.1)

-- ---- the sum of f over a list
unfoldable pub total : {A : Type 0} → (A → ℕ) → List A → ℕ
total f [] = 0
total f (x ∷ xs) = f x + total f xs

module _ {A : Type 0} where
  pub total_cons : (f : A → ℕ) (x : A) (xs : List A) → total f (x ∷ xs) ≡ f x + total f xs
  unfolding total
  total_cons f x xs = refl

  pub total_le : (f g : A → ℕ) (xs : List A) → ((x : A) → f x ≤ g x) → total f xs ≤ total g xs
  unfolding total
  total_le f g [] h = omega arith
  total_le f g (x ∷ xs) h = omega (arith, h x, total_le f g xs h)

  pub total_append : (f : A → ℕ) (xs ys : List A) → total f (xs ++ ys) ≡ total f xs + total f ys
  unfolding total
  total_append f [] ys = omega arith
  total_append f (x ∷ xs) ys = omega (arith, total_append f xs ys)

  pub total_split : (f : A → ℕ) (k : ℕ) (xs : List A) → total f xs ≡ total f (take k xs) + total f (drop k xs)
  unfolding total
  total_split f zero xs = omega arith
  total_split f (suc k) [] = omega arith
  total_split f (suc k) (x ∷ xs) = omega (arith, total_split f k xs)

  pub total_zero : (f : A → ℕ) (xs : List A) → All (λ (x : A). f x ≡ 0) xs → total f xs ≡ 0
  unfolding total
  total_zero f [] a = refl
  total_zero f (x ∷ xs) a = omega (arith, a.0, total_zero f xs a.1)

  pub total_one : (f : A → ℕ) (xs : List A) → ((x : A) → f x ≡ 1) → total f xs ≡ length xs
  unfolding total
  total_one f [] h = refl
  total_one f (x ∷ xs) h = omega (arith, h x, total_one f xs h)

pub total_map : {A B : Type 0} (f : B → ℕ) (g : A → B) (xs : List A) → total f (map g xs) ≡ total (λ (x : A). f (g x)) xs
unfolding total
total_map f g [] = refl
total_map f g (x ∷ xs) = omega (arith, total_map f g xs)
