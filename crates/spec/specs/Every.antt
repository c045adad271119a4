-- Tests over lists, as computing definitions. Assumes nothing.
use Rattle.std.specs.Prelude.{ℕ, suc, ◌+◌, max, Bool, true, false, cond, ◌&&◌, ◌||◌, List, [], ◌∷◌, ◌++◌, leb}

-- 1 for true, 0 for false
abbrev pub to_number : Bool → ℕ
to_number b = cond b 1 0

-- whether x is from lo to hi
abbrev pub is_within : ℕ → ℕ → ℕ → Bool
is_within lo hi x = leb lo x && leb x hi

module _ {A : Type 0} where
  -- whether each element passes the test
  unfoldable pub every : (A → Bool) → List A → Bool
  every test [] = true
  every test (x ∷ xs) = test x && every test xs

  -- whether some element passes it
  unfoldable pub exists : (A → Bool) → List A → Bool
  exists test [] = false
  exists test (x ∷ xs) = test x || exists test xs

  -- how many pass it
  unfoldable pub count_if : (A → Bool) → List A → ℕ
  count_if test [] = 0
  count_if test (x ∷ xs) = to_number (test x) + count_if test xs

  -- those that pass it
  unfoldable pub select : (A → Bool) → List A → List A
  select test [] = []
  select test (x ∷ xs) = cond (test x) (x ∷ select test xs) (select test xs)

  -- whether each element passes the test, which is told the element's index too; the first one has the index given
  unfoldable pub every_from : (ℕ → A → Bool) → ℕ → List A → Bool
  every_from test i [] = true
  every_from test i (x ∷ xs) = test i x && every_from test (suc i) xs

module _ {A B : Type 0} where
  -- f of each index and element; the first element has the index given
  unfoldable pub map_from : (ℕ → A → B) → ℕ → List A → List B
  map_from f i [] = []
  map_from f i (x ∷ xs) = f i x ∷ map_from f (suc i) xs

-- all that f makes of the elements, one after the other
abbrev pub gather : {A B : Type 0} → (A → List B) → List A → List B
gather f [] = []
gather f (x ∷ xs) = f x ++ gather f xs

-- the first element, or what is given where there is none
abbrev pub first_or : {A : Type 0} → A → List A → A
first_or none [] = none
first_or none (x ∷ xs) = x

-- the sum of numbers, and the largest of them
abbrev pub sum : List ℕ → ℕ
sum [] = 0
sum (n ∷ ns) = n + sum ns

abbrev pub largest : List ℕ → ℕ
largest [] = 0
largest (n ∷ ns) = max n (largest ns)
