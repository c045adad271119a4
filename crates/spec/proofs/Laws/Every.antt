-- Laws of the tests over lists, and of records put in and taken out. Assumes nothing.
use Prim.Native.Nat.{ℕ, zero, suc, ◌+◌, ◌≤◌, ◌<◌}
use mathlib.Core.Path.{◌≡◌, refl, sym, ap, ◌∙◌, fun_ext}
use mathlib.Core.Bool.{Bool, true, false, cond, ◌&&◌, ◌||◌, and-eq-true_iff, true≢false}
use mathlib.Core.List.{List, [], ◌∷◌}
use native.Mathlib.Nat.{zero-add, add-zero, add-suc, suc-add}
use native.Mathlib.Omega.{arith}
use lib.ListN.{length, get_or, take, drop, length-append, length-take, length-drop}
use lib.Seq.{length-take-le, get_or_at}
use Rattle.slots.proofs.Laws.Sums.{All, all_append, all_take, all_drop, total, total_append, total_split}
use Rattle.spec.specs.declared.types.Request.{Request}
use Rattle.spec.specs.Every.{to_number, every, exists, count_if, select, every_from, map_from}
use Rattle.spec.specs.Order.{insert_at, remove_at}

-- ---- tests of two parts
pub and_left : (a b : Bool) → a && b ≡ true → a ≡ true
and_left a b e = ((and-eq-true_iff a b).0 e).0

pub and_right : (a b : Bool) → a && b ≡ true → b ≡ true
and_right a b e = ((and-eq-true_iff a b).0 e).1

pub and_both : (a b : Bool) → a ≡ true → b ≡ true → a && b ≡ true
and_both a b p q = (and-eq-true_iff a b).1 (p, q)

pub or_none : (a b : Bool) → a || b ≡ false → (a ≡ false) × (b ≡ false)
or_none true b e = absurd (true≢false e)
or_none false b e = (refl, e)

-- a test's value, kept as an equation
pub data Value (b : Bool) : Type 0 where
  is_true : b ≡ true → Value b
  is_false : b ≡ false → Value b

pub value : (b : Bool) → Value b
value true = is_true refl
value false = is_false refl

pub cond_true : {A : Type 0} (b : Bool) (x y : A) → b ≡ true → cond b x y ≡ x
cond_true b x y e = rw e

pub cond_false : {A : Type 0} (b : Bool) (x y : A) → b ≡ false → cond b x y ≡ y
cond_false b x y e = rw e

-- two tests that pass together are the same
pub same_test : (a b : Bool) → (a ≡ true → b ≡ true) → (b ≡ true → a ≡ true) → a ≡ b
same_test true b f g = sym (f refl)
same_test false true f g = g refl
same_test false false f g = refl

-- ---- a test as a number
pub number_yes : (b : Bool) → b ≡ true → to_number b ≡ 1
number_yes b e = rw e

pub number_no : (b : Bool) → b ≡ false → to_number b ≡ 0
number_no b e = rw e

pub number_most : (b : Bool) → to_number b ≤ 1
number_most true = omega arith
number_most false = omega arith

-- ---- what holds of each
module _ {A : Type 0} where
  pub all_at : (p : A → Type 0) (xs : List A) (k : ℕ) (d : A) → k < length xs → All p xs → p (get_or xs k d)
  all_at p [] k d h a = absurd (omega arith)
  all_at p (x ∷ xs) zero d h a = a.0
  all_at p (x ∷ xs) (suc k) d h a = all_at p xs k d (omega arith) a.1

  pub all_two : (p q r : A → Type 0) (xs : List A) → ((x : A) → p x → q x → r x) → All p xs → All q xs → All r xs
  all_two p q r [] f a b = tt
  all_two p q r (x ∷ xs) f a b = (f x a.0 b.0, all_two p q r xs f a.1 b.1)

-- ---- an index counted from one element further on
index_next : (i k : ℕ) → i + suc k ≡ suc i + k
index_next i k = add-suc i k ∙ sym (suc-add i k)

-- ---- tests over lists
module _ {A : Type 0} where
  pub every_facts : (test : A → Bool) (xs : List A) → every test xs ≡ true → All (λ (x : A). test x ≡ true) xs
  unfolding every
  every_facts test [] e = tt
  every_facts test (x ∷ xs) e =
      (and_left (test x) (every test xs) e, every_facts test xs (and_right (test x) (every test xs) e))

  pub every_test : (test : A → Bool) (xs : List A) → All (λ (x : A). test x ≡ true) xs → every test xs ≡ true
  unfolding every
  every_test test [] a = refl
  every_test test (x ∷ xs) a = and_both (test x) (every test xs) a.0 (every_test test xs a.1)

  from_facts : (test : ℕ → A → Bool) (i : ℕ) (xs : List A) → every_from test i xs ≡ true
      → (k : ℕ) (d : A) → k < length xs → test (i + k) (get_or xs k d) ≡ true
  unfolding every_from
  from_facts test i [] e k d h = absurd (omega arith)
  from_facts test i (x ∷ xs) e zero d h = rw (add-zero i) (and_left (test i x) (every_from test (suc i) xs) e)
  from_facts test i (x ∷ xs) e (suc k) d h =
      rw (index_next i k)
      (from_facts test (suc i) xs (and_right (test i x) (every_from test (suc i) xs) e) k d (omega arith))

  from_test : (test : ℕ → A → Bool) (i : ℕ) (xs : List A) (d : A)
      → ((k : ℕ) → k < length xs → test (i + k) (get_or xs k d) ≡ true) → every_from test i xs ≡ true
  unfolding every_from
  from_test test i [] d f = refl
  from_test test i (x ∷ xs) d f =
      and_both (test i x) (every_from test (suc i) xs) (rw (add-zero i) at (f 0 (omega arith)))
      (from_test test (suc i) xs d (λ k h. rw (index_next i k) at (f (suc k) (omega arith))))

  -- the same where the first has the index 0
  pub every_from_facts : (test : ℕ → A → Bool) (xs : List A) → every_from test 0 xs ≡ true
      → (k : ℕ) (d : A) → k < length xs → test k (get_or xs k d) ≡ true
  every_from_facts test xs e k d h = rw zero-add at (from_facts test 0 xs e k d h)

  pub every_from_test : (test : ℕ → A → Bool) (xs : List A) (d : A)
      → ((k : ℕ) → k < length xs → test k (get_or xs k d) ≡ true) → every_from test 0 xs ≡ true
  every_from_test test xs d f = from_test test 0 xs d (λ k h. rw zero-add (f k h))

  pub count_total : (test : A → Bool) (xs : List A) → count_if test xs ≡ total (λ (x : A). to_number (test x)) xs
  unfolding count_if total
  count_total test [] = refl
  count_total test (x ∷ xs) = ap (λ (n : ℕ). to_number (test x) + n) (count_total test xs)

  pub count_most : (test : A → Bool) (xs : List A) → count_if test xs ≤ length xs
  unfolding count_if
  count_most test [] = omega arith
  count_most test (x ∷ xs) = omega (arith, number_most (test x), count_most test xs)

  -- a sum by parts
  pub total_same : (f g : A → ℕ) (xs : List A) → ((x : A) → f x ≡ g x) → total f xs ≡ total g xs
  total_same f g xs h = ap (λ (k : A → ℕ). total k xs) (fun_ext h)

  pub total_add : (f g : A → ℕ) (xs : List A) → total (λ (x : A). f x + g x) xs ≡ total f xs + total g xs
  unfolding total
  total_add f g [] = refl
  total_add f g (x ∷ xs) = omega (arith, total_add f g xs)

  pub total_select : (f : A → ℕ) (test : A → Bool) (xs : List A)
      → total f (select test xs) ≡ total (λ (x : A). cond (test x) (f x) 0) xs
  unfolding total select
  total_select f test [] = refl
  total_select f test (x ∷ xs) = go (test x) (total_select f test xs)
    where
      go : (b : Bool) → total f (select test xs) ≡ total (λ (x : A). cond (test x) (f x) 0) xs
          → total f (cond b (x ∷ select test xs) (select test xs)) ≡ cond b (f x) 0 + total (λ (x : A). cond (test x) (f x) 0) xs
      go true e = omega arith
      go false e = omega arith

  -- none of them passes
  pub exists_none : (test : A → Bool) (xs : List A) → All (λ (x : A). test x ≡ false) xs → exists test xs ≡ false
  unfolding exists
  exists_none test [] a = refl
  exists_none test (x ∷ xs) a = rw (a.0, exists_none test xs a.1)

module _ {A B : Type 0} where
  pub length_map_from : (f : ℕ → A → B) (i : ℕ) (xs : List A) → length (map_from f i xs) ≡ length xs
  unfolding map_from
  length_map_from f i [] = refl
  length_map_from f i (x ∷ xs) = ap suc (length_map_from f (suc i) xs)

  from_get_d : (f : ℕ → A → B) (i : ℕ) (xs : List A) (k : ℕ) (a : A) (b : B) → k < length xs
      → get_or (map_from f i xs) k b ≡ f (i + k) (get_or xs k a)
  unfolding map_from
  from_get_d f i [] k a b h = absurd (omega arith)
  from_get_d f i (x ∷ xs) zero a b h = rw (add-zero i)
  from_get_d f i (x ∷ xs) (suc k) a b h = rw (index_next i k) (from_get_d f (suc i) xs k a b (omega arith))

  pub get_d_map_from : (f : ℕ → A → B) (xs : List A) (k : ℕ) (a : A) (b : B) → k < length xs
      → get_or (map_from f 0 xs) k b ≡ f k (get_or xs k a)
  get_d_map_from f xs k a b h = rw zero-add at (from_get_d f 0 xs k a b h)

-- ---- a request put in at a place, or taken out there
pub total_insert : (f : Request → ℕ) (k : ℕ) (r : Request) (ws : List Request) → total f (insert_at k r ws) ≡ f r + total f ws
unfolding total
total_insert f k r ws = omega (arith, total_append f (take k ws) (r ∷ drop k ws), total_split f k ws)

pub all_insert : (p : Request → Type 0) (k : ℕ) (r : Request) (ws : List Request) → p r → All p ws → All p (insert_at k r ws)
all_insert p k r ws h a = all_append p (take k ws) (r ∷ drop k ws) (all_take p k ws a) (h, all_drop p k ws a)

pub length_insert : (k : ℕ) (r : Request) (ws : List Request) → length (insert_at k r ws) ≡ suc (length ws)
length_insert k r ws =
    omega (arith, length-append (take k ws) (r ∷ drop k ws), length-take k ws, length-drop k ws)

pub total_remove : (f : Request → ℕ) (k : ℕ) (z : Request) (ws : List Request) → k < length ws
    → total f ws ≡ f (get_or ws k z) + total f (remove_at k ws)
unfolding total remove_at
total_remove f k z [] h = absurd (omega arith)
total_remove f zero z (w ∷ ws) h = refl
total_remove f (suc k) z (w ∷ ws) h = omega (arith, total_remove f k z ws (omega arith))

pub all_remove : (p : Request → Type 0) (k : ℕ) (ws : List Request) → All p ws → All p (remove_at k ws)
unfolding remove_at
all_remove p k ws a = all_append p (take k ws) (drop (suc k) ws) (all_take p k ws a) (all_drop p (suc k) ws a)

pub length_remove : (k : ℕ) (ws : List Request) → k < length ws → length ws ≡ suc (length (remove_at k ws))
unfolding remove_at
length_remove k ws h =
    omega (arith, length-append (take k ws) (drop (suc k) ws), length-take k ws, length-drop (suc k) ws)

-- what was put in stands at its place, and taking it out again gives the list back
pub get_d_insert : (k : ℕ) (r z : Request) (ws : List Request) → k ≤ length ws → get_or (insert_at k r ws) k z ≡ r
get_d_insert k r z ws h = get_or_at (take k ws) r (drop k ws) z k (length-take-le k ws h)

pub remove_insert : (k : ℕ) (r : Request) (ws : List Request) → k ≤ length ws → remove_at k (insert_at k r ws) ≡ ws
unfolding remove_at
remove_insert zero r ws h = refl
remove_insert (suc k) r [] h = absurd (omega arith)
remove_insert (suc k) r (w ∷ ws) h = ap (λ (l : List Request). w ∷ l) (remove_insert k r ws (omega arith))
