-- Chart order as facts: a list is in order where each request comes before all later ones. Assumes nothing.
use Prim.Native.Nat.{ℕ, zero, suc, ◌+◌, ◌≤◌, ◌<◌}
use mathlib.Core.Path.{◌≡◌, refl, sym}
use mathlib.Core.Bool.{Bool, true, false, cond, ◌&&◌, ◌||◌, false≢true}
use mathlib.Core.List.{List, [], ◌∷◌}
use native.Mathlib.Omega.{arith}
use lib.Dec.{ltb, eqb}
use lib.ListN.{length, get_or, drop}
use Rattle.slots.proofs.Laws.Tests.{Test, holds, fails, test, Same, same_yes, same_no, same}
use Rattle.slots.proofs.Laws.Sums.{All, all_imp, total}
use Rattle.spec.specs.declared.types.Request.{Request}
use Rattle.spec.specs.Every.{to_number, count_if}
use Rattle.spec.specs.Order.{comes_before, is_in_order, place_of, shift_of, insert_at, put_in_order, remove_at}
use Rattle.spec.proofs.Laws.Every.{count_total, count_most, total_remove, and_left, and_right, and_both, total_insert, all_insert}
use Rattle.spec.proofs.Laws.Every.{all_remove, length_insert, get_d_insert, remove_insert}

-- ---- one request before another
pub data Before (a b : Request) : Type 0 where
  earlier : a.deadline < b.deadline → Before a b
  alike : a.deadline ≡ b.deadline → a.number < b.number → Before a b

-- and not before it
pub data After (a b : Request) : Type 0 where
  later : b.deadline < a.deadline → After a b
  alike_later : b.deadline ≡ a.deadline → b.number ≤ a.number → After a b

pub data Compared (a b : Request) : Bool → Type 0 where
  before : Before a b → Compared a b true
  after : After a b → Compared a b false

pub compared : (a b : Request) → Compared a b (comes_before a b)
unfolding comes_before
compared a b =
    go (ltb a.deadline b.deadline) (eqb a.deadline b.deadline) (ltb a.number b.number)
    (test (suc a.deadline) b.deadline) (same a.deadline b.deadline) (test (suc a.number) b.number)
  where
    go : (x y z : Bool) → Test (suc a.deadline) b.deadline x → Same a.deadline b.deadline y
        → Test (suc a.number) b.number z → Compared a b (x || (y && z))
    go true y z (holds h) e n = before (earlier h)
    go false true true (fails h) (same_yes e) (holds n) = before (alike e n)
    go false true false (fails h) (same_yes e) (fails n) = after (alike_later (sym e) (omega arith))
    go false false z (fails h) (same_no e) n = after (later (omega arith))

pub before_facts : (a b : Request) → comes_before a b ≡ true → Before a b
before_facts a b e = go (comes_before a b) (compared a b) e
  where
    go : (x : Bool) → Compared a b x → x ≡ true → Before a b
    go true (before h) e = h
    go false (after h) e = absurd (false≢true e)

not_both : (a b : Request) → Before a b → After a b → ⊥
not_both a b (earlier h) (later g) = omega arith
not_both a b (earlier h) (alike_later g n) = omega arith
not_both a b (alike e n) (later g) = omega arith
not_both a b (alike e n) (alike_later g m) = omega arith

pub before_test : (a b : Request) → Before a b → comes_before a b ≡ true
before_test a b h = go (comes_before a b) (compared a b)
  where
    go : (x : Bool) → Compared a b x → x ≡ true
    go true (before g) = refl
    go false (after g) = absurd (not_both a b h g)

pub before_trans : (a b c : Request) → Before a b → Before b c → Before a c
before_trans a b c (earlier h) (earlier g) = earlier (omega arith)
before_trans a b c (earlier h) (alike e n) = earlier (omega arith)
before_trans a b c (alike e n) (earlier g) = earlier (omega arith)
before_trans a b c (alike e n) (alike f m) = alike (omega arith) (omega arith)

pub before_deadline : (a b : Request) → Before a b → a.deadline ≤ b.deadline
before_deadline a b (earlier h) = omega arith
before_deadline a b (alike e n) = omega arith

-- the first in chart order has the earliest deadline
pub first_earliest : (w : Request) (ws : List Request) → All (Before w) ws → All (λ (v : Request). w.deadline ≤ v.deadline) ws
first_earliest w ws a = all_imp (Before w) (λ (v : Request). w.deadline ≤ v.deadline) ws (before_deadline w) a

-- ---- a list in order
abbrev pub InOrder : List Request → Type 0
InOrder [] = Unit {0}
InOrder (w ∷ ws) = All (Before w) ws × InOrder ws

pub order_facts : (ws : List Request) → is_in_order ws ≡ true → InOrder ws
unfolding is_in_order
order_facts [] e = tt
order_facts (a ∷ []) e = (tt, tt)
order_facts (a ∷ b ∷ ws) e =
    chain (before_facts a b (and_left (comes_before a b) (is_in_order (b ∷ ws)) e))
    (order_facts (b ∷ ws) (and_right (comes_before a b) (is_in_order (b ∷ ws)) e))
  where
    chain : Before a b → InOrder (b ∷ ws) → InOrder (a ∷ b ∷ ws)
    chain h o = ((h, all_imp (Before b) (Before a) ws (λ c g. before_trans a b c h g) o.0), o)

pub order_test : (ws : List Request) → InOrder ws → is_in_order ws ≡ true
unfolding is_in_order
order_test [] o = refl
order_test (a ∷ []) o = refl
order_test (a ∷ b ∷ ws) o = and_both (comes_before a b) (is_in_order (b ∷ ws)) (before_test a b o.0.0) (order_test (b ∷ ws) o.1)

pub order_remove : (k : ℕ) (ws : List Request) → InOrder ws → InOrder (remove_at k ws)
unfolding remove_at
order_remove zero [] o = tt
order_remove (suc k) [] o = tt
order_remove zero (w ∷ ws) o = o.1
order_remove (suc k) (w ∷ ws) o = (all_remove (Before w) k ws o.0, order_remove k ws o.1)

pub order_drop : (k : ℕ) (ws : List Request) → InOrder ws → InOrder (drop k ws)
order_drop zero ws o = o
order_drop (suc k) [] o = tt
order_drop (suc k) (w ∷ ws) o = order_drop k ws o.1

-- ---- a request put in
pub place_most : (r : Request) (ws : List Request) → place_of r ws ≤ length ws
unfolding place_of
place_most r [] = omega arith
place_most r (w ∷ ws) = go (comes_before w r) (place_most r ws)
  where
    go : (x : Bool) → place_of r ws ≤ length ws → cond x (suc (place_of r ws)) 0 ≤ suc (length ws)
    go true h = omega arith
    go false h = omega arith

pub shift_most : (r : Request) (ws : List Request) → shift_of r ws ≤ length ws
shift_most r ws = count_most (comes_before r) ws

pub put_cons : (r w : Request) (ws : List Request)
    → put_in_order r (w ∷ ws) ≡ cond (comes_before w r) (w ∷ put_in_order r ws) (r ∷ w ∷ ws)
unfolding put_in_order place_of
put_cons r w ws = go (comes_before w r)
  where
    go : (x : Bool) → insert_at (cond x (suc (place_of r ws)) 0) r (w ∷ ws) ≡ cond x (w ∷ insert_at (place_of r ws) r ws) (r ∷ w ∷ ws)
    go true = refl
    go false = refl

pub total_put : (f : Request → ℕ) (r : Request) (ws : List Request) → total f (put_in_order r ws) ≡ f r + total f ws
unfolding put_in_order
total_put f r ws = total_insert f (place_of r ws) r ws

pub count_put : (test : Request → Bool) (r : Request) (ws : List Request)
    → count_if test (put_in_order r ws) ≡ to_number (test r) + count_if test ws
count_put test r ws =
    omega (
      arith,
      count_total test (put_in_order r ws),
      count_total test ws,
      total_put (λ (w : Request). to_number (test w)) r ws,
    )

pub count_remove : (test : Request → Bool) (k : ℕ) (z : Request) (ws : List Request) → k < length ws
    → count_if test ws ≡ to_number (test (get_or ws k z)) + count_if test (remove_at k ws)
count_remove test k z ws h =
    omega (
      arith,
      count_total test ws,
      count_total test (remove_at k ws),
      total_remove (λ (w : Request). to_number (test w)) k z ws h,
    )

pub all_put : (p : Request → Type 0) (r : Request) (ws : List Request) → p r → All p ws → All p (put_in_order r ws)
unfolding put_in_order
all_put p r ws h a = all_insert p (place_of r ws) r ws h a

pub length_put : (r : Request) (ws : List Request) → length (put_in_order r ws) ≡ suc (length ws)
unfolding put_in_order
length_put r ws = length_insert (place_of r ws) r ws

pub get_d_put : (r z : Request) (ws : List Request) → get_or (put_in_order r ws) (place_of r ws) z ≡ r
unfolding put_in_order
get_d_put r z ws = get_d_insert (place_of r ws) r z ws (place_most r ws)

pub remove_put : (r : Request) (ws : List Request) → remove_at (place_of r ws) (put_in_order r ws) ≡ ws
unfolding put_in_order
remove_put r ws = remove_insert (place_of r ws) r ws (place_most r ws)

-- a request with a larger number that does not come behind the first of these in chart order comes before all of them
before_all : (r w : Request) (ws : List Request) → w.number < r.number → All (Before w) ws → After w r → All (Before r) (w ∷ ws)
before_all r w ws n a h = (first h, all_imp (Before w) (Before r) ws (λ v g. before_trans r w v (first h) g) a)
  where
    first : After w r → Before r w
    first (later l) = earlier l
    first (alike_later e l) = absurd (omega arith)

-- one that comes before r is not counted
shift_before : (r w : Request) (ws : List Request) → Before w r → shift_of r (w ∷ ws) ≡ shift_of r ws
unfolding count_if
shift_before r w ws h = go (comes_before r w) (compared r w)
  where
    go : (x : Bool) → Compared r w x → to_number x + count_if (comes_before r) ws ≡ count_if (comes_before r) ws
    go true (before g) = absurd (not_both r w g (behind h))
      where
        behind : Before w r → After r w
        behind (earlier l) = later l
        behind (alike e n) = alike_later e (omega arith)
    go false (after g) = omega arith

-- where r comes before all of these, all are
shift_all : (r : Request) (ws : List Request) → All (Before r) ws → shift_of r ws ≡ length ws
unfolding count_if
shift_all r [] a = refl
shift_all r (w ∷ ws) a =
    let e : count_if (comes_before r) ws ≡ length ws = shift_all r ws a.1 in
    rw (before_test r w a.0) (omega arith)

-- of these in chart order a request with a larger number comes behind the first ones, as many as its place says, and before the others
pub place_and_shift : (r : Request) (ws : List Request) → All (λ (w : Request). w.number < r.number) ws → InOrder ws
    → place_of r ws + shift_of r ws ≡ length ws
unfolding place_of
place_and_shift r [] a o = omega (arith, shift_most r [])
place_and_shift r (w ∷ ws) a o = go (comes_before w r) (compared w r) (place_and_shift r ws a.1 o.1)
  where
    go : (x : Bool) → Compared w r x → place_of r ws + shift_of r ws ≡ length ws
        → cond x (suc (place_of r ws)) 0 + shift_of r (w ∷ ws) ≡ suc (length ws)
    go true (before h) e = omega (arith, shift_before r w ws h)
    go false (after h) e = omega (arith, shift_all r (w ∷ ws) (before_all r w ws a.0 o.0 h))

-- a request with a number that none of the others has comes before or behind each of them
pub order_put : (r : Request) (ws : List Request) → All (λ (w : Request). w.number < r.number) ws → InOrder ws
    → InOrder (put_in_order r ws)
order_put r [] a o = rw one (tt, tt)
  where
    one : put_in_order r [] ≡ r ∷ []
    one = unfold put_in_order place_of in refl
order_put r (w ∷ ws) a o = rw (put_cons r w ws) (go (comes_before w r) (compared w r) (order_put r ws a.1 o.1))
  where
    go : (x : Bool) → Compared w r x → InOrder (put_in_order r ws) → InOrder (cond x (w ∷ put_in_order r ws) (r ∷ w ∷ ws))
    go true (before h) q = (all_put (Before w) r ws h o.0, q)
    go false (after h) q = (before_all r w ws a.0 o.0 h, o)
