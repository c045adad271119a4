-- The laws of sums: f of each of n numbers from a on, added up. Assumes nothing.
use Prim.Native.Nat.{ℕ, zero, suc, ◌+◌, ◌*◌, ◌<◌}
use mathlib.Core.Path.{◌≡◌, refl, ap}
use native.Mathlib.Omega.{arith}
use native.Mathlib.Nat.{mul_comm}
use Rattle.slots.proofs.Queue.{opens}
use Rattle.slots.proofs.Laws.Count.{opens_suc}
use Rattle.spec.specs.Hours.{sum_from}

module _ (f : ℕ → ℕ) where
  -- the first numbers, and the others behind them
  pub sum_split : (a m n : ℕ) → sum_from f a (m + n) ≡ sum_from f a m + sum_from f (a + m) n
  unfolding sum_from
  sum_split a zero n =
      let e : zero + n ≡ n = omega arith in
      let g : a + zero ≡ a = omega arith in
      rw (e, g) (omega arith)
  sum_split a (suc m) n =
      let e : suc m + n ≡ suc (m + n) = omega arith in
      let g : suc a + m ≡ a + suc m = omega arith in
      rw e (omega (arith, sum_split (suc a) m n, ap (λ (x : ℕ). sum_from f x n) g))

  sum_single : (a : ℕ) → sum_from f a 1 ≡ f a
  unfolding sum_from
  sum_single a = omega arith

  -- one number more
  pub sum_suc : (a n : ℕ) → sum_from f a (suc n) ≡ sum_from f a n + f (a + n)
  sum_suc a n =
      let e : suc n ≡ n + 1 = omega arith in
      omega (arith, ap (sum_from f a) e, sum_split a n 1, sum_single (a + n))

  pub sum_opens : (n : ℕ) → sum_from f 0 n ≡ opens f n
  unfolding sum_from opens
  sum_opens zero = refl
  sum_opens (suc n) =
      let e : 0 + n ≡ n = omega arith in
      omega (arith, sum_suc 0 n, ap f e, sum_opens n, opens_suc f n)

  -- the same number each time
  pub sum_constant : (v a n : ℕ) → ((k : ℕ) → k < n → f (a + k) ≡ v) → sum_from f a n ≡ v * n
  unfolding sum_from
  sum_constant v a zero same = omega arith
  sum_constant v a (suc n) same =
      omega (
        arith,
        sum_suc a n,
        same n (omega arith),
        sum_constant v a n (λ k l. same k (omega arith)),
        mul_comm v (suc n),
        mul_comm v n,
      )

-- two sums of the same numbers
pub sum_same : (f g : ℕ → ℕ) (a b n : ℕ) → ((k : ℕ) → k < n → f (a + k) ≡ g (b + k)) → sum_from f a n ≡ sum_from g b n
unfolding sum_from
sum_same f g a b zero same = refl
sum_same f g a b (suc n) same =
    omega (
      arith,
      sum_suc f a n,
      sum_suc g b n,
      same n (omega arith),
      sum_same f g a b n (λ k l. same k (omega arith)),
    )
