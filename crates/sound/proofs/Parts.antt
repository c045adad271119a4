-- Laws of the count per client: the sum of its parts, one more request counted, and how many more can be. Assumes nothing.
use Prim.Native.Nat.{ℕ, zero, suc, ◌+◌, ◌≤◌, ◌<◌}
use mathlib.Core.Path.{◌≡◌, refl}
use mathlib.Core.List.{List}
use mathlib.Core.Logic.{◌≢◌}
use native.Mathlib.Decide.{ℕ_discrete}
use native.Mathlib.Omega.{arith}
use lib.ListN.{length, get_or, replicate, get_or-replicate}
use lib.Seq.{get_or-set_same, get_or-set_other}
use Rattle.spec.specs.declared.types.Request.{Request}
use Rattle.spec.specs.Tables.{most_clients}
use Rattle.spec.proofs.Laws.Clients.{of, of_yes, of_no}
use Rattle.table.specs.Widths.{largest16}
use Rattle.sound.specs.Checks.{parts, tally_size, tally_place, sum_below, tallied_of, one_more, Countable}

-- ---- f of each number below n, added up
sum_same : (n : ℕ) (f g : ℕ → ℕ) → ((p : ℕ) → p < n → g p ≡ f p) → sum_below n g ≡ sum_below n f
sum_same zero f g same = refl
sum_same (suc n) f g same = omega (arith, sum_same n f g (λ p l. same p (omega arith)), same n (omega arith))

-- none is larger than the sum
pub sum_most : (n : ℕ) (f : ℕ → ℕ) (p : ℕ) → p < n → f p ≤ sum_below n f
sum_most zero f p l = absurd (omega arith)
sum_most (suc n) f p l =
    elim (ℕ_discrete n p) [
      | yes e ↦ rw e (omega arith)
      | no d ↦ omega (arith, sum_most n f p (omega arith))
    ]

-- where one is larger by x, so is the sum
sum_more : (n : ℕ) (f g : ℕ → ℕ) (p x : ℕ) → p < n → g p ≡ f p + x → ((q : ℕ) → q ≢ p → g q ≡ f q)
    → sum_below n g ≡ sum_below n f + x
sum_more zero f g p x l more same = absurd (omega arith)
sum_more (suc n) f g p x l more same =
    elim (ℕ_discrete n p) [
      | yes e ↦ rw e (omega (arith, sum_same p f g (λ q m. same q (λ d. omega arith))))
      | no d ↦ omega (arith, sum_more n f g p x (omega arith) more same, same n d)
    ]

-- ---- one more request counted, in any part: it is one more of its client's, and of no other's
more_here : (tally : List ℕ) (p q : ℕ) → q ≡ p → p < length tally → get_or (one_more p tally) q 0 ≡ get_or tally q 0 + 1
more_here tally p q e h = rw e (get_or-set_same tally p (get_or tally p 0 + 1) 0 h)

more_elsewhere : (tally : List ℕ) (p q : ℕ) → q ≢ p → get_or (one_more p tally) q 0 ≡ get_or tally q 0
more_elsewhere tally p q e = get_or-set_other tally p q (get_or tally p 0 + 1) 0 e

module _ (part : ℕ) (w : Request) (in-part : part < parts) (owned : w.client < most_clients) where
  pub counted_more : (tally : List ℕ) → length tally ≡ tally_size → (c : ℕ) → c < most_clients
      → tallied_of (one_more (tally_place part w.client) tally) c ≡ tallied_of tally c + of c w
  counted_more tally size c l =
      sum_more parts (λ q. get_or tally (tally_place q c) 0)
      (λ q. get_or (one_more (tally_place part w.client) tally) (tally_place q c) 0) part (of c w) in-part
      (go (ℕ_discrete c w.client))
      (λ q d. more_elsewhere tally (tally_place part w.client) (tally_place q c) (λ e. d (omega arith)))
    where
      go : Dec (c ≡ w.client)
          → get_or (one_more (tally_place part w.client) tally) (tally_place part c) 0 ≡ get_or tally (tally_place part c) 0 + of c w
      go (yes e) =
          omega (
            arith,
            more_here tally (tally_place part w.client) (tally_place part c) (omega arith) (omega arith),
            of_yes c w e,
          )
      go (no d) =
          omega (
            arith,
            more_elsewhere tally (tally_place part w.client) (tally_place part c) (λ e. d (omega arith)),
            of_no c w d,
          )

-- ---- a count of zeros
pub tally_zero : (c : ℕ) → c < most_clients → tallied_of (replicate tally_size 0) c ≡ 0
tally_zero c l =
    sum_same parts (λ q. 0) (λ q. get_or (replicate tally_size 0) (tally_place q c) 0)
    (λ q m. get_or-replicate {A = ℕ} tally_size (tally_place q c) 0 0 (omega arith))

pub zero_countable : (n : ℕ) → n ≤ largest16 → Countable n (replicate tally_size 0)
zero_countable n l =
    record { most = λ c h. omega (arith, tally_zero c h) }
