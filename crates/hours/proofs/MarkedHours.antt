-- The marks of the hours as bits of four numbers, and of three words: single ones, and how many are 1. Assumes nothing.
use Prim.Native.Nat.{ℕ, zero, suc, ◌+◌, ◌-◌, ◌*◌, ◌/◌, ◌%◌, ◌^◌, ◌≤◌, ◌<◌}
use mathlib.Core.Path.{◌≡◌, ap, sym, ◌∙◌}
use mathlib.Core.Bool.{Bool, true, ◌&&◌}
use native.Mathlib.Omega.{arith}
use Rattle.std.proofs.lemmas.Nat.{zero_from_ones}
use native.Mathlib.Nat.{pow-suc, div-one, div-eq_of_lt}
use borrow.Author.Tests.{eqb-true, lt-ltb, le-ltb}
use lib.Dec.{eqb, lit<}
use lib.Count.{ones, ones_step, ones-le}
use lib.Pow.{pow_pos, ones_split, ones_lt, high, shr-shr}
use Rattle.slots.proofs.Laws.Tests.{Order, le, gt, order}
use Rattle.spec.specs.declared.types.Setup.{Setup}
use Rattle.spec.specs.Tables.{hours}
use Rattle.spec.specs.Hours.{bit, mark_of, sum_from, open_hours}
use Rattle.spec.proofs.Laws.Every.{and_left, and_right}
use Rattle.spec.proofs.Laws.Room.{sum_most, bit_most, mark_most}
use Rattle.hours.specs.Week.{are_all_open, last_word}
use Rattle.hours.proofs.Sums.{sum_split, sum_suc, sum_same}

-- ---- in which number an hour has its mark
module _ (setup : Setup) (hour : ℕ) where
  pub mark_0 : hour < 64 → mark_of setup hour ≡ bit setup.marks0 (63 - hour)
  unfolding mark_of
  mark_0 l = rw (lt-ltb hour 64 l)

  pub mark_64 : 64 ≤ hour → hour < 128 → mark_of setup hour ≡ bit setup.marks64 (127 - hour)
  unfolding mark_of
  mark_64 h l = rw (le-ltb hour 64 h, lt-ltb hour 128 l)

  pub mark_128 : 128 ≤ hour → hour < 160 → mark_of setup hour ≡ bit setup.marks128 (159 - hour)
  unfolding mark_of
  mark_128 h l = rw (le-ltb hour 64 (omega arith), le-ltb hour 128 h, lt-ltb hour 160 l)

  pub mark_160 : 160 ≤ hour → mark_of setup hour ≡ bit setup.marks160 (167 - hour)
  unfolding mark_of
  mark_160 h = rw (le-ltb hour 64 (omega arith), le-ltb hour 128 (omega arith), le-ltb hour 160 h)

-- ---- .. and in which of three, where the last two are one: 128 hours are before it, and behind its bits come 24 more
-- bits below do not matter to one above them
bit_above : (x low k j : ℕ) → low < 2 ^ k → bit (x * 2 ^ k + low) (k + j) ≡ bit x j
bit_above x low k j l = ap (λ (y : ℕ). y % 2) (sym (shr-shr (x * 2 ^ k + low) k j)) ∙ ap (λ (y : ℕ). y / 2 ^ j % 2) (high x k l)

-- .. nor do bits above to one below them
bit_half : (x k : ℕ) → bit x (suc k) ≡ bit (x / 2) k
bit_half x k = let e : suc k ≡ 1 + k = omega arith in rw e (ap (λ (y : ℕ). y % 2) (sym (shr-shr x 1 k)))

bit_below : (x low n k : ℕ) → k < n → bit (x * 2 ^ n + low) k ≡ bit low k
bit_below x low zero k l = absurd (omega arith)
bit_below x low (suc n) zero l =
    let p : x * 2 ^ suc n ≡ x * 2 ^ n * 2 = ap (λ (y : ℕ). x * y) (pow-suc 2 n) ∙ omega arith in
    omega (arith, p, div-one (x * 2 ^ suc n + low), div-one low)
bit_below x low (suc n) (suc k) l =
    let p : x * 2 ^ suc n ≡ x * 2 ^ n * 2 = ap (λ (y : ℕ). x * y) (pow-suc 2 n) ∙ omega arith in
    let q : (x * 2 ^ suc n + low) / 2 ≡ x * 2 ^ n + low / 2 = omega (arith, p) in
    bit_half (x * 2 ^ suc n + low) k ∙ ap (λ (y : ℕ). bit y k) q ∙ bit_below x (low / 2) n k (omega arith) ∙ sym (bit_half low k)

module _ (setup : Setup) (hour : ℕ) where
  pub word_0 : hour < 64 → bit setup.marks0 (63 - hour % 64) ≡ mark_of setup hour
  word_0 l = let e : 63 - hour % 64 ≡ 63 - hour = omega arith in rw e (sym (mark_0 setup hour l))

  pub word_64 : 64 ≤ hour → hour < 128 → bit setup.marks64 (63 - hour % 64) ≡ mark_of setup hour
  word_64 h l = let e : 63 - hour % 64 ≡ 127 - hour = omega arith in rw e (sym (mark_64 setup hour h l))

  pub word_128 : 128 ≤ hour → hour < hours → setup.marks160 < 2 ^ 8
      → bit (last_word setup) (63 - hour % 64) ≡ mark_of setup hour
  word_128 h l fits =
      let word : ℕ = setup.marks128 * 2 ^ 8 + setup.marks160 in
      let e : 63 - hour % 64 ≡ 24 + (167 - hour) = omega arith in
      let g : last_word setup ≡ word * 2 ^ 24 + 0 = omega arith in
      rw (e, g) (bit_above word 0 24 (167 - hour) (lit< tt) ∙ go (order 160 hour))
    where
      go : Order 160 hour → bit (setup.marks128 * 2 ^ 8 + setup.marks160) (167 - hour) ≡ mark_of setup hour
      go (le k) = bit_below setup.marks128 setup.marks160 8 (167 - hour) (omega arith) ∙ sym (mark_160 setup hour k)
      go (gt k) =
          let j : 167 - hour ≡ 8 + (159 - hour) = omega arith in
          rw j (bit_above setup.marks128 setup.marks160 8 (159 - hour) fits ∙ sym (mark_128 setup hour h k))

-- ---- every hour is open: each bit of the largest number of n bits is 1
odd : (j : ℕ) → (2 ^ suc j - 1) % 2 ≡ 1
odd j = omega (arith, pow-suc 2 j, pow_pos j)

full_above : (j k : ℕ) → bit (2 ^ (suc j + k) - 1) k ≡ 1
full_above j k =
    ap (λ (x : ℕ). x / 2 ^ k % 2) (ones_split (suc j) k) ∙ ap (λ (x : ℕ). x % 2) (high (2 ^ suc j - 1) k (ones_lt k)) ∙ odd j

full : (x n k : ℕ) → x ≡ 2 ^ n - 1 → k < n → bit x k ≡ 1
full x n k g l =
    let e : n ≡ suc (n - suc k) + k = omega arith in
    ap (λ (y : ℕ). bit y k) g ∙ ap (λ (y : ℕ). bit (2 ^ y - 1) k) e ∙ full_above (n - suc k) k

all_four : (a b c d : Bool) → a && b && (c && d) ≡ true → (a ≡ true) × (b ≡ true) × (c ≡ true) × (d ≡ true)
all_four a b c d e =
    let p = and_left (a && b) (c && d) e in
    let q = and_right (a && b) (c && d) e in
    (and_left a b p, and_right a b p, and_left c d q, and_right c d q)

module _ (setup : Setup) (all : are_all_open setup ≡ true) where
  four : (eqb setup.marks0 18446744073709551615 ≡ true) × (eqb setup.marks64 18446744073709551615 ≡ true)
      × (eqb setup.marks128 4294967295 ≡ true) × (eqb setup.marks160 255 ≡ true)
  unfolding are_all_open
  four =
      all_four
      (eqb setup.marks0 18446744073709551615)
      (eqb setup.marks64 18446744073709551615)
      (eqb setup.marks128 4294967295)
      (eqb setup.marks160 255)
      all

  pub all_open_mark : (hour : ℕ) → hour < hours → mark_of setup hour ≡ 1
  all_open_mark hour l =
      elim (order 64 hour) [
        | gt a ↦
            mark_0 setup hour a
            ∙ full setup.marks0 64 (63 - hour) (eqb-true setup.marks0 18446744073709551615 four.0) (omega arith)
        | le a ↦ elim (order 128 hour) [
          | gt b ↦
              mark_64 setup hour a b
              ∙ full setup.marks64 64 (127 - hour) (eqb-true setup.marks64 18446744073709551615 four.1) (omega arith)
          | le b ↦ elim (order 160 hour) [
            | gt c ↦
                mark_128 setup hour b c
                ∙ full setup.marks128 32 (159 - hour) (eqb-true setup.marks128 4294967295 four.2) (omega arith)
            | le c ↦
                mark_160 setup hour c
                ∙ full setup.marks160 8 (167 - hour) (eqb-true setup.marks160 255 four.3) (omega arith)
          ]
        ]
      ]

-- ---- how many bits are 1
-- how many of the highest n bits of a word
abbrev pub highest : ℕ → ℕ → ℕ
highest word n = sum_from (λ k. bit word (63 - k)) 0 n

no_ones : ones 0 ≡ 0
no_ones = omega (arith, ones-le 0 0 (lit< tt))

pub highest_ones : (word n : ℕ) → n ≤ 64 → word < 2 ^ 64 → ones (word / 2 ^ (64 - n)) ≡ highest word n
unfolding sum_from
highest_ones word zero l b =
    let e : 64 - 0 ≡ 64 = omega arith in
    ap (λ (y : ℕ). ones (word / 2 ^ y)) e ∙ ap ones (div-eq_of_lt b) ∙ no_ones
highest_ones word (suc n) l b =
    let e : 64 - suc n + 1 ≡ 64 - n = omega arith in
    let g : 64 - suc n ≡ 63 - (0 + n) = omega arith in
    omega (
      arith,
      ones_step (word / 2 ^ (64 - suc n)),
      ap ones (shr-shr word (64 - suc n) 1),
      ap (λ (y : ℕ). ones (word / 2 ^ y)) e,
      ap (bit word) g,
      highest_ones word n (omega arith) b,
      sum_suc (λ k. bit word (63 - k)) 0 n,
    )

pub highest_most : (word n : ℕ) → highest word n ≤ n
highest_most word n = sum_most (λ k. bit word (63 - k)) (λ k. bit_most word (63 - k)) 0 n

-- of all bits
all_ones : (word : ℕ) → word < 2 ^ 64 → highest word 64 ≡ ones word
all_ones word b = sym (highest_ones word 64 (omega arith) b) ∙ ap ones (div-one word)

-- ---- how many of the first n hours are open, word by word
module _ (setup : Setup) where
  -- the hours from a on, so many, have their marks in the highest bits of a word
  abbrev pub Holds : (a word most : ℕ) → Type 0
  Holds a word most = (k : ℕ) → k < most → mark_of setup (a + k) ≡ bit word (63 - (0 + k))

  pub holds_0 : Holds 0 setup.marks0 64
  holds_0 k l =
      let e : (0 + k) % 64 ≡ 0 + k = omega arith in
      sym (rw e at (word_0 setup (0 + k) (omega arith)))

  pub holds_64 : Holds 64 setup.marks64 64
  holds_64 k l =
      let e : (64 + k) % 64 ≡ 0 + k = omega arith in
      sym (rw e at (word_64 setup (64 + k) (omega arith) (omega arith)))

  pub holds_128 : setup.marks160 < 2 ^ 8 → Holds 128 (last_word setup) 40
  holds_128 fits k l =
      let e : (128 + k) % 64 ≡ 0 + k = omega arith in
      sym (rw e at (word_128 setup (128 + k) (omega arith) (omega arith) fits))

  held : (a word most n : ℕ) → Holds a word most → n ≤ most → sum_from (mark_of setup) a n ≡ highest word n
  held a word most n h l = sum_same (mark_of setup) (λ k. bit word (63 - k)) a 0 n (λ k m. h k (omega arith))

  pub behind : (a word most n : ℕ) → Holds a word most → a ≤ n → n - a ≤ most
      → sum_from (mark_of setup) 0 n ≡ sum_from (mark_of setup) 0 a + highest word (n - a)
  behind a word most n h l b =
      let e : n ≡ a + (n - a) = omega arith in
      let g : 0 + a ≡ a = omega arith in
      ap (sum_from (mark_of setup) 0) e ∙ sum_split (mark_of setup) 0 a (n - a)
      ∙ ap (λ (x : ℕ). sum_from (mark_of setup) 0 a + sum_from (mark_of setup) x (n - a)) g
      ∙ ap (λ (x : ℕ). sum_from (mark_of setup) 0 a + x) (held a word most (n - a) h b)

  pub among_0 : (n : ℕ) → n ≤ 64 → sum_from (mark_of setup) 0 n ≡ highest setup.marks0 n
  among_0 n l = held 0 setup.marks0 64 n holds_0 l

  pub among_64 : (n : ℕ) → 64 ≤ n → n ≤ 128
      → sum_from (mark_of setup) 0 n ≡ highest setup.marks0 64 + highest setup.marks64 (n - 64)
  among_64 n h l =
      omega (arith, behind 64 setup.marks64 64 n holds_64 h (omega arith), among_0 64 (omega arith))

  pub among_128 : (n : ℕ) → 128 ≤ n → n ≤ hours → setup.marks160 < 2 ^ 8
      → sum_from (mark_of setup) 0 n
      ≡ highest setup.marks0 64 + highest setup.marks64 64 + highest (last_word setup) (n - 128)
  among_128 n h l fits =
      omega (
        arith,
        behind 128 (last_word setup) 40 n (holds_128 fits) h (omega arith),
        among_64 128 (omega arith) (omega arith),
      )

  pub among_most : (n : ℕ) → sum_from (mark_of setup) 0 n ≤ n
  among_most n = sum_most (mark_of setup) (mark_most setup) 0 n

-- ---- every hour is closed just where the four numbers are 0
module _ (setup : Setup) (fits0 : setup.marks0 < 2 ^ 64) (fits64 : setup.marks64 < 2 ^ 64) (fits128 : setup.marks128 < 2 ^ 32)
    (fits160 : setup.marks160 < 2 ^ 8) where
  last_ones : highest (last_word setup) 40 ≡ ones (setup.marks128 * 256 + setup.marks160)
  last_ones =
      let e : last_word setup / 2 ^ (64 - 40) ≡ setup.marks128 * 256 + setup.marks160 = omega arith in
      sym (highest_ones (last_word setup) 40 (omega arith) (omega arith)) ∙ ap ones e

  open_ones : open_hours setup ≡ ones setup.marks0 + ones setup.marks64 + ones (setup.marks128 * 256 + setup.marks160)
  open_ones =
      omega (
        arith,
        among_128 setup hours (omega arith) (omega arith) fits160,
        all_ones setup.marks0 fits0,
        all_ones setup.marks64 fits64,
        last_ones,
      )

  pub all_zero : open_hours setup ≡ 0 → (setup.marks0 ≡ 0) × (setup.marks64 ≡ 0) × (setup.marks128 ≡ 0) × (setup.marks160 ≡ 0)
  all_zero none =
      let last = zero_from_ones (setup.marks128 * 256 + setup.marks160) (omega (arith, open_ones)) in (
        zero_from_ones setup.marks0 (omega (arith, open_ones)),
        zero_from_ones setup.marks64 (omega (arith, open_ones)),
        omega (arith, last),
        omega (arith, last),
      )

  pub none_open : setup.marks0 ≡ 0 → setup.marks64 ≡ 0 → setup.marks128 ≡ 0 → setup.marks160 ≡ 0 → open_hours setup ≡ 0
  none_open a b c d =
      let last : setup.marks128 * 256 + setup.marks160 ≡ 0 = omega arith in
      omega (arith, open_ones, ap ones a, ap ones b, ap ones last, no_ones)
