-- Laws of digits: the table of their values, fields read from the front, and fields written from the back. Assumes nothing.
use Prim.Native.Nat.{ℕ, zero, suc, ◌+◌, ◌-◌, ◌*◌, ◌/◌, ◌%◌, ◌^◌, ◌≤◌, ◌<◌}
use mathlib.Core.Path.{◌≡◌, refl}
use mathlib.Core.Bool.{Bool, true, false, cond}
use mathlib.Core.List.{List, ◌++◌, append-nil}
use native.Mathlib.Nat.{zero-add, pow-suc, pow-le-pow_right}
use native.Mathlib.Numerals.{add-one}
use native.Mathlib.Omega.{arith}
use borrow.Author.Tests.{ltb-true, ltb-false}
use lib.Dec.{ltb}
use lib.ListN.{length, get_or, take, drop, set, drop_of_length-le, length-set, length-take, length-drop}
use lib.Seq.{drop-cons, append_snoc, drop-set-lt, get_or-set_same}
use Rattle.slots.proofs.Laws.Sums.{all_take, all_drop}
use Rattle.spec.specs.Every.{every}
use Rattle.spec.specs.Lines.Frames.{digit_of, is_digit, character_of, number_from, digits}
use Rattle.spec.proofs.Laws.Every.{all_at, every_facts}
use Rattle.frame.specs.Digits.{values_from, digit_table}

-- ---- the table
length_values : (character n : ℕ) → length (values_from character n) ≡ n
unfolding values_from
length_values character zero = refl
length_values character (suc n) = omega (arith, length_values (suc character) n)

values_at_lem : (character n k : ℕ) → k < n → get_or (values_from character n) k 0 ≡ digit_of (character + k)
unfolding values_from
values_at_lem character zero k h = absurd (omega arith)
values_at_lem character (suc n) zero h = let p : character + 0 ≡ character = omega arith in rw p
values_at_lem character (suc n) (suc k) h =
    let p : character + suc k ≡ suc character + k = omega arith in rw p (values_at_lem (suc character) n k (omega arith))

pub table_length : length digit_table ≡ 256
unfolding digit_table
table_length = length_values 0 256

pub table_at : (k : ℕ) → k < 256 → get_or digit_table k 0 ≡ digit_of k
unfolding digit_table
table_at k h = rw zero-add at (values_at_lem 0 256 k h)

-- ---- a field read
-- where all characters of a line are digits, each of a part has a value below 16
pub digit_below : (line : List ℕ) (n k i : ℕ) → every is_digit line ≡ true → i < length (take n (drop k line))
    → digit_of (get_or (take n (drop k line)) i 0) < 16
digit_below line n k i e h =
    let s = take n (drop k line) in
    let each =
    all_take (λ (x : ℕ). is_digit x ≡ true) n (drop k line)
    (all_drop (λ (x : ℕ). is_digit x ≡ true) k line (every_facts is_digit line e)) in
    ltb-true (digit_of (get_or s i 0)) 16 (all_at (λ (x : ℕ). is_digit x ≡ true) s i 0 h each)

-- so many characters behind so many of a line that has them
pub part_length : (line : List ℕ) (from width : ℕ) → 2 * (from + width) ≤ length line
    → length (take (2 * (from + width) - 2 * from) (drop (2 * from) line)) ≡ 2 * width
part_length line from width h =
    omega (arith, length-take (2 * (from + width) - 2 * from) (drop (2 * from) line), length-drop (2 * from) line)

-- the number so far, and the digits left
pub number_more : (s : List ℕ) (i number : ℕ) → i < length s
    → number_from number (drop i s) ≡ number_from (number * 16 + digit_of (get_or s i 0)) (drop (i + 1) s)
unfolding number_from
number_more s i number h = rw (add-one, drop-cons s i 0 h)

pub number_whole : (s : List ℕ) (i number : ℕ) → length s ≤ i → number_from number (drop i s) ≡ number
unfolding number_from
number_whole s i number h = rw (drop_of_length-le s {i = i} h)

-- one digit more makes the number one power larger, and it fits 64 bits where they are fewer than 16
pub number_below : (i number digit : ℕ) → number < 16 ^ i → digit < 16 → number * 16 + digit < 16 ^ (i + 1)
number_below i number digit b d = rw (add-one, pow-suc) (omega arith)

pub number_fits : (i number : ℕ) → i < 16 → number < 16 ^ i → number * 16 + 16 ≤ 2 ^ 64
number_fits i number h b = omega (arith, pow-le-pow_right {n = 16} (omega arith) {i = i} {j = 15} (omega arith))

-- ---- digits written from the last one on: those of what is left of the value, before those that stand already
pub written_none : (out : List ℕ) (value : ℕ) → digits (length out) value ++ drop (length out) out ≡ digits (length out) value
written_none out value = rw (drop_of_length-le out {i = length out} (omega arith), append-nil)

pub written_more : (out : List ℕ) (j k left character : ℕ) → k ≡ suc j → k ≤ length out → character ≡ character_of (left % 16)
    → digits j (left / 16) ++ drop j (set out j character) ≡ digits k left ++ drop k out
unfolding digits
written_more out j k left character p l e =
    rw (
      p,
      drop-cons (set out j character) j 0 (omega (arith, length-set out j character)),
      get_or-set_same out j character 0 (omega arith),
      drop-set-lt (suc j) out j character (omega arith),
      e,
      append_snoc,
    )

-- ---- a character written: figures and letters by one rule
pub by_rule : (v : ℕ) → v < 16 → 48 + v + 7 * ((v + 6) / 16) ≡ character_of v
unfolding character_of
by_rule v h = go (ltb v 10) refl
  where
    go : (b : Bool) → ltb v 10 ≡ b → 48 + v + 7 * ((v + 6) / 16) ≡ cond b (0x30 + v) (0x41 + v - 10)
    go true e = let l : v < 10 = ltb-true v 10 e in omega arith
    go false e = let l : 10 ≤ v = ltb-false v 10 e in omega arith
