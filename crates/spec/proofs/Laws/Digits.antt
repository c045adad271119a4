-- The digits of a printed line: they hold no line feed, and each field's value is read back. Assumes nothing.
use Prim.Native.Nat.{ℕ, zero, suc, ◌+◌, ◌-◌, ◌*◌, ◌/◌, ◌%◌, ◌^◌, ◌≤◌, ◌<◌}
use mathlib.Core.Path.{◌≡◌, refl, sym, ap, ◌∙◌}
use mathlib.Core.Bool.{Bool, true, false, cond}
use mathlib.Core.List.{List, [], ◌∷◌, ◌++◌}
use native.Mathlib.Nat.{pow-suc}
use native.Mathlib.Omega.{arith}
use borrow.Author.Tests.{ne_eqb, ltb-true, ltb-false, le-leb, lt-leb}
use lib.Dec.{ltb, eqb}
use lib.ListN.{length, take, drop, length-append}
use lib.Seq.{take_at, drop_at, drop-drop}
use Rattle.slots.proofs.Laws.Sums.{All, all_append}
use Rattle.spec.specs.Calls.Readings.{Field}
use Rattle.spec.specs.Lines.Frames.{line_feed, digit_of, character_of, number_from, field_at, digits, field_digits}
use Rattle.spec.proofs.Demands.Words.{FitsField}

-- ---- no line feed
abbrev pub Clean : List ℕ → Type 0
Clean xs = All (λ (x : ℕ). eqb x line_feed ≡ false) xs

character_clean : (v : ℕ) → eqb (character_of v) line_feed ≡ false
unfolding character_of
character_clean v = go (ltb v 10)
  where
    go : (b : Bool) → eqb (cond b (0x30 + v) (0x41 + v - 10)) line_feed ≡ false
    go true = ne_eqb (0x30 + v) line_feed (omega arith)
    go false = ne_eqb (0x41 + v - 10) line_feed (omega arith)

pub digits_clean : (n v : ℕ) → Clean (digits n v)
unfolding digits
digits_clean zero v = tt
digits_clean (suc n) v =
    all_append (λ (x : ℕ). eqb x line_feed ≡ false) (digits n (v / 16)) (character_of (v % 16) ∷ [])
    (digits_clean n (v / 16)) (character_clean (v % 16), tt)

pub fields_clean : (fs : List Field) → Clean (field_digits fs)
unfolding field_digits
fields_clean [] = tt
fields_clean (f ∷ fs) =
    all_append (λ (x : ℕ). eqb x line_feed ≡ false) (digits (2 * f.width) f.value) (field_digits fs)
    (digits_clean (2 * f.width) f.value) (fields_clean fs)

-- ---- a number's digits
pub length_digits : (n v : ℕ) → length (digits n v) ≡ n
unfolding digits
length_digits zero v = refl
length_digits (suc n) v =
    omega (arith, length-append (digits n (v / 16)) (character_of (v % 16) ∷ []), length_digits n (v / 16))

number_append : (before : ℕ) (xs ys : List ℕ) → number_from before (xs ++ ys) ≡ number_from (number_from before xs) ys
unfolding number_from
number_append before [] ys = refl
number_append before (x ∷ xs) ys = number_append (before * 16 + digit_of x) xs ys

decimal_character : (v : ℕ) → v < 10 → digit_of (0x30 + v) ≡ v
unfolding digit_of
decimal_character v l = rw (le-leb 0x30 (0x30 + v) (omega arith), le-leb (0x30 + v) 0x39 (omega arith)) (omega arith)

letter_character : (v : ℕ) → 10 ≤ v → v < 16 → digit_of (55 + v) ≡ v
unfolding digit_of
letter_character v l h =
    rw (
      le-leb 0x30 (55 + v) (omega arith),
      lt-leb (55 + v) 0x39 (omega arith),
      le-leb 0x41 (55 + v) (omega arith),
      le-leb (55 + v) 0x46 (omega arith),
    ) (omega arith)

digit_character : (v : ℕ) → v < 16 → digit_of (character_of v) ≡ v
unfolding character_of
digit_character v h = go (ltb v 10) refl
  where
    go : (b : Bool) → ltb v 10 ≡ b → digit_of (cond b (0x30 + v) (0x41 + v - 10)) ≡ v
    go true e = decimal_character v (ltb-true v 10 e)
    go false e =
        let x : 0x41 + v - 10 ≡ 55 + v = omega arith in
        rw x (letter_character v (ltb-false v 10 e) h)

pub number_digits : (n v : ℕ) → v < 16 ^ n → number_from 0 (digits n v) ≡ v
unfolding digits number_from
number_digits zero v h = omega (arith, h)
number_digits (suc n) v h =
    number_append 0 (digits n (v / 16)) (character_of (v % 16) ∷ [])
    ∙ omega (
      arith,
      number_digits n (v / 16) (omega (arith, h, pow-suc 16 n)),
      digit_character (v % 16) (omega arith),
    )

-- ---- fields
bytes_digits : (w : ℕ) → 256 ^ w ≡ 16 ^ (2 * w)
bytes_digits zero = refl
bytes_digits (suc w) =
    let d : 2 * suc w ≡ suc (suc (2 * w)) = omega arith in
    rw d (omega (arith, bytes_digits w, pow-suc 256 w, pow-suc 16 (suc (2 * w)), pow-suc 16 (2 * w)))

-- the fields of a line from a byte on have these values
abbrev pub FieldsRead : ℕ → List ℕ → List Field → Type 0
FieldsRead from line [] = Unit {0}
FieldsRead from line (f ∷ fs) = (field_at from f.width line ≡ f.value) × FieldsRead (from + f.width) line fs

pub reads_back : (from : ℕ) (line : List ℕ) (fs : List Field) → drop (2 * from) line ≡ field_digits fs → All FitsField fs
    → FieldsRead from line fs
unfolding field_digits
reads_back from line [] e a = tt
reads_back from line (f ∷ fs) e a =
    let n = 2 * f.width in
    let ds = digits n f.value in
    let l : length ds ≡ n = length_digits n f.value in
    let d : 2 * (from + f.width) ≡ 2 * from + n = omega arith in (
      ap (λ (l : List ℕ). number_from 0 (take n l)) e
          ∙ ap (number_from 0) (take_at ds (field_digits fs) n l)
          ∙ number_digits n f.value (omega (arith, a.0, bytes_digits f.width)),
      reads_back (from + f.width) line fs
          (rw d (sym (drop-drop n (2 * from) line) ∙ ap (drop n) e ∙ drop_at ds (field_digits fs) n l)) a.1,
    )
