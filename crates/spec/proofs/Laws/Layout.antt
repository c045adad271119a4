-- Laws of a client table's records as one list of numbers, both ways. Assumes nothing.
use Prim.Native.Nat.{ℕ, zero, suc, ◌+◌, ◌*◌, ◌≤◌, ◌<◌}
use mathlib.Core.Path.{◌≡◌, refl, ap}
use mathlib.Core.List.{List, [], ◌∷◌}
use native.Mathlib.Omega.{arith}
use lib.ListN.{length, get_or, replicate}
use Rattle.spec.specs.declared.types.Counts.{Counts}
use Rattle.spec.specs.Tables.{zero_counts, client_width, record_of, record_then, records_of, numbers_of}

-- ---- how many
-- the index of a record's first number, and of another, in the records behind the first
pub next_first : (i : ℕ) → client_width * suc i ≡ suc (suc (suc (client_width * i)))
next_first i = omega arith

pub next_other : (i n : ℕ) → client_width * suc i + n ≡ suc (suc (suc (client_width * i + n)))
next_other i n = omega arith

pub length_records : (xs : List ℕ)
    → (client_width * length (records_of xs) ≤ length xs) × (length xs < client_width * suc (length (records_of xs)))
unfolding records_of
length_records [] = (omega arith, omega arith)
length_records (a ∷ []) = (omega arith, omega arith)
length_records (a ∷ b ∷ []) = (omega arith, omega arith)
length_records (a ∷ b ∷ c ∷ xs) = (omega (arith, (length_records xs).0), omega (arith, (length_records xs).1))

pub length_numbers : (cs : List Counts) → length (numbers_of cs) ≡ client_width * length cs
unfolding numbers_of
length_numbers [] = refl
length_numbers (k ∷ cs) = omega (arith, length_numbers cs)

-- ---- both ways
pub records_numbers : (cs : List Counts) → records_of (numbers_of cs) ≡ cs
unfolding records_of numbers_of
records_numbers [] = refl
records_numbers (k ∷ cs) = ap (λ (l : List Counts). k ∷ l) (records_numbers cs)

-- numbers that are whole records, and no number more
pub numbers_records : (xs : List ℕ) → length xs ≡ client_width * length (records_of xs) → numbers_of (records_of xs) ≡ xs
unfolding records_of numbers_of
numbers_records [] e = refl
numbers_records (a ∷ []) e = absurd (omega arith)
numbers_records (a ∷ b ∷ []) e = absurd (omega arith)
numbers_records (a ∷ b ∷ c ∷ xs) e = ap (λ (l : List ℕ). a ∷ b ∷ c ∷ l) (numbers_records xs (omega arith))

-- so many whole records have that many times the width of numbers
pub whole_records : (xs : List ℕ) (n : ℕ) → length xs ≡ client_width * n → length (records_of xs) ≡ n
whole_records xs n e = omega (arith, (length_records xs).0, (length_records xs).1)

-- ---- a record, and records that are zero
pub get_d_records : (xs : List ℕ) (i : ℕ) → client_width * i + 2 < length xs
    → get_or (records_of xs) i zero_counts
    ≡ record_of (get_or xs (client_width * i) 0) (get_or xs (client_width * i + 1) 0) (get_or xs (client_width * i + 2) 0)
unfolding records_of
get_d_records [] i h = absurd (omega arith)
get_d_records (a ∷ []) i h = absurd (omega arith)
get_d_records (a ∷ b ∷ []) i h = absurd (omega arith)
get_d_records (a ∷ b ∷ c ∷ xs) zero h = refl
get_d_records (a ∷ b ∷ c ∷ xs) (suc i) h =
    rw (next_other i 1, next_other i 2, next_first i) (get_d_records xs i (omega arith))

pub numbers_zero : (n : ℕ) → replicate (client_width * n) 0 ≡ numbers_of (replicate n zero_counts)
unfolding numbers_of
numbers_zero zero = refl
numbers_zero (suc n) = rw (next_first n) (ap (record_then zero_counts) (numbers_zero n))
