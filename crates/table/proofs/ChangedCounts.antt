-- Laws of numbers with records changed: the same as records with these changed. Assumes nothing.
use Prim.Native.Nat.{ℕ, zero, suc, ◌+◌, ◌*◌, ◌≤◌, ◌<◌}
use mathlib.Core.Path.{◌≡◌, refl, ap, ◌∙◌}
use mathlib.Core.Bool.{Bool, true, false, cond, ◌&&◌}
use mathlib.Core.List.{List, [], ◌∷◌, map}
use native.Mathlib.Numerals.{add-one}
use native.Mathlib.Omega.{arith}
use borrow.Author.Tests.{lt-ltb}
use lib.Dec.{ltb}
use lib.ListN.{length, get_or, set}
use Rattle.std.specs.Simd.{first_chunks}
use Rattle.spec.specs.declared.types.Counts.{Counts}
use Rattle.spec.specs.Tables.{zero_counts, client_width, record_of, record_then, records_of, numbers_of, change}
use Rattle.spec.specs.Calls.Tick.{is_period_start}
use Rattle.table.specs.declared.clients.Count.{Count}
use Rattle.table.specs.Widths.{largest32}
use Rattle.table.specs.Clients.{changed_at, changed_all, counts_of, count_of, one_more_of, one_more_unless_full, restarted_counts, restarted_numbers}
use Rattle.spec.proofs.Laws.Layout.{next_first, next_other, records_numbers}

module _ (f : Counts → Counts) where
  -- ---- as long as before
  pub length_changed_at : (i : ℕ) (xs : List ℕ) → length (changed_at f i xs) ≡ length xs
  unfolding changed_at
  length_changed_at i [] = refl
  length_changed_at i (a ∷ []) = refl
  length_changed_at i (a ∷ b ∷ []) = refl
  length_changed_at zero (a ∷ b ∷ c ∷ xs) = refl
  length_changed_at (suc i) (a ∷ b ∷ c ∷ xs) = omega (arith, length_changed_at i xs)

  -- ---- the numbers of records
  pub changed_at_numbers : (i : ℕ) (cs : List Counts) → changed_at f i (numbers_of cs) ≡ numbers_of (change f i cs)
  unfolding numbers_of changed_at change
  changed_at_numbers i [] = refl
  changed_at_numbers zero (k ∷ cs) = refl
  changed_at_numbers (suc i) (k ∷ cs) = ap (record_then k) (changed_at_numbers i cs)

  pub changed_all_numbers : (cs : List Counts) → changed_all f (numbers_of cs) ≡ numbers_of (map f cs)
  unfolding numbers_of changed_all
  changed_all_numbers [] = refl
  changed_all_numbers (k ∷ cs) = ap (record_then (f k)) (changed_all_numbers cs)

-- ---- where nothing changes, and where two changes are the same
pub changed_at_none : (f : Counts → Counts) (i : ℕ) (xs : List ℕ) → length (records_of xs) ≤ i → changed_at f i xs ≡ xs
unfolding records_of changed_at
changed_at_none f i [] h = refl
changed_at_none f i (a ∷ []) h = refl
changed_at_none f i (a ∷ b ∷ []) h = refl
changed_at_none f zero (a ∷ b ∷ c ∷ xs) h = absurd (omega arith)
changed_at_none f (suc i) (a ∷ b ∷ c ∷ xs) h = ap (λ (l : List ℕ). a ∷ b ∷ c ∷ l) (changed_at_none f i xs (omega arith))

pub changed_at_same : (f g : Counts → Counts) (i : ℕ) (xs : List ℕ)
    → f (get_or (records_of xs) i zero_counts) ≡ g (get_or (records_of xs) i zero_counts) → changed_at f i xs ≡ changed_at g i xs
unfolding records_of changed_at
changed_at_same f g i [] e = refl
changed_at_same f g i (a ∷ []) e = refl
changed_at_same f g i (a ∷ b ∷ []) e = refl
changed_at_same f g zero (a ∷ b ∷ c ∷ xs) e = ap (λ (k : Counts). record_then k xs) e
changed_at_same f g (suc i) (a ∷ b ∷ c ∷ xs) e = ap (λ (l : List ℕ). a ∷ b ∷ c ∷ l) (changed_at_same f g i xs e)

-- ---- the records as chunks of three numbers
pub chunks_records : (xs : List ℕ) (n : ℕ) → n ≡ length (records_of xs) → map counts_of (first_chunks client_width n xs) ≡ records_of xs
unfolding records_of
chunks_records xs n e = rw e (go xs)
  where
    go : (xs : List ℕ) → map counts_of (first_chunks client_width (length (records_of xs)) xs) ≡ records_of xs
    go [] = refl
    go (a ∷ []) = refl
    go (a ∷ b ∷ []) = refl
    go (a ∷ b ∷ c ∷ xs) = ap (λ (l : List Counts). record_of a b c ∷ l) (go xs)

-- ---- a record's three numbers written
pub put_changed : (xs : List ℕ) (i : ℕ) (k : Counts) → client_width * i + 2 < length xs
    → set (set (set xs (client_width * i) k.submitted) (client_width * i + 1) k.served) (client_width * i + 2) k.dropped
    ≡ changed_at (λ _. k) i xs
unfolding changed_at
put_changed [] i k h = absurd (omega arith)
put_changed (a ∷ []) i k h = absurd (omega arith)
put_changed (a ∷ b ∷ []) i k h = absurd (omega arith)
put_changed (a ∷ b ∷ c ∷ xs) zero k h = refl
put_changed (a ∷ b ∷ c ∷ xs) (suc i) k h =
    rw (next_other i 1, next_other i 2, next_first i)
    (ap (λ (l : List ℕ). a ∷ b ∷ c ∷ l) (put_changed xs i k (omega arith)))

-- ---- one more of a count
module _ (which : Count) where
  more_changed : (client : ℕ) (xs : List ℕ) → count_of which (get_or (records_of xs) client zero_counts) < largest32
      → changed_at (one_more_unless_full which) client xs ≡ changed_at (one_more_of which) client xs
  more_changed client xs h =
      changed_at_same (one_more_unless_full which) (one_more_of which) client xs
      (rw (lt-ltb (count_of which (get_or (records_of xs) client zero_counts)) largest32 h))

  pub more_numbers : (client : ℕ) (cs : List Counts) → count_of which (get_or cs client zero_counts) < largest32
      → changed_at (one_more_unless_full which) client (numbers_of cs) ≡ numbers_of (change (one_more_of which) client cs)
  more_numbers client cs h =
      more_changed client (numbers_of cs) (rw (records_numbers cs) h) ∙ changed_at_numbers (one_more_of which) client cs

-- ---- a period's start
-- the client table once the clock is this: at a period start all restart
abbrev pub restarted_at : ℕ → ℕ → List Counts → List Counts
restarted_at period clock cs = cond (ltb 0 period && is_period_start period clock) (map restarted_counts cs) cs

pub restarted_numbers_lem : (period clock : ℕ) (cs : List Counts)
    → restarted_numbers period clock (numbers_of cs) ≡ numbers_of (restarted_at period clock cs)
restarted_numbers_lem period clock cs = go (ltb 0 period && is_period_start period clock)
  where
    go : (b : Bool) → cond b (changed_all restarted_counts (numbers_of cs)) (numbers_of cs) ≡ numbers_of (cond b (map restarted_counts cs) cs)
    go true = changed_all_numbers restarted_counts cs
    go false = refl

-- ---- a loop that changes every record, from the first on: what is left to do from a record on gives the whole
module _ (f : Counts → Counts) where
  unfoldable pub changed_from : ℕ → List ℕ → List ℕ
  changed_from zero xs = changed_all f xs
  changed_from (suc i) [] = []
  changed_from (suc i) (a ∷ []) = a ∷ []
  changed_from (suc i) (a ∷ b ∷ []) = a ∷ b ∷ []
  changed_from (suc i) (a ∷ b ∷ c ∷ xs) = a ∷ b ∷ c ∷ changed_from i xs

  pub changed_start : (xs : List ℕ) → changed_from 0 xs ≡ changed_all f xs
  unfolding changed_from
  changed_start xs = refl

  pub changed_turn : (i : ℕ) (xs : List ℕ) → changed_from (i + 1) (changed_at f i xs) ≡ changed_from i xs
  unfolding changed_from changed_at changed_all
  changed_turn i xs = rw (add-one i) (turn i xs)
    where
      turn : (i : ℕ) (xs : List ℕ) → changed_from (suc i) (changed_at f i xs) ≡ changed_from i xs
      turn zero [] = refl
      turn zero (a ∷ []) = refl
      turn zero (a ∷ b ∷ []) = refl
      turn zero (a ∷ b ∷ c ∷ xs) = refl
      turn (suc i) [] = refl
      turn (suc i) (a ∷ []) = refl
      turn (suc i) (a ∷ b ∷ []) = refl
      turn (suc i) (a ∷ b ∷ c ∷ xs) = ap (λ (l : List ℕ). a ∷ b ∷ c ∷ l) (turn i xs)

  pub changed_end : (i : ℕ) (xs : List ℕ) → length (records_of xs) ≤ i → changed_from i xs ≡ xs
  unfolding records_of changed_from changed_all
  changed_end zero [] h = refl
  changed_end zero (a ∷ []) h = refl
  changed_end zero (a ∷ b ∷ []) h = refl
  changed_end zero (a ∷ b ∷ c ∷ xs) h = absurd (omega arith)
  changed_end (suc i) [] h = refl
  changed_end (suc i) (a ∷ []) h = refl
  changed_end (suc i) (a ∷ b ∷ []) h = refl
  changed_end (suc i) (a ∷ b ∷ c ∷ xs) h = ap (λ (l : List ℕ). a ∷ b ∷ c ∷ l) (changed_end i xs (omega arith))
