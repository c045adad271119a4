-- Laws of what is left of a list from a place on. Assumes nothing.
use Prim.Native.Nat.{ℕ, ◌+◌, ◌*◌, ◌≤◌, ◌<◌}
use mathlib.Core.Path.{◌≡◌}
use mathlib.Core.List.{List, [], ◌∷◌}
use native.Mathlib.Numerals.{add-one}
use native.Mathlib.Omega.{arith}
use lib.ListN.{length, get_or, take, drop, length-take, drop_of_length-le}
use lib.Seq.{drop-cons, get_or-take}
use Rattle.spec.specs.Tables.{zero_counts, client_width, records_of}
use Rattle.spec.proofs.Laws.Layout.{length_records}

-- ---- what is left of the first n entries from a place on
module _ {A : Type 0} (xs : List A) (n i : ℕ) where
  pub rest_cons : (d : A) → i < n → n ≤ length xs → drop i (take n xs) ≡ get_or xs i d ∷ drop (i + 1) (take n xs)
  rest_cons d h l =
      let m : i < length (take n xs) = omega (arith, length-take n xs) in
      rw (add-one, drop-cons (take n xs) i d m, get_or-take n xs i d h)

  pub rest_none : n ≤ i → drop i (take n xs) ≡ []
  rest_none h = drop_of_length-le (take n xs) {i = i} (omega (arith, length-take n xs))

-- the same of the first n records of a client table, lent as its numbers
pub records_rest : (xs : List ℕ) (n i : ℕ) → i < n → client_width * n ≤ length xs
    → drop i (take n (records_of xs)) ≡ get_or (records_of xs) i zero_counts ∷ drop (i + 1) (take n (records_of xs))
records_rest xs n i h l = rest_cons (records_of xs) n i zero_counts h (omega (arith, (length_records xs).1))
