-- Laws of lists taken in fours: what holds of each of them holds four by four. Assumes nothing.
use Prim.Native.Nat.{ℕ, zero, suc, ◌+◌, ◌-◌, ◌*◌, ◌/◌, ◌≤◌}
use mathlib.Core.Path.{◌≡◌, refl, sym, ap, ◌∙◌}
use mathlib.Core.Bool.{Bool, ◌&&◌, and-true, and_assoc}
use mathlib.Core.List.{List, [], ◌∷◌, ◌++◌}
use native.Mathlib.Omega.{arith}
use native.Mathlib.Numerals.{add-one}
use lib.ListN.{length, take, drop}
use Rattle.std.specs.List.{list_all, range_with_len}
use Rattle.std.specs.Simd.{first_chunks}
use lib.Seq.{take-add, length-take-le}
use Rattle.std.proofs.lemmas.List.{take-append-drop}
use Rattle.spec.specs.declared.types.Request.{Request}
use Rattle.spec.specs.Every.{every, every_from}
use Rattle.spec.specs.Tables.{client_width, records_of}
use Rattle.table.proofs.Remaining.{rest_none, records_rest}
use Rattle.sound.specs.Checks.{joined, does_balance, tallied_of, balances_at, do_four_balance}

-- ---- a list in fours, and what is left over
pub joined_chunks : (k : ℕ) (ws : List Request) → joined (first_chunks 4 k ws) ≡ take (k * 4) ws
joined_chunks zero ws = refl
joined_chunks (suc k) ws =
    ap (λ (vs : List Request). take 4 ws ++ vs) (joined_chunks k (drop 4 ws))
    ∙ sym (take-add 4 (k * 4) ws)
    ∙ ap (λ (n : ℕ). take n ws) (omega arith)

pub in_fours : (k : ℕ) (ws : List Request) → joined (first_chunks 4 k ws) ++ drop (k * 4) ws ≡ ws
in_fours k ws = ap (λ (vs : List Request). vs ++ drop (k * 4) ws) (joined_chunks k ws) ∙ take-append-drop (k * 4) ws

-- what `as_chunks` makes of them: together they are the whole, and the fours are its front
pub chunks_told : {fours : List (List Request)} {rest : List Request} (ws : List Request) → fours ≡ first_chunks 4 (length ws / 4) ws
    → length fours ≡ length ws / 4 → rest ≡ drop (length ws / 4 * 4) ws
    → (joined fours ++ rest ≡ ws) × (joined fours ≡ take (4 * length fours) ws) × (length (joined fours) ≡ 4 * length fours)
chunks_told {fours} {rest} ws front count back = (rw (front, back) (in_fours (length ws / 4) ws), is_front, is_long)
  where
    is_front : joined fours ≡ take (4 * length fours) ws
    is_front = ap joined front ∙ joined_chunks (length ws / 4) ws ∙ ap (λ (n : ℕ). take n ws) (omega (arith, count))

    is_long : length (joined fours) ≡ 4 * length fours
    is_long = ap length is_front ∙ length-take-le (4 * length fours) ws (omega (arith, count))

-- ---- a test of each
module _ (test : Request → Bool) where
  every_join : (ws vs : List Request) → every test (ws ++ vs) ≡ every test ws && every test vs
  unfolding every
  every_join [] vs = refl
  every_join (w ∷ ws) vs = ap (λ (b : Bool). test w && b) (every_join ws vs) ∙ sym (and_assoc (test w) (every test ws) (every test vs))

  fours_every : (fours : List (List Request)) → list_all (every test) fours ≡ every test (joined fours)
  unfolding every
  fours_every [] = refl
  fours_every (four ∷ fours) = ap (λ (b : Bool). every test four && b) (fours_every fours) ∙ sym (every_join four (joined fours))

  all_every : (ws : List Request) → list_all test ws ≡ every test ws
  unfolding every
  all_every [] = refl
  all_every (w ∷ ws) = ap (λ (b : Bool). test w && b) (all_every ws)

  pub every_in_fours : {fours : List (List Request)} {rest : List Request} (k : ℕ) (ws : List Request) → fours ≡ first_chunks 4 k ws
      → rest ≡ drop (k * 4) ws → {a b : Bool} → a ≡ list_all (every test) fours → b ≡ list_all test rest → a && b ≡ every test ws
  every_in_fours k ws front back f g =
      rw (f, g, front, back, fours_every (first_chunks 4 k ws), all_every (drop (k * 4) ws))
      (sym (every_join (joined (first_chunks 4 k ws)) (drop (k * 4) ws)) ∙ ap (every test) (in_fours k ws))

-- ---- a test of each number from one to another
module _ (test : ℕ → Bool) where
  range_join : (a m n : ℕ)
      → list_all test (range_with_len a m) && list_all test (range_with_len (a + m) n) ≡ list_all test (range_with_len a (m + n))
  range_join a zero n =
      ap (λ (j : ℕ). list_all test (range_with_len j n)) (omega arith)
      ∙ ap (λ (j : ℕ). list_all test (range_with_len a j)) (omega arith)
  range_join a (suc m) n =
      let e : a + suc m ≡ a + 1 + m = omega arith in
      let f : suc m + n ≡ suc (m + n) = omega arith in
      rw (e, f)
      (and_assoc (test a) (list_all test (range_with_len (a + 1) m)) (list_all test (range_with_len (a + 1 + m) n))
      ∙ ap (λ (b : Bool). test a && b) (range_join (a + 1) m n))

module _ (tally numbers : List ℕ) where
  abbrev at : ℕ → Bool
  at = balances_at tally numbers

  abbrev pub four_at : ℕ → Bool
  four_at k = do_four_balance tally numbers (4 * k)

  four_in_turn : (i : ℕ) → do_four_balance tally numbers i ≡ list_all at (range_with_len i 4)
  four_in_turn i =
      let two : i + 1 + 1 ≡ i + 2 = omega arith in
      let three : i + 2 + 1 ≡ i + 3 = omega arith in
      rw (two, three) (simp (and-true, and_assoc))

  range_fours : (a m : ℕ) → list_all four_at (range_with_len a m) ≡ list_all at (range_with_len (4 * a) (m * 4))
  range_fours a zero = refl
  range_fours a (suc m) =
      let e : 4 * (a + 1) ≡ 4 * a + 4 = omega arith in
      let f : suc m * 4 ≡ 4 + m * 4 = omega arith in
      rw f
      (ap (λ (b : Bool). four_at a && b) (range_fours (a + 1) m ∙ rw e)
      ∙ ap (λ (b : Bool). b && list_all at (range_with_len (4 * a + 4) (m * 4))) (four_in_turn (4 * a))
      ∙ range_join at (4 * a) 4 (m * 4))

  clients_in_turn : (m i n : ℕ) → i + m ≡ n → client_width * n ≤ length numbers
      → list_all at (range_with_len i m)
      ≡ every_from (λ c k. does_balance k (tallied_of tally c)) i (drop i (take n (records_of numbers)))
  unfolding every_from
  clients_in_turn zero i n e reach = rw (rest_none (records_of numbers) n i (omega arith))
  clients_in_turn (suc m) i n e reach =
      rw (records_rest numbers n i (omega arith) reach)
      (ap (λ (b : Bool). at i && b) (clients_in_turn m (i + 1) n (omega arith) reach ∙ rw (add-one i)))

  pub balanced_in_fours : (n : ℕ) → client_width * n ≤ length numbers → {a b : Bool}
      → a ≡ list_all four_at (range_with_len 0 (n / 4)) → b ≡ list_all at (range_with_len (n / 4 * 4) (n - n / 4 * 4))
      → a && b ≡ every_from (λ c k. does_balance k (tallied_of tally c)) 0 (take n (records_of numbers))
  balanced_in_fours n reach f g =
      let m = n / 4 * 4 in
      rw (f, g)
      (ap (λ (b : Bool). b && list_all at (range_with_len m (n - m))) (range_fours 0 (n / 4))
      ∙ ap (λ (j : ℕ). list_all at (range_with_len 0 m) && list_all at (range_with_len j (n - m))) (omega arith)
      ∙ range_join at 0 m (n - m)
      ∙ ap (λ (j : ℕ). list_all at (range_with_len 0 j)) (omega arith)
      ∙ clients_in_turn n 0 n (omega arith) reach)
