-- Laws of the waiting table as a list of records: a record moved by one, one put in for another, one put in or taken out, the first
-- entries replaced.
-- Assumes nothing.
use Prim.Native.Nat.{ℕ, zero, suc, ◌+◌, ◌-◌, ◌≤◌, ◌<◌, ◌^◌}
use mathlib.Core.Path.{◌≡◌, refl, sym, ap, ◌∙◌}
use mathlib.Core.Bool.{Bool, true, false, cond, not, ◌&&◌}
use mathlib.Core.Logic.{◌⊎◌, inl, inr, ◌≢◌}
use mathlib.Core.List.{List, [], ◌∷◌, ◌++◌, append-nil}
use native.Mathlib.Nat.{zero-add, add-zero, suc-add, le_of_lt}
use native.Mathlib.Numerals.{add-one}
use native.Mathlib.Omega.{arith}
use borrow.Author.Tests.{lt-ltb, le-ltb, le-leb, lt-leb}
use borrow.Rule.Slice.PartMut.{put_mid}
use lib.Dec.{T, ltb, eqb, ltb→lt, nltb→le, eqb_refl, T_not}
use lib.ListN.{length, get_or, set, take, drop, length-set, length-drop, take-append-drop, drop_of_length-le}
use lib.Seq.{paste-suc, take_all, length-take-le, take-append_seam, drop-append_seam}
use Rattle.std.proofs.Common.{None, Some}
use Rattle.std.proofs.lemmas.List.{take_rest}
use Rattle.spec.specs.declared.types.Request.{Request}
use Rattle.spec.specs.Tables.{zero_request}
use Rattle.spec.specs.Order.{insert_at, remove_at}
use Rattle.spec.proofs.Laws.Every.{length_remove}
use Rattle.table.specs.Records.{Slid, are_in, replaced, taken_out, shift_at, inserted, removed, removed_from}

-- a test denied twice holds
pub not_not : (b : Bool) → T (not (not b)) → T b
not_not true h = h
not_not false h = h

-- ---- a slide

-- a record is copied to the place beside its own: without its own place the others are those that were there without the other
copied : (ws : List Request) (i j : ℕ) (z : Request) → i ≤ suc j → j ≤ suc i → i < length ws → j < length ws
    → remove_at j (set ws i (get_or ws j z)) ≡ remove_at i ws
unfolding remove_at
copied [] i j z h k m n = absurd (omega arith)
copied (w ∷ ws) zero zero z h k m n = refl
copied (w ∷ []) zero (suc j) z h k m n = absurd (omega arith)
copied (w ∷ v ∷ ws) zero (suc zero) z h k m n = refl
copied (w ∷ v ∷ ws) zero (suc (suc j)) z h k m n = absurd (omega arith)
copied (w ∷ []) (suc i) zero z h k m n = absurd (omega arith)
copied (w ∷ v ∷ ws) (suc zero) zero z h k m n = refl
copied (w ∷ v ∷ ws) (suc (suc i)) zero z h k m n = absurd (omega arith)
copied (w ∷ ws) (suc i) (suc j) z h k m n =
    ap (λ (l : List Request). w ∷ l) (copied ws i j z (omega arith) (omega arith) (omega arith) (omega arith))

-- the place i, on the way up or down to another
abbrev pub Toward : Bool → ℕ → ℕ → Type 0
Toward true to i = to ≤ i
Toward false to i = i ≤ to

-- from a place i of n on the way to another: what `next` asks, and that its answer j is beside i, in the table, still on the
-- way, and nearer
pub record NextPlace (up : Bool) (n to i j : ℕ) : Type 0 where
  pub asked : (up ≡ true → 0 < i) × (up ≡ false → i < 18446744073709551615)
  pub beside : (i ≤ suc j) × (j ≤ suc i)
  pub within : j < n
  pub toward : Toward up to j
  pub nearer : (j - to) + (to - j) < (i - to) + (to - i)

next_step : (up : Bool) (n to i : ℕ) → n < 2 ^ 64 → to < n → i < n → Toward up to i → i ≢ to
    → NextPlace up n to i (cond up (i - 1) (i + 1))
next_step true n to i fits m h t d =
    record {
      asked = ((λ _. omega arith), λ e. absurd (let z : ◌≡◌ {A = ℕ} 0 1 = cc in omega arith));
      beside = (omega arith, omega arith);
      within = omega arith;
      toward = omega arith;
      nearer = omega arith;
    }
next_step false n to i fits m h t d =
    record {
      asked = ((λ e. absurd (let z : ◌≡◌ {A = ℕ} 0 1 = cc in omega arith)), λ _. omega arith);
      beside = (omega arith, omega arith);
      within = omega arith;
      toward = omega arith;
      nearer = omega arith;
    }

-- a slide on its way: the place has moved from `from` to i, and the others are those of before
pub record Going (up : Bool) (from to : ℕ) (ys : List Request) (i : ℕ) (zs : List Request) : Type 0 where
  pub others : remove_at i zs ≡ remove_at from ys
  pub same_length : length zs ≡ length ys
  pub within : i < length ys
  pub toward : Toward up to i

-- the record at the next place is copied to this one
module _ {up : Bool} {from to : ℕ} {ys : List Request} (i : ℕ) (zs : List Request) (g : Going up from to ys i zs) where
  pub steps : length ys < 2 ^ 64 → to < length ys → T (not (eqb i to)) → NextPlace up (length ys) to i (cond up (i - 1) (i + 1))
  steps fits in_table d =
      next_step up (length ys) to i fits in_table g.within g.toward (λ e. T_not (eqb i to) d (rw e (eqb_refl to)))

  pub goes_on : (j : ℕ) → NextPlace up (length ys) to i j → Going up from to ys j (set zs i (get_or zs j zero_request))
  goes_on j s =
      record {
        others =
            copied zs i j zero_request s.beside.0 s.beside.1 (omega (arith, g.within, g.same_length))
            (omega (arith, s.within, g.same_length))
            ∙ g.others;
        same_length = length-set zs i (get_or zs j zero_request) ∙ g.same_length;
        within = s.within;
        toward = s.toward;
      }

-- ---- a slide of a part
-- a record behind others is taken out: they stay
remove_behind : (xs ws : List Request) (k : ℕ) → remove_at (length xs + k) (xs ++ ws) ≡ xs ++ remove_at k ws
unfolding remove_at
remove_behind [] ws k = rw (zero-add k)
remove_behind (x ∷ xs) ws k = rw (suc-add (length xs) k) (ap (λ (l : List Request). x ∷ l) (remove_behind xs ws k))

-- the records from a on, slid, are the whole slid at places that are a further
slid_from : (a k l : ℕ) (ys zs : List Request) → a ≤ length ys → Slid k l (drop a ys) zs
    → Slid (a + k) (a + l) ys (take a ys ++ zs)
slid_from a k l ys zs h s =
    record {
      others =
          behind l zs ∙ ap (λ (ws : List Request). take a ys ++ ws) s.others ∙ sym (behind k (drop a ys))
          ∙ ap (remove_at (a + k)) (take-append-drop a ys);
    }
  where
    behind : (i : ℕ) (ws : List Request) → remove_at (a + i) (take a ys ++ ws) ≡ take a ys ++ remove_at i ws
    behind i ws = rw (length-take-le a ys h) at (remove_behind (take a ys) ws i)

module _ (a i : ℕ) (ys : List Request) (h : a ≤ i) (k : i < length ys) where
  -- between a and i, the way that `up` says
  pub moved : (up : Bool) (zs : List Request) → Slid (cond up (i - a) 0) (cond up 0 (i - a)) (drop a ys) zs
      → Slid (cond up i a) (cond up a i) ys (take a ys ++ zs)
  moved up zs s = go up (slid_from a (cond up (i - a) 0) (cond up 0 (i - a)) ys zs (omega arith) s)
    where
      far : a + (i - a) ≡ i
      far = omega arith

      go : (b : Bool) → Slid (a + cond b (i - a) 0) (a + cond b 0 (i - a)) ys (take a ys ++ zs)
          → Slid (cond b i a) (cond b a i) ys (take a ys ++ zs)
      go true t = rw (far, add-zero) at t
      go false t = rw (far, add-zero) at t

  -- the same where the part was lent to its end, and then put back
  pub moved_part : (up : Bool) (zs : List Request)
      → Slid (cond up (i - a) 0) (cond up 0 (i - a)) (take (length ys - a) (drop a ys)) zs
      → Slid (cond up i a) (cond up a i) ys (put_mid a (length ys - a) ys zs)
  moved_part up zs s =
      rw (drop_of_length-le (drop a ys) {i = length ys - a} (omega (arith, length-drop a ys)), append-nil zs)
      (moved up zs (rw (take_rest ys a) at s))

-- ---- one put in for another

-- a record written over another is put in where that one was taken out
set_insert : (k : ℕ) (r : Request) (ws : List Request) → k < length ws → set ws k r ≡ insert_at k r (remove_at k ws)
unfolding remove_at
set_insert k r [] h = absurd (omega arith)
set_insert zero r (w ∷ ws) h = refl
set_insert (suc k) r (w ∷ ws) h = ap (λ (l : List Request). w ∷ l) (set_insert k r ws (omega arith))

-- whether two places are in the table
module _ (out at : ℕ) (ys : List Request) where
  pub are_in_lem : out < length ys → at < length ys → are_in out at ys ≡ true
  are_in_lem h k = rw (lt-ltb out (length ys) h, lt-ltb at (length ys) k)

  pub first_out : length ys ≤ out → are_in out at ys ≡ false
  first_out h = rw (le-ltb out (length ys) h)

  pub second_out : length ys ≤ at → are_in out at ys ≡ false
  second_out h = rw (le-ltb at (length ys) h) (go (ltb out (length ys)))
    where
      go : (b : Bool) → (b && false) ≡ false
      go true = refl
      go false = refl

-- nothing changes where one of the places is not in the table
module _ (out at : ℕ) (r : Request) (ys : List Request) where
  pub untouched : (length ys ≤ out) ⊎ ((out < length ys) × (length ys ≤ at)) → (r ≡ taken_out out at r ys) × (ys ≡ replaced out at r ys)
  unfolding taken_out replaced
  untouched (inl h) = rw (first_out out at ys h) (refl, refl)
  untouched (inr h) = rw (second_out out at ys h.1) (refl, refl)

  -- otherwise the slide leaves `at` to be written
  pub puts_for : out < length ys → at < length ys → (zs : List Request) → Slid out at ys zs → length zs ≡ length ys
      → (get_or ys out zero_request ≡ taken_out out at r ys) × (set zs at r ≡ replaced out at r ys)
  unfolding taken_out replaced
  puts_for h k zs s l =
      rw (are_in_lem out at ys h k)
      (refl, set_insert at r zs (omega arith) ∙ ap (λ (ws : List Request). insert_at at r ws) s.others)

-- ---- one put in among the first, or taken out of them
pub insert_front : (k : ℕ) (r : Request) (ws zs : List Request) → k ≤ length ws → insert_at k r (ws ++ zs) ≡ insert_at k r ws ++ zs
insert_front zero r ws zs h = refl
insert_front (suc k) r [] zs h = absurd (omega arith)
insert_front (suc k) r (w ∷ ws) zs h = ap (λ (l : List Request). w ∷ l) (insert_front k r ws zs (omega arith))

pub remove_front : (k : ℕ) (ws zs : List Request) → k < length ws → remove_at k (ws ++ zs) ≡ remove_at k ws ++ zs
unfolding remove_at
remove_front k [] zs h = absurd (omega arith)
remove_front zero (w ∷ ws) zs h = refl
remove_front (suc k) (w ∷ ws) zs h = ap (λ (l : List Request). w ∷ l) (remove_front k ws zs (omega arith))

-- one put in behind the first
insert_seam : (k : ℕ) (r : Request) (ws zs : List Request) → length ws ≡ k → insert_at k r (ws ++ zs) ≡ ws ++ r ∷ zs
insert_seam k r ws zs e = rw (← e, take-append_seam ws zs, drop-append_seam ws zs)

-- an insert is refused, or puts r in for the record behind the first n
module _ (n at : ℕ) (r : Request) (ys : List Request) where
  pub not_inserted : n < at → ys ≡ inserted n at r ys
  unfolding inserted
  not_inserted h = rw (lt-leb at n h)

  pub inserts : at ≤ n → replaced n at r ys ≡ inserted n at r ys
  unfolding inserted replaced remove_at
  inserts h = go (ltb n (length ys)) (ltb→lt n (length ys)) (nltb→le n (length ys))
    where
      go : (b : Bool) → (T b → n < length ys) → (T (not b) → length ys ≤ n) → replaced n at r ys ≡ inserted n at r ys
      go true f g =
          rw (are_in_lem n at ys (f tt) (omega (arith, f tt)), lt-ltb n (length ys) (f tt), le-leb at n h)
          (insert_front at r (take n ys) (drop (suc n) ys) (omega (arith, length-take-le n ys (le_of_lt (f tt)))))
      go false f g = rw (le-ltb n (length ys) (g tt), le-leb at n h)

-- a remove finds none, or puts a zero record in for the one that it takes out
module _ (n at : ℕ) (ys : List Request) where
  pub not_removed : (n ≤ at) ⊎ ((at < n) × (length ys < n)) → (None ≡ removed_from n at ys) × (ys ≡ removed n at ys)
  unfolding removed_from removed
  not_removed (inl h) = rw (le-ltb at n h) (refl, refl)
  not_removed (inr h) = rw (lt-ltb at n h.0, lt-leb n (length ys) h.1) (refl, refl)

  pub removes : at < n → n ≤ length ys → (Some (taken_out at (n - 1) zero_request ys) ≡ removed_from n at ys)
      × (replaced at (n - 1) zero_request ys ≡ removed n at ys)
  unfolding taken_out replaced removed_from removed
  removes h l =
      rw (are_in_lem at (n - 1) ys (omega arith) (omega arith), lt-ltb at n h, le-leb n (length ys) l) (refl, taken)
    where
      one_less : length (remove_at at (take n ys)) ≡ n - 1
      one_less = omega (arith, length-take-le n ys l, length_remove at (take n ys) (omega (arith, length-take-le n ys l)))

      taken : insert_at (n - 1) zero_request (remove_at at ys) ≡ remove_at at (take n ys) ++ zero_request ∷ drop n ys
      taken =
          ap (λ (ws : List Request). insert_at (n - 1) zero_request (remove_at at ws)) (sym (take-append-drop n ys))
          ∙ ap (insert_at (n - 1) zero_request) (remove_front at (take n ys) (drop n ys) (omega (arith, length-take-le n ys l)))
          ∙ insert_seam (n - 1) zero_request (remove_at at (take n ys)) (drop n ys) one_less

-- ---- the first entries replaced one after the other by those of another list
abbrev pub filled : {A : Type 0} → List A → List A → ℕ → List A
filled ps ds i = take i ps ++ drop i ds

module _ {A : Type 0} (ps ds : List A) (n : ℕ) (e : length ps ≡ n) (h : n ≤ length ds) where
  pub fills : (i : ℕ) (x d : A) → i < n → get_or ps i d ≡ x → set (filled ps ds i) i x ≡ filled ps ds (i + 1)
  fills i x d l k =
      rw (← k, add-one) (rw (zero-add i, zero-add (suc i)) at (paste-suc ds 0 ps i d (omega arith) (omega arith)))

  pub filled_all : (i : ℕ) → i ≡ n → filled ps ds i ≡ ps ++ drop n ds
  filled_all i k = rw (k, take_all n ps (omega arith))

-- ---- the shift of a place is the number of records behind it, of n that are in the table
pub shift_records : (n at : ℕ) (ys : List Request) → n ≤ length ys → shift_at n at ≡ length (drop at (take n ys))
shift_records n at ys h = omega (arith, length-drop at (take n ys), length-take-le n ys h)
