-- Bookings: a plan made of a list of them, where each number has at most one. Assumes nothing.
use Prim.Native.Nat.{ℕ, zero, suc, ◌+◌, ◌≤◌, ◌<◌}
use mathlib.Core.Path.{◌≡◌, refl, ◌∙◌, ap}
use mathlib.Core.Bool.{Bool, true, false, cond}
use mathlib.Core.List.{List, [], ◌∷◌}
use mathlib.Core.Logic.{◌≢◌}
use native.Mathlib.Omega.{arith}
use lib.Dec.{eqb}
use lib.ListN.{length}
use Rattle.slots.specs.Plan.{Window, Slot, none, at, EndedBy, Fits}
use Rattle.slots.proofs.Laws.Tests.{Same, same_yes, same_no, same}
use Rattle.slots.proofs.Laws.Sums.{one, one_yes, one_no, All, all_imp, total, total_zero}
use Rattle.slots.proofs.Queue.{Entry, Booking, serve}
use Rattle.slots.proofs.Reached.Chart.{lookup, book}

pub all_serve : (p : Entry → Type 0) (q : Booking → Type 0) (t : ℕ) (ws : List Entry) (bs : List Booking)
    → ((w : Entry) → p w → q (record { number = w.number; slot = t })) → All p ws → All q bs → All q (serve t ws bs)
all_serve p q t [] bs f a b = b
all_serve p q t (w ∷ ws) bs f a b = (f w a.0, all_serve p q t ws bs f a.1 b)

-- ---- whose a booking is
abbrev pub who : ℕ → Booking → ℕ
who i b = one i b.number

abbrev pub whose : ℕ → Entry → ℕ
whose i w = one i w.number

-- a number of one of n requests
abbrev pub IsNumber : ℕ → ℕ → Type 0
IsNumber n i = (0 < i) × (i ≤ n)

-- none is booked under a number that is not known
pub none_above : {A : Type 0} (f : A → ℕ) (n : ℕ) (xs : List A) → All (λ (x : A). IsNumber n (f x)) xs → (i : ℕ) → n < i
    → total (λ (x : A). one i (f x)) xs ≡ 0
none_above {A} f n xs a i h =
    total_zero (λ (x : A). one i (f x)) xs
    (all_imp (λ (x : A). IsNumber n (f x)) (λ (x : A). one i (f x) ≡ 0) xs (λ x k. one_no i (f x) (omega arith)) a)

-- ---- looking up
pub lookup_yes : (i : ℕ) (b : Booking) (bs : List Booking) → i ≡ b.number → lookup i (b ∷ bs) ≡ at b.slot
lookup_yes i b bs e = go (eqb i b.number) (same i b.number)
  where
    go : (c : Bool) → Same i b.number c → cond c (at b.slot) (lookup i bs) ≡ at b.slot
    go true (same_yes h) = refl
    go false (same_no h) = absurd (h e)

pub lookup_no : (i : ℕ) (b : Booking) (bs : List Booking) → i ≢ b.number → lookup i (b ∷ bs) ≡ lookup i bs
lookup_no i b bs n = go (eqb i b.number) (same i b.number)
  where
    go : (c : Bool) → Same i b.number c → cond c (at b.slot) (lookup i bs) ≡ lookup i bs
    go true (same_yes h) = absurd (n h)
    go false (same_no h) = refl

pub lookup_none : (i : ℕ) (bs : List Booking) → total (who i) bs ≡ 0 → lookup i bs ≡ none
unfolding total
lookup_none i [] h = refl
lookup_none i (b ∷ bs) h = lookup_no i b bs other ∙ lookup_none i bs (omega arith)
  where
    other : i ≢ b.number
    other e = omega (arith, one_yes i b.number e)

-- ---- a sum over the plan is the sum over the bookings
module _ (f : Slot → ℕ) (zero-none : f none ≡ 0) where
  book_empty : (n : ℕ) → total f (book n []) ≡ 0
  unfolding total
  book_empty zero = refl
  book_empty (suc n) = omega (arith, book_empty n)

  book_skip : (n : ℕ) (b : Booking) (bs : List Booking) → n < b.number → total f (book n (b ∷ bs)) ≡ total f (book n bs)
  unfolding total
  book_skip zero b bs h = refl
  book_skip (suc n) b bs h = omega (arith, ap f (lookup_no (suc n) b bs (omega arith)), book_skip n b bs (omega arith))

  book_cons : (n : ℕ) (b : Booking) (bs : List Booking) → lookup b.number bs ≡ none → IsNumber n b.number
      → total f (book n (b ∷ bs)) ≡ f (at b.slot) + total f (book n bs)
  unfolding total
  book_cons zero b bs e h = absurd (omega arith)
  book_cons (suc n) b bs e h =
      go (eqb (suc n) b.number) (same (suc n) b.number) (λ g. book_cons n b bs e (h.0, g))
    where
      go : (c : Bool) → Same (suc n) b.number c
          → (b.number ≤ n → total f (book n (b ∷ bs)) ≡ f (at b.slot) + total f (book n bs))
          → f (cond c (at b.slot) (lookup (suc n) bs)) + total f (book n (b ∷ bs))
          ≡ f (at b.slot) + (f (lookup (suc n) bs) + total f (book n bs))
      go true (same_yes g) r = omega (arith, book_skip n b bs (omega arith), ap (λ (i : ℕ). f (lookup i bs)) g, ap f e)
      go false (same_no g) r = omega (arith, r (omega arith))

  pub book_total : (n : ℕ) (bs : List Booking) → ((i : ℕ) → total (who i) bs ≤ 1) → All (λ (b : Booking). IsNumber n b.number) bs
      → total f (book n bs) ≡ total (λ (b : Booking). f (at b.slot)) bs
  unfolding total
  book_total n [] u a = book_empty n
  book_total n (b ∷ bs) u a =
      omega (arith, book_cons n b bs (lookup_none b.number bs first) a.0, book_total n bs (λ i. omega (arith, u i)) a.1)
    where
      first : total (who b.number) bs ≡ 0
      first = omega (arith, u b.number, one_yes b.number b.number refl)

-- ---- the request that a number names
unfoldable pub req : ℕ → List Window → Window
req i [] = record { release = 0; deadline = 0 }
req i (r ∷ R) = cond (eqb i (suc (length R))) r (req i R)

pub req_new : (r : Window) (R : List Window) → req (suc (length R)) (r ∷ R) ≡ r
unfolding req
req_new r R = go (eqb (suc (length R)) (suc (length R))) (same (suc (length R)) (suc (length R)))
  where
    go : (c : Bool) → Same (suc (length R)) (suc (length R)) c → cond c r (req (suc (length R)) R) ≡ r
    go true (same_yes h) = refl
    go false (same_no h) = absurd (h refl)

pub req_old : (i : ℕ) (r : Window) (R : List Window) → i ≤ length R → req i (r ∷ R) ≡ req i R
unfolding req
req_old i r R l = go (eqb i (suc (length R))) (same i (suc (length R)))
  where
    go : (c : Bool) → Same i (suc (length R)) c → cond c r (req i R) ≡ req i R
    go true (same_yes h) = absurd (omega arith)
    go false (same_no h) = refl

-- ---- a slot that a request can have
abbrev pub Suits : Window → Slot → Type 0
Suits r none = Unit {0}
Suits r (at s) = (r.release ≤ s) × EndedBy r.deadline s

abbrev pub Good : List Window → Booking → Type 0
Good R b = Suits (req b.number R) (at b.slot)

pub good_lookup : (R : List Window) (bs : List Booking) → All (Good R) bs → (i : ℕ) → Suits (req i R) (lookup i bs)
good_lookup R [] a i = tt
good_lookup R (b ∷ bs) a i = go (eqb i b.number) (same i b.number) (good_lookup R bs a.1 i)
  where
    go : (c : Bool) → Same i b.number c → Suits (req i R) (lookup i bs) → Suits (req i R) (cond c (at b.slot) (lookup i bs))
    go true (same_yes h) r = rw h a.0
    go false (same_no h) r = r

fits_cons : (r : Window) (R : List Window) (x : Slot) (P : List Slot) → Suits r x → Fits R P → Fits (r ∷ R) (x ∷ P)
fits_cons r R none P s f = f
fits_cons r R (at u) P s f = (omega arith, omega arith, f)

fits_all : (R : List Window) (bs : List Booking) → ((i : ℕ) → i ≤ length R → Suits (req i R) (lookup i bs))
    → Fits R (book (length R) bs)
fits_all [] bs f = tt
fits_all (r ∷ R) bs f =
    fits_cons r R (lookup (suc (length R)) bs) (book (length R) bs) (rw (req_new r R) at (f (suc (length R)) (omega arith)))
    (fits_all R bs (λ i h. rw (req_old i r R h) at (f i (omega arith))))

pub book_fits : (R : List Window) (bs : List Booking) → All (Good R) bs → Fits R (book (length R) bs)
book_fits R bs a = fits_all R bs (λ i h. good_lookup R bs a i)
