-- How many slots of a plan lie before a time, and how many requests a step leaves. Assumes nothing.
use Prim.Native.Nat.{ℕ, zero, suc, ◌+◌, ◌-◌, ◌≤◌, ◌<◌, min}
use mathlib.Core.Path.{◌≡◌, refl}
use mathlib.Core.Bool.{Bool, true, false, cond}
use mathlib.Core.List.{List, [], ◌∷◌}
use mathlib.Core.Logic.{◌≢◌}
use native.Mathlib.Omega.{arith}
use lib.Dec.{eqb}
use lib.ListN.{length, take, drop}
use Rattle.slots.specs.Plan.{Slot, none, at, is_at, uses, planned, size}
use Rattle.slots.proofs.Laws.Tests.{Same, same_yes, same_no, same, le, gt, order}
use Rattle.slots.proofs.Laws.Sums.{total, total_le, total_one}
use Rattle.slots.proofs.Queue.{opens, Entry, Booking, serve, Joined, Swapped, Taken}

-- ---- the requests that a step leaves
pub total_serve : (f : Booking → ℕ) (t : ℕ) (ws : List Entry) (bs : List Booking)
    → total f (serve t ws bs) ≡ total (λ (w : Entry). f (record { number = w.number; slot = t })) ws + total f bs
unfolding total
total_serve f t [] bs = omega arith
total_serve f t (w ∷ ws) bs = omega (arith, total_serve f t ws bs)

-- what was served and what waits are together as many as before
pub length_log : (t k : ℕ) (ws : List Entry) (bs : List Booking)
    → length (serve t (take k ws) bs) + length (drop k ws) ≡ length bs + length ws
length_log t zero ws bs = refl
length_log t (suc k) [] bs = refl
length_log t (suc k) (w ∷ ws) bs = omega (arith, length_log t k ws bs)

abbrev each : Entry → ℕ
each w = 1

length_each : (ws : List Entry) → total each ws ≡ length ws
length_each ws = total_one each ws (λ w. refl)

pub length_joined : (e : Entry) (ws vs : List Entry) → Joined e ws vs → length vs ≡ suc (length ws)
length_joined e ws vs J = omega (arith, J.sums each, length_each vs, length_each ws)

pub length_swapped : (e victim : Entry) (ws vs : List Entry) → Swapped e victim ws vs → length vs ≡ length ws
length_swapped e victim ws vs S = omega (arith, S.sums each, length_each vs, length_each ws)

-- one less waits, so that those withdrawn and those that wait are together as many as before
pub length_taken : (e : Entry) (ws vs : List Entry) → Taken e ws vs → suc (length vs) ≡ length ws
length_taken e ws vs T = omega (arith, T.sums each, length_each vs, length_each ws)

-- ---- the slots of a plan
pub size_total : (P : List Slot) → size P ≡ total planned P
unfolding size total
size_total [] = refl
size_total (p ∷ P) = omega (arith, size_total P)

-- those at s
pub uses_total : (s : ℕ) (P : List Slot) → uses s P ≡ total (is_at s) P
unfolding uses total
uses_total s [] = refl
uses_total s (p ∷ P) = omega (arith, uses_total s P)

pub is_at_yes : (s u : ℕ) → s ≡ u → is_at s (at u) ≡ 1
is_at_yes s u e = go (eqb s u) (same s u)
  where
    go : (c : Bool) → Same s u c → ◌≡◌ {A = ℕ} (cond c 1 0) 1
    go true (same_yes h) = refl
    go false (same_no h) = absurd (h e)

pub is_at_no : (s u : ℕ) → s ≢ u → is_at s (at u) ≡ 0
is_at_no s u n = go (eqb s u) (same s u)
  where
    go : (c : Bool) → Same s u c → ◌≡◌ {A = ℕ} (cond c 1 0) 0
    go true (same_yes h) = absurd (n h)
    go false (same_no h) = refl

-- those before x
unfoldable pub before : ℕ → Slot → ℕ
before x none = 0
before x (at s) = min 1 (x - s)

abbrev pub below : ℕ → List Slot → ℕ
below x P = total (before x) P

before_mono : (x y : ℕ) → x ≤ y → (p : Slot) → before x p ≤ before y p
unfolding before
before_mono x y h none = omega arith
before_mono x y h (at s) = omega arith

pub below_mono : (x y : ℕ) (P : List Slot) → x ≤ y → below x P ≤ below y P
below_mono x y P h = total_le (before x) (before y) P (before_mono x y h)

before_suc : (t : ℕ) (p : Slot) → before (suc t) p ≡ before t p + is_at t p
unfolding before
before_suc t none = refl
before_suc t (at s) = go (eqb t s) (same t s)
  where
    go : (c : Bool) → Same t s c → min 1 (suc t - s) ≡ min 1 (t - s) + cond c 1 0
    go true (same_yes e) = omega arith
    go false (same_no n) = omega arith

pub below_suc : (t : ℕ) (P : List Slot) → below (suc t) P ≡ below t P + uses t P
unfolding total uses
below_suc t [] = refl
below_suc t (p ∷ P) = omega (arith, before_suc t p, below_suc t P)

-- ---- what the slots can take
zero_of : {a : ℕ} → a ≤ 0 → a ≡ 0
zero_of h = omega arith

top_of : {a b : ℕ} → a ≤ suc b → b < a → a ≡ suc b
top_of h g = omega arith

module _ (heads : ℕ → ℕ) where
  pub opens_suc : (t : ℕ) → opens heads (suc t) ≡ opens heads t + heads t
  unfolding opens
  opens_suc t = refl

  pub opens_mono : (a b : ℕ) → a ≤ b → opens heads a ≤ opens heads b
  unfolding opens
  opens_mono a zero h = rw (zero_of h) (omega arith)
  opens_mono a (suc b) h = elim (order a b) [ le g ↦ omega (arith, opens_mono a b g) | gt g ↦ rw (top_of h g) (omega arith) ]

  -- the slots of a plan from a to b are no more than these can take
  pub pigeon : (P : List Slot) → ((t : ℕ) → uses t P ≤ heads t) → (a b : ℕ) → a ≤ b
      → below b P + opens heads a ≤ below a P + opens heads b
  unfolding opens
  pigeon P f a zero h = rw (zero_of h) (omega arith)
  pigeon P f a (suc b) h =
      elim (order a b) [ le g ↦ omega (arith, pigeon P f a b g, below_suc b P, f b) | gt g ↦ rw (top_of h g) (omega arith) ]
