-- The laws of room: it is what the slots can take, by which the theory of crate slots counts. What uses room uses these laws alone, so
-- that several heads change `capacity_of` and these proofs. Assumes nothing.
use Prim.Native.Nat.{ℕ, zero, suc, ◌+◌, ◌-◌, ◌/◌, ◌%◌, ◌^◌, ◌≤◌, ◌<◌}
use mathlib.Core.Path.{◌≡◌, refl, sym, ap, ◌∙◌}
use mathlib.Core.Bool.{Bool, true, false, cond}
use mathlib.Core.List.{List}
use native.Mathlib.Omega.{arith}
use native.Mathlib.Nat.{mod-lt, pow-zero, pow-succ', two-pow-succ, div-add-mod', div-one, div-div-eq-div-mul}
use borrow.Author.Tests.{ltb-true, ltb-false, le-ltb, lt-ltb}
use lib.Dec.{ltb, lit<}
use Rattle.slots.proofs.Laws.Tests.{le, gt, order}
use Rattle.slots.proofs.Laws.Hours.{count_from, room_count}
use Rattle.slots.proofs.Room.{room as room_of, room_mono as mono_of, room_back as back-of, room_split as split-of}
use Rattle.slots.proofs.Room.{room_step as step_of_lem, room_one}
use Rattle.spec.specs.declared.types.Setup.{Setup}
use Rattle.spec.specs.declared.types.Request.{Request}
use Rattle.spec.specs.declared.types.Counts.{Counts}
use Rattle.spec.specs.Tables.{hours, State, next_state}
use Rattle.spec.specs.Hours.{bit, mark_of, hour_of, capacity_of, is_open, sum_from, room, open_hours}
use Rattle.spec.proofs.Demands.Words.{AllOpen}

-- ---- an hour's mark, and what a slot can take
pub bit_most : (x k : ℕ) → bit x k ≤ 1
bit_most x k = omega (arith, mod-lt (x / 2 ^ k) {m = 2} (lit< tt))

pub mark_most : (setup : Setup) (hour : ℕ) → mark_of setup hour ≤ 1
unfolding mark_of
mark_most setup hour = go (ltb hour 64) (ltb hour 128) (ltb hour 160)
  where
    go : (a b c : Bool)
        → cond a (bit setup.marks0 (63 - hour))
        (cond b (bit setup.marks64 (127 - hour)) (cond c (bit setup.marks128 (159 - hour)) (bit setup.marks160 (167 - hour))))
        ≤ 1
    go true b c = bit_most setup.marks0 (63 - hour)
    go false true c = bit_most setup.marks64 (127 - hour)
    go false false true = bit_most setup.marks128 (159 - hour)
    go false false false = bit_most setup.marks160 (167 - hour)

pub capacity_most : (setup : Setup) (slot : ℕ) → capacity_of setup slot ≤ 1
unfolding capacity_of
capacity_most setup slot = mark_most setup (hour_of setup slot)

-- an open slot takes one, a closed one none
pub capacity_open : (setup : Setup) (slot : ℕ) → is_open setup slot ≡ true → capacity_of setup slot ≡ 1
capacity_open setup slot e = omega (arith, capacity_most setup slot, ltb-true 0 (capacity_of setup slot) e)

pub capacity_closed : (setup : Setup) (slot : ℕ) → is_open setup slot ≡ false → capacity_of setup slot ≡ 0
capacity_closed setup slot e = omega (arith, ltb-false 0 (capacity_of setup slot) e)

-- ---- room
sum_count : (f : ℕ → ℕ) (a n : ℕ) → sum_from f a n ≡ count_from f a n
unfolding sum_from count_from
sum_count f a zero = refl
sum_count f a (suc n) = ap (λ (x : ℕ). f a + x) (sum_count f (suc a) n)

pub room_capacity : (setup : Setup) (a b : ℕ) → room setup a b ≡ room_of (capacity_of setup) a b
unfolding room
room_capacity setup a b = sum_count (capacity_of setup) a (b - a) ∙ sym (room_count (capacity_of setup) a b)

-- a later end has no less room
pub room_mono : (setup : Setup) (t a b : ℕ) → a ≤ b → room setup t a ≤ room setup t b
room_mono setup t a b h =
    omega (arith, room_capacity setup t a, room_capacity setup t b, mono_of (capacity_of setup) t a b h)

-- no room lies behind
pub room_back : (setup : Setup) (a b : ℕ) → b ≤ a → room setup a b ≡ 0
room_back setup a b h = omega (arith, room_capacity setup a b, back-of (capacity_of setup) a b h)

pub room_step : (setup : Setup) (t : ℕ) → room setup t (suc t) ≡ capacity_of setup t
room_step setup t = omega (arith, room_capacity setup t (suc t), step_of_lem (capacity_of setup) t)

pub room_split : (setup : Setup) (a b c : ℕ) → a ≤ b → b ≤ c → room setup a b + room setup b c ≡ room setup a c
room_split setup a b c h g =
    omega (
      arith,
      room_capacity setup a b,
      room_capacity setup b c,
      room_capacity setup a c,
      split-of (capacity_of setup) a b c h g,
    )

-- ---- no call but open changes what the slots can take
module _ (clock last : ℕ) (ws : List Request) (cs : List Counts) (s : State) where
  pub capacity_next : capacity_of (next_state clock last ws cs s).head.setup ≡ capacity_of s.head.setup
  unfolding next_state capacity_of
  capacity_next = refl

  pub room_next : (a b : ℕ) → room (next_state clock last ws cs s).head.setup a b ≡ room s.head.setup a b
  unfolding next_state room
  room_next a b = refl

-- ---- all hours open, document 02, 2.2: the marks
pub sum_most : (f : ℕ → ℕ) → ((x : ℕ) → f x ≤ 1) → (a n : ℕ) → sum_from f a n ≤ n
unfolding sum_from
sum_most f most a zero = omega arith
sum_most f most a (suc n) = omega (arith, most a, sum_most f most (suc a) n)

-- where n numbers of at most 1 add up to n, each is 1
sum_each : (f : ℕ → ℕ) → ((x : ℕ) → f x ≤ 1) → (a n : ℕ) → n ≤ sum_from f a n → (x : ℕ) → a ≤ x → x < a + n → f x ≡ 1
unfolding sum_from
sum_each f most a zero h x l g = absurd (omega arith)
sum_each f most a (suc n) h x l g =
    elim (order x a) [
      | le k ↦
          let e : x ≡ a = omega arith in
          rw e (omega (arith, most a, sum_most f most (suc a) n))
      | gt k ↦ sum_each f most (suc a) n (omega (arith, most a)) x k (omega arith)
    ]

pub hours_all_open : (setup : Setup) → open_hours setup ≡ hours → AllOpen setup
hours_all_open setup e h l = sum_each (mark_of setup) (mark_most setup) 0 hours (omega arith) h (omega arith) (omega arith)

-- a number of n bits that are all 1 is one less than 2 ^ n
bits_all : (n x : ℕ) → x < 2 ^ n → ((k : ℕ) → k < n → bit x k ≡ 1) → suc x ≡ 2 ^ n
bits_all zero x h f = omega (arith, pow-zero 2)
bits_all (suc n) x h f =
    let y = bits_all n (x / 2) (omega (arith, div-add-mod' x 2, two-pow-succ n)) (λ k l. half k ∙ f (suc k) (omega arith)) in
    omega (arith, y, div-add-mod' x 2, two-pow-succ n, f 0 (omega arith), ap (λ (z : ℕ). x / z % 2) (pow-zero 2), ap (λ (z : ℕ). z % 2) (div-one x))
  where
    half : (k : ℕ) → bit (x / 2) k ≡ bit x (suc k)
    half k = ap (λ (z : ℕ). z % 2) (div-div-eq-div-mul x 2 (2 ^ k) ∙ ap (λ (z : ℕ). x / z) (sym (pow-succ' 2 k)))

-- the marks of n hours in one number, the first hour in the highest bit
marks_all : (n x : ℕ) → x < 2 ^ n → ((h : ℕ) → h < n → bit x (n - 1 - h) ≡ 1) → suc x ≡ 2 ^ n
marks_all n x l f =
    bits_all n x l (λ k h. let e : n - 1 - (n - 1 - k) ≡ k = omega arith in rw e at (f (n - 1 - k) (omega arith)))

module _ (setup : Setup) (all : AllOpen setup) where
  mark0 : (h : ℕ) → h < 64 → bit setup.marks0 (63 - h) ≡ 1
  unfolding mark_of
  mark0 h l = rw (lt-ltb h 64 l) at (all h (omega arith))

  mark64 : (h : ℕ) → h < 64 → bit setup.marks64 (63 - h) ≡ 1
  unfolding mark_of
  mark64 h l =
      let e : 127 - (64 + h) ≡ 63 - h = omega arith in
      rw (le-ltb (64 + h) 64 (omega arith), lt-ltb (64 + h) 128 (omega arith), e) at (all (64 + h) (omega arith))

  mark128 : (h : ℕ) → h < 32 → bit setup.marks128 (31 - h) ≡ 1
  unfolding mark_of
  mark128 h l =
      let e : 159 - (128 + h) ≡ 31 - h = omega arith in
      rw (le-ltb (128 + h) 64 (omega arith), le-ltb (128 + h) 128 (omega arith), lt-ltb (128 + h) 160 (omega arith), e) at
      (all (128 + h) (omega arith))

  mark160 : (h : ℕ) → h < 8 → bit setup.marks160 (7 - h) ≡ 1
  unfolding mark_of
  mark160 h l =
      let e : 167 - (160 + h) ≡ 7 - h = omega arith in
      rw (le-ltb (160 + h) 64 (omega arith), le-ltb (160 + h) 128 (omega arith), le-ltb (160 + h) 160 (omega arith), e) at
      (all (160 + h) (omega arith))

  -- in numbers of 64, 64, 32 and 8 bits
  pub open_marks : setup.marks0 < 2 ^ 64 → setup.marks64 < 2 ^ 64 → setup.marks128 < 2 ^ 32 → setup.marks160 < 2 ^ 8
      → (suc setup.marks0 ≡ 2 ^ 64) × (suc setup.marks64 ≡ 2 ^ 64) × (suc setup.marks128 ≡ 2 ^ 32) × (suc setup.marks160 ≡ 2 ^ 8)
  open_marks a b c d = (
    marks_all 64 setup.marks0 a mark0,
    marks_all 64 setup.marks64 b mark64,
    marks_all 32 setup.marks128 c mark128,
    marks_all 8 setup.marks160 d mark160,
  )

-- .. what a slot can take, and room
module _ (setup : Setup) (all : AllOpen setup) where
  pub open_capacity : (slot : ℕ) → capacity_of setup slot ≡ 1
  unfolding capacity_of
  open_capacity slot = all (hour_of setup slot) (mod-lt (slot / setup.hour) {m = hours} (lit< tt))

  pub open_room : (a b : ℕ) → room setup a b ≡ b - a
  open_room a b = room_capacity setup a b ∙ room_one (capacity_of setup) open_capacity a b

  pub open_slot : (slot : ℕ) → is_open setup slot ≡ true
  open_slot slot = lt-ltb 0 (capacity_of setup slot) (omega (arith, open_capacity slot))
