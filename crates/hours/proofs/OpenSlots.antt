-- Open slots: which they are, and how many come before a slot. Assumes nothing.
use Prim.Native.Nat.{ℕ, ◌+◌, ◌-◌, ◌*◌, ◌/◌, ◌%◌, ◌≤◌, ◌<◌}
use mathlib.Core.Path.{◌≡◌, ap, ap₂, sym, ◌∙◌}
use mathlib.Core.Bool.{true}
use native.Mathlib.Omega.{arith}
use native.Mathlib.Nat.{div-zero, div-eq_of_lt, mul-add-div_right, mul-div_cancel, mul-mod_left, mul-le-mul_right, mul-le-mul_left}
use native.Mathlib.Nat.{div-add-mod', div-mul-le_self, lt-div-mul-add}
use borrow.Author.Tests.{eq-eqb, ne_eqb, lt-ltb, le-ltb}
use lib.Dec.{eqb, ltb, lit<}
use Rattle.std.specs.Prelude.{Option, Some, None}
use Rattle.std.specs.Option.{SomeIff, unwrap_or}
use Rattle.slots.proofs.Queue.{opens}
use Rattle.slots.proofs.Laws.Hours.{by_hours, by_weeks}
use Rattle.slots.proofs.Laws.Tests.{le, gt, order}
use Rattle.spec.specs.declared.types.Setup.{Setup}
use Rattle.spec.specs.Tables.{hours}
use Rattle.spec.specs.Hours.{mark_of, capacity_of, is_open, sum_from, room}
use Rattle.spec.proofs.Laws.Room.{sum_most, capacity_most, room_split, room_back, room_mono, open_capacity, open_room}
use Rattle.hours.specs.Week.{are_all_open, open_hours_before}
use Rattle.hours.proofs.Sums.{sum_opens, sum_constant}
use Rattle.hours.proofs.MarkedHours.{all_open_mark}

-- a slot is open where it takes one
pub takes_one : (setup : Setup) (slot mark : ℕ) → mark ≡ capacity_of setup slot → eqb mark 1 ≡ is_open setup slot
takes_one setup slot mark e =
    elim (order 1 mark) [
      | le h ↦ eq-eqb mark 1 (omega (arith, capacity_most setup slot)) ∙ sym (lt-ltb 0 (capacity_of setup slot) (omega arith))
      | gt h ↦ ne_eqb mark 1 (λ g. omega arith) ∙ sym (le-ltb 0 (capacity_of setup slot) (omega arith))
    ]

-- division with 0 for no divisor is division as definitions have it
pub div_or_0 : (hour : Option ℕ) (slot n : ℕ) → SomeIff hour (0 < n) (slot / n) → unwrap_or hour 0 ≡ slot / n
div_or_0 None slot n none =
    let e : n ≡ 0 = omega arith in
    sym (ap (λ (m : ℕ). slot / m) e ∙ div-zero slot)
div_or_0 (Some h) slot n some = some.1

-- ---- bounds: no more hours are counted than come before an hour, and no more slots than come before a slot
-- a mark counts each slot once or not at all
pub mark_times : (mark n : ℕ) → mark ≤ 1 → mark * n ≤ n
mark_times mark n l = omega (arith, mul-le-mul_right n l)

-- whole groups of n, and what is left
pub whole_fits : (n x whole : ℕ) → whole ≤ x / n → whole * n + x % n ≤ x
whole_fits n x whole l = omega (arith, mul-le-mul_right n l, div-add-mod' x n)

-- .. and of what is left as many as its mark counts
pub counted_slots_fit : (n x whole mark : ℕ) → whole ≤ x / n → mark ≤ 1 → whole * n + mark * (x % n) ≤ x
counted_slots_fit n x whole mark l m = omega (arith, mark_times mark (x % n) m, whole_fits n x whole l)

pub weeks_fit : (hour week : ℕ) → week ≤ hours → hour / hours * week + hour % hours ≤ hour
weeks_fit hour week l = omega (arith, mul-le-mul_left (hour / hours) l, div-add-mod' hour hours)

module _ (setup : Setup) where
  -- ---- every hour is open
  pub all_open_capacity : are_all_open setup ≡ true → (slot : ℕ) → capacity_of setup slot ≡ 1
  all_open_capacity all slot = open_capacity setup (all_open_mark setup all) slot

  pub all_open_room : are_all_open setup ≡ true → (a b : ℕ) → room setup a b ≡ b - a
  all_open_room all a b = open_room setup (all_open_mark setup all) a b

  -- ---- room is no more than the slots, and between two slots what comes before one and not before the other
  pub room_most : (a b : ℕ) → room setup a b ≤ b - a
  unfolding room
  room_most a b = sum_most (capacity_of setup) (capacity_most setup) a (b - a)

  pub any_open : (from to : ℕ) → ltb (room setup 0 from) (room setup 0 to) ≡ ltb 0 (room setup from to)
  any_open from to =
      elim (order from to) [
        | le h ↦ elim (order 1 (room setup from to)) [
          | le g ↦
              lt-ltb (room setup 0 from) (room setup 0 to) (omega (arith, room_split setup 0 from to (omega arith) h))
              ∙ sym (lt-ltb 0 (room setup from to) g)
          | gt g ↦
              le-ltb (room setup 0 from) (room setup 0 to) (omega (arith, room_split setup 0 from to (omega arith) h))
              ∙ sym (le-ltb 0 (room setup from to) (omega arith))
        ]
        | gt h ↦
            le-ltb (room setup 0 from) (room setup 0 to) (room_mono setup 0 to from (omega arith))
            ∙ sym (le-ltb 0 (room setup from to) (omega (arith, room_back setup from to (omega arith))))
      ]

  -- ---- open hours, by the week
  abbrev weekly : ℕ → ℕ
  weekly h = mark_of setup (h % hours)

  pub by_week : (hour week rest : ℕ) → week ≡ sum_from (mark_of setup) 0 hours → rest ≡ sum_from (mark_of setup) 0 (hour % hours)
      → hour / hours * week + rest ≡ open_hours_before setup hour
  unfolding open_hours_before
  by_week hour week rest e g =
      ap₂ (λ (x y : ℕ). hour / hours * x + y) (e ∙ sum_opens (mark_of setup) hours) (g ∙ sum_opens (mark_of setup) (hour % hours))
      ∙ sym (sum_opens weekly hour ∙ by_weeks (mark_of setup) hours (lit< tt) hour)

  -- ---- open slots, by the hour
  -- with no slots an hour every slot is in hour 0
  pub capacity_hour_0 : setup.hour ≡ 0 → (slot : ℕ) → capacity_of setup slot ≡ mark_of setup 0
  unfolding capacity_of
  capacity_hour_0 e slot = ap (λ (n : ℕ). mark_of setup (slot / n % hours)) e ∙ ap (λ (h : ℕ). mark_of setup (h % hours)) (div-zero slot)

  pub room_hour_0 : setup.hour ≡ 0 → (slot : ℕ) → room setup 0 slot ≡ mark_of setup 0 * slot
  unfolding room
  room_hour_0 e slot =
      let s : slot - 0 ≡ slot = omega arith in
      sum_constant (capacity_of setup) (mark_of setup 0) 0 (slot - 0) (λ k l. capacity_hour_0 e (0 + k))
      ∙ ap (λ (n : ℕ). mark_of setup 0 * n) s

  module _ (pos : 0 < setup.hour) where
    pub capacity_in_hour : (h k : ℕ) → k < setup.hour → capacity_of setup (h * setup.hour + k) ≡ mark_of setup (h % hours)
    unfolding capacity_of
    capacity_in_hour h k l =
        let e : (h * setup.hour + k) / setup.hour ≡ h = omega (arith, mul-add-div_right pos h k, div-eq_of_lt l) in
        ap (λ (x : ℕ). mark_of setup (x % hours)) e

    slots_by_hours : (slot : ℕ)
        → opens (capacity_of setup) slot ≡ opens weekly (slot / setup.hour) * setup.hour + weekly (slot / setup.hour) * (slot % setup.hour)
    unfolding capacity_of
    slots_by_hours slot = by_hours weekly setup.hour pos slot

    whole_hours : (h : ℕ) → room setup 0 (h * setup.hour) ≡ open_hours_before setup h * setup.hour
    unfolding room open_hours_before
    whole_hours h =
        let start = h * setup.hour in
        let s : start - 0 ≡ start = omega arith in
        ap (sum_from (capacity_of setup) 0) s ∙ sum_opens (capacity_of setup) start ∙ slots_by_hours start
        ∙ ap (λ (r : ℕ). opens weekly (start / setup.hour) * setup.hour + weekly (start / setup.hour) * r) (mul-mod_left h setup.hour)
        ∙ omega arith
        ∙ ap (λ (q : ℕ). opens weekly q * setup.hour) (mul-div_cancel h pos)
        ∙ ap (λ (x : ℕ). x * setup.hour) (sym (sum_opens weekly h))

    -- before each slot of an hour, and before its end
    module _ (h before mark : ℕ) (counted : before ≡ open_hours_before setup h) (marked : mark ≡ mark_of setup (h % hours)) where
      pub room_in_hour : (x : ℕ) → h * setup.hour ≤ x → x ≤ h * setup.hour + setup.hour
          → room setup 0 x ≡ before * setup.hour + mark * (x - h * setup.hour)
      unfolding room
      room_in_hour x l m =
          let start = h * setup.hour in
          omega (
            arith,
            room_split setup 0 start x (omega arith) l,
            whole_hours h,
            ap (λ (y : ℕ). y * setup.hour) counted,
            sum_constant (capacity_of setup) mark start (x - start) (λ k b. capacity_in_hour h k (omega arith) ∙ sym marked),
          )

    pub by_hour : (slot before mark : ℕ) → before ≡ open_hours_before setup (slot / setup.hour)
        → mark ≡ mark_of setup (slot / setup.hour % hours) → before * setup.hour + mark * (slot % setup.hour) ≡ room setup 0 slot
    by_hour slot before mark e g =
        let h = slot / setup.hour in
        let r : slot % setup.hour ≡ slot - h * setup.hour = omega (arith, div-add-mod' slot setup.hour) in
        rw r (sym (room_in_hour h before mark e g slot (div-mul-le_self slot setup.hour) (omega (arith, lt-div-mul-add {a = slot} pos))))
