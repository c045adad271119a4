-- Stretches of open slots: those of an open hour, and closed slots passed over. Assumes nothing.
use Prim.Native.Nat.{ℕ, zero, suc, ◌+◌, ◌-◌, ◌*◌, ◌%◌, ◌≤◌, ◌<◌, min}
use mathlib.Core.Path.{◌≡◌, refl, ap, sym, ◌∙◌}
use mathlib.Core.Bool.{true, false}
use native.Mathlib.Omega.{arith}
use borrow.Author.Tests.{lt-ltb, le-ltb}
use Rattle.slots.proofs.Laws.Tests.{le, gt, order}
use Rattle.spec.specs.declared.types.Setup.{Setup}
use Rattle.spec.specs.Tables.{hours}
use Rattle.spec.specs.Hours.{mark_of, capacity_of, is_open}
use Rattle.spec.proofs.Laws.Room.{mark_most}
use Rattle.hours.specs.declared.calendar.Hour.{Hour}
use Rattle.hours.specs.Week.{latest_open, IsHour, stretch_to, OpenFrom}
use Rattle.hours.proofs.OpenSlots.{capacity_hour_0, capacity_in_hour}

-- ---- the hour before one that begins behind slot 0
module _ (setup : Setup) (hour : Hour) (is : IsHour setup hour) (later : 1 ≤ hour.start) where
  one_less : (k : ℕ) → 1 ≤ k → (k - 1) * setup.hour + setup.hour ≡ k * setup.hour
  one_less zero l = absurd (omega arith)
  one_less (suc k) l = let e : suc k - 1 ≡ k = omega arith in rw e (omega arith)

  pub not_first : 1 ≤ is.others
  not_first =
      elim (order 1 is.others) [
        | le h ↦ h
        | gt h ↦ let e : is.others ≡ 0 = omega arith in absurd (omega (arith, is.begins ∙ ap (λ (k : ℕ). k * setup.hour) e))
      ]

  pub fits : setup.hour ≤ hour.start
  fits = omega (arith, is.begins, one_less is.others not_first)

  pub hour_back : (number : ℕ) → number ≡ (is.others - 1) % hours
      → IsHour setup (record { number = number; start = hour.start - setup.hour }) × (hour.start - setup.hour + setup.hour ≡ hour.start)
  hour_back number e = (
    record { others = is.others - 1; begins = omega (arith, is.begins, one_less is.others not_first); numbered = e },
    omega (arith, fits),
  )

module _ (setup : Setup) where
  -- ---- a slot of an hour with a mark is open, of one without is closed
  marked_open : (slot h : ℕ) → capacity_of setup slot ≡ mark_of setup h → mark_of setup h ≡ 1 → is_open setup slot ≡ true
  marked_open slot h e m = lt-ltb 0 (capacity_of setup slot) (omega arith)

  unmarked_closed : (slot h : ℕ) → capacity_of setup slot ≡ mark_of setup h → (mark_of setup h ≡ 1 → ⊥) → is_open setup slot ≡ false
  unmarked_closed slot h e m = le-ltb 0 (capacity_of setup slot) (omega (arith, mark_most setup h))

  -- ---- closed slots have none of the open ones before their end
  pub closed_passed : (start n : ℕ) → ((k : ℕ) → k < n → is_open setup (start + k) ≡ false)
      → latest_open setup (start + n) ≡ latest_open setup start
  unfolding latest_open
  closed_passed start zero closed = let e : start + 0 ≡ start = omega arith in rw e
  closed_passed start (suc n) closed =
      let e : start + suc n ≡ suc (start + n) = omega arith in
      rw (e, closed n (omega arith)) (closed_passed start n (λ k l. closed k (omega arith)))

  -- ---- the first hour
  pub first_hour : IsHour setup (record { number = 0; start = 0 })
  first_hour = record { others = 0; begins = omega arith; numbered = omega arith }

  -- ---- every slot is in hour 0
  module _ (none : setup.hour ≡ 0) where
    pub open_always : mark_of setup 0 ≡ 1 → (end : ℕ) → OpenFrom setup (stretch_to end)
    open_always m end = record {
      hour = first_hour;
      all_open_lem = λ x l b. marked_open x 0 (capacity_hour_0 setup none x) m;
      some = λ n. omega arith;
    }

    pub closed_always : (mark_of setup 0 ≡ 1 → ⊥) → (end : ℕ) → latest_open setup end ≡ latest_open setup 0
    closed_always m end =
        let e : end ≡ 0 + end = omega arith in
        ap (latest_open setup) e ∙ closed_passed 0 end (λ k l. unmarked_closed (0 + k) 0 (capacity_hour_0 setup none (0 + k)) m)

  -- ---- the slots of an hour, all of them open or all closed
  module _ (pos : 0 < setup.hour) (hour : Hour) (is : IsHour setup hour) (e : ℕ) (within : e ≤ hour.start + setup.hour) where
    inside : (x : ℕ) → hour.start ≤ x → x < e → capacity_of setup x ≡ mark_of setup hour.number
    inside x l b =
        let g : is.others * setup.hour + (x - hour.start) ≡ x = omega (arith, is.begins) in
        ap (capacity_of setup) (sym g) ∙ capacity_in_hour setup pos is.others (x - hour.start) (omega arith) ∙ ap (mark_of setup) (sym is.numbered)

    pub open_hour : mark_of setup hour.number ≡ 1 → hour.start < e → OpenFrom setup (record { hour = hour; end = e })
    open_hour m some = record {
      hour = is;
      all_open_lem = λ x l b. marked_open x hour.number (inside x l b) m;
      some = λ n. absurd (n some);
    }

    pub closed_hour : (hour.start < e → mark_of setup hour.number ≡ 1 → ⊥) → latest_open setup e ≡ latest_open setup (min e hour.start)
    closed_hour m =
        elim (order e hour.start) [
          | le h ↦ let g : min e hour.start ≡ e = omega arith in ap (latest_open setup) (sym g)
          | gt h ↦
              let g : e ≡ hour.start + (e - hour.start) = omega arith in
              let q : min e hour.start ≡ hour.start = omega arith in
              ap (latest_open setup) g
              ∙ closed_passed hour.start (e - hour.start)
              (λ k l. unmarked_closed (hour.start + k) hour.number (inside (hour.start + k) (omega arith) (omega arith)) (m h))
              ∙ ap (latest_open setup) (sym q)
        ]

-- a stretch without slots
pub no_slots : (setup : Setup) → OpenFrom setup (stretch_to 0)
no_slots setup = record { hour = first_hour setup; all_open_lem = λ x l b. absurd (omega arith); some = λ n. refl }
