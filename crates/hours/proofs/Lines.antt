-- Lines below the open slots: the slots before a slot, closed and open, make one. Assumes nothing.
use Prim.Native.Nat.{ℕ, ◌+◌, ◌-◌, ◌*◌, ◌/◌, ◌%◌, ◌^◌, ◌≤◌, ◌<◌}
use mathlib.Core.Path.{◌≡◌, ap, sym, ◌∙◌}
use native.Mathlib.Omega.{arith}
use native.Mathlib.Nat.{mul-le-mul_right, div-mul-le_self}
use Rattle.slots.proofs.Laws.Tests.{le, gt, order}
use Rattle.spec.specs.declared.types.Setup.{Setup}
use Rattle.spec.specs.Tables.{hours}
use Rattle.spec.specs.Hours.{mark_of, room}
use Rattle.spec.proofs.Laws.Room.{mark_most, room_split, room_mono}
use Rattle.hours.specs.declared.calendar.Line.{Line}
use Rattle.hours.specs.Week.{open_hours_before, Below}
use Rattle.hours.proofs.OpenSlots.{room_most, room_in_hour}

-- an hour that starts no later than a slot below 2⁶³ ends below 2⁶⁴, and so do the open slots before its end
module _ (n slot : ℕ) where
  pub reach_fits : (before mark : ℕ) → before ≤ slot / n → mark ≤ 1 → slot < 2 ^ 63 → n < 2 ^ 64 → before * n + mark * n < 2 ^ 64
  reach_fits before mark l m s t =
      elim (order 1 (slot / n)) [
        | le h ↦ omega (arith, mul-le-mul_right n h, mul-le-mul_right n l, mul-le-mul_right n m, div-mul-le_self slot n)
        | gt h ↦
            let z : before ≤ 0 = omega arith in
            omega (arith, mul-le-mul_right n z, mul-le-mul_right n m)
      ]

module _ (setup : Setup) where
  -- from a slot back to a deadline no more open slots are lost than slots, and behind it none
  line_at : (line : Line) (at : ℕ) → line.floor ≤ 2 ^ 50 → line.floor ≡ at - room setup 0 at → line.reach ≡ room setup 0 at → Below setup line
  line_at line at low e g =
      record {
        low = low;
        more = λ n d l r.
            elim (order d at) [
              | le h ↦ omega (arith, room_split setup 0 d at (omega arith) h, room_most setup d at, room_most setup 0 at)
              | gt h ↦ omega (arith, room_mono setup 0 at d (omega arith))
            ];
      }

  -- the line of an hour: of its end where it is open, and of its start where it is closed
  module _ (pos : 0 < setup.hour) (h before mark : ℕ) (counted : before ≡ open_hours_before setup h) (marked : mark ≡ mark_of setup (h % hours)) where
    pub line_of_hour : h * setup.hour ≤ 2 ^ 50
        → Below setup (record { floor = h * setup.hour - before * setup.hour; reach = before * setup.hour + mark * setup.hour })
    line_of_hour small =
        let start : ℕ = h * setup.hour in
        let end : ℕ = start + setup.hour in
        let inside = room_in_hour setup pos h before mark counted marked in
        elim (order 1 mark) [
          | le m ↦
              let one : mark ≡ 1 = omega (arith, mark_most setup (h % hours)) in
              let e : end - start ≡ setup.hour = omega arith in
              let whole = inside end (omega arith) (omega arith) ∙ ap (λ (x : ℕ). before * setup.hour + mark * x) e in
              let times : mark * setup.hour ≡ setup.hour = ap (λ (x : ℕ). x * setup.hour) one ∙ omega arith in
              line_at _ end (omega arith) (omega (arith, whole, times)) (sym whole)
          | gt m ↦
              let none : mark ≡ 0 = omega arith in
              let e : start - start ≡ 0 = omega arith in
              let whole = inside start (omega arith) (omega arith) in
              let times : (x : ℕ) → mark * x ≡ 0 = λ x. ap (λ (y : ℕ). y * x) none ∙ omega arith in
              line_at _ start (omega arith) (omega (arith, whole, times (start - start))) (omega (arith, whole, times (start - start), times setup.hour))
        ]
