-- `hours::calendar::open_before` meets its contract: with no slots an hour the mark of hour 0 tells of every slot. Assumes nothing.
use Rattle.std.proofs.Common.{ℕ, ◌*◌, ap, sym, ◌∙◌, arith}
use Rattle.spec.proofs.Laws.Room.{mark_most}
use Rattle.hours.proofs.OpenSlots.{mark_times, room_hour_0}
use Rattle.hours.proofs.calendar.open_before.Goals as goal

pub overflow_mul-result : goal.overflow_mul-result
overflow_mul-result c =
    let mark = c.mark_of in
    record { fits = omega (arith, mark_times mark.result c.args.slot (omega (arith, mark_most c.args.setup 0))) }

pub returns-then-setup-eq0 : goal.returns-then-setup-eq0
returns-then-setup-eq0 c =
    let a = c.args in
    let mark = c.mark_of in (
      ap (λ (m : ℕ). m * a.slot) mark.ensures ∙ sym (room_hour_0 a.setup (omega arith) a.slot),
      omega (arith, mark_times mark.result a.slot (omega (arith, mark_most a.setup 0))),
    )
