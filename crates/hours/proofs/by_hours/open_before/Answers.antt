-- `hours::by_hours::open_before` meets its contract: it counts whole hours, and the slots of the last. Assumes nothing.
use Rattle.std.proofs.Common.{◌≤◌, ◌%◌, ap, ◌∙◌, arith}
use Rattle.spec.specs.Hours.{mark_of}
use Rattle.spec.proofs.Laws.Room.{mark_most}
use Rattle.hours.proofs.OpenSlots.{mark_times, by_hour, whole_fits, counted_slots_fit}
use Rattle.hours.proofs.by_hours.open_before.Goals as goal

pub overflow_mul-result-2 : goal.overflow_mul-result-2
overflow_mul-result-2 g c =
    let slots = c.setup-slots.result.hour in
    let few = mark_most (g.W.OpenHours.setup c.args.week.now) c.of_week.result in
    let some = mark_times c.mark_of-mark.result (c.args.slot % slots) (omega (arith, c.mark_of-mark.ensures)) in
    let whole = whole_fits slots c.args.slot c.open_hours_before.result (omega (arith, c.open_hours_before.ensures.1)) in
    record { fits = omega arith }

pub overflow_add-result : goal.overflow_add-result
overflow_add-result g c =
    let slots = c.setup-slots.result.hour in
    let few = mark_most (g.W.OpenHours.setup c.args.week.now) c.of_week.result in
    let some = mark_times c.mark_of-mark.result (c.args.slot % slots) (omega (arith, c.mark_of-mark.ensures)) in
    let whole = whole_fits slots c.args.slot c.open_hours_before.result (omega (arith, c.open_hours_before.ensures.1)) in
    record { fits = omega arith }

pub returns : goal.returns
returns g c =
    let a = c.args in
    let setup = g.W.OpenHours.setup a.week.now in
    let whole = c.open_hours_before in
    let mark = c.mark_of-mark in
    let few = mark_most setup c.of_week.result in
    let one : mark.result ≤ 1 = omega (arith, mark.ensures) in
    let fit = counted_slots_fit c.setup-slots.result.hour a.slot whole.result mark.result whole.ensures.1 one in
    let same = rw c.setup-slots.ensures at whole.ensures.0 in
    let marked = rw c.setup-slots.ensures at c.of_week.ensures in
    rw c.setup-slots.ensures (
      by_hour setup (g.met.W.OpenHours.has_slots a.week.now) a.slot whole.result mark.result same
          (mark.ensures ∙ ap (mark_of setup) marked),
      rw c.setup-slots.ensures at fit,
    )
