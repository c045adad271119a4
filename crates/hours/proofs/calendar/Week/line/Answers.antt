-- `hours::calendar::Week::line` meets its contract: the line is that of the hour's end where the hour is open, and else that of its start.
-- Assumes nothing.
use Rattle.std.proofs.Common.{◌/◌, ap, ◌∙◌, arith}
use native.Mathlib.Nat.{div-mul-le_self}
use Rattle.spec.specs.Hours.{mark_of}
use Rattle.spec.proofs.Laws.Room.{mark_most}
use Rattle.hours.proofs.OpenSlots.{mark_times}
use Rattle.hours.proofs.Lines.{reach_fits, line_of_hour}
use Rattle.hours.proofs.calendar.Week.line.Goals as goal

pub overflow_mul-result : goal.overflow_mul-result
overflow_mul-result c =
    let setup = c.args.self.now.setup in
    let few = mark_most setup c.of_week.result in
    let some = mark_times c.mark_of-mark.result setup.hour (omega arith) in
    record { fits = omega arith }

-- the sum fits even where the hour is open
pub overflow_add-result : goal.overflow_add-result
overflow_add-result c =
    let setup = c.args.self.now.setup in
    let slot = c.args.slot in
    let few = mark_most setup c.of_week.result in
    let some = mark_times c.mark_of-mark.result setup.hour (omega arith) in
    let fits = reach_fits setup.hour slot c.open_hours_before.result 1 (omega arith) (omega arith) (omega arith) (omega arith) in
    record { fits = omega arith }

pub returns : goal.returns
returns c =
    let setup = c.args.self.now.setup in
    let slot = c.args.slot in
    let whole = c.open_hours_before in
    let mark = c.mark_of-mark in
    let small = div-mul-le_self slot setup.hour in
    line_of_hour setup (omega arith) (slot / setup.hour) whole.result mark.result whole.ensures.0
    (mark.ensures ∙ ap (mark_of setup) c.of_week.ensures) (omega arith)
