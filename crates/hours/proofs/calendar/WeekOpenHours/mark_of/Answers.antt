-- `hours::calendar::Week::mark_of` meets its contract: an hour is marked where one more is open behind it than before it. Assumes nothing.
use Rattle.std.proofs.Common.{arith}
use Rattle.hours.proofs.Counts.{count_next}
use Rattle.hours.proofs.calendar.WeekOpenHours.mark_of.Goals as goal

pub overflow_sub-self : goal.overflow_sub-self
overflow_sub-self c =
    let week = c.args.self.now in
    omega (arith, count_next week.setup week.counts week.counted c.args.hour (omega arith))

pub returns : goal.returns
returns c =
    let week = c.args.self.now in
    let next = count_next week.setup week.counts week.counted c.args.hour (omega arith) in
    omega (arith, next, c.from.ensures)
