-- `hours::calendar::Week::open_hours_among` meets its contract: the counts tell. Assumes nothing.
use Rattle.std.proofs.Common.{arith}
use Rattle.hours.proofs.Counts.{count_most}
use Rattle.hours.proofs.calendar.WeekOpenHours.open_hours_among.Goals as goal

pub returns : goal.returns
returns c =
    let week = c.args.self.now in
    let each = week.counted.each c.args.n (omega arith) in
    let most = count_most week.setup week.counts week.counted c.args.n (omega arith) in
    (omega arith, omega arith)
