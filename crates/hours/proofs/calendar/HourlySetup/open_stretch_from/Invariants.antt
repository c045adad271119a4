-- The loop of `hours::calendar::HourlySetup::open_stretch_from` goes over hours that begin at `end` or behind it, and over closed ones, which
-- have no open slot. Assumes nothing.
use Rattle.std.proofs.Common.{◌≡◌, ◌+◌, ◌≤◌}
use Rattle.hours.specs.Week.{latest_open, IsHour}
use Rattle.hours.proofs.calendar.HourlySetup.open_stretch_from.Given as goal

abbrev pub invariant-loop-hour : goal.invariant-loop-hour
invariant-loop-hour l =
    let setup = l.self.setup in
    IsHour setup l.hour × (l.e ≤ l.hour.start + setup.hour) × (l.e ≤ l.end) × (latest_open setup l.end ≡ latest_open setup l.e)

abbrev pub decreases-loop-hour : goal.decreases-loop-hour
decreases-loop-hour l = l.hour.start
