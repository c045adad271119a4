-- `hours::calendar::HourlySetup::hour_before` meets its contract: the hour before has one other less before it. Assumes nothing.
use Rattle.std.proofs.Common.{◌≡◌, ◌-◌, ◌%◌, arith}
use Rattle.spec.specs.Tables.{hours}
use Rattle.hours.proofs.Stretches.{not_first, hour_back}
use Rattle.hours.proofs.calendar.HourlySetup.hour_before.Goals as goal
use Rattle.hours.proofs.calendar.HourlySetup.hour_before.Goals.{in-0, in_default}

pub returns : goal.returns
returns c =
    let setup = c.args.self.setup in
    let hour = c.args.hour in
    let is = c.requires.0 in
    let later = not_first setup hour is c.requires.1 in
    let e : c.match-hour.number ≡ (is.others - 1) % hours =
    elim c.match-hour.branch [ in-0 w ↦ omega (arith, is.numbered) | in_default w ↦ omega (arith, is.numbered) ] in
    hour_back setup hour is c.requires.1 c.match-hour.number e
