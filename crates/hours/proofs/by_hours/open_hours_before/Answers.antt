-- `hours::by_hours::open_hours_before` meets its contract: it counts whole weeks, and the hours of the last. Assumes nothing.
use Rattle.std.proofs.Common.{ap, ◌∙◌, arith}
use Rattle.spec.specs.Hours.{mark_of, sum_from}
use Rattle.hours.proofs.OpenSlots.{by_week, weeks_fit}
use Rattle.hours.proofs.by_hours.open_hours_before.Goals as goal

pub returns : goal.returns
returns g c =
    let a = c.args in
    let setup = g.W.OpenHours.setup a.week.now in
    let whole = c.open_hours_among-whole in
    let rest = c.open_hours_among-rest in (
      by_week setup a.hour whole.result rest.result whole.ensures.0 (rest.ensures.0 ∙ ap (sum_from (mark_of setup) 0) c.of_week.ensures),
      omega (arith, whole.ensures.1, rest.ensures.1, c.of_week.ensures, weeks_fit a.hour whole.result whole.ensures.1),
    )
