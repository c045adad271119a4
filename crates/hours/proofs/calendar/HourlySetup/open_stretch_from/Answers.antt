-- `hours::calendar::HourlySetup::open_stretch_from` meets its contract: an hour that is gone over has no open slot before e, and the hour of
-- the break is open. Assumes nothing.
use Rattle.std.proofs.Common.{◌≡◌, min, ap, sym, ◌∙◌, arith}
use Rattle.hours.specs.Week.{latest_open}
use Rattle.hours.proofs.Stretches.{open_hour, closed_hour, no_slots}
use Rattle.hours.proofs.calendar.HourlySetup.open_stretch_from.Goals as goal

pub loop-hour-preserved : goal.loop-hour-preserved
loop-hour-preserved c =
    let setup = c.args.self.setup in
    let turn = c.loop-hour in
    let inv = turn.invariant in
    let gone = closed_hour setup (omega arith) turn.hour inv.0 turn.e inv.1 (λ l m. omega (arith, c.mark_of-mark.ensures, c.else-hour-e.either)) in (
      c.hour_before-hour.ensures.0,
      omega (arith, c.min-e.ensures, c.hour_before-hour.ensures.1),
      omega (arith, c.min-e.ensures, inv.2),
      inv.3 ∙ gone ∙ ap (latest_open setup) (sym c.min-e.ensures),
    )

pub returns-then-mark-eq1 : goal.returns-then-mark-eq1
returns-then-mark-eq1 c =
    let turn = c.loop-hour in
    let inv = turn.invariant in
    let marked = sym c.mark_of-mark.ensures ∙ c.if-mark-eq1.true in
    (open_hour c.args.self.setup (omega arith) turn.hour inv.0 turn.e inv.1 marked (omega arith), inv.2, inv.3)

pub returns-then-hour-eq0 : goal.returns-then-hour-eq0
returns-then-hour-eq0 c =
    let setup = c.args.self.setup in
    let turn = c.loop-hour in
    let inv = turn.invariant in
    let gone = closed_hour setup (omega arith) turn.hour inv.0 turn.e inv.1 (λ l m. omega (arith, c.mark_of-mark.ensures, c.else-hour-e.either)) in
    let none : min turn.e turn.hour.start ≡ 0 = omega arith in
    rw c.stretch_to.ensures (no_slots setup, omega arith, inv.3 ∙ gone ∙ ap (latest_open setup) none)
