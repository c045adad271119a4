-- `hours::calendar::is_any_open` meets its contract: one of the slots is open where more open slots come before the second than before the
-- first. Assumes nothing.
use Rattle.std.proofs.Common.{◌≡◌, ltb, ap₂, sym, ◌∙◌, arith}
use Rattle.spec.specs.Hours.{room}
use Rattle.hours.proofs.OpenSlots.{any_open, all_open_room}
use Rattle.hours.proofs.calendar.is_any_open.Goals as goal

pub returns-then-are_all_open : goal.returns-then-are_all_open
returns-then-are_all_open c =
    let a = c.args in
    let all = sym c.are_all_open.ensures ∙ c.if-are_all_open.true in
    let e : a.from ≡ room a.setup 0 a.from = omega (arith, all_open_room a.setup all 0 a.from) in
    let g : a.to ≡ room a.setup 0 a.to = omega (arith, all_open_room a.setup all 0 a.to) in
    ap₂ ltb e g ∙ any_open a.setup a.from a.to

pub returns : goal.returns
returns c =
    ap₂ ltb c.open_before-before.ensures.0 c.open_before-after.ensures.0 ∙ any_open c.args.setup c.args.from c.args.to
