-- `hours::calendar::open_stretch_before` meets its contract: with no slots an hour the mark of hour 0 tells of every slot. Assumes nothing.
use Rattle.std.proofs.Common.{refl, sym, ◌∙◌, arith}
use Rattle.hours.proofs.Stretches.{open_always, closed_always, no_slots}
use Rattle.hours.proofs.calendar.open_stretch_before.Goals as goal

pub returns-then-mark_of-eq1 : goal.returns-then-mark_of-eq1
returns-then-mark_of-eq1 c =
    let mark = sym c.mark_of.ensures ∙ c.if-mark_of-eq1.true in
    rw c.stretch_to-then-mark_of-eq1.ensures (open_always c.args.setup c.if-setup-eq0.true mark c.args.end, omega arith, refl)

pub returns-else-mark_of-eq1 : goal.returns-else-mark_of-eq1
returns-else-mark_of-eq1 c =
    rw c.stretch_to-else-mark_of-eq1.ensures (
      no_slots c.args.setup,
      omega arith,
      closed_always c.args.setup c.if-setup-eq0.true (λ m. c.if-mark_of-eq1.false (c.mark_of.ensures ∙ m)) c.args.end,
    )
