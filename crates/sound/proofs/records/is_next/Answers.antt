-- `sound::records::is_next` meets its contract: chart order takes one comparison where the other tests passed.
use Rattle.std.proofs.Common.{◌+◌, ◌≤◌, sym, ◌∙◌, arith}
use borrow.Author.Tests.{ltb-true}
use Rattle.sound.proofs.RecordTests.{next_order, one_comparison}
use Rattle.sound.proofs.records.is_next.Goals as goal

-- the last test is behind all others: w's deadline is past the clock, so that it can count one less
pub returns : goal.returns
returns c =
    let a = c.args in
    let ahead = sym c.is_ahead_by.ensures ∙ c.if-not-is_ahead_by.false in
    let some : 1 ≤ a.w.deadline = omega (arith, ltb-true (a.head.clock + a.i) a.w.deadline ahead) in
    rw c.from.ensures (one_comparison a.before a.w some)
    ∙ sym (next_order a.head a.i a.before a.w c.if-w-lt1.false c.if-head-w.false c.if-head-w-2.false ahead)
