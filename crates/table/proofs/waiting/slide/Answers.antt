-- `table::waiting::slide` meets its contract: a turn of its loop copies the record at the next place to this one.
-- Assumes nothing.
use Rattle.std.proofs.Common.{arith}
use borrow.Author.Tests.{ne_eqb}
use Rattle.table.proofs.MovedRecords.{steps, goes_on}
use Rattle.table.proofs.waiting.slide.Goals as goal

pub loop-i-preserved : goal.loop-i-preserved
loop-i-preserved c =
    let i = c.loop-i.i in
    let g = c.loop-i.invariant in
    let s = steps i c.loop-i.t g (omega arith) c.requires.1 (rw (ne_eqb i c.args.to c.loop-i-test.true) tt) in
    rw (c.put.ensures, c.get-w.ensures, c.next-j.ensures) (goes_on i c.loop-i.t g _ s)
