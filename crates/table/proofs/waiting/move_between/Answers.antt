-- `table::waiting::move_between` meets its contract: a slide of the part that begins at the nearer place is one of the whole.
-- Assumes nothing.
use Rattle.std.proofs.Common.{arith, true, false}
use Rattle.table.proofs.MovedRecords.{moved_part}
use Rattle.table.proofs.waiting.move_between.Goals as goal

pub returns-then-at-out : goal.returns-then-at-out
returns-then-at-out c =
    moved_part c.args.at c.args.out c.args.t.now (omega arith) c.requires.0 true c.rotate.new.t c.rotate.ensures

pub returns : goal.returns
returns c =
    moved_part c.args.out c.args.at c.args.t.now c.if-at-out.false c.requires.1 false c.rotate-2.new.t c.rotate-2.ensures
