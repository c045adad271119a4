-- `table::waiting::replace` meets its contract: where a place is not in the table nothing changes, and otherwise the slide leaves `at` to
-- be written.
-- Assumes nothing.
use Rattle.std.proofs.Common.{◌∙◌}
use Rattle.table.proofs.MovedRecords.{untouched, puts_for}
use Rattle.table.proofs.waiting.replace.Goals as goal

pub returns-then-t-out : goal.returns-then-t-out
returns-then-t-out c = untouched c.args.out c.args.at c.args.r c.args.t.now c.then-t-out.either

pub returns : goal.returns
returns c =
    let p =
    puts_for c.args.out c.args.at c.args.r c.args.t.now c.if-t-out.false c.if-t-at.false c.move_between.new.t
    c.move_between.ensures
    c.move_between.auto.t in
    (c.get-gone.ensures ∙ p.0, c.put.ensures ∙ p.1)
