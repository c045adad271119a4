-- `welsbell::welsbell_open` meets its contract. Assumes nothing.
use Rattle.welsbell.proofs.ExportLaws.{exports_open}
use Rattle.welsbell.proofs.welsbell_open.Goals as goal

pub returns : goal.returns
returns c =
    exports_open c.args.setup.now c.args.marks.now c.args.head.now c.args.hours.now c.args.values.now c.head_of.ensures
    (rw c.setup_of-given.ensures at c.open-reply.ensures) c.write_answer.ensures
    c.write_head.new.numbers c.write_marks.new.hours c.write_head.ensures c.write_marks.ensures
