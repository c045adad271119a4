-- `table::waiting::insert` meets its contract: it is refused, or r goes in for the record behind the first n.
-- Assumes nothing.
use Rattle.std.proofs.Common.{◌≡◌, ◌∙◌}
use Rattle.table.specs.Records.{inserted}
use Rattle.table.proofs.MovedRecords.{not_inserted, inserts}
use Rattle.table.proofs.waiting.insert.Goals.{then-at-n, else-at-n}
use Rattle.table.proofs.waiting.insert.Goals as goal

pub returns : goal.returns
returns c =
    let n = c.args.n in
    let at = c.args.at in
    let r = c.args.r in
    let ys = c.args.t.now in
    let put_in : c.if-at-n.t ≡ inserted n at r ys =
    elim c.if-at-n.branch [
      | then-at-n w ↦ w.t-is ∙ w.replace.ensures.1 ∙ inserts n at r ys w.if-at-n.true
      | else-at-n w ↦ w.t-is ∙ not_inserted n at r ys w.if-at-n.false
    ] in
    (c.shift_at.ensures, put_in)
