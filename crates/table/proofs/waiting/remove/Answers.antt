-- `table::waiting::remove` meets its contract: it finds none, or a zero record goes in for the one that it takes out.
-- Assumes nothing.
use Rattle.std.proofs.Common.{rules, ◌≡◌, ◌∙◌, ap, Some}
use Rattle.spec.specs.Tables.{zero_request}
use Rattle.table.proofs.MovedRecords.{not_removed, removes}
use Rattle.table.proofs.waiting.remove.Goals as goal

pub returns-then-n-at : goal.returns-then-n-at
returns-then-n-at c = not_removed c.args.n c.args.at c.args.t.now c.then-n-at.either

pub returns : goal.returns
returns c =
    let z : c.default.result ≡ zero_request = search rules in
    let r = removes c.args.n c.args.at c.args.t.now c.if-n-at.false c.if-t-n.false in
    let e = rw z at c.replace.ensures in
    (ap Some e.0 ∙ r.0, e.1 ∙ r.1)
