-- `table::clients::add_one` meets its contract: what is written at the client is what was read there, with one count raised.
-- Assumes nothing.
use Rattle.std.proofs.Common.{◌∙◌, ap}
use Rattle.table.specs.Clients.{one_more_unless_full}
use Rattle.table.proofs.ChangedCounts.{changed_at_same}
use Rattle.table.proofs.clients.add_one.Goals as goal

pub returns : goal.returns
returns c =
    c.put_at.ensures
    ∙ changed_at_same _ (one_more_unless_full c.args.which) _ _
    (c.one_more-counted.ensures ∙ ap (one_more_unless_full c.args.which) c.counts_at.ensures)
