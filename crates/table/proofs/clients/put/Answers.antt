-- `table::clients::put` meets its contract: the three numbers written are the record at the index changed.
-- Assumes nothing.
use Rattle.table.proofs.ChangedCounts.{put_changed}
use Rattle.table.proofs.clients.put.Goals as goal

pub returns : goal.returns
returns c = put_changed c.args.numbers.now c.args.i c.args.k c.requires
