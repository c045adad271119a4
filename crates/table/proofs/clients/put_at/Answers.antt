-- `table::clients::put_at` meets its contract: where the client does not exist nothing changes.
-- Assumes nothing.
use Rattle.std.proofs.Common.{arith, sym}
use Rattle.table.proofs.ChangedCounts.{changed_at_none}
use Rattle.table.proofs.clients.put_at.Goals as goal

pub returns-else-i-record_count : goal.returns-else-i-record_count
returns-else-i-record_count c = sym (changed_at_none (λ _. c.args.k) c.args.client c.args.numbers.now (omega arith))
