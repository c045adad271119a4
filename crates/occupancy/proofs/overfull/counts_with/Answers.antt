-- `overfull::counts_with` meets its contract: another client, one that does not exist, or the one whose request is counted.
use Rattle.std.proofs.Common.{arith}
use Rattle.occupancy.proofs.Ratios.{counted_other, counted_none, counted_same}
use Rattle.occupancy.proofs.overfull.counts_with.Goals as goal

pub returns-then-c-client : goal.returns-then-c-client
returns-then-c-client c = counted_other _ _ _ _ c.counts_at-counts.ensures c.if-c-client.true

pub returns-then-record_count-c : goal.returns-then-record_count-c
returns-then-record_count-c c =
    counted_none _ _ _ _ c.counts_at-counts.ensures (omega (arith, c.record_count.ensures)) (omega arith)

pub returns : goal.returns
returns c = counted_same _ _ _ _ c.counts_at-counts.ensures (omega arith) (omega arith)
