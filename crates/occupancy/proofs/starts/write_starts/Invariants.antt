-- What the loop of `starts::write_starts` keeps: the start slots of the records from its place on stand, and where the chart stands is the
-- first of them.
use Rattle.std.proofs.Common.{◌≡◌, ◌++◌, length, take, drop, get_or}
use Rattle.table.specs.Widths.{largest64}
use Rattle.occupancy.proofs.StartsAndSegments.{starts_from}
use Rattle.occupancy.proofs.starts.write_starts.Given as goal

abbrev pub invariant-loop-i : goal.invariant-loop-i
invariant-loop-i l =
    (l.reached ≡ (l.fn.setup, get_or (starts_from l.fn.setup l.waiting l.i) 0 largest64))
    × (l.out ≡ take l.i l.fn.out ++ (starts_from l.fn.setup l.waiting l.i ++ drop (length l.waiting) l.fn.out))
