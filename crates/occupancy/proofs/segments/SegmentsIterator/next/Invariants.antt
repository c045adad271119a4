-- What the loop of the `next` of `segments::Segments` keeps: the run so far, glued to the segments of the start slots behind it, gives those
-- from its first one on; and these are start slots, not the largest number.
use Rattle.std.proofs.Common.{◌≡◌, ℕ, ◌<◌, length, get_or}
use Rattle.spec.specs.Chart.{segments_of}
use Rattle.table.specs.Widths.{largest64}
use Rattle.occupancy.proofs.StartsAndSegments.{glue}
use Rattle.occupancy.proofs.segments.SegmentsIterator.next.Given as goal

abbrev pub invariant-loop-next : goal.invariant-loop-next
invariant-loop-next l =
    (segments_of l.self.setup l.self.starts.now ≡ glue l.self.setup l.left l.right (segments_of l.self.setup l.rest))
    × ((k : ℕ) → k < length l.rest → get_or l.rest k 0 < largest64)

abbrev pub decreases-loop-next : goal.decreases-loop-next
decreases-loop-next l = length l.rest
