-- What the loop of `overfull::due_by` keeps: what is left to look at between its two places gives the whole.
use Rattle.std.proofs.Common.{◌≡◌, ◌-◌, ◌≤◌, length}
use Rattle.spec.specs.Tables.{deadlines_of}
use Rattle.occupancy.specs.Scans.{place_by}
use Rattle.occupancy.proofs.Searches.{left_between}
use Rattle.occupancy.proofs.overfull.due_by.Given as goal

abbrev pub invariant-loop-low : goal.invariant-loop-low
invariant-loop-low l =
    (l.low ≤ l.high)
    × (l.high ≤ length l.waiting)
    × (left_between (deadlines_of l.waiting) l.deadline l.low l.high ≡ place_by (deadlines_of l.waiting) (length l.waiting) l.deadline)

abbrev pub decreases-loop-low : goal.decreases-loop-low
decreases-loop-low l = l.high - l.low
