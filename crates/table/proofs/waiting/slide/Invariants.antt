-- `table::waiting::slide`, its loop: the place has moved to i on its way, and the others are those of before. Its distance to `to` falls.
use Rattle.std.proofs.Common.{◌+◌, ◌-◌}
use Rattle.table.proofs.MovedRecords.{Going}
use Rattle.table.proofs.waiting.slide.Given as goal

abbrev pub invariant-loop-i : goal.invariant-loop-i
invariant-loop-i l = Going l.up l.from l.to l.initial.t l.i l.t

abbrev pub decreases-loop-i : goal.decreases-loop-i
decreases-loop-i l = (l.i - l.to) + (l.to - l.i)
