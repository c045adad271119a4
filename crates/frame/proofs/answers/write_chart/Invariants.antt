-- `frame::answers::write_chart`: with the segments left, what stands is all their lines, and the count all of them. Assumes nothing.
use Rattle.std.proofs.Common.{◌+◌, ◌*◌, ◌≤◌, ◌≡◌, ◌++◌, length, take}
use Rattle.spec.specs.Chart.{segments_of}
use Rattle.spec.specs.Lines.Frames.{segment_lines}
use Rattle.frame.specs.LineLengths.{segment_length}
use Rattle.frame.proofs.answers.write_chart.Given as goal

abbrev pub invariant-loop-ends : goal.invariant-loop-ends
invariant-loop-ends l =
    goal.iterator-loop-ends.can_next l.ends-iterator
    × goal.iterator-loop-ends.is_finite l.ends-iterator
    × (l.end ≡ segment_length * l.count)
    × (l.count + length (segments_of l.ends-iterator.setup l.ends-iterator.starts.now) ≤ length l.starts)
    × (l.count + length (segments_of l.ends-iterator.setup l.ends-iterator.starts.now) ≡ length (segments_of l.fn.setup l.starts))
    × (take l.end l.out ++ segment_lines (segments_of l.ends-iterator.setup l.ends-iterator.starts.now)
    ≡ segment_lines (segments_of l.fn.setup l.starts))
