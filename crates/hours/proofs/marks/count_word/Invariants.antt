-- The loop of `hours::marks::count_word`: between two turns k bits have been counted. Assumes nothing.
use Rattle.hours.specs.Week.{CountedOn}
use Rattle.hours.proofs.marks.count_word.Given as goal

abbrev pub invariant-loop-k : goal.invariant-loop-k
invariant-loop-k l = CountedOn l.fn.counts l.counts l.from l.word l.k
