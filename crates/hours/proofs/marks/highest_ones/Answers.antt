-- `hours::marks::highest_ones` meets its contract: what the shift leaves are the highest bits. Assumes nothing.
use Rattle.std.proofs.Common.{rules, arith}
use Rattle.spec.specs.Hours.{sum_from}
use Rattle.hours.proofs.MarkedHours.{highest_ones, highest_most}
use Rattle.hours.proofs.marks.highest_ones.Goals as goal

pub returns-then-n-eq0 : goal.returns-then-n-eq0
unfolding sum_from
returns-then-n-eq0 c = search rules

pub returns : goal.returns
returns c =
    let a = c.args in
    let e = highest_ones a.word a.n (omega arith) (omega arith) in
    (omega arith, omega (arith, highest_most a.word a.n))
