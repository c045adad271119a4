-- `hours::marks::count_word` meets its contract: each turn counts one bit more. Assumes nothing.
use Rattle.std.proofs.Common.{arith}
use Rattle.hours.proofs.Counts.{counting_starts, counting_most, counting_goes_on}
use Rattle.hours.proofs.marks.count_word.Goals as goal

pub loop-k-init : goal.loop-k-init
loop-k-init c = counting_starts c.args.counts.now c.args.from c.args.word

pub overflow_add-counts-in-loop-k : goal.overflow_add-counts-in-loop-k
overflow_add-counts-in-loop-k c =
    let a = c.args in
    let turn = c.loop-k in
    record { fits = omega (arith, counting_most a.counts.now a.from a.word turn.counts turn.k turn.invariant) }

pub loop-k-preserved : goal.loop-k-preserved
loop-k-preserved c =
    let a = c.args in
    let turn = c.loop-k in
    counting_goes_on a.counts.now a.from a.word turn.counts turn.k turn.invariant (omega arith)
