-- `hours::marks::count_open_hours` meets its contract: the hours of each word are counted behind those of the words before it.
-- Assumes nothing.
use Rattle.std.proofs.Common.{arith}
use Rattle.hours.proofs.Counts.{counted_none, counted_64, counted_128, counted_all, counted_fits}
use Rattle.hours.proofs.marks.count_open_hours.Goals as goal

pub count_word-requires-2 : goal.count_word-requires-2
count_word-requires-2 c =
    let setup = c.args.setup in
    let k1 = counted_64 setup _ _ (counted_none setup) c.count_word.ensures in
    counted_fits setup _ 64 64 k1 (omega arith) (omega arith)

pub count_word-requires-3 : goal.count_word-requires-3
count_word-requires-3 c =
    let setup = c.args.setup in
    let k1 = counted_64 setup _ _ (counted_none setup) c.count_word.ensures in
    let k2 = counted_128 setup _ _ k1 c.count_word-2.ensures in
    counted_fits setup _ 128 40 k2 (omega arith) (omega arith)

pub returns : goal.returns
returns c =
    let setup = c.args.setup in
    let k1 = counted_64 setup _ _ (counted_none setup) c.count_word.ensures in
    let k2 = counted_128 setup _ _ k1 c.count_word-2.ensures in
    counted_all setup _ _ k2 (omega arith) (rw c.last_word.ensures at c.count_word-3.ensures)
