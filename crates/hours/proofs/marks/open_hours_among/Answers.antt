-- `hours::marks::open_hours_among` meets its contract: the hours of each word are counted apart. Assumes nothing.
use Rattle.std.proofs.Common.{arith}
use Rattle.hours.proofs.MarkedHours.{among_0, among_64, among_128, among_most}
use Rattle.hours.proofs.marks.open_hours_among.Goals as goal

pub returns-then-n-le64 : goal.returns-then-n-le64
returns-then-n-le64 c =
    let e = among_0 c.args.setup c.args.n (omega arith) in
    (omega arith, omega (arith, among_most c.args.setup c.args.n))

pub returns-then-n-le128 : goal.returns-then-n-le128
returns-then-n-le128 c =
    let e = among_64 c.args.setup c.args.n (omega arith) (omega arith) in
    (omega arith, omega (arith, among_most c.args.setup c.args.n))

pub returns : goal.returns
returns c =
    let e = among_128 c.args.setup c.args.n (omega arith) (omega arith) (omega arith) in
    let last = rw c.last_word.ensures at c.highest_ones-3.ensures.0 in
    (omega arith, omega (arith, among_most c.args.setup c.args.n))
