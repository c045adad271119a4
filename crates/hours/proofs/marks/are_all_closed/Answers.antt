-- `hours::marks::are_all_closed` meets its contract: the four numbers are 0 just where no hour is marked. Assumes nothing.
use Rattle.std.proofs.Common.{arith}
use Rattle.std.proofs.lemmas.Bool.Decides.{nat_tests}
use Rattle.hours.proofs.MarkedHours.{all_zero, none_open}
use Rattle.hours.proofs.marks.are_all_closed.Goals as goal

pub returns-then-setup-eq0-3 : goal.returns-then-setup-eq0-3
returns-then-setup-eq0-3 c =
    let zero = all_zero c.args.setup (omega arith) (omega arith) (omega arith) (omega arith) in
    let none = none_open c.args.setup (omega arith) (omega arith) (omega arith) (omega arith) in
    grind (arith, nat_tests)

pub returns-else-setup-eq0-3 : goal.returns-else-setup-eq0-3
returns-else-setup-eq0-3 c =
    let zero = all_zero c.args.setup (omega arith) (omega arith) (omega arith) (omega arith) in
    grind (arith, nat_tests)
