-- `session::turns::begun` meets its contract: what has more digits than any frame is read past, and the beginning of a frame is left.
use Rattle.std.proofs.Common.{arith}
use Rattle.std.proofs.lemmas.Bool.Decides.{nat_tests}
use Rattle.session.proofs.Laws.LineEnds.{past, left}
use Rattle.session.proofs.turns.begun.Goals as goal

pub returns-then-over : goal.returns-then-over
returns-then-over c clean = past c.args.input.now c.args.fed c.requires clean (grind (arith, nat_tests))

pub returns : goal.returns
returns c clean = left c.args.input.now c.args.fed c.requires clean (grind (arith, nat_tests))
