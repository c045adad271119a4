-- `frame::lines::behind` meets its contract: what is found in what is left of the buffer stands in the buffer. Assumes nothing.
use Rattle.frame.proofs.LineParts.{behind_feed, behind_none}
use Rattle.frame.proofs.lines.behind.Goals as goal

pub returns-in-Some : goal.returns-in-Some
returns-in-Some c =
    behind_feed c.args.buffer.now c.between.result.now c.args.at c.between.ensures c.in-Some.before c.in-Some.ensures

pub returns-in-None : goal.returns-in-None
returns-in-None c = behind_none c.args.buffer.now c.between.result.now c.args.at c.between.ensures c.in-None.ensures
