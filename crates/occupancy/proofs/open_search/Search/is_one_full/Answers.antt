-- `open_search::Search::is_one_full` meets its contract: the four tests by pairs.
use Rattle.std.proofs.Common.{arith}
use Rattle.occupancy.proofs.Fours.{one_of_four}
use Rattle.occupancy.proofs.open_search.Search.is_one_full.Goals as goal

pub returns : goal.returns
returns c =
    let self = c.args.self.now in
    rw (c.is_full-first.ensures, c.is_full-second.ensures, c.is_full-third.ensures, c.is_full-fourth.ensures)
    (one_of_four self.week.now.setup self.taken c.args.due (omega arith))
