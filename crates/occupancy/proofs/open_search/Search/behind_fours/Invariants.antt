-- What the loop of `open_search::Search::behind_fours` keeps: the search from its place on finds what it finds from the first.
use Rattle.std.proofs.Common.{◌≡◌, length}
use Rattle.occupancy.specs.Fours.{first_full}
use Rattle.occupancy.proofs.open_search.Search.behind_fours.Given as goal

abbrev pub invariant-loop-four : goal.invariant-loop-four
invariant-loop-four l =
    (first_full l.search.week.now.setup l.search.taken l.search.left.now ≡ first_full l.self.week.now.setup l.self.taken l.self.left.now)
    × (l.search.week ≡ l.self.week)

abbrev pub decreases-loop-four : goal.decreases-loop-four
decreases-loop-four l = length l.search.left.now
