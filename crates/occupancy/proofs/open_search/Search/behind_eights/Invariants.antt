-- What the loop of `open_search::Search::behind_eights` keeps: the search from its place on finds what it finds from the first.
use Rattle.std.proofs.Common.{◌≡◌, ◌≤◌, length}
use Rattle.occupancy.specs.Fours.{first_full}
use Rattle.occupancy.proofs.open_search.Search.behind_eights.Given as goal

abbrev pub invariant-loop-eight : goal.invariant-loop-eight
invariant-loop-eight l =
    (first_full l.search.week.now.setup l.search.taken l.search.left.now ≡ first_full l.self.week.now.setup l.self.taken l.self.left.now)
    × (l.search.week ≡ l.self.week)
    × (length l.search.left.now ≤ length l.self.left.now)

abbrev pub decreases-loop-eight : goal.decreases-loop-eight
decreases-loop-eight l = length l.search.left.now
