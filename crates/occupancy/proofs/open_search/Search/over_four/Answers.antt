-- `open_search::Search::over_four` meets its contract: where a line tells of the four, none is full.
use Rattle.std.proofs.Common.{sym, ◌∙◌, refl, rules}
use Rattle.occupancy.proofs.Fours.{none_full}
use Rattle.occupancy.proofs.open_search.Search.over_four.Goals as goal

pub returns-then-are_roomy : goal.returns-then-are_roomy
returns-then-are_roomy c =
    let self = c.args.self in
    let above = sym c.are_roomy.ensures ∙ c.if-are_roomy.true in
    (none_full self.week.now.setup self.line self.taken c.args.due (search rules) self.below above, refl, refl, refl)

pub returns-then-are_roomy-2 : goal.returns-then-are_roomy-2
returns-then-are_roomy-2 c =
    let self = c.args.self in
    let above = sym c.are_roomy-2.ensures ∙ c.if-are_roomy-2.true in
    (none_full self.week.now.setup c.line.result self.taken c.args.due (search rules) c.line.ensures above, refl, refl, refl)
