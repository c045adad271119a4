-- `open_search::Search::behind_eights` meets its contract: where the line tells of eight by the first of them, the search goes on behind them.
use Rattle.std.proofs.Common.{sym, ap, ◌∙◌, arith, length}
use Rattle.std.proofs.lemmas.List.{length-drop}
use Rattle.occupancy.proofs.Fours.{chunk_due, same_search, eight_on}
use Rattle.occupancy.proofs.open_search.Search.behind_eights.Goals as goal

pub loop-eight-preserved : goal.loop-eight-preserved
loop-eight-preserved c =
    let s = c.loop-eight.search in
    let ws = s.left.now in
    let h = c.loop-eight.invariant in
    let chunk = c.in-Some.ensures.cases in
    let next = c.behind-search.ensures in
    let first = chunk_due c.in-Some.eight.now ws 8 0 chunk.same (omega arith) in
    let on = eight_on s.week.now.setup s.taken ws s.line s.below s.ascends chunk.enough (rw first (sym c.if-not-are_eight_roomy.ensures)) in
    (same_search _ _ _ _ _ _ next.0 next.1 next.2 ∙ on ∙ h.0, next.0 ∙ h.1, omega (arith, h.2, length-drop 8 ws, ap length next.2))
