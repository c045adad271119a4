-- `open_search::Search::behind_fours` meets its contract: a turn goes on behind a four of which none is full, and then by eights.
use Rattle.std.proofs.Common.{ap, ◌∙◌, arith, ◌+◌, ℕ, List, Bor, length, drop}
use Rattle.spec.specs.declared.types.Request.{Request}
use Rattle.std.proofs.lemmas.List.{length-drop}
use Rattle.occupancy.proofs.Fours.{same_search, four_on}
use Rattle.occupancy.proofs.open_search.Search.behind_fours.Goals as goal

pub loop-four-smaller : goal.loop-four-smaller
loop-four-smaller c =
    let ws = c.loop-four.search.left.now in
    let chunk = c.in-Some.ensures.cases in
    let over = c.in-Some-over_four.ensures in
    let next = c.behind.ensures in
    let left = rw over.3 at next.2 in
    omega (arith, chunk.enough, length-drop 4 ws, ap length left, c.behind_eights-search-in-Some.ensures.2)

pub loop-four-preserved : goal.loop-four-preserved
loop-four-preserved c =
    let s = c.loop-four.search in
    let chunk = c.in-Some.ensures.cases in
    let over = c.in-Some-over_four.ensures in
    let next = c.behind.ensures in
    let week = next.0 ∙ over.1 in
    let taken = next.1 ∙ ap (λ (n : ℕ). n + 4) over.2 in
    let left = next.2 ∙ ap (λ (ws : Bor (List Request)). drop 4 ws.now) over.3 in
    let on = four_on s.week.now.setup s.taken s.left.now c.in-Some.four.now chunk.enough chunk.same over.0 in
    let eights = c.behind_eights-search-in-Some.ensures in
    (eights.0 ∙ same_search _ _ _ _ _ _ week taken left ∙ on ∙ c.loop-four.invariant.0, eights.1 ∙ week ∙ c.loop-four.invariant.1)
