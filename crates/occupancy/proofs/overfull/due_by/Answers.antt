-- `overfull::due_by` meets its contract: a look into the middle leaves the upper or the lower half.
use Rattle.std.proofs.Common.{◌≡◌, ◌∙◌, arith, get_or}
use lib.ListN.{get_or-map}
use Rattle.spec.specs.Tables.{zero_request, deadlines_of}
use Rattle.occupancy.specs.Scans.{middle}
use Rattle.occupancy.proofs.Searches.{halves_low, halves_high, halves_end}
use Rattle.occupancy.proofs.overfull.due_by.Goals as goal

pub loop-low-preserved-then-waiting-middle : goal.loop-low-preserved-then-waiting-middle
loop-low-preserved-then-waiting-middle c =
    let ws = c.args.waiting.now in
    let here = middle c.loop-low.low c.loop-low.high in
    let there : get_or (deadlines_of ws) here 0 ≡ (get_or ws here zero_request).deadline = get_or-map (λ w. w.deadline) ws here zero_request in (
      omega arith,
      omega arith,
      halves_low (deadlines_of ws) c.args.deadline _ _ c.loop-low-test.true (omega (arith, there)) ∙ c.loop-low.invariant.2,
    )

pub loop-low-preserved : goal.loop-low-preserved
loop-low-preserved c =
    let ws = c.args.waiting.now in
    let here = middle c.loop-low.low c.loop-low.high in
    let there : get_or (deadlines_of ws) here 0 ≡ (get_or ws here zero_request).deadline = get_or-map (λ w. w.deadline) ws here zero_request in (
      omega arith,
      omega arith,
      halves_high (deadlines_of ws) c.args.deadline _ _ c.loop-low-test.true (omega (arith, there)) ∙ c.loop-low.invariant.2,
    )

pub returns : goal.returns
returns c = halves_end _ _ _ _ c.loop-low-test.false ∙ c.loop-low.invariant.2
