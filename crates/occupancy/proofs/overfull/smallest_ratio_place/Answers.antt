-- `overfull::smallest_ratio_place` meets its contract: a turn takes the better of the best so far and the next client's last candidate.
use Rattle.std.proofs.Common.{◌<◌, ap, ◌∙◌, arith, Some, length, get_or}
use Rattle.occupancy.specs.Scans.{place_of}
use Rattle.occupancy.proofs.BestClient.{better_some, best_nobody, best_first, best_without, best_next}
use Rattle.occupancy.proofs.overfull.smallest_ratio_place.Goals as goal
use Rattle.occupancy.proofs.overfull.smallest_ratio_place.Goals.{then-at-ne0, else-at-ne0}

pub returns-in_default : goal.returns-in_default
returns-in_default c = ap place_of (best_nobody _ c.args.latest.now (length c.args.latest.now) c.in_default.ensures)

pub loop-c-init : goal.loop-c-init
loop-c-init c =
    let found = c.in-Some.ensures in
    (best_first _ c.args.latest.now c.in-Some.first _ found.2 found.1 c.counts_with.ensures, omega arith)

pub loop-c-preserved : goal.loop-c-preserved
loop-c-preserved c =
    let h = c.loop-c.invariant in
    elim c.if-at-ne0.branch [
      | then-at-ne0 w ↦
          let own : 0 < get_or c.args.latest.now c.loop-c.c 0 = omega arith in (
            ap Some w.best-is ∙ best_next _ _ c.loop-c.c _ _ _ w.if-at-ne0.true c.counts_with-counts.ensures h.0 w.better-best.ensures,
            rw (w.best-is, w.better-best.ensures) (better_some _ _ h.1 own),
          )
      | else-at-ne0 w ↦ (ap Some w.best-is ∙ best_without _ _ c.loop-c.c _ w.if-at-ne0.false h.0, rw w.best-is h.1)
    ]
