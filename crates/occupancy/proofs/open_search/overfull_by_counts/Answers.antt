-- `open_search::overfull_by_counts` meets its contract: the first full deadline is the first overfull one.
use Rattle.std.proofs.Common.{ap, ◌+◌, ◌∙◌}
use Rattle.spec.specs.declared.types.Setup.{Setup}
use Rattle.spec.specs.Hours.{room}
use Rattle.occupancy.specs.Fours.{first_full}
use Rattle.occupancy.specs.Scans.{if_any}
use Rattle.occupancy.proofs.Fours.{full_overfull}
use Rattle.occupancy.proofs.open_search.overfull_by_counts.Goals as goal

pub returns : goal.returns
returns c =
    let a = c.args in
    let before = c.open_before.result in
    let counted = c.open_before.ensures.0 ∙ ap (λ (s : Setup). room s 0 a.head.clock) c.new-week.ensures in
    c.first_full.ensures
    ∙ ap if_any
    (c.behind_fours.ensures.0
    ∙ ap (λ (s : Setup). first_full s (before + a.before) a.waiting.now) c.new-week.ensures
    ∙ full_overfull a.head before counted a.before a.waiting.now)
