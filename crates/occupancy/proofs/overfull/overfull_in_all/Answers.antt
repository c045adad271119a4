-- `overfull::overfull_in_all` meets its contract: where all slots are open, the room up to a deadline is how far it lies ahead.
use Rattle.std.proofs.Common.{ap, ◌+◌, ◌∙◌, not, ltb, rules}
use Rattle.spec.specs.Tables.{deadlines_of}
use Rattle.occupancy.specs.Scans.{if_any}
use Rattle.occupancy.proofs.Searches.{ahead_overfull}
use Rattle.occupancy.proofs.overfull.overfull_in_all.Goals as goal

pub returns : goal.returns
returns c =
    let a = c.args in
    c.first_full.ensures (λ i d. not (ltb (a.head.clock + i) d)) (λ i d r few fits post. search rules)
    ∙ ap if_any (ahead_overfull a.head a.before (deadlines_of a.waiting.now) c.requires.2)
