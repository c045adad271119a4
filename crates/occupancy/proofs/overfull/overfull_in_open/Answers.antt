-- `overfull::overfull_in_open` meets its contract: among no records none is found.
use Rattle.std.proofs.Common.{◌≡◌, length, rules, tests}
use Rattle.std.proofs.lemmas.List.{nil_from_length}
use Rattle.occupancy.specs.Scans.{overfull_from}
use Rattle.occupancy.proofs.overfull.overfull_in_open.Goals as goal

pub returns-then-is_empty : goal.returns-then-is_empty
unfolding overfull_from
returns-then-is_empty c =
    let none : length c.args.waiting.now ≡ 0 = search (rules, tests) in
    rw (nil_from_length c.args.waiting.now none)
