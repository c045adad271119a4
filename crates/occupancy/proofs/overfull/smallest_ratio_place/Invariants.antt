-- What the loop of `overfull::smallest_ratio_place` keeps: the best of the clients so far, whose place is not 0.
use Rattle.std.proofs.Common.{◌≡◌, ◌<◌, Some}
use Rattle.spec.specs.Tables.{records_of}
use Rattle.occupancy.specs.Scans.{counts_with, best_of}
use Rattle.occupancy.proofs.overfull.smallest_ratio_place.Given as goal

abbrev pub invariant-loop-c : goal.invariant-loop-c
invariant-loop-c l =
    (Some l.best ≡ best_of (counts_with l.client (records_of l.numbers)) l.latest l.c) × (0 < l.best.at)
