-- What the loop of `overfull::note_last_of_each` keeps: the records that are left, noted over what is known, make the list of all.
use Rattle.std.proofs.Common.{◌≡◌, ◌+◌, drop}
use Rattle.spec.specs.Tables.{clients_of}
use Rattle.occupancy.specs.Scans.{latest_of}
use Rattle.occupancy.proofs.overfull.note_last_of_each.Given as goal

abbrev pub invariant-loop-i : goal.invariant-loop-i
invariant-loop-i l =
    latest_of (l.first + l.i) (drop l.i (clients_of l.waiting)) l.latest ≡ latest_of l.first (clients_of l.waiting) l.fn.latest
