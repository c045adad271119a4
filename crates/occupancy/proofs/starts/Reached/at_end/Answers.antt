-- `starts::Reached::at_end` meets its contract: where all hours are open, all slots are.
use Rattle.std.proofs.Common.{sym, ◌∙◌, arith}
use Rattle.occupancy.proofs.StartsAndSegments.{all_slots}
use Rattle.occupancy.proofs.starts.Reached.at_end.Goals as goal

pub invariant_of-result : goal.invariant_of-result
invariant_of-result c =
    let all = sym c.are_all_open.ensures ∙ c.if-are_all_open.true in
    rw c.stretch_to.ensures (all_slots _ 18446744073709551615 all (omega arith))
