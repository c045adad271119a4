-- `overfull::has_room` meets its contract: the room between two slots is their difference where all hours are open, and else that of
-- the open slots before each.
use Rattle.std.proofs.Common.{ℕ, ◌+◌, ltb, sym, ap, ap₂, ◌∙◌}
use Rattle.spec.specs.Hours.{room}
use Rattle.hours.proofs.OpenSlots.{all_open_room}
use Rattle.occupancy.proofs.Searches.{less_by_sum, room_difference}
use Rattle.occupancy.proofs.overfull.has_room.Goals as goal

pub returns-then-are_all_open : goal.returns-then-are_all_open
returns-then-are_all_open c =
    let a = c.args in
    let all = sym c.are_all_open.ensures ∙ c.if-are_all_open.true in
    c.is_ahead_by.ensures
    ∙ less_by_sum a.head.clock a.i a.deadline
    ∙ ap (ltb a.i) (sym (all_open_room a.head.setup all a.head.clock a.deadline))

pub returns : goal.returns
returns c =
    let a = c.args in
    let setup = a.head.setup in
    ap₂ (λ (before after : ℕ). ltb (before + a.i) after) c.open_before-before.ensures.0 c.open_before-after.ensures.0
    ∙ less_by_sum (room setup 0 a.head.clock) a.i (room setup 0 a.deadline)
    ∙ ap (ltb a.i) (room_difference setup a.head.clock a.deadline)
