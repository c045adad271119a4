-- `overfull::first_overfull` meets its contract: the new deadline is found where it has no room, and else what is found behind it.
use Rattle.std.proofs.Common.{sym, ap, ◌∙◌, ltb-true, ltb-false}
use Rattle.spec.specs.Chart.{room_to}
use Rattle.occupancy.specs.Scans.{if_any}
use Rattle.occupancy.proofs.Searches.{overfull_first, overfull_behind}
use Rattle.occupancy.proofs.overfull.first_overfull.Goals as goal

pub returns-then-not-has_room : goal.returns-then-not-has_room
returns-then-not-has_room c =
    let a = c.args in
    c.if_any.ensures
    ∙ ap if_any
    (overfull_first _ _ _ _ (ltb-false a.before (room_to a.head a.deadline) (sym c.has_room.ensures ∙ c.if-not-has_room.true)))

pub returns-then-are_all_open : goal.returns-then-are_all_open
returns-then-are_all_open c =
    let a = c.args in
    let room = ltb-true a.before (room_to a.head a.deadline) (sym c.has_room.ensures ∙ c.if-not-has_room.false) in
    c.overfull_in_all.ensures ∙ ap if_any (overfull_behind _ _ _ _ room)

pub returns : goal.returns
returns c =
    let a = c.args in
    let room = ltb-true a.before (room_to a.head a.deadline) (sym c.has_room.ensures ∙ c.if-not-has_room.false) in
    c.overfull_in_open.ensures ∙ ap if_any (overfull_behind _ _ _ _ room)
