-- `sound::room::have_room` meets its contract: with all hours open each record that passed has room, and else the search tells.
use Rattle.std.proofs.Common.{sym, ◌∙◌, arith}
use Rattle.sound.proofs.Rooms.{passed_open, ascending, none_overfull}
use Rattle.sound.proofs.room.have_room.Goals as goal

pub returns-then-are_all_open : goal.returns-then-are_all_open
returns-then-are_all_open c =
    let a = c.args in
    c.if-are_all_open.true ∙ passed_open a.head a.waiting.now c.requires.1 (sym c.are_all_open.ensures ∙ c.if-are_all_open.true)

pub overfull_in_open-requires : goal.overfull_in_open-requires
overfull_in_open-requires c =
    let a = c.args in
    let b = c.requires.0 in
    (omega (arith, b.records), b.clock, b.slots, ascending a.head a.waiting.now c.requires.1)

pub returns-else-are_all_open : goal.returns-else-are_all_open
returns-else-are_all_open c =
    let a = c.args in
    none_overfull a.head a.waiting.now c.requires.1 (rw c.overfull_in_open.ensures at c.is_none.ensures)
