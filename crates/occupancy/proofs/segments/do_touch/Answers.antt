-- `segments::do_touch` meets its contract: no open slot lies between a slot and itself.
use Rattle.std.proofs.Common.{sym, arith, eq-eqb}
use Rattle.spec.specs.Hours.{room}
use Rattle.spec.proofs.Laws.Room.{room_back}
use Rattle.occupancy.proofs.segments.do_touch.Goals as goal

pub returns-then-end-start : goal.returns-then-end-start
returns-then-end-start c =
    let a = c.args in sym (eq-eqb (room a.setup a.end a.start) 0 (room_back a.setup a.end a.start (omega arith)))
