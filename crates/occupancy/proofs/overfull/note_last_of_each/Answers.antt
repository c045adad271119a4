-- `overfull::note_last_of_each` meets its contract: a turn notes the record at its index, and leaves those behind it.
use Rattle.std.proofs.Common.{◌≡◌, ◌∙◌, arith, length}
use Rattle.occupancy.proofs.Searches.{latest_next, latest_all}
use Rattle.occupancy.proofs.overfull.note_last_of_each.Goals as goal

pub loop-i-preserved : goal.loop-i-preserved
loop-i-preserved c =
    let i = c.loop-i.i in
    rw (c.note.ensures) (latest_next c.args.waiting.now c.args.first i c.loop-i.latest (omega arith) ∙ c.loop-i.invariant)

pub returns : goal.returns
returns c =
    let all : c.loop-i.i ≡ length c.args.waiting.now = omega arith in
    latest_all c.args.waiting.now c.args.first c.loop-i.i c.loop-i.latest all ∙ c.loop-i.invariant
