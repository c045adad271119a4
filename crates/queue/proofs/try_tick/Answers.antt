-- `queue::try_tick` meets its contract: its parts come together to what a tick is said to do (`Laws/Tick.antt`).
use Rattle.std.proofs.Common.{sym}
use Rattle.std.proofs.lemmas.Result.{err_from_is_err_and}
use Rattle.spec.specs.Tables.{state_of}
use Rattle.spec.specs.Calls.{tick}
use Rattle.queue.proofs.Laws.Replies.{refused_gives}
use Rattle.queue.proofs.Laws.Tick.{ticked}
use Rattle.queue.proofs.try_tick.Goals as goal

pub returns-in_err-check : goal.returns-in_err-check
returns-in_err-check c =
    let a = c.args in
    let p = err_from_is_err_and c.from_residual.result c.from_residual.ensures.1 in
    rw (p.1, p.2) (refused_gives tick (state_of a.head a.waiting.now a.clients.now) _ c.in_err-check.ensures)

pub returns : goal.returns
returns c =
    let a = c.args in
    rw c.reply.ensures
    (ticked (state_of a.head a.waiting.now a.clients.now) (sym c.in_ok-check.ensures) c.is_slot_open-serves.ensures
    c.take_first-gone.ensures.gone c.take_first-gone.ensures.table c.count.ensures)
