-- `queue::try_open` meets its contract: its parts come together to what an open is said to do (`Laws/Open.antt`).
use Rattle.std.proofs.Common.{sym}
use Rattle.std.proofs.lemmas.Result.{err_from_is_err_and}
use Rattle.spec.specs.Tables.{state_of}
use Rattle.spec.specs.Calls.{opening}
use Rattle.queue.proofs.Laws.Replies.{refused_gives}
use Rattle.queue.proofs.Laws.Open.{opened}
use Rattle.queue.proofs.try_open.Goals as goal

pub returns-in_err-check : goal.returns-in_err-check
returns-in_err-check c head =
    let a = c.args in
    let p = err_from_is_err_and c.from_residual.result c.from_residual.ensures.1 in
    rw (p.1, p.2) (refused_gives (opening a.setup) (state_of head a.waiting.now a.clients.now) _ (c.in_err-check.ensures head))

pub returns : goal.returns
returns c head =
    let a = c.args in
    rw c.reply.ensures
    (opened a.setup (state_of head a.waiting.now a.clients.now) (sym (c.in_ok-check.ensures head)) c.clear.ensures.records
    c.clear.ensures.numbers)
