-- `queue::submission::try_submit` meets its contract: its parts come together to what a submit is said to do (`Laws/Submit.antt`).
use Rattle.std.proofs.lemmas.Result.{err_from_is_err_and}
use Rattle.spec.specs.Tables.{state_of}
use Rattle.spec.specs.Calls.{submit}
use Rattle.queue.proofs.Laws.Replies.{refused_gives}
use Rattle.queue.proofs.Laws.Decision.{reason_first, none_first}
use Rattle.queue.proofs.Laws.Submit.{submitted}
use Rattle.queue.proofs.submission.try_submit.Goals as goal

pub returns-in_err-decision : goal.returns-in_err-decision
returns-in_err-decision c =
    let a = c.args in
    let s = state_of a.head a.waiting.now a.clients.now in
    let p = err_from_is_err_and c.from_residual.result c.from_residual.ensures.1 in
    rw (p.1, p.2) (refused_gives (submit a.client a.deadline) s _ (reason_first a.client a.deadline s _ c.in_err-decision.ensures))

pub returns : goal.returns
returns c =
    let a = c.args in
    let s = state_of a.head a.waiting.now a.clients.now in
    rw c.reply.ensures
    (submitted a.client a.deadline s (none_first a.client a.deadline s c.in_ok-decision.ensures) c.in_ok-decision.ensures
    c.new_request-new.ensures c.put_in-insertion.ensures.insertion c.put_in-insertion.ensures.table c.count.ensures)
