-- `queue::submission::submit_decision` meets its contract: the first refusal that matches says whether the submit is refused or goes on
-- (`Laws/Decision.antt`).
use Rattle.std.proofs.Common.{sym}
use Rattle.std.proofs.lemmas.Result.{err_from_is_err_and}
use Rattle.spec.specs.Tables.{state_of}
use Rattle.queue.proofs.Laws.Decision.{submit_refused, submit_goes}
use Rattle.queue.proofs.submission.submit_decision.Goals as goal

pub returns-in_err-check : goal.returns-in_err-check
returns-in_err-check c =
    let a = c.args in
    let p = err_from_is_err_and c.from_residual.result c.from_residual.ensures.1 in
    rw (p.1, p.2) (submit_refused a.client a.deadline (state_of a.head a.waiting.now a.clients.now) _ c.in_err-check.ensures)

pub accepted_decision-requires : goal.accepted_decision-requires
accepted_decision-requires c = sym c.in_ok-check.ensures

pub returns : goal.returns
returns c =
    let a = c.args in
    submit_goes a.client a.deadline (state_of a.head a.waiting.now a.clients.now) (sym c.in_ok-check.ensures) c.accepted_decision.ensures
