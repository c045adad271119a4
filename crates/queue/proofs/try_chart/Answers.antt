-- `queue::try_chart` meets its contract: its parts come together to what a chart call is said to do (`Laws/Chart.antt`).
use Rattle.std.proofs.Common.{sym, ◌∙◌, arith}
use Rattle.std.proofs.lemmas.Result.{err_from_is_err_and}
use Rattle.std.proofs.lemmas.List.{length-take-le}
use Rattle.spec.specs.Tables.{state_of}
use Rattle.spec.specs.Calls.{chart}
use Rattle.decide.proofs.Matching.{number_some}
use Rattle.queue.proofs.Laws.Replies.{refused_gives}
use Rattle.queue.proofs.Laws.Chart.{untouched_output, waits, long, charted, chart_gives}
use Rattle.queue.proofs.try_chart.Goals as goal

pub returns-in_err-check-clause-reply : goal.returns-in_err-check-clause-reply
returns-in_err-check-clause-reply c =
    let a = c.args in
    let p = err_from_is_err_and c.from_residual.result c.from_residual.ensures.1 in
    rw (p.1, p.2) (refused_gives (chart a.output.now) (state_of a.head a.waiting.now a.clients.now) _ c.in_err-check.ensures)

pub returns-in_err-check-clause-output : goal.returns-in_err-check-clause-output
returns-in_err-check-clause-output c =
    let a = c.args in
    untouched_output a.output.now (state_of a.head a.waiting.now a.clients.now)
    (λ z. number_some c.in_err-check.field-0.0 (c.in_err-check.ensures ∙ z))

pub slice_bounds-write_starts-end : goal.slice_bounds-write_starts-end
slice_bounds-write_starts-end c =
    let a = c.args in
    sym (length-take-le a.head.waiting a.waiting.now (waits a.output.now (state_of a.head a.waiting.now a.clients.now) (sym c.in_ok-check.ensures)))

pub write_starts-requires : goal.write_starts-requires
write_starts-requires c =
    let a = c.args in
    let s = state_of a.head a.waiting.now a.clients.now in
    let none = sym c.in_ok-check.ensures in
    omega (arith, length-take-le a.head.waiting a.waiting.now (waits a.output.now s none), long a.output.now s none)

pub returns-clause-reply : goal.returns-clause-reply
returns-clause-reply c =
    let a = c.args in
    rw c.reply.ensures
    (chart_gives a.output.now (state_of a.head a.waiting.now a.clients.now) (sym c.in_ok-check.ensures))

pub returns-clause-output : goal.returns-clause-output
returns-clause-output c =
    let a = c.args in
    let count =
    length-take-le a.head.waiting a.waiting.now (waits a.output.now (state_of a.head a.waiting.now a.clients.now) (sym c.in_ok-check.ensures)) in
    rw (c.write_starts.ensures, count) (charted a.output.now (state_of a.head a.waiting.now a.clients.now) (sym c.in_ok-check.ensures))
