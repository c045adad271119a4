-- `decide::report::check` meets its contract. Assumes nothing.
use Rattle.std.proofs.Common.{[], sym}
use Rattle.std.proofs.lemmas.Result.{err_from_is_err_and}
use Rattle.spec.specs.Tables.{state_of}
use Rattle.spec.specs.Calls.Report.{report_refusals}
use Rattle.decide.proofs.Matching.{match_here, match_only, holds6, fails6, tables_match, tables_pass}
use Rattle.decide.proofs.report.check.Goals as goal

pub returns-in_err-check_tables : goal.returns-in_err-check_tables
unfolding report_refusals
returns-in_err-check_tables c =
    let p = err_from_is_err_and c.from_residual.result c.from_residual.ensures.1 in
    rw (p.1, p.2) (tables_match _ _ _ c.in_err-check_tables.ensures)

pub returns-then-head-client : goal.returns-then-head-client
unfolding report_refusals
returns-then-head-client c =
    let a = c.args in
    tables_pass _ _ (sym c.in_ok-check_tables.ensures)
    (match_here _ [] (holds6 a.client (state_of a.head a.waiting.now a.clients.now) c.if-head-client.true))

pub returns : goal.returns
unfolding report_refusals
returns c =
    let a = c.args in
    tables_pass _ _ (sym c.in_ok-check_tables.ensures)
    (match_only _ (fails6 a.client (state_of a.head a.waiting.now a.clients.now) c.if-head-client.false))
