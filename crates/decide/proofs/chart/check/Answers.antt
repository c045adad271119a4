-- `decide::chart::check` meets its contract. Assumes nothing.
use Rattle.std.proofs.Common.{[], length, sym}
use Rattle.std.proofs.lemmas.Result.{err_from_is_err_and}
use borrow.Author.Tests.{le-ltb, lt-ltb}
use Rattle.spec.specs.Calls.Chart.{chart_refusals}
use Rattle.decide.proofs.Matching.{match_here, match_only, tables_match, tables_pass}
use Rattle.decide.proofs.chart.check.Goals as goal

pub returns-in_err-check_tables : goal.returns-in_err-check_tables
unfolding chart_refusals
returns-in_err-check_tables c =
    let p = err_from_is_err_and c.from_residual.result c.from_residual.ensures.1 in
    rw (p.1, p.2) (tables_match _ _ _ c.in_err-check_tables.ensures)

pub returns-then-output-head : goal.returns-then-output-head
unfolding chart_refusals
returns-then-output-head c =
    let a = c.args in
    tables_pass _ _ (sym c.in_ok-check_tables.ensures)
    (match_here _ [] (lt-ltb (length a.output.now) a.head.waiting c.if-output-head.true))

pub returns : goal.returns
unfolding chart_refusals
returns c =
    let a = c.args in
    tables_pass _ _ (sym c.in_ok-check_tables.ensures)
    (match_only _ (le-ltb (length a.output.now) a.head.waiting c.if-output-head.false))
