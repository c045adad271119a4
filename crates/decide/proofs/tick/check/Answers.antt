-- `decide::tick::check` meets its contract. Assumes nothing.
use Rattle.std.proofs.Common.{[], sym}
use Rattle.std.proofs.lemmas.Result.{err_from_is_err_and}
use borrow.Author.Tests.{eq-eqb, ne_eqb}
use Rattle.spec.specs.Tables.{clock_end}
use Rattle.spec.specs.Calls.Tick.{tick_refusals}
use Rattle.decide.proofs.Matching.{match_here, match_only, tables_match, tables_pass}
use Rattle.decide.proofs.tick.check.Goals as goal

pub returns-in_err-check_tables : goal.returns-in_err-check_tables
unfolding tick_refusals
returns-in_err-check_tables c =
    let p = err_from_is_err_and c.from_residual.result c.from_residual.ensures.1 in
    rw (p.1, p.2) (tables_match _ _ _ c.in_err-check_tables.ensures)

pub returns-then-head-eq-CLOCK_END : goal.returns-then-head-eq-CLOCK_END
unfolding tick_refusals
returns-then-head-eq-CLOCK_END c =
    tables_pass _ _ (sym c.in_ok-check_tables.ensures) (match_here _ [] (eq-eqb _ clock_end c.if-head-eq-CLOCK_END.true))

pub returns : goal.returns
unfolding tick_refusals
returns c =
    tables_pass _ _ (sym c.in_ok-check_tables.ensures) (match_only _ (ne_eqb _ clock_end c.if-head-eq-CLOCK_END.false))
