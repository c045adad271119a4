-- `table::period::restart` meets its contract: a turn of its loop restarts one record more, and behind the last nothing is left to do.
-- Assumes nothing.
use Rattle.std.proofs.Common.{arith, ◌≡◌, ◌+◌, ◌∙◌, ap, sym}
use Rattle.spec.proofs.Laws.Layout.{length_records}
use Rattle.table.specs.Clients.{changed_at, restarted_counts}
use Rattle.table.proofs.ChangedCounts.{changed_at_same, changed_from, changed_start, changed_turn, changed_end}
use Rattle.table.proofs.period.restart.Goals as goal

pub loop-i-init : goal.loop-i-init
loop-i-init c = changed_start restarted_counts _

pub loop-i-preserved : goal.loop-i-preserved
loop-i-preserved c =
    let i = c.loop-i.i in
    let xs = c.loop-i.numbers in
    let e : c.put.new.numbers ≡ changed_at restarted_counts i xs =
    c.put.ensures
    ∙ changed_at_same _ restarted_counts i xs (c.restarted_counts.ensures ∙ ap restarted_counts c.get.ensures) in
    ap (changed_from restarted_counts (i + 1)) e ∙ changed_turn restarted_counts i xs ∙ c.loop-i.invariant

pub returns : goal.returns
returns c =
    let before = length_records c.args.numbers.now in
    let after = length_records c.loop-i.numbers in
    sym (changed_end restarted_counts c.loop-i.i c.loop-i.numbers (omega (arith, before.1, after.0))) ∙ c.loop-i.invariant
