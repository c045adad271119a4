-- `table::period::restart`, its loop: what is left to do from record i on gives the whole.
use Rattle.std.proofs.Common.{◌≡◌}
use Rattle.table.specs.Clients.{changed_all, restarted_counts}
use Rattle.table.proofs.ChangedCounts.{changed_from}
use Rattle.table.proofs.period.restart.Given as goal

abbrev pub invariant-loop-i : goal.invariant-loop-i
invariant-loop-i l = changed_from restarted_counts l.i l.numbers ≡ changed_all restarted_counts l.initial.numbers
