-- The records so far have passed and are counted, and the last of them is in hand.
use Rattle.std.proofs.Common.{◌≡◌, true, take}
use Rattle.sound.specs.Checks.{last_of, Counted}
use Rattle.sound.proofs.records.check_run.Given as goal

abbrev pub invariant-loop-k : goal.invariant-loop-k
invariant-loop-k l = record {
  in_hand : l.last ≡ last_of l.fn.before (take l.k l.records);
  counted : Counted l.head l.i l.fn.before (take l.k l.records) l.fn.tally.counts true l.tally.counts;
}
