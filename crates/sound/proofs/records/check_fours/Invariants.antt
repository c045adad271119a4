-- The fours so far have passed and are counted, and the last record of them is in hand.
use Rattle.std.proofs.Common.{◌≡◌, ◌*◌, true, take, length}
use Rattle.spec.specs.Tables.{zero_request}
use Rattle.sound.specs.Checks.{joined, last_of, Counted}
use Rattle.sound.proofs.records.check_fours.Given as goal

abbrev pub invariant-loop-k : goal.invariant-loop-k
invariant-loop-k l = record {
  size : length (joined (take l.k l.fours)) ≡ 4 * l.k;
  in_hand : l.before ≡ last_of zero_request (joined (take l.k l.fours));
  counted : Counted l.head 0 zero_request (joined (take l.k l.fours)) l.fn.tally.counts true l.tally.counts;
}
