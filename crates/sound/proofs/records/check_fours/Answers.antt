-- `sound::records::check_fours` meets its contract: one more four stands behind those so far.
use Rattle.std.proofs.Common.{sym, ◌+◌, ◌*◌, [], refl, ap, ◌∙◌, length, get_or, arith, rules}
use lib.ListN.{length-append, take, drop}
use Rattle.sound.specs.Checks.{joined}
use Rattle.sound.proofs.Turns.{none_counted, more_countable, fewer_bounded, counted_on, stopped_on, one_more_four, fours_split, last_of_fours}
use Rattle.sound.proofs.records.check_fours.Goals as goal

pub loop-k-init : goal.loop-k-init
loop-k-init c = record { size = refl; in_hand = search rules; counted = none_counted }

pub check_run-requires : goal.check_run-requires
check_run-requires c =
    let l = c.loop-k in
    let four = c.told-fours l.k c.loop-k-test.true in (
      fewer_bounded (4 * l.k + length (get_or c.args.fours.now l.k [])) c.requires.0 (omega arith),
      more_countable (length (get_or c.args.fours.now l.k [])) l.invariant.counted c.requires.1 (omega (arith, l.invariant.size)),
    )

pub returns-then-not-check_run : goal.returns-then-not-check_run
returns-then-not-check_run c =
    let fours = c.args.fours.now in
    let l = c.loop-k in
    stopped_on (joined (drop (l.k + 1) fours)) (fours_split fours (l.k + 1))
    (counted_on (sym (one_more_four fours l.k c.loop-k-test.true)) l.invariant.counted (4 * l.k) (omega (arith, l.invariant.size))
    l.invariant.in_hand (rw c.if-not-check_run.true at c.check_run.ensures))

pub loop-k-preserved : goal.loop-k-preserved
loop-k-preserved c =
    let fours = c.args.fours.now in
    let l = c.loop-k in
    let four = c.told-fours l.k c.loop-k-test.true in
    record {
      size =
          ap length (one_more_four fours l.k c.loop-k-test.true)
          ∙ omega (arith, length-append (joined (take l.k fours)) (get_or fours l.k []), l.invariant.size);
      in_hand = last_of_fours fours l.k c.loop-k-test.true four;
      counted =
          counted_on (sym (one_more_four fours l.k c.loop-k-test.true)) l.invariant.counted (4 * l.k) (omega (arith, l.invariant.size))
          l.invariant.in_hand (rw c.if-not-check_run.false at c.check_run.ensures);
    }
