-- `sound::records::check_run` meets its contract: one more record stands behind those so far.
use Rattle.std.proofs.Common.{◌+◌, drop, refl, sym, arith}
use Rattle.std.proofs.lemmas.List.{take_more, take-append-drop}
use lib.ListN.{length-take}
use Rattle.spec.specs.Tables.{zero_request}
use Rattle.sound.proofs.Turns.{none_counted, more_countable, fewer_bounded, counted_on, stopped_on, one_more_last}
use Rattle.sound.proofs.records.check_run.Goals as goal

pub loop-k-init : goal.loop-k-init
loop-k-init c = record { in_hand = refl; counted = none_counted }

pub check_record-requires : goal.check_record-requires
check_record-requires c =
    let l = c.loop-k in (
      fewer_bounded (c.args.i + l.k) c.requires.0 (omega arith),
      more_countable 1 l.invariant.counted c.requires.1 (omega (arith, length-take l.k c.args.records.now)),
    )

pub returns-then-not-check_record : goal.returns-then-not-check_record
returns-then-not-check_record c =
    let ws = c.args.records.now in
    let l = c.loop-k in
    stopped_on (drop (l.k + 1) ws) (take-append-drop (l.k + 1) ws)
    (counted_on (sym (take_more ws l.k zero_request c.loop-k-test.true)) l.invariant.counted (c.args.i + l.k) (omega (arith, length-take l.k ws))
    l.invariant.in_hand (rw c.if-not-check_record.true at c.check_record.ensures.turn))

pub loop-k-preserved : goal.loop-k-preserved
loop-k-preserved c =
    let ws = c.args.records.now in
    let l = c.loop-k in
    record {
      in_hand = one_more_last c.args.before ws l.k c.loop-k-test.true;
      counted =
          counted_on (sym (take_more ws l.k zero_request c.loop-k-test.true)) l.invariant.counted (c.args.i + l.k) (omega (arith, length-take l.k ws))
          l.invariant.in_hand (rw c.if-not-check_record.false at c.check_record.ensures.turn);
    }
