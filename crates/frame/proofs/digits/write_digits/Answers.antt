-- `frame::digits::write_digits` meets its contract: one more digit stands in front of the others, up to the first. Assumes nothing.
use Rattle.std.proofs.Common.{◌-◌, ◌≡◌, arith, ◌∙◌}
use Rattle.spec.specs.Lines.Frames.{digits}
use Rattle.frame.proofs.FieldDigits.{written_none, written_more}
use Rattle.frame.proofs.digits.write_digits.Goals as goal

pub loop-k-init : goal.loop-k-init
loop-k-init c = written_none c.args.out.now c.args.value

pub loop-k-preserved : goal.loop-k-preserved
loop-k-preserved c =
    let l = c.loop-k in
    written_more l.out (l.k - 1) l.k l.left c.character_of.result (omega arith) (omega arith) c.character_of.ensures ∙ l.invariant

pub returns : goal.returns
unfolding digits
returns c = let first : c.loop-k.k ≡ 0 = omega arith in rw first at c.loop-k.invariant
