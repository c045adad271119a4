-- `frame::answers::write_chart` meets its contract: one segment more, and behind the last of them their count. Assumes nothing.
use Rattle.std.proofs.Common.{◌+◌, ◌-◌, ◌≡◌, append-nil, ap, sym, ◌∙◌, arith, length, take}
use borrow.Rule.Slice.PartMut.{same_len_mid}
use Rattle.spec.specs.Chart.{segments_of}
use Rattle.spec.specs.Lines.Frames.{segment_lines}
use Rattle.frame.proofs.LinesPut.{written_behind, written_ends, segment_put, segments_most}
use Rattle.frame.proofs.answers.write_chart.Goals as goal

pub loop-ends-init : goal.loop-ends-init
loop-ends-init c =
    let most = segments_most c.args.setup c.args.starts.now in
    grind (arith, most)

pub loop-ends-preserved : goal.loop-ends-preserved
loop-ends-preserved c =
    let l = c.loop-ends in
    let put = c.write_line-end in
    let next = c.next.new.self in
    let one = c.in-Some.ensures.steps in
    let long = rw (c.wide.ensures, c.wide-in-loop-ends.ensures) at put.ensures.0 in (
      tt,
      tt,
      omega (arith, long),
      omega (arith, ap length one),
      omega (arith, ap length one),
      segment_put (take l.end l.out) c.in-Some.ends.left c.in-Some.ends.right (segments_of next.setup next.starts.now)
          (written_behind l.end put.result l.out put.new.out _ (omega (arith, long, ap length one)) put.auto.out
          (rw (c.wide.ensures, c.wide-in-loop-ends.ensures) at put.ensures.1))
          ∙ rw one at l.invariant.5,
    )

pub returns : goal.returns
unfolding segment_lines
returns c =
    let l = c.loop-ends in
    let put = c.write_line in
    let none = c.in-None.ensures.steps.0 in
    let long = rw c.wide-2.ensures at put.ensures.0 in
    let all = sym (append-nil (take l.end l.out)) ∙ rw none at l.invariant.5 in
    let number : l.count ≡ length (segments_of c.args.setup c.args.starts.now) = omega (arith, ap length none) in
    written_ends (l.end + put.result) _ _ _
    (omega (arith, long, same_len_mid l.end (length l.out - l.end) l.out put.new.out put.auto.out))
    (omega (arith, long))
    (written_behind l.end put.result l.out put.new.out _ (omega (arith, long)) put.auto.out (rw c.wide-2.ensures at put.ensures.1)
    ∙ rw (all, number))
