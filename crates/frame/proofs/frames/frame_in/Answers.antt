-- `frame::frames::frame_in` meets its contract: its length, its digits and its kind byte say which frame a line is. Assumes nothing.
use Rattle.std.proofs.Common.{sym, ◌∙◌, arith}
use Rattle.frame.proofs.FrameKinds.{frame_length, frame_other, frame_unknown, frame_short, frame_known}
use Rattle.frame.proofs.frames.frame_in.Goals as goal

pub returns-then-count-lt-BARE_DIGITS : goal.returns-then-count-lt-BARE_DIGITS
returns-then-count-lt-BARE_DIGITS c = frame_length c.args.line.now (λ p q. omega (arith, c.then-count-lt-BARE_DIGITS.either))

pub returns-in_err-digits : goal.returns-in_err-digits
returns-in_err-digits c = rw c.from_residual.ensures (frame_other c.args.line.now c.in_err-digits.ensures)

pub returns-in_default : goal.returns-in_default
returns-in_default c =
    let digits = c.in_ok-digits.digits in
    frame_unknown c.args.line.now digits.line.now c.field.result c.in_ok-digits.ensures digits.are_digits c.field.ensures.0
    c.in_default.ensures

pub returns-then-count-digits : goal.returns-then-count-digits
returns-then-count-digits c =
    let digits = c.in_ok-digits.digits in
    frame_short c.args.line.now digits.line.now c.field.result c.in_ok-digits.ensures digits.are_digits c.field.ensures.0 c.in-Ok.kind
    c.in-Ok.ensures (λ long. c.if-count-digits.true (long ∙ sym c.digits.ensures))

pub returns : goal.returns
returns c =
    let digits = c.in_ok-digits.digits in
    frame_known c.args.line.now digits.line.now c.field.result c.in_ok-digits.ensures digits.are_digits c.field.ensures.0 c.in-Ok.kind
    c.in-Ok.ensures (c.if-count-digits.false ∙ c.digits.ensures)
    ∙ sym c.frame.ensures
