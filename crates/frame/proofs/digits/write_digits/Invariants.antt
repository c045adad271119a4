-- `frame::digits::write_digits`: the digits of what is left of the value, with those that stand already, are the value's. Assumes
-- nothing.
use Rattle.std.proofs.Common.{◌≡◌, ◌++◌, length, drop}
use Rattle.spec.specs.Lines.Frames.{digits}
use Rattle.frame.proofs.digits.write_digits.Given as goal

abbrev pub invariant-loop-k : goal.invariant-loop-k
invariant-loop-k l = digits l.k l.left ++ drop l.k l.out ≡ digits (length l.initial.out) l.value
