-- `frame::values::digit_table` meets its contract: the constant is the table, entry by entry. Assumes nothing.
use Rattle.std.proofs.Common.{refl}
use Rattle.spec.specs.Lines.Frames.{digit_of}
use Rattle.frame.specs.Digits.{values_from, digit_table}
use Rattle.frame.proofs.values.digit_table.Goals as goal

pub returns : goal.returns
unfolding digit_table values_from digit_of
returns c = refl
