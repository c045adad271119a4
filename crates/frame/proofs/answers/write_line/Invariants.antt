-- `frame::answers::write_line`: with the fields left, what stands is the kind and all fields, and there is room for them. Assumes nothing.
use Rattle.std.proofs.Common.{◌+◌, ◌≡◌, ◌∷◌, ◌++◌, map, take, drop}
use Rattle.spec.specs.Calls.Readings.{field}
use Rattle.spec.specs.Lines.Frames.{field_digits}
use Rattle.frame.specs.Written.{written}
use Rattle.frame.specs.LineLengths.{line_length}
use Rattle.frame.proofs.answers.write_line.Given as goal

abbrev pub invariant-loop-field : goal.invariant-loop-field
invariant-loop-field g l =
    (l.end + line_length (map written (drop l.field-index l.field-items)) ≡ 2 + line_length (map written l.field-items))
    × (take l.end l.out ++ field_digits (map written (drop l.field-index l.field-items))
    ≡ field_digits (field 1 l.kind ∷ map written l.field-items))
