-- `frame::digits::Digits::field`: the number, with the digits left, is the field's. Assumes nothing.
use Rattle.std.proofs.Common.{◌^◌, ◌<◌, ◌≡◌, drop}
use Rattle.spec.specs.Lines.Frames.{number_from}
use Rattle.frame.proofs.digits.Digits.field.Given as goal

abbrev pub invariant-loop-character : goal.invariant-loop-character
invariant-loop-character l =
    (l.number < 16 ^ l.character-index)
    × (number_from l.number (drop l.character-index l.character-items) ≡ number_from 0 l.character-items)
