-- The table of characters' values. Assumes nothing.
use Rattle.std.specs.Prelude.{ℕ, zero, suc, List, [], ◌∷◌}
use Rattle.spec.specs.Lines.Frames.{digit_of}

-- the values of so many characters, from a character on
unfoldable pub values_from : ℕ → ℕ → List ℕ
values_from character zero = []
values_from character (suc n) = digit_of character ∷ values_from (suc character) n

-- "A character's value is looked up in a table of 256 entries."
unfoldable pub digit_table : List ℕ
digit_table = values_from 0 256
