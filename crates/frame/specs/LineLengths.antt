-- How long the lines of a reply are, and what a chart's answer asks of its start slots. Assumes nothing.
use Rattle.std.specs.Prelude.{ℕ, suc, ◌+◌, ◌*◌, ◌≤◌, ◌<◌, List, [], ◌∷◌, map, length, get_or}
use Rattle.spec.specs.declared.types.Answer.{Answer}
use Rattle.spec.specs.declared.types.Answer.TheVariants.{Refused}
use Rattle.spec.specs.Every.{largest}
use Rattle.spec.specs.Tables.{most_records}
use Rattle.spec.specs.Calls.Readings.{Field, reading, values_of, shown}
use Rattle.spec.specs.Lines.Frames.{digits_for, segment_fields, count_fields}
use Rattle.table.specs.Widths.{largest64}

-- a line with its line feed: two digits for its kind byte, and two for each byte of its fields
abbrev pub line_length : List Field → ℕ
line_length fields = suc (digits_for (map (λ f. f.width) fields))

-- a segment's line, and their count's
abbrev pub segment_length : ℕ
segment_length = line_length (segment_fields (record { left = 0; right = 0 }))

abbrev pub count_length : ℕ
count_length = line_length (count_fields 0)

-- the longest line of an answer
abbrev pub longest_line : ℕ
longest_line = largest (line_length (values_of (Refused 0)) ∷ map (λ answer. line_length (values_of (answer []))) shown)

-- the most bytes that a reply has: a segment for each record of the largest table, and their count
abbrev pub most_bytes : ℕ
most_bytes = most_records * segment_length + count_length

-- what of a chart's answer its start slots must have: all that it counts, and none that is the largest number
abbrev pub CanDrawFirst : List ℕ → List ℕ → Type 0
CanDrawFirst [] starts = Unit {0}
CanDrawFirst (count ∷ more) starts =
    (count ≤ most_records) × (count ≤ length starts) × ((k : ℕ) → k < count → get_or starts k 0 < largest64)

abbrev pub CanDraw : Answer → List ℕ → Type 0
CanDraw a starts = CanDrawFirst (reading a).charted starts
