-- The chart's start slots, read off the column of deadlines, and its segments. Assumes nothing.
use Rattle.std.specs.Prelude.{ℕ, List, [], ◌∷◌}
use Rattle.spec.specs.declared.types.Setup.{Setup}
use Rattle.spec.specs.Chart.{limit_of, latest_free, Segment}

-- document 02, 2.2: "the chart uses the latest open slots": the start slot of a request with this deadline, from the starts of the later
-- ones
abbrev pub start_slot : Setup → ℕ → List ℕ → ℕ
start_slot setup deadline later = latest_free setup later (limit_of deadline later)

-- the start slots of requests with these deadlines
unfoldable pub start_slots : Setup → List ℕ → List ℕ
start_slots setup [] = []
start_slots setup (deadline ∷ deadlines) = start_slot setup deadline (start_slots setup deadlines) ∷ start_slots setup deadlines

-- a segment by its two ends
abbrev pub segment : ℕ → ℕ → Segment
segment left right = record { left = left; right = right }
