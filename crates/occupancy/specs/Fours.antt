-- Deadlines looked at by fours and by eights: whether one of them is full, and whether a line tells that none is. Assumes nothing.
use Rattle.std.specs.Prelude.{ℕ, ◌+◌, Bool, false, ◌&&◌, ◌||◌, List, [], ◌∷◌, leb, ltb, get_or}
use Rattle.spec.specs.declared.types.Setup.{Setup}
use Rattle.spec.specs.declared.types.Request.{Request}
use Rattle.spec.specs.Tables.{deadlines_of}
use Rattle.spec.specs.Hours.{room}
use Rattle.hours.specs.declared.calendar.Line.{Line}
use Rattle.occupancy.specs.Scans.{first_by}

-- a deadline has no more open slots before it than are taken
abbrev pub is_full : Setup → ℕ → ℕ → Bool
is_full setup taken d = leb (room setup 0 d) taken

-- one of these deadlines is full, where so many are taken before the first of them, and one more before each of the others
abbrev pub is_one_full : Setup → ℕ → List ℕ → Bool
is_one_full setup taken [] = false
is_one_full setup taken (d ∷ ds) = is_full setup taken d || is_one_full setup (taken + 1) ds

-- the first full one of the deadlines of these requests, 0 where there is none
abbrev pub first_full : Setup → ℕ → List Request → ℕ
first_full setup taken ws = first_by (is_full setup) taken (deadlines_of ws)

-- by a line four deadlines have more open slots before them than are taken
abbrev pub are_above : Line → ℕ → List ℕ → Bool
are_above line taken ds =
    ltb (taken + 3) line.reach && (ltb (line.floor + taken) (get_or ds 0 0) && ltb (line.floor + taken + 1) (get_or ds 1 0))
    && (ltb (line.floor + taken + 2) (get_or ds 2 0) && ltb (line.floor + taken + 3) (get_or ds 3 0))

-- by a line eight deadlines, none before the first of them, have more open slots before them than are taken: the first has as many more as
-- the last one needs
abbrev pub are_eight_above : Line → ℕ → ℕ → Bool
are_eight_above line taken first = ltb (taken + 7) line.reach && ltb (line.floor + taken + 7) first
