-- Open hours of the week, and open slots by the hour: document 02, 2.2. Assumes nothing.
use Rattle.std.specs.Prelude.{ℕ, zero, suc, ◌+◌, ◌-◌, ◌*◌, ◌%◌, ◌^◌, ◌≤◌, ◌<◌, ◌≡◌, Bool, true, cond, ◌&&◌, List, eqb, length, get_or}
use Rattle.spec.specs.declared.types.Setup.{Setup}
use Rattle.spec.specs.Tables.{hours}
use Rattle.spec.specs.Hours.{bit, mark_of, is_open, sum_from, room}
use Rattle.hours.specs.declared.calendar.Line.{Line}
use Rattle.hours.specs.declared.calendar.Hour.{Hour}
use Rattle.hours.specs.declared.calendar.Stretch.{Stretch}

-- whether every mark is 1
unfoldable pub are_all_open : Setup → Bool
are_all_open setup =
    eqb setup.marks0 18446744073709551615 && eqb setup.marks64 18446744073709551615
    && (eqb setup.marks128 4294967295 && eqb setup.marks160 255)

-- the third of the three words of 64 bits in which the marks stand, one for 64 hours: it has those of the last two numbers, and 0 behind them
abbrev pub last_word : Setup → ℕ
last_word setup = setup.marks128 * 4294967296 + setup.marks160 * 16777216

-- how many of the hours before this one, counted from clock 0, are open: "the marks repeating after hour 167"
unfoldable pub open_hours_before : Setup → ℕ → ℕ
open_hours_before setup hour = sum_from (λ h. mark_of setup (h % hours)) 0 hour

-- a table of counts, right up to a number of hours: at each number of them how many of the week's first hours are open
pub record CountedTo (setup : Setup) (most : ℕ) (counts : List ℕ) : Type 0 where
  pub size : length counts ≡ hours + 1
  pub each : (h : ℕ) → h ≤ most → get_or counts h 0 ≡ sum_from (mark_of setup) 0 h

abbrev pub Counted : Setup → List ℕ → Type 0
Counted setup counts = CountedTo setup hours counts

-- counts before and after they went on by the highest bits of a word, as many as `most`: those up to place `from` are as they were
pub record CountedOn (before after : List ℕ) (from word most : ℕ) : Type 0 where
  pub size : length after ≡ length before
  pub kept : (h : ℕ) → h ≤ from → get_or after h 0 ≡ get_or before h 0
  pub on : (n : ℕ) → n ≤ most → get_or after (from + n) 0 ≡ get_or before from 0 + sum_from (λ k. bit word (63 - k)) 0 n

-- a line lies below the open slots: a deadline more than n slots behind its floor has more than n open slots before it, as long as n is
-- less than its reach
pub record Below (setup : Setup) (line : Line) : Type 0 where
  pub low : line.floor ≤ 2 ^ 50
  pub more : (n d : ℕ) → line.floor + n < d → n < line.reach → n < room setup 0 d

-- the latest open slot before a slot, 0 where there is none
unfoldable pub latest_open : Setup → ℕ → ℕ
latest_open setup zero = 0
latest_open setup (suc e) = let earlier = latest_open setup e in cond (is_open setup e) e earlier

-- an hour comes behind so many others: it begins behind their slots, and its number is what they leave of whole weeks
pub record IsHour (setup : Setup) (hour : Hour) : Type 0 where
  pub others : ℕ
  pub begins : hour.start ≡ others * setup.hour
  pub numbered : hour.number ≡ others % hours

-- a stretch from slot 0 on
abbrev pub stretch_to : ℕ → Stretch
stretch_to end = record { hour = record { number = 0; start = 0 }; end = end }

-- the slots of a stretch are open, and begin with an hour; one without slots ends at 0
pub record OpenFrom (setup : Setup) (s : Stretch) : Type 0 where
  pub hour : IsHour setup s.hour
  pub all_open_lem : (x : ℕ) → s.hour.start ≤ x → x < s.end → is_open setup x ≡ true
  pub some : (s.hour.start < s.end → ⊥) → s.end ≡ 0
