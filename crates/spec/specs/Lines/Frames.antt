-- Lines in and out, and the call that a line in asks for: document 01, "Session lines", and document 02, 2.2. Characters and bytes are
-- numbers; a line stands without its line feed. Assumes nothing.
use Rattle.std.specs.Prelude.{ℕ, zero, suc, ◌+◌, ◌-◌, ◌*◌, ◌/◌, ◌%◌, Bool, cond, ◌&&◌, List, [], ◌∷◌, ◌++◌, map, ltb, eqb, length, get_or, take, drop}
use Rattle.spec.specs.declared.types.Setup.{Setup}
use Rattle.spec.specs.declared.types.Answer.{Answer}
use Rattle.spec.specs.declared.types.Frame.{Frame}
use Rattle.spec.specs.declared.types.Frame.TheVariants.{Open, Submit, Tick, Report, Chart, Bad}
use Rattle.spec.specs.Every.{is_within, every, sum, largest}
use Rattle.spec.specs.Tables.{setup_of}
use Rattle.spec.specs.Chart.{Segment, segments_of}
use Rattle.spec.specs.Calls.Readings.{Field, field, reading, kind_of, values_of}
use Rattle.spec.specs.Calls.{Call, opening, submit, tick, report, chart}

-- "then a line feed (byte 0A)"
abbrev pub line_feed : ℕ
line_feed = 0x0A

-- ---- digits
-- "upper-case hexadecimal digits": a character's value, or 255 where it is no digit
unfoldable pub digit_of : ℕ → ℕ
digit_of character =
    cond (is_within 0x30 0x39 character) (character - 0x30)
    (cond (is_within 0x41 0x46 character) (character - 0x41 + 10) 255)

abbrev pub is_digit : ℕ → Bool
is_digit character = ltb (digit_of character) 16

-- the character of a value below 16
unfoldable pub character_of : ℕ → ℕ
character_of value = cond (ltb value 10) (0x30 + value) (0x41 + value - 10)

-- "Numbers are big-endian": the number that digits stand for, `before` that of the digits in front of them
unfoldable pub number_from : ℕ → List ℕ → ℕ
number_from before [] = before
number_from before (d ∷ ds) = number_from (before * 16 + digit_of d) ds

-- "widths in bytes in brackets": the field of so many bytes, behind so many bytes of the frame
abbrev pub field_at : ℕ → ℕ → List ℕ → ℕ
field_at from width line = number_from 0 (take (2 * width) (drop (2 * from) line))

-- the last digits of a value, so many; no answer has a value with more (`Demand1.values_fit`)
unfoldable pub digits : ℕ → ℕ → List ℕ
digits zero value = []
digits (suc n) value = digits n (value / 16) ++ (character_of (value % 16) ∷ [])

-- the values of fields of these widths, the first of them behind so many bytes
abbrev pub values_at : ℕ → List ℕ → List ℕ → List ℕ
values_at from [] line = []
values_at from (width ∷ widths) line = field_at from width line ∷ values_at (from + width) widths line

-- the digits of a kind byte and of fields of these widths
abbrev pub digits_for : List ℕ → ℕ
digits_for widths = 2 * (1 + sum widths)

-- ---- frames in
-- a kind of frame: its number, the widths of its fields, and the frame that their values are
pub record FrameKind : Type 0 where
  pub kind : ℕ
  pub widths : List ℕ
  pub frame : List ℕ → Frame

-- document 02, 2.2: "as 4 bytes and 21 bytes, first hour in the highest bit": the slots per hour, and the marks as four numbers
abbrev pub hour_widths : List ℕ
hour_widths = 4 ∷ 8 ∷ 8 ∷ 4 ∷ 1 ∷ []

-- "01 open, clients (2), period (4), waiting records (2)", and document 02, 2.2: "Its frame carries them after the waiting records"
abbrev pub open_kind : FrameKind
open_kind =
    record {
      kind = 0x01;
      widths = 2 ∷ 4 ∷ 2 ∷ hour_widths;
      frame = λ values. Open (setup_of (get_or values 0 0 ∷ get_or values 1 0 ∷ drop 3 values)) (get_or values 2 0);
    }

-- "02 submit, client (2), deadline (8)"
abbrev pub submit_kind : FrameKind
submit_kind = record { kind = 0x02; widths = 2 ∷ 8 ∷ []; frame = λ values. Submit (get_or values 0 0) (get_or values 1 0) }

-- "03 tick"
abbrev pub tick_kind : FrameKind
tick_kind = record { kind = 0x03; widths = []; frame = λ values. Tick }

-- "04 report, client (2)"
abbrev pub report_kind : FrameKind
report_kind = record { kind = 0x04; widths = 2 ∷ []; frame = λ values. Report (get_or values 0 0) }

-- "05 chart"
abbrev pub chart_kind : FrameKind
chart_kind = record { kind = 0x05; widths = []; frame = λ values. Chart }

abbrev pub frame_kinds : List FrameKind
frame_kinds = open_kind ∷ submit_kind ∷ tick_kind ∷ report_kind ∷ chart_kind ∷ []

-- "an unknown kind, a wrong length": whether a kind byte and a number of digits are those of this kind
abbrev pub is_kind : FrameKind → ℕ → ℕ → Bool
is_kind kind byte count = eqb byte kind.kind && eqb count (digits_for kind.widths)

-- the frame that a line of this kind is
abbrev pub frame_in : FrameKind → List ℕ → Frame
frame_in kind line = kind.frame (values_at 1 kind.widths line)

-- the frame of the kind that has the line's kind byte and number of digits
abbrev pub frame_among : List FrameKind → ℕ → ℕ → List ℕ → Frame
frame_among [] byte count line = Bad
frame_among (kind ∷ kinds) byte count line =
    cond (is_kind kind byte count) (frame_in kind line) (frame_among kinds byte count line)

unfoldable pub frame_with : ℕ → ℕ → List ℕ → Frame
frame_with byte count line = frame_among frame_kinds byte count line

-- "One frame a line: pairs of upper-case hexadecimal digits": what a line is
unfoldable pub frame_of : List ℕ → Frame
frame_of line = cond (every is_digit line) (frame_with (field_at 0 1 line) (length line) line) Bad

-- "the longest frame whose values are in bounds": how many digits it has
abbrev pub longest_frame : ℕ
longest_frame = largest (map (λ kind. digits_for kind.widths) frame_kinds)

-- ---- what a line asks for
-- lengths of tables: waiting records, and clients
pub record Lengths : Type 0 where
  pub records : ℕ
  pub clients : ℕ

-- the call that a line asks for, where a chart's output is the one given, none where it is no frame; and the lengths that an open names
pub record Task : Type 0 where
  pub calls : List ℕ → List Call
  pub named : List Lengths

abbrev pub task_by : (List ℕ → List Call) → Task
task_by calls = record { calls = calls; named = [] }

abbrev pub task : Frame → Task
task (Open setup records) =
    record { calls = λ output. opening setup ∷ []; named = record { records = records; clients = setup.clients } ∷ [] }
task (Submit client deadline) = task_by (λ output. submit client deadline ∷ [])
task Tick = task_by (λ output. tick ∷ [])
task (Report client) = task_by (λ output. report client ∷ [])
task Chart = task_by (λ output. chart output ∷ [])
task Bad = task_by (λ output. [])

-- ---- lines out
unfoldable pub field_digits : List Field → List ℕ
field_digits [] = []
field_digits (f ∷ fs) = digits (2 * f.width) f.value ++ field_digits fs

-- a line with its line feed
unfoldable pub line_of : ℕ → List Field → List ℕ
line_of kind fields = digits 2 kind ++ (field_digits fields ++ (line_feed ∷ []))

abbrev pub answer_line : Answer → List ℕ
answer_line a = line_of (kind_of a) (values_of a)

-- "87 segment, left (8), right (8), one line each from the left"
abbrev pub segment_kind : ℕ
segment_kind = 0x87

abbrev pub segment_fields : Segment → List Field
segment_fields g = field 8 g.left ∷ field 8 g.right ∷ []

unfoldable pub segment_lines : List Segment → List ℕ
segment_lines [] = []
segment_lines (g ∷ gs) = line_of segment_kind (segment_fields g) ++ segment_lines gs

-- ".., then 88, segment count (2)"
abbrev pub count_fields : ℕ → List Field
count_fields count = field 2 count ∷ []

abbrev pub chart_lines : List Segment → List ℕ
chart_lines gs = segment_lines gs ++ line_of 0x88 (count_fields (length gs))

-- the lines of an answer: its own, or the segments' of the start slots that a chart wrote
abbrev pub lines_by : List ℕ → Setup → List ℕ → Answer → List ℕ
lines_by [] setup starts a = answer_line a
lines_by (count ∷ more) setup starts a = chart_lines (segments_of setup (take count starts))

abbrev pub answer_lines : Setup → List ℕ → Answer → List ℕ
answer_lines setup starts a = lines_by (reading a).charted setup starts a
