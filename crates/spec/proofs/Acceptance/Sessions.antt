-- Sessions as one table that is checked by one theorem: document 01's own, and one for each sentence of "Session lines" that says
-- what an input is answered. Assumes nothing.
use Prim.Native.Nat.{ℕ}
use Prim.Native.Char.{code}
use Prim.Native.String.{String, [] as []ˢ, ◌∷◌ as ◌∷ˢ◌}
use mathlib.Core.Path.{◌≡◌, refl}
use mathlib.Core.List.{List, [], ◌∷◌, ◌++◌, map}
use lib.ListN.{length, take}
use Rattle.spec.specs.declared.types.Frame.{Frame}
use Rattle.spec.specs.declared.types.Frame.TheVariants.{Open, Submit, Tick, Report, Chart, Bad}
use Rattle.spec.specs.Every.{every}
use Rattle.spec.specs.Chart.{Segment}
use Rattle.spec.specs.Calls.Chart.{chart_output}
use Rattle.spec.specs.Calls.Readings.{shown, kind_of}
use Rattle.spec.specs.Lines.Frames.{answer_line, digit_of, character_of, number_from, digits, frame_with, frame_of}
use Rattle.spec.specs.Lines.Frames.{field_digits, line_of, segment_lines, field_at, FrameKind, frame_kinds}
use Rattle.spec.specs.Lines.Session.{text_of, at_start, line_outcome, replies, session}
use Rattle.spec.specs.declared.types.Answer.{Answer}
use Rattle.spec.specs.declared.types.Answer.TheVariants.{Opened, Kept, Dropped, Served, Idle, Reported, Charted, Closed, Refused}
use Rattle.spec.proofs.Acceptance.Computed.{hourly, calls}

-- an input's lines, what stands behind its last line feed, and the lines of the output
pub record Dialogue : Type 0 where
  pub lines : List String
  pub rest : String
  pub answers : List String

-- the bytes of a text, with others behind them
abbrev bytes : String → List ℕ → List ℕ
bytes []ˢ more = more
bytes (c ∷ˢ s) more = code c ∷ bytes s more

-- the bytes of lines, each with its line feed
abbrev text : List String → List ℕ → List ℕ
text [] more = more
text (l ∷ ls) more = bytes l (10 ∷ text ls more)

abbrev said : Dialogue → List ℕ
said d = text d.answers []

abbrev given : Dialogue → List ℕ
given d = session (text d.lines (bytes d.rest []))

abbrev dialogue : List String → String → List String → Dialogue
dialogue lines rest answers = record { lines = lines; rest = rest; answers = answers }

abbrev dialogues : List Dialogue
dialogues =
    -- "Input, then what the session program prints"; document 02, 2.1: "Frames 82 and 83 end with it, in 2 bytes, in document
    -- 01's session too."
    dialogue
    (
    "01000200000064000800000001FFFFFFFFFFFFFFFFFFFFFFFFFFFFFFFFFFFFFFFFFF"
    ∷ "0200000000000000000001"
    ∷ "0200010000000000000002"
    ∷ "0200010000000000000001"
    ∷ "05"
    ∷ "03"
    ∷ "040001"
    ∷ []
    )
    ""
    (
    "81"
    ∷ "82000000000000000100000000"
    ∷ "82000000000000000200010000"
    ∷ "830000000000000003000000000000000300010001"
    ∷ "8700000000000000000000000000000002"
    ∷ "880001"
    ∷ "84000000000000000000000000000000010000"
    ∷ "8600010000000200000000000000010001"
    ∷ []
    )
    -- "Empty input prints nothing."
    ∷ dialogue [] "" []
    -- "An empty line, an unknown kind, a wrong length, or a last line without its line feed gets refusal 1."
    ∷ dialogue ("" ∷ "7F" ∷ "81" ∷ "0300" ∷ "0500" ∷ "04" ∷ "0" ∷ "030" ∷ []) "03"
    ("FF01" ∷ "FF01" ∷ "FF01" ∷ "FF01" ∷ "FF01" ∷ "FF01" ∷ "FF01" ∷ "FF01" ∷ "FF01" ∷ [])
    -- "pairs of upper-case hexadecimal digits"
    ∷ dialogue (" 03" ∷ "03 " ∷ "03\r" ∷ "01000100000f64000800000001FFFFFFFFFFFFFFFFFFFFFFFFFFFFFFFFFFFFFFFFFF" ∷ []) "" ("FF01" ∷ "FF01" ∷ "FF01" ∷ "FF01" ∷ [])
    -- after an open: the characters beside the digits; every byte of a client's number, a deadline and a period counts, for client 0
    -- exists, a deadline of 5 would be kept, and with a period of 1 the tick would start one
    ∷ dialogue
    (
    "01000101000001000800000001FFFFFFFFFFFFFFFFFFFFFFFFFFFFFFFFFFFFFFFFFF"
    ∷ "04000/"
    ∷ "04000:"
    ∷ "04000@"
    ∷ "04000G"
    ∷ "040100"
    ∷ "0200000100000000000005"
    ∷ "0200000000000000000009"
    ∷ "03"
    ∷ "040000"
    ∷ []
    )
    ""
    (
    "81"
    ∷ "FF01"
    ∷ "FF01"
    ∷ "FF01"
    ∷ "FF01"
    ∷ "FF06"
    ∷ "FF07"
    ∷ "82000000000000000100000000"
    ∷ "84000000000000000000000000000000010000"
    ∷ "8600000000000100000001000000000000"
    ∷ []
    )
    -- "A line with more digits than the longest frame whose values are in bounds is read past and gets one refusal 1."
    -- document 02, 2.2: an open is the longest
    ∷ dialogue
    (
    "02000000000000000000010"
    ∷ "020000000000000000000100"
    ∷ "01000100000064000800000001FFFFFFFFFFFFFFFFFFFFFFFFFFFFFFFFFFFFFFFFFFF"
    ∷ "01000100000064000800000001FFFFFFFFFFFFFFFFFFFFFFFFFFFFFFFFFFFFFFFFFFFF"
    ∷ "000000000000000000000000000000000000000000000000000000000000000000000000000000000000"
    ∷ []
    )
    ""
    ("FF01" ∷ "FF01" ∷ "FF01" ∷ "FF01" ∷ "FF01" ∷ [])
    -- "Before an accepted open the two tables have no records, so frames 02 to 05 meet refusal 4."
    ∷ dialogue ("0200000000000000000001" ∷ "03" ∷ "040000" ∷ "05" ∷ []) "" ("FF04" ∷ "FF04" ∷ "FF04" ∷ "FF04" ∷ [])
    -- document 02, 2.2: refusals 13 and 14 of open, and an open without its hours
    ∷ dialogue
    (
    "01000100000064000800000000FFFFFFFFFFFFFFFFFFFFFFFFFFFFFFFFFFFFFFFFFF"
    ∷ "01000100000064000800057E41FFFFFFFFFFFFFFFFFFFFFFFFFFFFFFFFFFFFFFFFFF"
    ∷ "01000100000064000800057E40000000000000000000000000000000000000000000"
    ∷ "01000100000064000000057E41000000000000000000000000000000000000000000"
    ∷ "010001000000640008"
    ∷ "01000100000064000800057E40000000000000000000000000000000000000000001"
    ∷ "03"
    ∷ []
    )
    ""
    ("FF0D" ∷ "FF0D" ∷ "FF0E" ∷ "FF0D" ∷ "FF01" ∷ "81" ∷ "890000000000000000" ∷ [])
    -- refusals 2, 3 and 4 of open; one "naming more waiting records" than 2,048 stands in `Printed`
    ∷ dialogue
    ("01000000000064000800000001FFFFFFFFFFFFFFFFFFFFFFFFFFFFFFFFFFFFFFFFFF" ∷ "01010100000064000800000001FFFFFFFFFFFFFFFFFFFFFFFFFFFFFFFFFFFFFFFFFF" ∷ "01000100000000000800000001FFFFFFFFFFFFFFFFFFFFFFFFFFFFFFFFFFFFFFFFFF" ∷ "01000100000064000000000001FFFFFFFFFFFFFFFFFFFFFFFFFFFFFFFFFFFFFFFFFF" ∷ "01000000000000000000000001FFFFFFFFFFFFFFFFFFFFFFFFFFFFFFFFFFFFFFFFFF" ∷ []) ""
    ("FF02" ∷ "FF02" ∷ "FF03" ∷ "FF04" ∷ "FF02" ∷ [])
    -- "one line each from the left, then 88, segment count"; a refused open leaves the session as it was; "An accepted open starts a new
    -- session."
    ∷ dialogue
    (
    "01000100000064000200000001FFFFFFFFFFFFFFFFFFFFFFFFFFFFFFFFFFFFFFFFFF"
    ∷ "0200000000000000000009"
    ∷ "0200000000000000000005"
    ∷ "01000100000000000200000001FFFFFFFFFFFFFFFFFFFFFFFFFFFFFFFFFFFFFFFFFF"
    ∷ "05"
    ∷ "01000100000064000200000001FFFFFFFFFFFFFFFFFFFFFFFFFFFFFFFFFFFFFFFFFF"
    ∷ "05"
    ∷ "0200000000000000000009"
    ∷ []
    )
    ""
    (
    "81"
    ∷ "82000000000000000100000000"
    ∷ "82000000000000000200000001"
    ∷ "FF03"
    ∷ "8700000000000000040000000000000005"
    ∷ "8700000000000000080000000000000009"
    ∷ "880002"
    ∷ "81"
    ∷ "880000"
    ∷ "82000000000000000100000000"
    ∷ []
    )
    -- document 02, 2.2: two slots an hour, hours 0 and 2 of the week open
    ∷ dialogue
    (
    "01000100000064000800000002A00000000000000000000000000000000000000000"
    ∷ "0200000000000000000003"
    ∷ "0200000000000000000005"
    ∷ "05"
    ∷ "0200000000000000000006"
    ∷ "05"
    ∷ "0200000000000000000005"
    ∷ "03"
    ∷ "03"
    ∷ "03"
    ∷ "0200000000000000000004"
    ∷ "0200000000000000000009"
    ∷ "05"
    ∷ "03"
    ∷ "03"
    ∷ "03"
    ∷ "03"
    ∷ []
    )
    ""
    (
    "81"
    ∷ "82000000000000000100000000"
    ∷ "82000000000000000200010000"
    ∷ "8700000000000000010000000000000005"
    ∷ "880001"
    ∷ "82000000000000000300020000"
    ∷ "8700000000000000010000000000000006"
    ∷ "880001"
    ∷ "82000000000000000400020001"
    ∷ "84000000000000000000000000000000010000"
    ∷ "84000000000000000100000000000000020000"
    ∷ "890000000000000002"
    ∷ "FF0F"
    ∷ "830000000000000005000000000000000500000000"
    ∷ "8700000000000000040000000000000006"
    ∷ "880001"
    ∷ "890000000000000003"
    ∷ "84000000000000000400000000000000040000"
    ∷ "84000000000000000500000000000000030000"
    ∷ "890000000000000006"
    ∷ []
    )
    ∷ []

unfoldable frames : Unit {0}
unfolding every digits character_of digit_of number_from frame_with frame_of field_digits line_of segment_lines
frames = tt

pub worked_sessions : map given dialogues ≡ map said dialogues
unfolding calls chart_output frames text_of at_start line_outcome replies session
worked_sessions = refl

-- ---- lines in
-- a line and its frame
pub record LineIn : Type 0 where
  pub text : String
  pub frame : Frame

abbrev lines_in : List LineIn
lines_in =
    -- "Numbers are big-endian, widths in bytes in brackets.": every byte in its place
    record {
      text = "01012389ABCDEF456701234567FEDCBA9876543210F0E1D2C3B4A596870123ABCD5A";
      frame = Open (hourly 0x0123 0x89ABCDEF 0x01234567 (0xFEDCBA9876543210 ∷ 0xF0E1D2C3B4A59687 ∷ 0x0123ABCD ∷ 0x5A ∷ [])) 0x4567;
    }
    ∷ record { text = "02CDEF0123456789ABFEDC"; frame = Submit 0xCDEF 0x0123456789ABFEDC }
    ∷ record { text = "03"; frame = Tick }
    ∷ record { text = "0489AB"; frame = Report 0x89AB }
    ∷ record { text = "05"; frame = Chart }
    -- "upper-case hexadecimal digits": the first and last of them, and the characters beside them
    ∷ record { text = "040009"; frame = Report 9 }
    ∷ record { text = "04000A"; frame = Report 10 }
    ∷ record { text = "04000F"; frame = Report 15 }
    ∷ record { text = "04000/"; frame = Bad }
    ∷ record { text = "04000:"; frame = Bad }
    ∷ record { text = "04000@"; frame = Bad }
    ∷ record { text = "04000G"; frame = Bad }
    ∷ record { text = "04000`"; frame = Bad }
    ∷ record { text = "04000a"; frame = Bad }
    ∷ record { text = "04000f"; frame = Bad }
    ∷ record { text = "04000g"; frame = Bad }
    ∷ []

pub frame_lines : map (λ (l : LineIn). frame_of (bytes l.text [])) lines_in ≡ map (λ (l : LineIn). l.frame) lines_in
unfolding frames
frame_lines = refl

-- the first of them are one of each kind of frame, so that none is left out
pub each_frame :
    map (λ (l : LineIn). field_at 0 1 (bytes l.text [])) (take (length frame_kinds) lines_in) ≡ map (λ (k : FrameKind). k.kind) frame_kinds
unfolding frames
each_frame = refl

-- ---- lines out
-- an answer and its line
pub record LineOut : Type 0 where
  pub answer : Answer
  pub text : String

abbrev lines_out : List LineOut
lines_out =
    record { answer = Opened; text = "81" }
    ∷ record { answer = Kept 0x0123456789AB 0x07FE 0x05FD; text = "8200000123456789AB07FE05FD" }
    ∷ record { answer = Dropped 0xFEDCBA987654 0x0123456789AB 0x00FD 0x07FE; text = "830000FEDCBA98765400000123456789AB00FD07FE" }
    ∷ record { answer = Served 0xFEDCBA987654 0x0123456789AB 0x00FD; text = "840000FEDCBA98765400000123456789AB00FD" }
    ∷ record { answer = Idle 0xFEDCBA987654; text = "850000FEDCBA987654" }
    ∷ record { answer = Reported 0x00FD 0x0FEDCBA9 0x08765432 0x01234567 0x07FE; text = "8600FD0FEDCBA9087654320123456707FE" }
    ∷ record { answer = Charted 0x07FE; text = "8807FE" }
    ∷ record { answer = Closed 0xFEDCBA987654; text = "890000FEDCBA987654" }
    ∷ record { answer = Refused 15; text = "FF0F" }
    ∷ []

pub answer_lines_lem : map (λ (l : LineOut). answer_line l.answer) lines_out ≡ map (λ (l : LineOut). bytes l.text (10 ∷ [])) lines_out
unfolding frames
answer_lines_lem = refl

-- no kind of answer is left out
pub each_answer :
    map (λ (l : LineOut). kind_of l.answer) lines_out
    ≡ map (λ (answer : List ℕ → Answer). kind_of (answer [])) shown ++ (kind_of (Refused 0) ∷ [])
each_answer = refl

-- "87 segment, left (8), right (8), one line each from the left"
abbrev segments : List Segment
segments = record { left = 0x0123456789AB; right = 0x0123456789AC } ∷ record { left = 0xFEDCBA987654; right = 0xFEDCBA98765F } ∷ []

pub segment_lines_lem :
    segment_lines segments ≡ text ("8700000123456789AB00000123456789AC" ∷ "870000FEDCBA9876540000FEDCBA98765F" ∷ []) []
unfolding frames
segment_lines_lem = refl
