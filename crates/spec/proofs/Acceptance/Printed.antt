-- What is read off a session, computed for one input: its list since the last accepted open has an open in the middle that names too
-- many records, a line that is no frame, and a chart with its segment. Assumes nothing.
use Prim.Native.Nat.{ℕ}
use mathlib.Core.Path.{◌≡◌, refl}
use mathlib.Core.Bool.{Bool, true}
use mathlib.Core.List.{List, [], ◌∷◌, ◌++◌, map}
use Rattle.spec.specs.declared.types.Setup.{Setup}
use Rattle.spec.specs.declared.types.Answer.{Answer}
use Rattle.spec.specs.declared.types.Answer.TheVariants.{Kept, Dropped, Served, Reported, Charted, Refused}
use Rattle.spec.specs.Every.{exists, select}
use Rattle.spec.specs.Calls.Readings.{Field, field}
use Rattle.spec.specs.Calls.Chart.{chart_output}
use Rattle.spec.specs.Calls.{Call, opening, submit, tick, report, chart}
use Rattle.spec.specs.Lists.{Event, is_opened, ticks, Asked, asked, bookings, victims, served_requests, waiting_requests}
use Rattle.spec.specs.Lines.Frames.{digit_of, character_of, number_from, digits, frame_with, frame_of, field_digits, line_of}
use Rattle.spec.specs.Lines.Frames.{segment_lines}
use Rattle.spec.specs.Lines.Session.{text_of, at_start, blank, line_outcome, replies, session}
use Rattle.spec.specs.Lines.Printed.{answer_with, answers_in, events_from, events_in, since_open, setup_in}
use Rattle.spec.proofs.Acceptance.Computed.{setting, calls}

-- ---- the input
-- one slot an hour, every hour open
abbrev hours_open : List Field
hours_open =
    field 4 1 ∷ field 8 18446744073709551615 ∷ field 8 18446744073709551615 ∷ field 4 4294967295 ∷ field 1 255 ∷ []

abbrev open_line : ℕ → ℕ → ℕ → List ℕ
open_line clients period records = line_of 0x01 (field 2 clients ∷ field 4 period ∷ field 2 records ∷ hours_open)

abbrev submit_line : ℕ → ℕ → List ℕ
submit_line client deadline = line_of 0x02 (field 2 client ∷ field 8 deadline ∷ [])

-- a session of its own first; an open that names 2,049 records and one of kind 7F between two submits; "a last line without its line feed"
abbrev input : List ℕ
input =
    open_line 1 7 2
    ++ submit_line 0 9
    ++ open_line 2 100 8
    ++ submit_line 0 1
    ++ submit_line 1 2
    ++ open_line 2 100 2049
    ++ line_of 0x7F []
    ++ submit_line 1 1
    ++ line_of 0x05 []
    ++ line_of 0x03 []
    ++ line_of 0x04 (field 2 1 ∷ [])
    ++ digits 2 0x03

-- ---- what is read off it
pub record Printout : Type 0 where
  pub opened : Bool
  pub setup : Setup
  pub list : List Event
  pub served : List ℕ
  pub waits : List ℕ

abbrev numbers : List Asked → List ℕ
numbers rs = map (λ (a : Asked). a.request.number) rs

abbrev printout_of : List Event → Printout
printout_of es =
    record {
      opened = exists is_opened es;
      setup = setup_in es;
      list = since_open es;
      served = numbers (served_requests (since_open es));
      waits = numbers (waiting_requests (since_open es));
    }

abbrev answered : Call → Answer → Event
answered c a = record { call = c; answers = a ∷ [] }

abbrev expected : Printout
expected =
    record {
      opened = true;
      setup = setting 2 100;
      list =
          answered (report 1) (Reported 1 2 0 1 1)
          ∷ answered tick (Served 0 1 0)
          ∷ answered (chart blank) (Charted 1)
          ∷ answered (submit 1 1) (Dropped 3 3 1 1)
          ∷ answered (opening (setting 2 100)) (Refused 4)
          ∷ answered (submit 1 2) (Kept 2 1 0)
          ∷ answered (submit 0 1) (Kept 1 0 0)
          ∷ [];
      served = 1 ∷ [];
      waits = 2 ∷ [];
    }

unfoldable lines : Unit {0}
unfolding digits character_of digit_of number_from frame_with frame_of field_digits line_of segment_lines text_of
lines = tt

pub read_off : printout_of (events_in input (session input)) ≡ expected
unfolding calls chart_output lines at_start line_outcome replies session answer_with answers_in events_from events_in since_open setup_in exists select ticks asked bookings victims served_requests waiting_requests
read_off = refl
