-- What is read off a session's input and the lines that it prints: its calls with their answers, and the list of them since the last
-- accepted open. Document 01, "Session lines" and "Lists and plans". Assumes nothing.
use Rattle.std.specs.Prelude.{ℕ, Bool, not, cond, List, [], ◌∷◌, ◌++◌, map, eqb}
use Rattle.spec.specs.declared.types.Setup.{Setup}
use Rattle.spec.specs.declared.types.Answer.{Answer}
use Rattle.spec.specs.declared.types.Answer.TheVariants.{Charted, Refused}
use Rattle.spec.specs.declared.types.Frame.{Frame}
use Rattle.spec.specs.Every.{select}
use Rattle.spec.specs.Tables.{zero_setup}
use Rattle.spec.specs.Calls.Readings.{kind_of, values_of, shown}
use Rattle.spec.specs.Calls.{Call, chart, meaning}
use Rattle.spec.specs.Lists.{Event, refused_event, Among, is_opened}
use Rattle.spec.specs.Lines.Frames.{field_at, values_at, frame_of, segment_kind, task}
use Rattle.spec.specs.Lines.Session.{text_of, blank}

-- ---- answers
-- the answer whose kind byte is k, and a refusal where it is no other's. The library's chart answers the count of start slots, a session
-- prints that of segments. The answer read off has the printed one: nothing that is read off a list depends on it
abbrev pub answer_among : List (List ℕ → Answer) → ℕ → List ℕ → Answer
answer_among [] k line = Refused (field_at 1 1 line)
answer_among (answer ∷ others) k line =
    cond (eqb k (kind_of (answer [])))
    (answer (values_at 1 (map (λ f. f.width) (values_of (answer []))) line))
    (answer_among others k line)

unfoldable pub answer_with : ℕ → List ℕ → Answer
answer_with k line = answer_among shown k line

-- a printed line's kind byte
abbrev pub kind_in : List ℕ → ℕ
kind_in line = field_at 0 1 line

-- "87 segment, .. one line each from the left, then 88": a segment's line belongs to the 88 that follows, so that the answers are the
-- printed lines but the segments
abbrev pub is_answer : List ℕ → Bool
is_answer line = not (eqb (kind_in line) segment_kind)

unfoldable pub answers_in : List (List ℕ) → List Answer
answers_in lines = map (λ line. answer_with (kind_in line) line) (select is_answer lines)

-- ---- calls and their answers
-- the call that a frame asks for with its answer; a line that is no frame is no call, and stands in no list
abbrev pub events_by : Frame → Answer → List Event
events_by frame a = map (λ c. record { call = c; answers = a ∷ [] }) ((task frame).calls blank)

-- "One frame a line", and one answer to each, in order; es are the events before. A list stands newest first
unfoldable pub events_from : List Event → List (List ℕ) → List Answer → List Event
events_from es [] answers = es
events_from es (line ∷ lines) [] = es
events_from es (line ∷ lines) (a ∷ answers) = events_from (events_by (frame_of line) a ++ es) lines answers

-- all events of a session, read off its input and its output. "a last line without its line feed gets refusal 1": it is no frame, and
-- its answer is the last
unfoldable pub events_in : List ℕ → List ℕ → List Event
events_in input output = events_from [] (text_of input).lines (answers_in (text_of output).lines)

-- how many lines are begun behind the last line feed
abbrev pub unended : List ℕ → ℕ
unended [] = 0
unended (b ∷ bs) = 1

-- ---- the list
-- "A later accepted open begins another list.": the events since the last accepted open
unfoldable pub since_open : List Event → List Event
since_open [] = []
since_open (e ∷ es) = cond (is_opened e) [] (e ∷ since_open es)

-- what a list that is read off has beside the calls that were lent the session's tables: refused calls, as the open that names too many
-- records and "gets refusal 4 in its place", and charts, which print a count of segments
pub data Beside : Event → Type 0 where
  refused_one : (c : Call) (number : ℕ) → Beside (refused_event c number)
  charted : (count : ℕ) → Beside (record { call = chart blank; answers = Charted count ∷ [] })

-- the second list, as it is read off, has the first one's calls with their answers, and such events among them
abbrev pub AsPrinted : List Event → List Event → Type 0
AsPrinted es fs = Among Beside es fs

-- what the last accepted open set
unfoldable pub setup_in : List Event → Setup
setup_in [] = zero_setup
setup_in (e ∷ es) = cond (is_opened e) (meaning e.call).sets (setup_in es)
