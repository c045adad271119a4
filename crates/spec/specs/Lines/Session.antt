-- The session, a function from the input's bytes to the output's: document 01, "Session lines". Assumes nothing.
use Rattle.std.specs.Prelude.{ℕ, cond, List, [], ◌∷◌, ◌++◌, eqb, replicate}
use Rattle.spec.specs.declared.types.Answer.TheVariants.{Refused}
use Rattle.spec.specs.declared.types.Frame.{Frame}
use Rattle.spec.specs.Every.{gather, first_or}
use Rattle.spec.specs.Tables.{most_records, zero_setup, zero_request, zero_counts, open_head, State, numbers_of}
use Rattle.spec.specs.Calls.Readings.{is_refused}
use Rattle.spec.specs.Calls.Outcomes.{Outcome, refusing}
use Rattle.spec.specs.Calls.{Call, meaning, outcome_of}
use Rattle.spec.specs.Lines.Frames.{line_feed, frame_of, Lengths, task, answer_line, answer_lines}

-- ---- lines
-- the lines that a line feed ends, in order, and the characters behind the last line feed
pub record Text : Type 0 where
  pub lines : List (List ℕ)
  pub rest : List ℕ

-- the text with one more character in front, which is no line feed
abbrev pub in_front : ℕ → List (List ℕ) → List ℕ → Text
in_front b [] rest = record { lines = []; rest = b ∷ rest }
in_front b (line ∷ lines) rest = record { lines = (b ∷ line) ∷ lines; rest = rest }

abbrev pub read : ℕ → Text → Text
read b t = cond (eqb b line_feed) (record { lines = [] ∷ t.lines; rest = t.rest }) (in_front b t.lines t.rest)

unfoldable pub text_of : List ℕ → Text
text_of [] = record { lines = []; rest = [] }
text_of (b ∷ bs) = read b (text_of bs)

-- ---- what a line gets
-- what the call gives; "refusal 1" where there is none
abbrev pub outcome_by : List Call → State → Outcome
outcome_by [] s = refusing 1 s
outcome_by (c ∷ cs) s = outcome_of c s

-- the output after it, which only a chart changes
abbrev pub output_by : List Call → List ℕ → State → List ℕ
output_by [] output s = output
output_by (c ∷ cs) output s = first_or output ((meaning c).outputs s)

-- ---- one line
-- "Before an accepted open the two tables have no records"
unfoldable pub at_start : State
at_start =
    record {
      head = open_head zero_setup;
      waiting_table = [];
      client_numbers = [];
    }

-- "lends the first part that open names, and of 256 client records as many as open names clients; an open naming more waiting
-- records gets refusal 4 in its place": open gets tables of these lengths; what they held does not matter to it
abbrev pub lent : List Lengths → State → State
lent [] s = s
lent (l ∷ ls) s =
    record {
      head = s.head;
      waiting_table = replicate l.records zero_request;
      client_numbers = numbers_of (replicate l.clients zero_counts);
    }

-- the bytes that a line is answered, and the state after it
pub record LineOutcome : Type 0 where
  pub bytes : List ℕ
  pub after : State

-- "An accepted open starts a new session."; a refused call leaves the session as it was
abbrev pub line_outcome_of : State → Outcome → List ℕ → LineOutcome
line_outcome_of s o output =
    record {
      bytes = gather (answer_lines o.after.head.setup output) o.answers;
      after = cond (is_refused o.answers) s o.after;
    }

-- the chart's output table in a session: as long as a waiting table can be
abbrev pub blank : List ℕ
blank = replicate most_records 0

unfoldable pub line_outcome : Frame → State → LineOutcome
line_outcome frame s =
    let calls = (task frame).calls blank in
    let t = lent (task frame).named s in
    line_outcome_of s (outcome_by calls t) (output_by calls blank t)

-- ---- the whole session
-- each line's answer in turn
unfoldable pub replies : State → List (List ℕ) → List ℕ
replies s [] = []
replies s (line ∷ lines) = let r = line_outcome (frame_of line) s in r.bytes ++ replies r.after lines

-- the state after each line's answer
unfoldable pub state_after : State → List (List ℕ) → State
state_after s [] = s
state_after s (line ∷ lines) = state_after (line_outcome (frame_of line) s).after lines

-- "a last line without its line feed gets refusal 1"
abbrev pub at_end : List ℕ → List ℕ
at_end [] = []
at_end (b ∷ bs) = answer_line (Refused 1)

-- the output for an input. "Empty input prints nothing."
unfoldable pub session : List ℕ → List ℕ
session input = replies at_start (text_of input).lines ++ at_end (text_of input).rest

-- the state that it leaves
unfoldable pub session_state : List ℕ → State
session_state input = state_after at_start (text_of input).lines
