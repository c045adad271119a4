-- What is read off the lines that a session prints: each line's answer is the one that was printed. Assumes nothing.
use Prim.Native.Nat.{ℕ, ◌+◌, ◌≤◌, ◌<◌}
use mathlib.Core.Path.{◌≡◌, refl, sym, ap, ◌∙◌, subst}
use mathlib.Core.Bool.{true, false}
use mathlib.Core.List.{List, [], ◌∷◌, ◌++◌, map, append_assoc, append-nil}
use native.Mathlib.Omega.{arith}
use lib.Dec.{eqb}
use lib.ListN.{length, take, length-take, length-replicate}
use lib.Seq.{take_at, drop_at}
use Rattle.slots.proofs.Laws.Sums.{All, all_append}
use Rattle.spec.specs.declared.types.Setup.{Setup}
use Rattle.spec.specs.declared.types.Answer.{Answer}
use Rattle.spec.specs.declared.types.Answer.TheVariants.{Charted, Refused}
use Rattle.spec.specs.declared.types.Frame.{Frame}
use Rattle.spec.specs.Every.{select, gather}
use Rattle.spec.specs.Tables.{State, most_records}
use Rattle.spec.specs.Chart.{Segment, segments_of}
use Rattle.spec.specs.Calls.Readings.{Field, field, kind_of, values_of, reading}
use Rattle.spec.specs.Calls.Outcomes.{Outcome}
use Rattle.spec.specs.Calls.{Call}
use Rattle.spec.specs.Lines.Frames.{line_feed, number_from, digits, field_digits, line_of, answer_line, segment_lines, frame_of}
use Rattle.spec.specs.Lines.Frames.{answer_lines, lines_by, segment_kind, segment_fields, Task, task}
use Rattle.spec.specs.Lines.Session.{Text, text_of, at_start, lent, blank, line_outcome, replies, at_end, session, outcome_by}
use Rattle.spec.specs.Lines.Session.{output_by}
use Rattle.spec.specs.Lines.Printed.{answer_with, kind_in, answers_in, unended}
use Rattle.spec.proofs.Demands.Words.{FitsField}
use Rattle.spec.proofs.Calls.Refused.{first_answer, call_answers, output_length}
use Rattle.spec.proofs.Calls.Widths.{segments_length}
use Rattle.spec.proofs.Demands.Demand1.{values_fit}
use Rattle.spec.proofs.Laws.Answers.{readable}
use Rattle.spec.proofs.Calls.CallKinds.{Asks, asks_open, asks_chart, asks_nothing, asks_call, asks}
use Rattle.spec.proofs.Laws.Digits.{Clean, digits_clean, fields_clean, length_digits, number_digits, FieldsRead}
use Rattle.spec.proofs.Laws.Digits.{reads_back}

-- ---- lines
-- a line without its line feed
abbrev pub printed : ℕ → List Field → List ℕ
printed kind fs = digits 2 kind ++ field_digits fs

pub text_first : (xs ys : List ℕ) → Clean xs
    → text_of (xs ++ (line_feed ∷ ys)) ≡ record { lines = xs ∷ (text_of ys).lines; rest = (text_of ys).rest }
unfolding text_of
text_first [] ys c = refl
text_first (x ∷ xs) ys c = rw (c.0, text_first xs ys c.1)

first_line : (kind : ℕ) (fs : List Field) (ys : List ℕ)
    → (text_of (line_of kind fs ++ ys)).lines ≡ printed kind fs ∷ (text_of ys).lines
unfolding line_of
first_line kind fs ys =
    let ds = digits 2 kind in
    let vs = field_digits fs in
    ap (λ (l : List ℕ). (text_of l).lines)
    (append_assoc ds (vs ++ (line_feed ∷ [])) ys
    ∙ ap (λ (l : List ℕ). ds ++ l) (append_assoc vs (line_feed ∷ []) ys)
    ∙ sym (append_assoc ds vs (line_feed ∷ ys)))
    ∙ ap (λ (t : Text). t.lines)
    (text_first (printed kind fs) ys
    (all_append (λ (x : ℕ). eqb x line_feed ≡ false) ds vs (digits_clean 2 kind) (fields_clean fs)))

-- ---- one answer
kind_read : (kind : ℕ) (fs : List Field) → kind < 256 → kind_in (printed kind fs) ≡ kind
kind_read kind fs h =
    ap (number_from 0) (take_at (digits 2 kind) (field_digits fs) 2 (length_digits 2 kind)) ∙ number_digits 2 kind h

fields_read : (kind : ℕ) (fs : List Field) → All FitsField fs → FieldsRead 1 (printed kind fs) fs
fields_read kind fs a =
    reads_back 1 (printed kind fs) fs (drop_at (digits 2 kind) (field_digits fs) 2 (length_digits 2 kind)) a

-- ---- lines and answers
abbrev pub answers_of : List ℕ → List Answer
answers_of output = answers_in (text_of output).lines

line_read : (line : List ℕ) (lines : List (List ℕ)) → eqb (kind_in line) segment_kind ≡ false
    → answers_in (line ∷ lines) ≡ answer_with (kind_in line) line ∷ answers_in lines
unfolding answers_in select
line_read line lines k = rw k

segment_read : (line : List ℕ) (lines : List (List ℕ)) → eqb (kind_in line) segment_kind ≡ true → answers_in (line ∷ lines) ≡ answers_in lines
unfolding answers_in select
segment_read line lines k = rw k

-- an answer's line, and what is printed behind it
pub answer_read : (a : Answer) (ys : List ℕ) → All FitsField (values_of a) → answers_of (answer_line a ++ ys) ≡ a ∷ answers_of ys
answer_read a ys f =
    let line = printed (kind_of a) (values_of a) in
    let k : kind_in line ≡ kind_of a = kind_read (kind_of a) (values_of a) (readable a).kind_byte in
    ap answers_in (first_line (kind_of a) (values_of a) ys)
    ∙ line_read line (text_of ys).lines (ap (λ (n : ℕ). eqb n segment_kind) k ∙ (readable a).no_segment)
    ∙ ap (λ (x : Answer). x ∷ answers_of ys)
    (ap (λ (n : ℕ). answer_with n line) k ∙ (readable a).read_off line (fields_read (kind_of a) (values_of a) f))

-- the lines of segments, and what is printed behind them
pub segments_read : (gs : List Segment) (ys : List ℕ) → answers_of (segment_lines gs ++ ys) ≡ answers_of ys
unfolding segment_lines
segments_read [] ys = refl
segments_read (g ∷ gs) ys =
    let fs = segment_fields g in
    ap answers_of (append_assoc (line_of segment_kind fs) (segment_lines gs) ys)
    ∙ ap answers_in (first_line segment_kind fs (segment_lines gs ++ ys))
    ∙ segment_read (printed segment_kind fs) (text_of (segment_lines gs ++ ys)).lines
    (ap (λ (n : ℕ). eqb n segment_kind) (kind_read segment_kind fs (omega arith)))
    ∙ segments_read gs ys

-- ---- a call's answers
-- an answer as its lines show it: a chart's with the count of its segments
abbrev pub shown_by : List ℕ → Setup → List ℕ → Answer → Answer
shown_by [] setup starts a = a
shown_by (count ∷ more) setup starts a = Charted (length (segments_of setup (take count starts)))

abbrev pub shown_as : Setup → List ℕ → Answer → Answer
shown_as setup starts a = shown_by (reading a).charted setup starts a

-- start slots, no more than a table has records
module _ (setup : Setup) (starts : List ℕ) (short : length starts ≤ most_records) where
  count_fits : (count : ℕ) → FitsField (field 2 (length (segments_of setup (take count starts))))
  count_fits count =
      omega (arith, segments_length setup (take count starts), length-take count starts)

  lines_read : (a : Answer) (ys : List ℕ) → All FitsField (values_of a)
      → answers_of (answer_lines setup starts a ++ ys) ≡ shown_as setup starts a ∷ answers_of ys
  lines_read a ys f = go (reading a).charted
    where
      go : (counts : List ℕ) → answers_of (lines_by counts setup starts a ++ ys) ≡ shown_by counts setup starts a ∷ answers_of ys
      go [] = answer_read a ys f
      go (count ∷ more) =
          let gs = segments_of setup (take count starts) in
          ap answers_of (append_assoc (segment_lines gs) (answer_line (Charted (length gs))) ys)
          ∙ segments_read gs (answer_line (Charted (length gs)) ++ ys)
          ∙ answer_read (Charted (length gs)) ys (count_fits count, tt)

  answers_read : (answers : List Answer) (ys : List ℕ) → All (λ (a : Answer). All FitsField (values_of a)) answers
      → answers_of (gather (answer_lines setup starts) answers ++ ys) ≡ map (shown_as setup starts) answers ++ answers_of ys
  answers_read [] ys f = refl
  answers_read (a ∷ answers) ys f =
      ap answers_of (append_assoc (answer_lines setup starts a) (gather (answer_lines setup starts) answers) ys)
      ∙ lines_read a (gather (answer_lines setup starts) answers ++ ys) f.0
      ∙ ap (λ (l : List Answer). shown_as setup starts a ∷ l) (answers_read answers ys f.1)

-- ---- a line's reply
abbrev pub calls_in : Task → List Call
calls_in t = t.calls blank

abbrev pub lent_in : Task → State → State
lent_in t s = lent t.named s

abbrev pub outcome_in : Task → State → Outcome
outcome_in t s = outcome_by (calls_in t) (lent_in t s)

abbrev pub output_in : Task → State → List ℕ
output_in t s = output_by (calls_in t) blank (lent_in t s)

-- its values fit, and its output is no longer than the session's own
fits_by : (calls : List Call) (s : State) → All (λ (a : Answer). All FitsField (values_of a)) (outcome_by calls s).answers
fits_by [] s = ((omega arith, tt), tt)
fits_by (c ∷ cs) s = values_fit c s

blank_short : length blank ≤ most_records
blank_short = omega (arith, length-replicate {A = ℕ} most_records 0)

output_short : (frame : Frame) (s : State) → length (output_in (task frame) s) ≤ most_records
output_short frame s = by_case (asks frame)
  where
    by_case : {frame : Frame} → Asks frame → length (output_in (task frame) s) ≤ most_records
    by_case (asks_open setup records) = blank_short
    by_case asks_chart = omega (arith, output_length blank s, blank_short)
    by_case asks_nothing = blank_short
    by_case (asks_call frame c e no-open none) =
        subst (λ (t : Task). length (output_in t s) ≤ most_records) (sym e) (rw (none s) blank_short)

-- it is one answer
one_by : (calls : List Call) (s : State) → (outcome_by calls s).answers ≡ first_answer (outcome_by calls s).answers ∷ []
one_by [] s = refl
one_by (c ∷ cs) s = (call_answers c s).one

-- the answer that is read off the lines that are printed for a frame, by what it asks for
abbrev pub answer_to : Task → State → Answer
answer_to t s = shown_as (outcome_in t s).after.head.setup (output_in t s) (first_answer (outcome_in t s).answers)

pub reply_read : (frame : Frame) (s : State) (ys : List ℕ)
    → answers_of ((line_outcome frame s).bytes ++ ys) ≡ answer_to (task frame) s ∷ answers_of ys
unfolding line_outcome
reply_read frame s ys =
    let t = task frame in
    let o = outcome_in t s in
    let setup = o.after.head.setup in
    answers_read setup (output_in t s) (output_short frame s) o.answers ys (fits_by (calls_in t) (lent_in t s))
    ∙ ap (λ (l : List Answer). map (shown_as setup (output_in t s)) l ++ answers_of ys) (one_by (calls_in t) (lent_in t s))

-- ---- all lines
-- the first line's answer, and those of the others
pub line_answered : (line : List ℕ) (lines : List (List ℕ)) (s : State) (ys : List ℕ)
    → answers_of (replies s (line ∷ lines) ++ ys)
    ≡ answer_to (task (frame_of line)) s ∷ answers_of (replies (line_outcome (frame_of line) s).after lines ++ ys)
unfolding replies
line_answered line lines s ys =
    let f = frame_of line in
    let more = replies (line_outcome f s).after lines in
    ap answers_of (append_assoc (line_outcome f s).bytes more ys) ∙ reply_read f s (more ++ ys)

lines_answered : (lines : List (List ℕ)) (s : State) (ys : List ℕ)
    → length (answers_of (replies s lines ++ ys)) ≡ length lines + length (answers_of ys)
unfolding replies
lines_answered [] s ys = omega arith
lines_answered (line ∷ lines) s ys =
    ap length (line_answered line lines s ys)
    ∙ omega (arith, lines_answered lines (line_outcome (frame_of line) s).after ys)

end_answered : (rest : List ℕ) → length (answers_of (at_end rest)) ≡ unended rest
unfolding text_of answers_in select
end_answered [] = refl
end_answered (b ∷ bs) =
    ap length (ap answers_of (sym (append-nil (answer_line (Refused 1)))) ∙ answer_read (Refused 1) [] (omega arith, tt))

pub session_answered : (input : List ℕ)
    → length (answers_of (session input)) ≡ length (text_of input).lines + unended (text_of input).rest
unfolding session
session_answered input =
    omega (
      arith,
      lines_answered (text_of input).lines at_start (at_end (text_of input).rest),
      end_answered (text_of input).rest,
    )
