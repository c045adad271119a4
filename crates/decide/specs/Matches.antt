-- The first refusal of each call that matches, by values: what the tables call for, however it was found, and what a call's own refusals ask
-- of a state. Assumes nothing.
use Rattle.std.specs.Prelude.{ℕ, not, cond, List, [], ◌∷◌, eqb, replicate}
use Rattle.spec.specs.declared.types.Setup.{Setup}
use Rattle.spec.specs.declared.types.Head.{Head}
use Rattle.spec.specs.declared.types.Reply.{Reply}
use Rattle.spec.specs.Tables.{zero_request, open_head, State, state_of}
use Rattle.spec.specs.Setup.{Refusal, first_match}
use Rattle.spec.specs.Calls.Refusals.{refusal6, refusal7, refusal15, refusal8, refusal9, refusal10, refusal11, refusal12}
use Rattle.spec.specs.Calls.Open.{open_refusals}
use Rattle.decide.specs.Reply.{refused_with}

-- what the tables call for, however it was found: a refusal of this number, none where it is 0
abbrev pub of_tables : ℕ → Refusal
of_tables tables = record { number = tables; holds = not (eqb tables 0) }

-- a state with this head, so many waiting records and this client table: all that a call's own refusals ask of a state
abbrev pub told : Head → ℕ → List ℕ → State
told head records numbers = state_of head (replicate records zero_request) numbers

-- what open is told: the setup given, and the lengths of both tables
abbrev pub open_told : Setup → ℕ → ℕ → State
open_told setup records numbers = told (open_head setup) records (replicate numbers 0)

-- the first that matches, of open, ..
unfoldable pub open_match : Setup → ℕ → ℕ → ℕ
open_match setup records numbers = first_match (open_refusals setup (open_told setup records numbers))

-- .. submit, ..
unfoldable pub submit_match : ℕ → Head → ℕ → List ℕ → ℕ → ℕ → ℕ
submit_match tables head records numbers client deadline =
    first_match
    (of_tables tables
    ∷ refusal6 client (told head records numbers)
    ∷ refusal7 deadline (told head records numbers)
    ∷ refusal15 deadline (told head records numbers)
    ∷ refusal8 client (told head records numbers)
    ∷ refusal9 (told head records numbers)
    ∷ refusal10 (told head records numbers)
    ∷ [])

-- .. tick, ..
unfoldable pub tick_match : ℕ → Head → ℕ
tick_match tables head = first_match (of_tables tables ∷ refusal11 (told head 0 []) ∷ [])

-- .. report ..
unfoldable pub report_match : ℕ → Head → ℕ → ℕ
report_match tables head client = first_match (of_tables tables ∷ refusal6 client (told head 0 []) ∷ [])

-- .. and chart, by the length of the output
unfoldable pub chart_match : ℕ → Head → ℕ → ℕ
chart_match tables head entries = first_match (of_tables tables ∷ refusal12 (replicate entries 0) (told head 0 []) ∷ [])

-- ---- what is handed back, by that number
-- the reply of a call that is not refused, or the refusal
abbrev pub reply_unless : ℕ → Head → Reply → Reply
reply_unless refusal head accepted = cond (eqb refusal 0) accepted (refused_with head refusal)
