-- Chart, the call: document 01, "Calls". Assumes nothing.
use Rattle.std.specs.Prelude.{ℕ, false, cond, List, [], ◌∷◌, ◌++◌, eqb, length, drop}
use Rattle.spec.specs.declared.types.Answer.TheVariants.{Charted}
use Rattle.spec.specs.Tables.{zero_setup, State, waiting}
use Rattle.spec.specs.Chart.{starts_of}
use Rattle.spec.specs.Setup.{Refusal, first_match}
use Rattle.spec.specs.Calls.Refusals.{refusal4, refusal5, refusal12}
use Rattle.spec.specs.Calls.Outcomes.{Outcome, saying, Meaning}

-- the refusals, in the paper's order
unfoldable pub chart_refusals : List ℕ → State → List Refusal
chart_refusals output s = refusal4 s ∷ refusal5 s ∷ refusal12 output s ∷ []

-- "Chart writes one start slot a waiting record, in chart order, into a lent output table and answers their count"
unfoldable pub chart_accepted : State → Outcome
chart_accepted s = saying (Charted s.head.waiting) s

-- ".. entries beyond are untouched.": the output table after the call
unfoldable pub chart_output : List ℕ → State → List ℕ
chart_output output s =
    cond (eqb (first_match (chart_refusals output s)) 0)
    (starts_of s.head.setup (waiting s) ++ drop (length (starts_of s.head.setup (waiting s))) output)
    output

abbrev pub chart_meaning : List ℕ → Meaning
chart_meaning output =
    record {
      refusals = chart_refusals output;
      accepted = chart_accepted;
      is_tick = false;
      is_opening = false;
      sets = zero_setup;
      wants = [];
      outputs = λ s. chart_output output s ∷ [];
    }
