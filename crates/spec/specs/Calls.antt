-- The calls: arguments and state in, answers and state out, for every state and all arguments. Document 01, "Calls", a file each,
-- and "Refusals, first match wins". `meaning` goes by cases on calls, and whatever else is asked of a call is read off it. Assumes
-- nothing.
pub mod Readings
pub mod Refusals
pub mod Outcomes
pub mod Open
pub mod Submit
pub mod Tick
pub mod Report
pub mod Chart
use Rattle.std.specs.Prelude.{ℕ, List}
use Rattle.spec.specs.declared.types.Setup.{Setup}
use Rattle.spec.specs.Tables.{State}
use Rattle.spec.specs.Setup.{Refusal}
use Rattle.spec.specs.Calls.Outcomes.{Outcome, unless_refused, Meaning}
use Rattle.spec.specs.Calls.Open.{open_meaning}
use Rattle.spec.specs.Calls.Submit.{submit_meaning}
use Rattle.spec.specs.Calls.Tick.{tick_meaning}
use Rattle.spec.specs.Calls.Report.{report_meaning}
use Rattle.spec.specs.Calls.Chart.{chart_meaning}

-- "Arguments in the list are free; a chart's output is a table apart from the queue's."
pub data Call : Type 0 where
  opening : Setup → Call
  submit : ℕ → ℕ → Call
  tick : Call
  report : ℕ → Call
  chart : List ℕ → Call

abbrev pub meaning : Call → Meaning
meaning (opening setup) = open_meaning setup
meaning (submit client deadline) = submit_meaning client deadline
meaning tick = tick_meaning
meaning (report client) = report_meaning client
meaning (chart output) = chart_meaning output

abbrev pub refusals_of : Call → State → List Refusal
refusals_of c s = (meaning c).refusals s

abbrev pub accepted_of : Call → State → Outcome
accepted_of c s = (meaning c).accepted s

-- each call is its list of refusals and, where none matches, its accepted part
unfoldable pub outcome_of : Call → State → Outcome
outcome_of c s = unless_refused (refusals_of c s) s (accepted_of c s)
