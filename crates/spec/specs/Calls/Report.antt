-- Report: document 01, "Calls". Assumes nothing.
use Rattle.std.specs.Prelude.{ℕ, List, [], ◌∷◌, get_or}
use Rattle.spec.specs.declared.types.Counts.{Counts}
use Rattle.spec.specs.declared.types.Answer.{Answer}
use Rattle.spec.specs.declared.types.Answer.TheVariants.{Reported}
use Rattle.spec.specs.Tables.{zero_counts, State, waiting, client_table}
use Rattle.spec.specs.Sound.{waiting_of}
use Rattle.spec.specs.Setup.{Refusal}
use Rattle.spec.specs.Calls.Refusals.{refusal4, refusal5, refusal6}
use Rattle.spec.specs.Calls.Outcomes.{Outcome, saying, Meaning, plainly}

-- the refusals, in the paper's order
unfoldable pub report_refusals : ℕ → State → List Refusal
report_refusals client s = refusal4 s ∷ refusal5 s ∷ refusal6 client s ∷ []

-- "Report gives a client's three counts and its waiting count."
abbrev pub report_answer : ℕ → Counts → ℕ → Answer
report_answer client k waits = Reported client k.submitted k.served k.dropped waits

unfoldable pub report_accepted : ℕ → State → Outcome
report_accepted client s =
    saying (report_answer client (get_or (client_table s) client zero_counts) (waiting_of client (waiting s))) s

abbrev pub report_meaning : ℕ → Meaning
report_meaning client = plainly (report_refusals client) (report_accepted client)
