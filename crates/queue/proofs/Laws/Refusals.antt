-- What a call's refusals are told is what its whole list says, of a state whose tables call for the number that was found. Assumes nothing.
use Rattle.std.proofs.Common.{◌≡◌, ℕ, Bool, true, false, cond, not, eqb, List, [], ◌∷◌, length}
use lib.ListN.{length-replicate}
use Rattle.spec.specs.declared.types.Setup.{Setup}
use Rattle.spec.specs.Tables.{zero_request, State}
use Rattle.spec.specs.Setup.{Refusal, first_match}
use Rattle.spec.specs.Calls.Refusals.{refusal4, refusal5, refusal6, refusal7, refusal15, refusal8, refusal9, refusal10, refusal11, refusal12}
use Rattle.spec.specs.Calls.Open.{open_refusals}
use Rattle.spec.specs.Calls.Submit.{submit_refusals}
use Rattle.spec.specs.Calls.Tick.{tick_refusals}
use Rattle.spec.specs.Calls.Report.{report_refusals}
use Rattle.spec.specs.Calls.Chart.{chart_refusals}
use Rattle.sound.specs.Checks.{tables_refusal}
use Rattle.decide.specs.Matches.{of_tables, open_match, submit_match, tick_match, report_match, chart_match}

-- submit's refusals behind 4 and 5
abbrev submit_own : ℕ → ℕ → State → List Refusal
submit_own client deadline s =
    refusal6 client s ∷ refusal7 deadline s ∷ refusal15 deadline s ∷ refusal8 client s ∷ refusal9 s ∷ refusal10 s ∷ []

-- what the tables call for is a state's refusal 4 or 5, or none where neither matches
pub tables_told : {t : ℕ} (own : List Refusal) (s : State) → t ≡ tables_refusal s
    → first_match (of_tables t ∷ own) ≡ first_match (refusal4 s ∷ refusal5 s ∷ own)
unfolding tables_refusal first_match
tables_told {t} own s found = go (refusal4 s).holds (refusal5 s).holds found
  where
    go : (x y : Bool) → t ≡ cond x 4 (cond y 5 0)
        → cond (not (eqb t 0)) t (first_match own) ≡ cond x 4 (cond y 5 (first_match own))
    go true y e = rw e
    go false true e = rw e
    go false false e = rw e

-- ---- of a state, told what its tables call for: the first that matches of the call's whole list
pub open_told : (setup : Setup) (s : State)
    → open_match setup (length s.waiting_table) (length s.client_numbers) ≡ first_match (open_refusals setup s)
unfolding open_match open_refusals
open_told setup s =
    rw (length-replicate (length s.waiting_table) zero_request, length-replicate {A = ℕ} (length s.client_numbers) 0)

module _ (s : State) {tables : ℕ} (found : tables ≡ tables_refusal s) where
  pub submit_told : (client deadline : ℕ)
      → submit_match tables s.head (length s.waiting_table) s.client_numbers client deadline
      ≡ first_match (submit_refusals client deadline s)
  unfolding submit_match submit_refusals
  submit_told client deadline =
      rw (length-replicate (length s.waiting_table) zero_request) (tables_told (submit_own client deadline s) s found)

  pub tick_told : tick_match tables s.head ≡ first_match (tick_refusals s)
  unfolding tick_match tick_refusals
  tick_told = tables_told (refusal11 s ∷ []) s found

  pub report_told : (client : ℕ) → report_match tables s.head client ≡ first_match (report_refusals client s)
  unfolding report_match report_refusals
  report_told client = tables_told (refusal6 client s ∷ []) s found

  pub chart_told : (output : List ℕ) → chart_match tables s.head (length output) ≡ first_match (chart_refusals output s)
  unfolding chart_match chart_refusals
  chart_told output = rw (length-replicate {A = ℕ} (length output) 0) (tables_told (refusal12 output s ∷ []) s found)
