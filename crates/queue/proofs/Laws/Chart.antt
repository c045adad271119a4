-- What the parts of a chart call come to together. Assumes nothing.
use Rattle.std.proofs.Common.{◌≡◌, ◌≢◌, ℕ, ◌≤◌, Ok, List, ◌++◌, length, drop, refl, sym, ◌∙◌}
use Rattle.spec.specs.Tables.{State, waiting, deadlines_of}
use Rattle.spec.specs.Setup.{first_match}
use Rattle.spec.specs.Chart.{starts_of}
use Rattle.spec.specs.Calls.Chart.{chart_refusals, chart_accepted, chart_output}
use Rattle.spec.specs.Calls.{chart}
use Rattle.spec.proofs.Laws.Accepted.{ChartReady, chart_ready, waiting_length}
use Rattle.spec.proofs.Calls.Refused.{length_starts, Written, untouched, written, output_written}
use Rattle.occupancy.specs.Charted.{start_slots}
use Rattle.occupancy.proofs.StartsAndSegments.{starts_column}
use Rattle.decide.specs.Chart.{chart_reply}
use Rattle.queue.specs.Gives.{ComesTo}
use Rattle.queue.proofs.Laws.Replies.{read_gives}

module _ (output : List ℕ) (s : State) where
  -- a refused chart leaves the output as it was
  pub untouched_output : first_match (chart_refusals output s) ≢ 0 → output ≡ chart_output output s
  untouched_output n = go (output_written output s)
    where
      go : {l : List ℕ} → Written output s l → output ≡ l
      go (untouched h) = refl
      go (written z) = absurd (n z)

  module _ (z : first_match (chart_refusals output s) ≡ 0) where
    ready : ChartReady output s
    ready = chart_ready output s z

    -- as many records and entries as wait
    pub waits : s.head.waiting ≤ length s.waiting_table
    waits = ready.ready.shape.waits

    pub long : s.head.waiting ≤ length output
    long = ready.long

    -- an accepted chart's output: the start slots of the waiting requests' deadlines, and what stood beyond
    pub charted : start_slots s.head.setup (deadlines_of (waiting s)) ++ drop s.head.waiting output ≡ chart_output output s
    charted = go (output_written output s)
      where
        count : length (starts_of s.head.setup (waiting s)) ≡ s.head.waiting
        count = length_starts s.head.setup (waiting s) ∙ waiting_length s ready.ready.shape

        go : {l : List ℕ} → Written output s l → start_slots s.head.setup (deadlines_of (waiting s)) ++ drop s.head.waiting output ≡ l
        go (untouched n) = absurd (n z)
        go (written e) = rw (starts_column s.head.setup (waiting s), count)

    pub chart_gives : ComesTo (chart output) s (Ok (chart_reply s.head)) s.waiting_table s.client_numbers
    unfolding chart_accepted
    chart_gives = read_gives (chart output) s _ (sym z) (λ _. refl) refl
