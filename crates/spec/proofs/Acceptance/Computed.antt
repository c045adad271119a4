-- The definitions to be computed, chapter by chapter: `unfolding calls` opens all that the calls need. And setups. Assumes nothing.
use Prim.Native.Nat.{ℕ}
use mathlib.Core.List.{List, [], ◌∷◌}
use Rattle.spec.specs.declared.types.Setup.{Setup}
use Rattle.spec.specs.Every.{every, every_from, count_if, map_from}
use Rattle.spec.specs.Tables.{setup_of, records_of, numbers_of, next_state, change}
use Rattle.spec.specs.Setup.{first_match, setup_refusals}
use Rattle.spec.specs.Order.{comes_before, is_in_order, place_of, put_in_order, remove_at}
use Rattle.spec.specs.Chart.{latest_free, starts_of, segments_of, due_by, is_overfull, has_no_overfull, is_candidate, candidates_from}
use Rattle.spec.specs.Hours.{mark_of, capacity_of, sum_from, room}
use Rattle.spec.specs.Chart.{has_smaller_ratio, smallest_of, victim_of}
use Rattle.spec.specs.Sound.{is_head_within, is_zero_request, waiting_of, is_balanced, is_sound}
use Rattle.spec.specs.Calls.Open.{open_refusals, open_accepted}
use Rattle.spec.specs.Calls.Submit.{submit_refusals, kept, dropped_at, submit_accepted}
use Rattle.spec.specs.Calls.Tick.{tick_refusals, tick_accepted}
use Rattle.spec.specs.Calls.Report.{report_refusals, report_accepted}
use Rattle.spec.specs.Calls.Chart.{chart_refusals, chart_accepted}
use Rattle.spec.specs.Calls.{outcome_of}

-- what open sets: clients, period, slots per hour, and the marks as four numbers
abbrev pub hourly : ℕ → ℕ → ℕ → List ℕ → Setup
hourly clients period hour marks = setup_of (clients ∷ period ∷ hour ∷ marks)

-- document 02, 2.2: "In document 01's cases and session all hours are open"
abbrev pub all_open : List ℕ
all_open = 18446744073709551615 ∷ 18446744073709551615 ∷ 4294967295 ∷ 255 ∷ []

abbrev pub setting : ℕ → ℕ → Setup
setting clients period = hourly clients period 1 all_open

unfoldable pub charts : Unit {0}
unfolding mark_of capacity_of sum_from room every count_if latest_free starts_of segments_of due_by is_overfull has_no_overfull
charts = tt

unfoldable pub victims : Unit {0}
unfolding charts comes_before place_of put_in_order remove_at is_candidate candidates_from has_smaller_ratio smallest_of victim_of
victims = tt

unfoldable pub refusals : Unit {0}
unfolding charts records_of every_from comes_before is_in_order is_head_within is_zero_request waiting_of is_balanced is_sound first_match setup_refusals tick_refusals
refusals = tt

unfoldable pub submits : Unit {0}
unfolding victims refusals submit_refusals change numbers_of next_state kept dropped_at submit_accepted outcome_of
submits = tt

unfoldable pub calls : Unit {0}
unfolding submits map_from open_refusals open_accepted outcome_of tick_accepted report_refusals report_accepted chart_refusals chart_accepted
calls = tt
