-- Document 02, 2.2: "In document 01's cases and session all hours are open": then all is as document 01 has it. Statements, each under
-- its sentence of document 01; the proofs stand in Laws/ and Calls/. Assumes nothing.
use Prim.Native.Nat.{ℕ, ◌-◌, ◌^◌, ◌≤◌, ◌<◌}
use mathlib.Core.Path.{◌≡◌, refl}
use mathlib.Core.List.{List, [], ◌∷◌}
use mathlib.Core.Logic.{◌≢◌, ◌↔◌}
use native.Mathlib.Omega.{arith}
use lib.Dec.{eqb}
use Rattle.slots.specs.Plan.{Window, Slot, Fits, Plan}
use Rattle.slots.proofs.Laws.Sums.{All}
use Rattle.slots.proofs.Single.{Distinct}
use Rattle.spec.specs.declared.types.Setup.{Setup}
use Rattle.spec.specs.declared.types.Request.{Request}
use Rattle.spec.specs.declared.types.Answer.{Answer}
use Rattle.spec.specs.declared.types.Answer.TheVariants.{Refused}
use Rattle.spec.specs.Tables.{State}
use Rattle.spec.specs.Hours.{mark_of, capacity_of, sum_from, room}
use Rattle.spec.specs.Chart.{starts_of, do_touch, segments_of}
use Rattle.spec.specs.Calls.Readings.{kind_of}
use Rattle.spec.specs.Calls.{submit, tick, outcome_of}
use Rattle.spec.proofs.Demands.Words.{Ascending, NotDescending, WithinCapacity, AllOpen, end_of, slots_of_all}
use Rattle.spec.proofs.Laws.Room.{hours_all_open, open_marks, open_room}
use Rattle.spec.proofs.Acceptance.Computed.{hourly, all_open}
use Rattle.spec.proofs.Calls.AllOpen.{open_starts, open_touch, open_segments, open_plans, open_ascending, never_closed, never_15}

-- what holds of a setup, and of each state whose setup it is
pub record AsBefore (setup : Setup) : Type 0 where
  -- "more than D minus the clock requests": the room is the slots
  pub rooms : (a b : ℕ) → room setup a b ≡ b - a
  -- "a request ends at the smaller of its deadline and the start of the record behind it, and starts one slot earlier."
  pub starts : (w : Request) (ws : List Request) → starts_of setup (w ∷ ws) ≡ (end_of w (starts_of setup ws) - 1) ∷ starts_of setup ws
  -- "touching intervals": one ends where the other starts
  pub touching : (end start : ℕ) → end ≤ start → do_touch setup end start ≡ eqb end start
  -- "Segments are the longest runs": their slots are just the start slots, which ascend
  pub segments : (starts : List ℕ) → Ascending starts → slots_of_all (segments_of setup starts) ≡ starts
  -- "no slot to two of them" is all that a plan needs to fit
  pub plans : (R : List Window) (P : List Slot) → Plan (capacity_of setup) R P ↔ (Fits R P × Distinct P)
  -- slots that ascend do not descend and can take what they are given: no list of such slots is later anywhere than an accepted chart
  pub ascending : (slots : List ℕ) → Ascending slots → NotDescending slots × WithinCapacity setup slots
  -- "Tick serves the first waiting record .. with none waiting it answers idle.": no tick answers 89
  pub ticks : (s : State) → s.head.setup ≡ setup → All (λ (a : Answer). kind_of a ≢ 0x89) (outcome_of tick s).answers
  -- no submit answers with refusal 15
  pub submits : (client deadline : ℕ) (s : State) → s.head.setup ≡ setup
      → (outcome_of (submit client deadline) s).answers ≢ Refused 15 ∷ []

pub as_before : (setup : Setup) → AllOpen setup → AsBefore setup
as_before setup all =
    record {
      rooms = open_room setup all;
      starts = open_starts setup all;
      touching = open_touch setup all;
      segments = open_segments setup all;
      plans = open_plans setup all;
      ascending = open_ascending setup all;
      ticks = λ s e. never_closed s (rw e all);
      submits = λ client deadline s e. never_15 client deadline s (rw e all);
    }

-- so it is in document 01's cases and session, whatever their clients, period and slots per hour
pub all_marked : (clients period hour : ℕ) → AllOpen (hourly clients period hour all_open)
unfolding mark_of sum_from
all_marked clients period hour = hours_all_open (hourly clients period hour all_open) refl

-- and in four numbers of 64, 64, 32 and 8 bits no other marks are all open
pub marked_only : (setup : Setup) → setup.marks0 < 2 ^ 64 → setup.marks64 < 2 ^ 64 → setup.marks128 < 2 ^ 32
    → setup.marks160 < 2 ^ 8 → AllOpen setup → setup ≡ hourly setup.clients setup.period setup.hour all_open
marked_only setup a b c d all =
    λ i.
    record {
      clients = setup.clients;
      period = setup.period;
      hour = setup.hour;
      marks0 = first i;
      marks64 = second i;
      marks128 = third i;
      marks160 = fourth i;
    }
  where
    first : setup.marks0 ≡ 18446744073709551615
    first = omega (arith, (open_marks setup all a b c d).0)

    second : setup.marks64 ≡ 18446744073709551615
    second = omega (arith, (open_marks setup all a b c d).1)

    third : setup.marks128 ≡ 4294967295
    third = omega (arith, (open_marks setup all a b c d).2)

    fourth : setup.marks160 ≡ 255
    fourth = omega (arith, (open_marks setup all a b c d).3)
