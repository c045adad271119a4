-- The worked reads that document 01 marks P, with what document 02 adds to their answers and reads of its own, as a table that is
-- checked by one theorem; and period starts early and late, as another. Assumes nothing.
use Prim.Native.Nat.{ℕ, ◌+◌, ◌-◌}
use mathlib.Core.Path.{◌≡◌, refl}
use mathlib.Core.List.{List, [], ◌∷◌, map, reverse}
use lib.ListN.{replicate}
use Rattle.spec.specs.declared.types.Counts.{Counts}
use Rattle.spec.specs.declared.types.Answer.{Answer}
use Rattle.spec.specs.declared.types.Answer.TheVariants.{Kept, Dropped, Served, Idle, Reported, Closed, Refused}
use Rattle.spec.specs.Every.{gather}
use Rattle.spec.specs.Tables.{clock_end, most_period, State, waiting, holding, zero_request, zero_counts, open_head}
use Rattle.spec.specs.Tables.{client_table, numbers_of}
use Rattle.spec.specs.Chart.{Segment, starts_of, segments_of}
use Rattle.spec.specs.Calls.{Call, submit, tick, report, outcome_of, opening}
use Rattle.spec.specs.Lists.{run, history, Event}
use Rattle.spec.proofs.Acceptance.Computed.{hourly, setting, calls}

-- a state to begin with, calls from the first to the last, and what they come to: the answers, or the start slots and the segments
-- of those that wait then
pub data Case : Type 0 where
  answering : State → List Call → List Answer → Case
  drawing : State → List Call → List ℕ → List Segment → Case

-- "fresh tables": what an open of so many clients and records left
abbrev fresh : ℕ → ℕ → State
fresh clients records =
    (outcome_of (opening (setting clients 100)) (record {
      head = open_head (setting 0 0);
      waiting_table = replicate records zero_request;
      client_numbers = numbers_of (replicate clients zero_counts);
    })).after

-- the same with hours of so many slots, of which these are open, a client and eight records
abbrev fresh_hours : ℕ → ℕ → List ℕ → State
fresh_hours period hour marks =
    (outcome_of (opening (hourly 1 period hour marks)) (record {
      head = open_head (setting 0 0);
      waiting_table = replicate 8 zero_request;
      client_numbers = numbers_of (zero_counts ∷ []);
    })).after

-- hours 0 and 2 of the week are open; hour 0 alone
abbrev two_open : List ℕ
two_open = 0xA000000000000000 ∷ 0 ∷ 0 ∷ 0 ∷ []

abbrev one_open : List ℕ
one_open = 0x8000000000000000 ∷ 0 ∷ 0 ∷ 0 ∷ []

abbrev counts : ℕ → ℕ → ℕ → Counts
counts submitted served dropped = record { submitted = submitted; served = served; dropped = dropped }

-- clients 0 and 1 have these counts, and a request of this client, the last that was numbered, waits with deadline 1
abbrev rivals : ℕ → ℕ → Counts → Counts → State
rivals client number a b =
    record {
      head = record { setup = setting 2 100; clock = 0; last = number; waiting = 1 };
      waiting_table = holding 4 (record { deadline = 1; number = number; client = client } ∷ []);
      client_numbers = numbers_of (a ∷ b ∷ []);
    }

abbrev segment : ℕ → ℕ → Segment
segment left right = record { left = left; right = right }

abbrev cases : List Case
cases =
    -- "tick answers idle, slot 0."
    answering (fresh 1 8) (tick ∷ []) (Idle 0 ∷ [])
    -- "deadline 0 meets 7; 1 is kept."
    ∷ answering (fresh 1 8) (submit 0 0 ∷ []) (Refused 7 ∷ [])
    ∷ answering (fresh 1 8) (submit 0 1 ∷ []) (Kept 1 0 0 ∷ [])
    -- "the third submit above."
    ∷ answering (fresh 2 8) (submit 0 1 ∷ submit 1 2 ∷ submit 1 1 ∷ []) (Kept 1 0 0 ∷ Kept 2 1 0 ∷ Dropped 3 3 1 1 ∷ [])
    -- "deadlines 2, 2, 2 from clients 0, 0, 1: the third is dropped."
    ∷ answering (fresh 2 8) (submit 0 2 ∷ submit 0 2 ∷ submit 1 2 ∷ []) (Kept 1 0 0 ∷ Kept 2 1 0 ∷ Dropped 3 3 1 0 ∷ [])
    -- "candidates of clients at 1 of 4 and 1 of 2: the first client loses.", whichever of the two sends the new request
    ∷ answering (rivals 0 5 (counts 4 2 1) (counts 1 0 1)) (submit 1 1 ∷ []) (Dropped 6 5 0 0 ∷ [])
    ∷ answering (rivals 1 5 (counts 3 2 1) (counts 2 0 1)) (submit 0 1 ∷ []) (Dropped 6 6 0 0 ∷ [])
    -- "compared as fractions without rounding", at the counts' bound
    ∷ answering (rivals 1 5 (counts 268435453 178956968 89478485) (counts 268435455 178956969 89478485)) (submit 0 1 ∷ [])
    (Dropped 6 5 1 0 ∷ [])
    -- "1 of 3 against 2 of 6 is a tie.": the last in chart order is dropped, whichever client it is of
    ∷ answering (rivals 0 8 (counts 3 1 1) (counts 5 3 2)) (submit 1 1 ∷ []) (Dropped 9 9 1 0 ∷ [])
    ∷ answering (rivals 1 8 (counts 2 1 1) (counts 6 3 2)) (submit 0 1 ∷ []) (Dropped 9 9 0 0 ∷ [])
    -- "deadlines 3, 5, 10, 10 start at 2, 4, 8, 9; segments [2,3], [4,5], [8,10]."
    ∷ drawing (fresh 1 8) (submit 0 3 ∷ submit 0 5 ∷ submit 0 10 ∷ submit 0 10 ∷ [])
    (2 ∷ 4 ∷ 8 ∷ 9 ∷ []) (segment 2 3 ∷ segment 4 5 ∷ segment 8 10 ∷ [])
    -- "adding 4 gives [2,5], [8,10]."
    ∷ drawing (fresh 1 8) (submit 0 3 ∷ submit 0 5 ∷ submit 0 10 ∷ submit 0 10 ∷ submit 0 4 ∷ [])
    (2 ∷ 3 ∷ 4 ∷ 8 ∷ 9 ∷ []) (segment 2 5 ∷ segment 8 10 ∷ [])
    -- "puts the record in chart order": between two that wait
    ∷ answering (fresh 1 8) (submit 0 3 ∷ submit 0 10 ∷ submit 0 4 ∷ []) (Kept 1 0 0 ∷ Kept 2 1 0 ∷ Kept 3 1 1 ∷ [])
    -- "a one-record table with one waiting meets 10; after a tick it accepts."
    ∷ answering (fresh 1 1) (submit 0 5 ∷ submit 0 5 ∷ tick ∷ submit 0 5 ∷ []) (Kept 1 0 0 ∷ Refused 10 ∷ Served 0 1 0 ∷ Kept 2 0 0 ∷ [])
    -- document 02, 2.1: "how many waiting records stood behind the new one in chart order": all, some or none; equals stand before it
    ∷ answering (fresh 1 8) (submit 0 8 ∷ submit 0 9 ∷ submit 0 7 ∷ submit 0 8 ∷ submit 0 9 ∷ [])
    (Kept 1 0 0 ∷ Kept 2 1 0 ∷ Kept 3 0 2 ∷ Kept 4 2 1 ∷ Kept 5 4 0 ∷ [])
    -- document 02, 2.1: "when it was put in": the victim is counted where it stood behind the new one
    ∷ answering (fresh 1 8) (submit 0 2 ∷ submit 0 3 ∷ submit 0 3 ∷ submit 0 2 ∷ [])
    (Kept 1 0 0 ∷ Kept 2 1 0 ∷ Kept 3 2 0 ∷ Dropped 4 3 0 2 ∷ [])
    -- here the fifth submit drops one that stood before the new one, and the sixth the new one itself
    ∷ answering (fresh 2 8) (submit 1 1 ∷ submit 1 1 ∷ submit 0 2 ∷ submit 0 5 ∷ submit 1 2 ∷ submit 1 1 ∷ [])
    (Kept 1 0 0 ∷ Dropped 2 2 1 0 ∷ Kept 3 1 0 ∷ Kept 4 2 0 ∷ Dropped 5 3 0 1 ∷ Dropped 6 6 1 2 ∷ [])
    -- the last free record of a table, put in before all others: no shift is larger
    ∷ answering (fresh 1 3) (submit 0 3 ∷ submit 0 2 ∷ submit 0 1 ∷ submit 0 1 ∷ []) (Kept 1 0 0 ∷ Kept 2 0 1 ∷ Kept 3 0 2 ∷ Refused 10 ∷ [])
    -- document 02, 2.2: "the chart uses the latest open slots .. and two of them touch if no open slot lies between": slots 0, 1, 4 and 5
    -- are open
    ∷ drawing (fresh_hours 100 2 two_open) (submit 0 3 ∷ submit 0 5 ∷ []) (1 ∷ 4 ∷ []) (segment 1 5 ∷ [])
    ∷ drawing (fresh_hours 100 2 two_open) (submit 0 1 ∷ submit 0 9 ∷ []) (0 ∷ 5 ∷ []) (segment 0 1 ∷ segment 5 6 ∷ [])
    -- document 02, 2.2: "A closed slot serves nobody and tick answers 89 with the slot", with reads waiting and with none; a period starts
    -- all the same
    ∷ answering (fresh_hours 2 1 two_open) (submit 0 1 ∷ submit 0 3 ∷ tick ∷ report 0 ∷ tick ∷ report 0 ∷ tick ∷ tick ∷ [])
    (Kept 1 0 0 ∷ Kept 2 1 0 ∷ Served 0 1 0 ∷ Reported 0 2 1 0 1 ∷ Closed 1 ∷ Reported 0 1 0 0 1 ∷ Served 2 2 0 ∷ Closed 3 ∷ [])
    -- document 02, 2.2: "no open slot from the clock to the deadline": at clock 3 none before slot 4; three reads by 9 have two slots
    ∷ answering (fresh_hours 100 2 two_open)
    (submit 0 6 ∷ submit 0 6 ∷ tick ∷ tick ∷ tick ∷ submit 0 4 ∷ submit 0 9 ∷ submit 0 9 ∷ submit 0 9 ∷ [])
    (Kept 1 0 0 ∷ Kept 2 1 0 ∷ Served 0 1 0 ∷ Served 1 2 0 ∷ Closed 2 ∷ Refused 15 ∷ Kept 3 0 0 ∷ Kept 4 1 0 ∷ Dropped 5 5 0 0 ∷ [])
    -- document 02, 2.2: "the marks repeating after hour 167": slots 0 and 168 are open
    ∷ answering (fresh_hours 100 1 one_open) (submit 0 169 ∷ submit 0 169 ∷ submit 0 169 ∷ [])
    (Kept 1 0 0 ∷ Kept 2 1 0 ∷ Dropped 3 3 0 0 ∷ [])
    ∷ []

-- those with a deadline far ahead, apart: to count 65,535 slots takes long, and longer where a case is wrong
abbrev far_cases : List Case
far_cases =
    -- "65,535 is kept; 65,536 meets 7."
    answering (fresh 1 8) (submit 0 65535 ∷ []) (Kept 1 0 0 ∷ [])
    ∷ answering (fresh 1 8) (submit 0 65536 ∷ []) (Refused 7 ∷ [])
    -- 7 has "more than 65,535 after it, all slots counted": fewer of these are open
    ∷ answering (fresh_hours 100 1 two_open) (submit 0 65536 ∷ []) (Refused 7 ∷ [])
    ∷ []

-- a case with what the definitions give
abbrev given : Case → Case
given (answering start calls answers) =
    answering start calls (gather (λ (e : Event). e.answers) (reverse (history start (reverse calls))))
given (drawing start calls starts segments) =
    let end = run start (reverse calls) in
    let slots = starts_of end.head.setup (waiting end) in
    drawing start calls slots (segments_of end.head.setup slots)

near_reads : map given cases ≡ cases
unfolding calls outcome_of run history
near_reads = refl

far_reads : map given far_cases ≡ far_cases
unfolding calls outcome_of run history
far_reads = refl

pub worked_reads : (map given cases ≡ cases) × (map given far_cases ≡ far_cases)
worked_reads = (near_reads, far_reads)

-- ---- period starts
-- a period, the clock that a tick comes to, and the client's counts after it
pub record PeriodTick : Type 0 where
  pub period : ℕ
  pub clock : ℕ
  pub counts : Counts

-- six requests were submitted, two of them served, two dropped, and two wait
abbrev ticking : ℕ → ℕ → State
ticking period clock =
    record {
      head = record { setup = setting 1 period; clock = clock; last = 6; waiting = 2 };
      waiting_table =
          holding 4
          (record { deadline = clock + 5; number = 5; client = 0 }
          ∷ record { deadline = clock + 6; number = 6; client = 0 }
          ∷ []);
      client_numbers = numbers_of (counts 6 2 2 ∷ []);
    }

-- "If it is now a multiple of the period, each client's submitted becomes its waiting count, served and dropped become 0."
abbrev anew : ℕ → ℕ → PeriodTick
anew period clock = record { period = period; clock = clock; counts = counts 1 0 0 }

abbrev goes_on : ℕ → ℕ → PeriodTick
goes_on period clock = record { period = period; clock = clock; counts = counts 6 3 2 }

abbrev period_ticks : List PeriodTick
period_ticks =
    anew 1 1
    ∷ anew 1 7
    ∷ goes_on 5 4
    ∷ anew 5 5
    ∷ goes_on 5 6
    ∷ anew 5 10
    ∷ anew 100 300
    ∷ goes_on most_period 4294967294
    ∷ anew most_period most_period
    ∷ anew most_period 8589934590
    ∷ goes_on 2 clock_end
    ∷ anew 3 clock_end
    ∷ []

abbrev counts_given : PeriodTick → List Counts
counts_given t = client_table (outcome_of tick (ticking t.period (t.clock - 1))).after

pub period_ticks_lem : map counts_given period_ticks ≡ map (λ (t : PeriodTick). t.counts ∷ []) period_ticks
unfolding calls
period_ticks_lem = refl
