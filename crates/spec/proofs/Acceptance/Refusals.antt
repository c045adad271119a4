-- The refusals of each call in their order, as one table that is checked by one theorem: at first every condition of the call holds,
-- and each row takes the first of them away, but for submit's second (see there), up to an accepted call. Each row lists the conditions that
-- hold. Assumes nothing.
use Prim.Native.Nat.{ℕ}
use mathlib.Core.Path.{◌≡◌, refl}
use mathlib.Core.Bool.{true, false}
use mathlib.Core.List.{List, [], ◌∷◌, map}
use lib.ListN.{replicate}
use Rattle.spec.specs.declared.types.Request.{Request}
use Rattle.spec.specs.declared.types.Counts.{Counts}
use Rattle.spec.specs.declared.types.Answer.{Answer}
use Rattle.spec.specs.declared.types.Answer.TheVariants.{Opened, Kept, Served, Reported, Charted, Refused}
use Rattle.spec.specs.Every.{select}
use Rattle.spec.specs.Tables.{most_counted, clock_end, number_end, State, holding, numbers_of}
use Rattle.spec.specs.Setup.{Refusal}
use Rattle.spec.specs.Calls.Readings.{is_refused}
use Rattle.spec.specs.Calls.{Call, opening, submit, tick, report, chart, outcome_of, refusals_of}
use Rattle.spec.proofs.Acceptance.Computed.{hourly, setting, calls}

-- a call on a state, the numbers of its refusals whose conditions hold, and the answer
pub record Row : Type 0 where
  pub call : Call
  pub state : State
  pub conditions : List ℕ
  pub answer : Answer

abbrev row : Call → State → List ℕ → Answer → Row
row c s ns a = record { call = c; state = s; conditions = ns; answer = a }

abbrev counts : ℕ → ℕ → ℕ → Counts
counts submitted served dropped = record { submitted = submitted; served = served; dropped = dropped }

-- the one record of a table that is full, due five slots after the clock's end
abbrev full : List Request
full = record { deadline = 281474976710660; number = 1; client = 0 } ∷ []

-- one slot an hour, and of the hours that one closed in which the clock's end lies
abbrev last_closed : List ℕ
last_closed = 18446744073709551614 ∷ 18446744073709551615 ∷ 4294967295 ∷ 255 ∷ []

-- one client: clock, last number, waiting count, and the two tables
abbrev state : ℕ → ℕ → ℕ → List Request → List Counts → State
state clock last waits rs cs =
    record {
      head = record { setup = hourly 1 10 1 last_closed; clock = clock; last = last; waiting = waits };
      waiting_table = rs;
      client_numbers = numbers_of cs;
    }

-- a client table of one record
abbrev one_client : ℕ → ℕ → ℕ → List Counts
one_client submitted served dropped = counts submitted served dropped ∷ []

-- every hour closed
abbrev all_closed : List ℕ
all_closed = 0 ∷ 0 ∷ 0 ∷ 0 ∷ []

abbrev rows : List Row
rows =
    row (opening (hourly 0 0 0 all_closed)) (state 0 0 0 [] (one_client 0 0 0)) (2 ∷ 3 ∷ 13 ∷ 14 ∷ 4 ∷ []) (Refused 2)
    ∷ row (opening (hourly 1 0 0 all_closed)) (state 0 0 0 [] (one_client 0 0 0)) (3 ∷ 13 ∷ 14 ∷ 4 ∷ []) (Refused 3)
    ∷ row (opening (hourly 1 10 0 all_closed)) (state 0 0 0 [] (one_client 0 0 0)) (13 ∷ 14 ∷ 4 ∷ []) (Refused 13)
    ∷ row (opening (hourly 1 10 1 all_closed)) (state 0 0 0 [] (one_client 0 0 0)) (14 ∷ 4 ∷ []) (Refused 14)
    ∷ row (opening (setting 1 10)) (state 0 0 0 [] (one_client 0 0 0)) (4 ∷ []) (Refused 4)
    ∷ row (opening (setting 1 10)) (state 0 0 0 full (one_client 0 0 0)) [] Opened
    -- 8 holds beside 6 only where the client table is too long, for else a client that does not exist has no record; 10 holds beside 4
    -- only where the waiting count is not too large. So 4 is given in two rows; 10 comes back when 4 is taken away, and 8 when 6 is
    ∷ row (submit 9 0) (state clock_end number_end 1 full (replicate 10 (counts most_counted 0 0))) (4 ∷ 5 ∷ 6 ∷ 7 ∷ 15 ∷ 8 ∷ 9 ∷ 10 ∷ [])
    (Refused 4)
    ∷ row (submit 9 0) (state clock_end number_end 2 full (one_client most_counted 0 0)) (4 ∷ 5 ∷ 6 ∷ 7 ∷ 15 ∷ 9 ∷ []) (Refused 4)
    ∷ row (submit 9 0) (state clock_end number_end 1 full (one_client most_counted 0 0)) (5 ∷ 6 ∷ 7 ∷ 15 ∷ 9 ∷ 10 ∷ []) (Refused 5)
    ∷ row (submit 9 0) (state clock_end number_end 1 full (one_client most_counted 268435454 0)) (6 ∷ 7 ∷ 15 ∷ 9 ∷ 10 ∷ []) (Refused 6)
    ∷ row (submit 0 0) (state clock_end number_end 1 full (one_client most_counted 268435454 0)) (7 ∷ 15 ∷ 8 ∷ 9 ∷ 10 ∷ []) (Refused 7)
    ∷ row (submit 0 281474976710656) (state clock_end number_end 1 full (one_client most_counted 268435454 0)) (15 ∷ 8 ∷ 9 ∷ 10 ∷ []) (Refused 15)
    ∷ row (submit 0 281474976710661) (state clock_end number_end 1 full (one_client most_counted 268435454 0)) (8 ∷ 9 ∷ 10 ∷ []) (Refused 8)
    ∷ row (submit 0 281474976710661) (state clock_end number_end 1 full (one_client 268435454 268435453 0)) (9 ∷ 10 ∷ []) (Refused 9)
    ∷ row (submit 0 281474976710661) (state clock_end 281474976710654 1 full (one_client 268435454 268435453 0)) (10 ∷ []) (Refused 10)
    ∷ row (submit 0 281474976710661) (state clock_end 281474976710654 1 (holding 2 full) (one_client 268435454 268435453 0)) []
    (Kept number_end 1 0)
    ∷ row tick (state clock_end number_end 2 full (one_client 2 0 0)) (4 ∷ 5 ∷ 11 ∷ []) (Refused 4)
    ∷ row tick (state clock_end number_end 1 full (one_client 2 0 0)) (5 ∷ 11 ∷ []) (Refused 5)
    ∷ row tick (state clock_end number_end 1 full (one_client 1 0 0)) (11 ∷ []) (Refused 11)
    ∷ row tick (state 281474976710654 number_end 1 full (one_client 1 0 0)) [] (Served 281474976710654 1 0)
    ∷ row (report 1) (state clock_end number_end 2 full (one_client 2 0 0)) (4 ∷ 5 ∷ 6 ∷ []) (Refused 4)
    ∷ row (report 1) (state clock_end number_end 1 full (one_client 2 0 0)) (5 ∷ 6 ∷ []) (Refused 5)
    ∷ row (report 1) (state clock_end number_end 1 full (one_client 1 0 0)) (6 ∷ []) (Refused 6)
    ∷ row (report 0) (state clock_end number_end 1 full (one_client 6 2 3)) [] (Reported 0 6 2 3 1)
    ∷ row (chart []) (state clock_end number_end 2 full (one_client 2 0 0)) (4 ∷ 5 ∷ 12 ∷ []) (Refused 4)
    ∷ row (chart []) (state clock_end number_end 1 full (one_client 2 0 0)) (5 ∷ 12 ∷ []) (Refused 5)
    ∷ row (chart []) (state clock_end number_end 1 full (one_client 1 0 0)) (12 ∷ []) (Refused 12)
    ∷ row (chart (0 ∷ [])) (state clock_end number_end 1 full (one_client 1 0 0)) [] (Charted 1)
    ∷ []

-- what a row says, and what the definitions give
abbrev said : Row → List ℕ × List Answer
said r = (r.conditions, r.answer ∷ [])

abbrev given : Row → List ℕ × List Answer
given r = (
  map (λ (f : Refusal). f.number) (select (λ f. f.holds) (refusals_of r.call r.state)),
  (outcome_of r.call r.state).answers,
)

-- "Each answers with its number only": one refusal alone says that a call is refused, and neither no answer nor several do
pub refused_alone :
    map is_refused ([] ∷ (Refused 7 ∷ []) ∷ (Opened ∷ []) ∷ (Refused 7 ∷ Refused 7 ∷ []) ∷ []) ≡ false ∷ true ∷ false ∷ false ∷ []
refused_alone = refl

pub refusals_in_order : map given rows ≡ map said rows
unfolding calls outcome_of select
refusals_in_order = refl
