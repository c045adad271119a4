-- Lists of calls with their answers, and what is read off them: document 01, "Lists and plans". A list stands newest first: its
-- head is the last call made.
-- Assumes nothing.
use Rattle.std.specs.Prelude.{ℕ, ◌+◌, Bool, not, cond, ◌&&◌, ◌||◌, List, [], ◌∷◌, ◌++◌, map, eqb}
use Rattle.slots.specs.Plan.{Window, Slot, none, at}
use Rattle.spec.specs.declared.types.Request.{Request}
use Rattle.spec.specs.declared.types.Counts.{Counts}
use Rattle.spec.specs.declared.types.Answer.{Answer}
use Rattle.spec.specs.declared.types.Answer.TheVariants.{Refused}
use Rattle.spec.specs.Every.{exists, count_if, select}
use Rattle.spec.specs.Tables.{State, waiting}
use Rattle.spec.specs.Chart.{starts_of}
use Rattle.spec.specs.Calls.Readings.{Booking, Victim, is_refused, new_number, served_by, victims_by}
use Rattle.spec.specs.Calls.Tick.{is_period_start}
use Rattle.spec.specs.Calls.{Call, meaning, outcome_of}

-- the state after a list of calls
unfoldable pub run : State → List Call → State
run s [] = s
run s (c ∷ cs) = (outcome_of c (run s cs)).after

-- a call and its answers
pub record Event : Type 0 where
  pub call : Call
  pub answers : List Answer

-- a call that answers with a refusal's number only
abbrev pub refused_event : Call → ℕ → Event
refused_event c number = record { call = c; answers = Refused number ∷ [] }

-- the calls of a list with their answers. An open in the list gets the tables that its other calls get
unfoldable pub history : State → List Call → List Event
history s [] = []
history s (c ∷ cs) = record { call = c; answers = (outcome_of c (run s cs)).answers } ∷ history s cs

-- the second list is the first with other events among its own
pub data Among (Other : Event → Type 0) : List Event → List Event → Type 0 where
  empty : Among Other [] []
  own : {es fs : List Event} (e : Event) → Among Other es fs → Among Other (e ∷ es) (e ∷ fs)
  other : {es fs : List Event} (e : Event) → Other e → Among Other es fs → Among Other es (e ∷ fs)

-- "Each answers with its number only; head, tables and output stay unchanged.": a refused call of any kind
pub data RefusedCall : Event → Type 0 where
  refused : (c : Call) (number : ℕ) → RefusedCall (refused_event c number)

-- The whole list of calls has refused calls in it that were lent other tables than the queue's, as in a session the open that names
-- too many records and "gets refusal 4 in its place": the second list is the first with refused calls among its own, whatever tables
-- these were lent
abbrev pub WithRefused : List Event → List Event → Type 0
WithRefused es fs = Among RefusedCall es fs

-- ---- what a list says
-- whether an event is a tick that was not refused, or an open that was accepted
abbrev pub is_tick : Event → Bool
is_tick e = (meaning e.call).is_tick && not (is_refused e.answers)

abbrev pub is_opened : Event → Bool
is_opened e = (meaning e.call).is_opening && not (is_refused e.answers)

-- "The clock at a submission is the number of ticks before it in the list that were not refused, whatever they answered."
unfoldable pub ticks : List Event → ℕ
ticks es = count_if is_tick es

-- one of the list's requests, and the clock at its submission
pub record Asked : Type 0 where
  pub request : Request
  pub release : ℕ

abbrev pub asked_as : ℕ → ℕ → ℕ → ℕ → Asked
asked_as client deadline number clock =
    record { request = record { deadline = deadline; number = number; client = client }; release = clock }

-- "The list's requests are its submits that were not refused, whether answered kept or dropped.": those of one event
abbrev pub asked_by : Event → ℕ → List Asked
asked_by e clock =
    cond (is_refused e.answers) []
    (map (λ w. asked_as w.client w.deadline (new_number e.answers) clock) (meaning e.call).wants)

unfoldable pub asked : List Event → List Asked
asked [] = []
asked (e ∷ es) = asked_by e (ticks es) ++ asked es

-- "Served since open are the requests that the answers to the list's ticks name as served."
abbrev pub served_in : Event → List Booking
served_in e = cond (is_tick e) (served_by e.answers) []

unfoldable pub bookings : List Event → List Booking
bookings [] = []
bookings (e ∷ es) = served_in e ++ bookings es

unfoldable pub victims : List Event → List Victim
victims [] = []
victims (e ∷ es) = victims_by e.answers ++ victims es

abbrev pub is_served : List Event → Asked → Bool
is_served es a = exists (λ b. eqb b.number a.request.number) (bookings es)

abbrev pub is_victim : List Event → Asked → Bool
is_victim es a = exists (λ v. eqb v.number a.request.number) (victims es)

unfoldable pub served_requests : List Event → List Asked
served_requests es = select (is_served es) (asked es)

-- "Waiting are the list's requests that no answer in it names as victim or as served."
unfoldable pub waiting_requests : List Event → List Asked
waiting_requests es = select (λ a. not (is_victim es a || is_served es a)) (asked es)

-- when each of the list's requests may be served, for plans
abbrev pub window_of : Asked → Window
window_of a = record { release = a.release; deadline = a.request.deadline }

abbrev pub windows : List Event → List Window
windows es = map window_of (asked es)

-- ---- the queue's own plan: each served request in the slot that served it, each waiting one at the start slot that the chart
-- call writes for it
unfoldable pub chart_bookings : List Request → List ℕ → List Booking
chart_bookings [] starts = []
chart_bookings (w ∷ ws) [] = []
chart_bookings (w ∷ ws) (s ∷ starts) = record { number = w.number; slot = s; client = w.client } ∷ chart_bookings ws starts

-- the slot that the bookings have for a request
unfoldable pub slot_for : List Booking → ℕ → Slot
slot_for [] n = none
slot_for (b ∷ bs) n = cond (eqb n b.number) (at b.slot) (slot_for bs n)

abbrev pub own_bookings : List Event → State → List Booking
own_bookings es s = bookings es ++ chart_bookings (waiting s) (starts_of s.head.setup (waiting s))

unfoldable pub own_plan : List Event → State → List Slot
own_plan es s = map (λ a. slot_for (own_bookings es s) a.request.number) (asked es)

-- ---- counts: what the calls and answers since the last period start say of a client
-- the clients that an event names: of an accepted submit, of a served request, of a victim
abbrev pub submitters : Event → List ℕ
submitters e = map (λ a. a.request.client) (asked_by e 0)

abbrev pub served_clients : Event → List ℕ
served_clients e = map (λ b. b.client) (served_in e)

abbrev pub victim_clients : Event → List ℕ
victim_clients e = map (λ v. v.client) (victims_by e.answers)

-- "If it is now a multiple of the period": whether a period starts with the newest event
abbrev pub starts_period : ℕ → Event → List Event → Bool
starts_period period e es = is_tick e && is_period_start period (ticks (e ∷ es))

-- a client's requests among the waiting ones
unfoldable pub waiting_by : ℕ → List Event → ℕ
waiting_by client es = count_if (λ a. eqb a.request.client client) (waiting_requests es)

-- how often the events name the client since the last period start, and at the start what is given
unfoldable pub since_start : (List Event → ℕ) → (Event → List ℕ) → ℕ → ℕ → List Event → ℕ
since_start at_start names period client [] = 0
since_start at_start names period client (e ∷ es) =
    cond (starts_period period e es) (at_start (e ∷ es))
    (count_if (eqb client) (names e) + since_start at_start names period client es)

-- "each client's submitted becomes its waiting count, served and dropped become 0."
unfoldable pub counts_since : ℕ → ℕ → List Event → Counts
counts_since period client es =
    record {
      submitted = since_start (waiting_by client) submitters period client es;
      served = since_start (λ _. 0) served_clients period client es;
      dropped = since_start (λ _. 0) victim_clients period client es;
    }
