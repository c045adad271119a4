-- What is read off a list of calls and its answers, computed: for one list that has refused calls of every kind but ticks, a drop,
-- served requests, one that waits, and period starts; for one at the clock's end, where ticks are refused; and for one in which
-- nothing is refused, off its calls alone. Assumes nothing.
use Prim.Native.Nat.{ℕ}
use mathlib.Core.Path.{◌≡◌, refl}
use mathlib.Core.Bool.{Bool, true, false}
use mathlib.Core.List.{List, [], ◌∷◌, map}
use lib.ListN.{replicate}
use Rattle.slots.specs.Plan.{Slot, none, at, since}
use Rattle.spec.specs.declared.types.Counts.{Counts}
use Rattle.spec.specs.Every.{exists, select}
use Rattle.spec.specs.Tables.{zero_request, zero_counts, open_head, State, numbers_of}
use Rattle.spec.specs.Calls.{Call, opening, submit, tick, report, chart, outcome_of}
use Rattle.spec.specs.Lists.{run, Event, history, is_opened, ticks, Asked, asked, bookings, victims, served_requests}
use Rattle.spec.specs.Lists.{waiting_requests, slot_for, chart_bookings, own_plan, waiting_by, since_start, counts_since}
use Rattle.spec.proofs.Lists.Windows.{tick_calls, call_windows, is_refused_event}
use Rattle.spec.proofs.Acceptance.Computed.{setting, calls}

-- two clients, a period of two slots
abbrev start : State
start =
    (outcome_of (opening (setting 2 2)) (record {
      head = open_head (setting 0 0);
      waiting_table = replicate 8 zero_request;
      client_numbers = numbers_of (replicate 2 zero_counts);
    })).after

-- the last call first: a refused open, submits of which the third drops itself, ticks, refused calls between them
abbrev list : List Call
list =
    chart []
    ∷ opening (setting 2 0)
    ∷ report 5
    ∷ submit 1 9
    ∷ tick
    ∷ submit 0 9
    ∷ submit 0 0
    ∷ tick
    ∷ submit 1 1
    ∷ submit 1 2
    ∷ submit 0 1
    ∷ opening (setting 0 7)
    ∷ []

pub record ReadOff : Type 0 where
  -- whether an open in it was accepted
  pub opened : Bool
  -- the clock after it, where it begins at clock 0
  pub clock : ℕ
  pub numbers : List ℕ
  pub releases : List ℕ
  pub served : List ℕ
  pub waits : List ℕ
  pub plan : List Slot
  -- what the calls since the last period start say of each client
  pub counts : List Counts

abbrev numbers_in : List Asked → List ℕ
numbers_in rs = map (λ (a : Asked). a.request.number) rs

-- of a list whose calls left this state, for clients 0 and 1 and a period of two slots
abbrev read_off : List Event → State → ReadOff
read_off es s =
    record {
      opened = exists is_opened es;
      clock = ticks es;
      numbers = numbers_in (asked es);
      releases = map (λ (a : Asked). a.release) (asked es);
      served = numbers_in (served_requests es);
      waits = numbers_in (waiting_requests es);
      plan = own_plan es s;
      counts = counts_since 2 0 es ∷ counts_since 2 1 es ∷ [];
    }

-- the tick at clock 1 begins a period: request 4 of client 0 waits then, and request 5 of client 1 comes after it
abbrev expected : ReadOff
expected =
    record {
      opened = false;
      clock = 2;
      numbers = 5 ∷ 4 ∷ 3 ∷ 2 ∷ 1 ∷ [];
      releases = 2 ∷ 1 ∷ 0 ∷ 0 ∷ 0 ∷ [];
      served = 2 ∷ 1 ∷ [];
      waits = 5 ∷ 4 ∷ [];
      plan = at 8 ∷ at 7 ∷ none ∷ at 1 ∷ at 0 ∷ [];
      counts =
          record { submitted = 1; served = 0; dropped = 0 }
          ∷ record { submitted = 1; served = 0; dropped = 0 }
          ∷ [];
    }

unfoldable lists : Unit {0}
unfolding calls outcome_of run history exists select ticks asked bookings victims
lists = tt

unfoldable lists_read : Unit {0}
unfolding lists served_requests waiting_requests slot_for chart_bookings own_plan waiting_by since_start counts_since
lists_read = tt

pub readings : read_off (history start list) (run start list) ≡ expected
unfolding lists_read
readings = refl

-- two slots before the clock's end, with no request given yet
abbrev late : State
late =
    record {
      head = record { setup = setting 2 2; clock = 281474976710653; last = 0; waiting = 0 };
      waiting_table = replicate 8 zero_request;
      client_numbers = numbers_of (replicate 2 zero_counts);
    }

-- the first tick serves, the second idles and begins a period, and the last is refused by 11; request 3 drops itself before it
abbrev late_list : List Call
late_list =
    submit 0 281474976710660
    ∷ tick
    ∷ submit 1 281474976710656
    ∷ submit 1 281474976710656
    ∷ tick
    ∷ tick
    ∷ submit 0 281474976710660
    ∷ []

-- "the number of ticks before it in the list that were not refused": were the refused tick counted, request 4 would be submitted at
-- clock 3; were a period to begin there, the drop would be forgotten
abbrev late_expected : ReadOff
late_expected =
    record {
      opened = false;
      clock = 2;
      numbers = 4 ∷ 3 ∷ 2 ∷ 1 ∷ [];
      releases = 2 ∷ 2 ∷ 2 ∷ 0 ∷ [];
      served = 1 ∷ [];
      waits = 4 ∷ 2 ∷ [];
      plan = at 281474976710659 ∷ none ∷ at 281474976710655 ∷ at 281474976710653 ∷ [];
      counts =
          record { submitted = 1; served = 0; dropped = 0 }
          ∷ record { submitted = 2; served = 0; dropped = 1 }
          ∷ [];
    }

pub late_readings : read_off (history late late_list) (run late late_list) ≡ late_expected
unfolding lists_read
late_readings = refl

-- an open that is accepted is seen as such
pub reopened : exists is_opened (history start (opening (setting 2 5) ∷ [])) ≡ true
unfolding lists
reopened = refl

-- The last call stands first. Nothing is refused, and the third submit drops itself.
abbrev unrefused : List Call
unrefused = submit 1 9 ∷ tick ∷ submit 1 1 ∷ submit 1 2 ∷ submit 0 1 ∷ []

-- This list meets the condition of `Lists/Alone.calls_alone`, so that its windows are those that its calls say.
pub unrefused_windows :
    (exists is_refused_event (history start unrefused) ≡ false)
    × (call_windows unrefused ≡ since 1 9 ∷ since 0 1 ∷ since 0 2 ∷ since 0 1 ∷ [])
unfolding lists tick_calls call_windows
unrefused_windows = (refl, refl)
