-- Bounds, records and the whole state of the queue: document 01, "Tables and bounds", and document 02, 2.2. Each bound stands here once,
-- under a name. Assumes nothing.
use Rattle.std.specs.Prelude.{ℕ, suc, ◌-◌, List, [], ◌∷◌, ◌++◌, map, length, get_or, take, drop, set, replicate}
use Rattle.spec.specs.declared.types.Setup.{Setup}
use Rattle.spec.specs.declared.types.Head.{Head}
use Rattle.spec.specs.declared.types.Request.{Request}
use Rattle.spec.specs.declared.types.Counts.{Counts}

-- "Clients: 1 to 256, numbered from 0."
abbrev pub most_clients : ℕ
most_clients = 256

-- "The waiting requests are records in a lent table of 1 to 2,048 records."
abbrev pub most_records : ℕ
most_records = 2048

-- "submitted, served, dropped, each at most 268,435,455."
abbrev pub most_counted : ℕ
most_counted = 268435455

-- "Clock and request numbers end at 281,474,976,710,655."
abbrev pub clock_end : ℕ
clock_end = 281474976710655

abbrev pub number_end : ℕ
number_end = clock_end

-- "Period: 1 to 4,294,967,295 slots."
abbrev pub most_period : ℕ
most_period = 4294967295

-- "each deadline is past the clock by 1 to 65,535"
abbrev pub most_ahead : ℕ
most_ahead = 65535

-- document 02, 2.2: "slots per hour outside 1 to 360,000"
abbrev pub most_per_hour : ℕ
most_per_hour = 360000

-- document 02, 2.2: "168 open-or-closed marks": how many hours have a mark
abbrev pub hours : ℕ
hours = 168

-- "Open takes clients and period", and document 02, 2.2: "Open takes slots per hour and 168 open-or-closed marks": the setup that these
-- numbers are, in this order, the marks as four numbers; one that is not there is 0
abbrev pub setup_of : List ℕ → Setup
setup_of xs =
    record {
      clients = get_or xs 0 0;
      period = get_or xs 1 0;
      hour = get_or xs 2 0;
      marks0 = get_or xs 3 0;
      marks64 = get_or xs 4 0;
      marks128 = get_or xs 5 0;
      marks160 = get_or xs 6 0;
    }

-- records that are zero
abbrev pub zero_setup : Setup
zero_setup = setup_of []

abbrev pub zero_request : Request
zero_request = record { deadline = 0; number = 0; client = 0 }

abbrev pub zero_counts : Counts
zero_counts = record { submitted = 0; served = 0; dropped = 0 }

-- a head with this setup and nothing else in it: "sets clock, last number and waiting count to 0"
abbrev pub open_head : Setup → Head
open_head setup = record { setup = setup; clock = 0; last = 0; waiting = 0 }

-- ---- the client table as numbers
-- "The client table has one record a client: submitted, served, dropped": how many numbers a record is
abbrev pub client_width : ℕ
client_width = 3

-- the record that three numbers are, and the numbers of a record ahead of others
abbrev pub record_of : ℕ → ℕ → ℕ → Counts
record_of submitted served dropped = record { submitted = submitted; served = served; dropped = dropped }

abbrev pub record_then : Counts → List ℕ → List ℕ
record_then k xs = k.submitted ∷ k.served ∷ k.dropped ∷ xs

-- the whole records that numbers hold, and the numbers of records
unfoldable pub records_of : List ℕ → List Counts
records_of [] = []
records_of (a ∷ []) = []
records_of (a ∷ b ∷ []) = []
records_of (a ∷ b ∷ c ∷ xs) = record_of a b c ∷ records_of xs

unfoldable pub numbers_of : List Counts → List ℕ
numbers_of [] = []
numbers_of (k ∷ cs) = record_then k (numbers_of cs)

-- "adds 1 to" one of a client's counts
abbrev pub one_more_submitted : Counts → Counts
one_more_submitted k = record { submitted = suc k.submitted; served = k.served; dropped = k.dropped }

abbrev pub one_more_served : Counts → Counts
one_more_served k = record { submitted = k.submitted; served = suc k.served; dropped = k.dropped }

abbrev pub one_more_dropped : Counts → Counts
one_more_dropped k = record { submitted = k.submitted; served = k.served; dropped = suc k.dropped }

-- the client table with one client's counts changed
unfoldable pub change : (Counts → Counts) → ℕ → List Counts → List Counts
change f client cs = set cs client (f (get_or cs client zero_counts))

-- ---- the state
-- The head and the two lent tables, whatever they hold. The client table is lent as its numbers, one record after the other
pub record State : Type 0 where
  pub head : Head
  pub waiting_table : List Request
  pub client_numbers : List ℕ

abbrev pub state_of : Head → List Request → List ℕ → State
state_of head ws numbers = record { head = head; waiting_table = ws; client_numbers = numbers }

-- the client table
abbrev pub client_table : State → List Counts
client_table s = records_of s.client_numbers

-- the waiting requests, and the records behind them
abbrev pub waiting : State → List Request
waiting s = take s.head.waiting s.waiting_table

abbrev pub behind : State → List Request
behind s = drop s.head.waiting s.waiting_table

-- one field of each request: the deadlines, and the clients
abbrev pub deadlines_of : List Request → List ℕ
deadlines_of ws = map (λ w. w.deadline) ws

abbrev pub clients_of : List Request → List ℕ
clients_of ws = map (λ w. w.client) ws

-- a table of n records that holds these requests: "every record behind the waiting ones is zero"
abbrev pub holding : ℕ → List Request → List Request
holding n ws = ws ++ replicate (n - length ws) zero_request

-- the state with another clock, last number, waiting requests and client table
unfoldable pub next_state : ℕ → ℕ → List Request → List Counts → State → State
next_state clock last ws cs s =
    record {
      head =
          record {
            setup = s.head.setup;
            clock = clock;
            last = last;
            waiting = length ws;
          };
      waiting_table = holding (length s.waiting_table) ws;
      client_numbers = numbers_of cs;
    }
