-- Tick, by values. `serves` says whether its slot is open, and `gone` is the record that went out of the waiting table, where one did.
-- Assumes nothing.
use Rattle.std.specs.Prelude.{ℕ, ◌+◌, ◌-◌, min, Bool, cond, Option, None, Some, List}
use Rattle.spec.specs.declared.types.Head.{Head}
use Rattle.spec.specs.declared.types.Request.{Request}
use Rattle.spec.specs.declared.types.Answer.{Answer}
use Rattle.spec.specs.declared.types.Answer.TheVariants.{Served, Idle, Closed}
use Rattle.spec.specs.declared.types.Reply.{Reply}
use Rattle.table.specs.Widths.{largest64}
use Rattle.table.specs.declared.clients.Count.TheVariants as count
use Rattle.table.specs.Clients.{changed_at, one_more_unless_full, restarted_numbers}

-- "Then the clock rises by 1.": no clock of a sound state is the largest number
abbrev pub clock_after : Head → ℕ
clock_after head = min (head.clock + 1) largest64

-- ---- the client table's numbers after it
-- "and adds 1 to that client's served", where one is served
abbrev pub served_numbers : Option Request → List ℕ → List ℕ
served_numbers None xs = xs
served_numbers (Some served) xs = changed_at (one_more_unless_full count.Served) served.client xs

-- "If it is now a multiple of the period": the counts restart
abbrev pub tick_numbers : Head → Option Request → List ℕ → List ℕ
tick_numbers head gone xs = restarted_numbers head.setup.period (clock_after head) (served_numbers gone xs)

-- ---- what it hands back
-- "takes it out": how many wait after it, one less where the slot is open
abbrev pub waiting_after : Bool → Head → ℕ
waiting_after serves head = cond serves (head.waiting - 1) head.waiting

abbrev pub head_after_tick : Bool → Head → Head
head_after_tick serves head =
    record {
      setup = head.setup;
      clock = clock_after head;
      last = head.last;
      waiting = waiting_after serves head;
    }

-- "Tick serves the first waiting record in the slot that starts at the clock ..; with none waiting it answers idle."
abbrev pub open_answer : Head → Option Request → Answer
open_answer head None = Idle head.clock
open_answer head (Some served) = Served head.clock served.number served.client

-- document 02, 2.2: "A closed slot serves nobody and tick answers 89 with the slot"
abbrev pub tick_answer : Bool → Head → Option Request → Answer
tick_answer serves head gone = cond serves (open_answer head gone) (Closed head.clock)

abbrev pub tick_reply : Bool → Head → Option Request → Reply
tick_reply serves head gone = record { head = head_after_tick serves head; answer = tick_answer serves head gone }
