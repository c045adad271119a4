-- Submit, by values: what it decides, what becomes of the client table, and what it hands back. Assumes nothing.
use Rattle.std.specs.Prelude.{ℕ, ◌+◌, ◌-◌, min, cond, Option, None, Some, List, ltb}
use Rattle.spec.specs.declared.types.Head.{Head}
use Rattle.spec.specs.declared.types.Request.{Request}
use Rattle.spec.specs.declared.types.Counts.{Counts}
use Rattle.spec.specs.declared.types.Answer.TheVariants.{Kept, Dropped}
use Rattle.spec.specs.declared.types.Reply.{Reply}
use Rattle.table.specs.Widths.{largest64}
use Rattle.table.specs.declared.clients.Count.TheVariants as count
use Rattle.table.specs.Clients.{changed_at, one_more_unless_full}
use Rattle.occupancy.specs.Scans.{smallest_ratio_place}
use Rattle.decide.specs.declared.submit.Decision.{Decision}
use Rattle.decide.specs.declared.submit.Decision.TheVariants.{Keep, Drop}
use Rattle.decide.specs.declared.submit.Insertion.{Insertion}

-- what is decided where none is refused, by what the searches found: the new request's place; the first overfull deadline, where there is
-- one; and each client's last candidate, with the clients' counts
abbrev pub choice_by : ℕ → (ℕ → Counts) → List ℕ → ℕ → Option ℕ → Decision
choice_by clients counts latest place None = Keep place
choice_by clients counts latest place (Some found) = Drop place (smallest_ratio_place counts latest clients)

-- ---- the new record
-- "It gives the next request number": no number of a sound state is the largest
abbrev pub next_number : Head → ℕ
next_number head = min (head.last + 1) largest64

abbrev pub numbered_request : Head → ℕ → ℕ → Request
numbered_request head client deadline = record { deadline = deadline; number = next_number head; client = client }

-- a place among the waiting records and the new one, as it is where the one at `other` is left out
abbrev pub place_without : ℕ → ℕ → ℕ
place_without place other = cond (ltb other place) (place - 1) place

-- ---- the client table's numbers after it; `gone` is the record that went out, where one did
abbrev pub submit_numbers : ℕ → Option Request → List ℕ → List ℕ
submit_numbers client None xs = changed_at (one_more_unless_full count.Submitted) client xs
submit_numbers client (Some victim) xs =
    changed_at (one_more_unless_full count.Dropped) victim.client (changed_at (one_more_unless_full count.Submitted) client xs)

-- ---- what it hands back
-- "It gives the next request number": the head, with so many waiting
abbrev pub head_after_submit : Head → ℕ → Head
head_after_submit head waiting =
    record {
      setup = head.setup;
      clock = head.clock;
      last = next_number head;
      waiting = waiting;
    }

-- "the answer is kept, with number and place", and the shift
abbrev pub kept_with : Head → ℕ → ℕ → Reply
kept_with head place shift =
    record {
      head = head_after_submit head (min (head.waiting + 1) largest64);
      answer = Kept (next_number head) place shift;
    }

-- "the answer names the new number, the victim's number and the victim's client.", and the shift
abbrev pub dropped_with : Head → Request → ℕ → Reply
dropped_with head victim shift =
    record {
      head = head_after_submit head head.waiting;
      answer = Dropped (next_number head) victim.number victim.client shift;
    }

-- by which record went out, where one did: its place and the shift, or the victim and the shift
abbrev pub reply_for : Head → ℕ → ℕ → Option Request → Reply
reply_for head place shift None = kept_with head place shift
reply_for head place shift (Some victim) = dropped_with head victim shift

abbrev pub submit_reply : Head → Insertion → Reply
submit_reply head insertion = reply_for head insertion.place insertion.shift insertion.gone
