-- Submit: document 01, "Calls", and document 02, 2.1 and 2.2. Assumes nothing.
use Rattle.std.specs.Prelude.{ℕ, suc, false, cond, List, [], ◌∷◌, get_or}
use Rattle.spec.specs.declared.types.Request.{Request}
use Rattle.spec.specs.declared.types.Counts.{Counts}
use Rattle.spec.specs.declared.types.Answer.TheVariants.{Kept, Dropped}
use Rattle.spec.specs.Tables.{zero_setup, zero_request, State, waiting, next_state, client_table, change, one_more_submitted}
use Rattle.spec.specs.Tables.{one_more_dropped}
use Rattle.spec.specs.Order.{place_of, shift_of, put_in_order, remove_at}
use Rattle.spec.specs.Chart.{has_no_overfull, victim_of}
use Rattle.spec.specs.Setup.{Refusal}
use Rattle.spec.specs.Calls.Refusals.{refusal4, refusal5, refusal6, refusal7, refusal15, refusal8, refusal9, refusal10}
use Rattle.spec.specs.Calls.Outcomes.{Outcome, saying, Meaning}

-- the refusals, in the papers' order
unfoldable pub submit_refusals : ℕ → ℕ → State → List Refusal
submit_refusals client deadline s =
    refusal4 s
    ∷ refusal5 s
    ∷ refusal6 client s
    ∷ refusal7 deadline s
    ∷ refusal15 deadline s
    ∷ refusal8 client s
    ∷ refusal9 s
    ∷ refusal10 s
    ∷ []

-- "It gives the next request number"
abbrev pub new_request : ℕ → ℕ → State → Request
new_request client deadline s = record { deadline = deadline; number = suc s.head.last; client = client }

-- ".. adds 1 to submitted": the client table with the new request counted
abbrev pub counted_in : ℕ → State → List Counts
counted_in client s = change one_more_submitted client (client_table s)

-- ".. and puts the record in chart order.": the waiting requests with the new one
abbrev pub with_new : ℕ → ℕ → State → List Request
with_new client deadline s = put_in_order (new_request client deadline s) (waiting s)

-- document 02, 2.1: "Submit also answers how many waiting records stood behind the new one in chart order when it was put in."
abbrev pub new_shift : ℕ → ℕ → State → ℕ
new_shift client deadline s = shift_of (new_request client deadline s) (waiting s)

-- "If every request can still finish, the answer is kept, with number and place (from 0).", and with the shift
unfoldable pub kept : ℕ → ℕ → State → Outcome
kept client deadline s =
    saying
    (Kept (suc s.head.last) (place_of (new_request client deadline s) (waiting s)) (new_shift client deadline s))
    (next_state s.head.clock (suc s.head.last) (with_new client deadline s) (counted_in client s) s)

-- the record at a place among the waiting requests and the new one
abbrev pub request_at : ℕ → ℕ → ℕ → State → Request
request_at k client deadline s = get_or (with_new client deadline s) k zero_request

-- "Otherwise one record is taken out, its client's dropped rises by 1, and the answer names the new number, the victim's number
-- and the victim's client.", and the shift, counted when the new one was put in. The record at the place k is the victim
unfoldable pub dropped_at : ℕ → ℕ → ℕ → State → Outcome
dropped_at k client deadline s =
    saying
    (Dropped (suc s.head.last) (request_at k client deadline s).number (request_at k client deadline s).client
    (new_shift client deadline s))
    (next_state s.head.clock (suc s.head.last) (remove_at k (with_new client deadline s))
    (change one_more_dropped (request_at k client deadline s).client (counted_in client s)) s)

-- the place of the victim among the waiting requests and the new one
abbrev pub victim_place : ℕ → ℕ → State → ℕ
victim_place client deadline s = victim_of s.head (counted_in client s) (with_new client deadline s)

unfoldable pub submit_accepted : ℕ → ℕ → State → Outcome
submit_accepted client deadline s =
    cond (has_no_overfull s.head (with_new client deadline s))
    (kept client deadline s)
    (dropped_at (victim_place client deadline s) client deadline s)

abbrev pub submit_meaning : ℕ → ℕ → Meaning
submit_meaning client deadline =
    record {
      refusals = submit_refusals client deadline;
      accepted = submit_accepted client deadline;
      is_tick = false;
      is_opening = false;
      sets = zero_setup;
      wants = record { client = client; deadline = deadline } ∷ [];
      outputs = λ s. [];
    }
