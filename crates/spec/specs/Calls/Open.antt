-- Open: document 01, "Calls", and document 02, 2.2. Assumes nothing.
use Rattle.std.specs.Prelude.{true, false, List, [], ◌∷◌, ◌++◌, length, replicate}
use Rattle.spec.specs.declared.types.Setup.{Setup}
use Rattle.spec.specs.declared.types.Answer.TheVariants.{Opened}
use Rattle.spec.specs.Tables.{zero_request, zero_counts, open_head, State, client_table, numbers_of}
use Rattle.spec.specs.Setup.{Refusal, setup_refusals}
use Rattle.spec.specs.Calls.Refusals.{refusal4_open}
use Rattle.spec.specs.Calls.Outcomes.{Outcome, saying, Meaning}

-- the refusals, in the papers' order
unfoldable pub open_refusals : Setup → State → List Refusal
open_refusals setup s = setup_refusals setup ++ (refusal4_open setup.clients s ∷ [])

-- "Open takes clients and period, sets clock, last number and waiting count to 0 and every record to zero."
unfoldable pub open_accepted : Setup → State → Outcome
open_accepted setup s =
    saying Opened (record {
      head = open_head setup;
      waiting_table = replicate (length s.waiting_table) zero_request;
      client_numbers = numbers_of (replicate (length (client_table s)) zero_counts);
    })

abbrev pub open_meaning : Setup → Meaning
open_meaning setup =
    record {
      refusals = open_refusals setup;
      accepted = open_accepted setup;
      is_tick = false;
      is_opening = true;
      sets = setup;
      wants = [];
      outputs = λ s. [];
    }
