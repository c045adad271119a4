-- When tables are sound, one test a clause: document 01, "Tables and bounds", and document 02, 2.2. Assumes nothing.
use Rattle.std.specs.Prelude.{ℕ, suc, ◌+◌, Bool, ◌&&◌, List, leb, ltb, eqb}
use Rattle.spec.specs.declared.types.Head.{Head}
use Rattle.spec.specs.declared.types.Request.{Request}
use Rattle.spec.specs.declared.types.Counts.{Counts}
use Rattle.spec.specs.Every.{is_within, every, every_from, count_if}
use Rattle.spec.specs.Tables.{clock_end, number_end, most_ahead, most_counted, State, waiting, behind, client_table}
use Rattle.spec.specs.Setup.{is_setup_within}
use Rattle.spec.specs.Order.{is_in_order}
use Rattle.spec.specs.Chart.{has_no_overfull}

-- "the head is within these bounds and those of every value document 02 adds to it", 2.2: "a sound head has neither" 13 nor 14
unfoldable pub is_head_within : Head → Bool
is_head_within h =
    is_setup_within h.setup
    && leb h.clock clock_end
    && leb h.last number_end

-- "each deadline is past the clock by 1 to 65,535, all slots counted"
abbrev pub is_ahead : ℕ → ℕ → Bool
is_ahead clock deadline = is_within (suc clock) (clock + most_ahead) deadline

-- "each number is from 1 to the last given"
abbrev pub is_given : ℕ → ℕ → Bool
is_given last number = is_within 1 last number

-- "each client exists"
abbrev pub is_client : ℕ → ℕ → Bool
is_client clients client = ltb client clients

-- "every record behind the waiting ones is zero"
unfoldable pub is_zero_request : Request → Bool
is_zero_request r = eqb r.deadline 0 && eqb r.number 0 && eqb r.client 0

-- a client's waiting records
unfoldable pub waiting_of : ℕ → List Request → ℕ
waiting_of client ws = count_if (λ w. eqb w.client client) ws

-- "for each client submitted = served + dropped + its waiting records, submitted within its bound"
unfoldable pub is_balanced : List Request → ℕ → Counts → Bool
is_balanced ws client k =
    eqb k.submitted (k.served + k.dropped + waiting_of client ws) && leb k.submitted most_counted

-- "Tables are sound when: .."; the clause on deadlines D is `has_no_overfull`
unfoldable pub is_sound : State → Bool
is_sound s =
    is_head_within s.head
    && is_in_order (waiting s)
    && every (λ w. is_ahead s.head.clock w.deadline) (waiting s)
    && every (λ w. is_given s.head.last w.number) (waiting s)
    && every (λ w. is_client s.head.setup.clients w.client) (waiting s)
    && has_no_overfull s.head (waiting s)
    && every is_zero_request (behind s)
    && every_from (is_balanced (waiting s)) 0 (client_table s)
