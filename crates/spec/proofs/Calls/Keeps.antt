-- Accepted calls leave sound tables: document 01, "Tables and bounds". Assumes nothing.
use Prim.Native.Nat.{ℕ, suc, ◌+◌, ◌≤◌, ◌<◌, ◌*◌}
use mathlib.Core.Path.{◌≡◌, refl, ◌∙◌, ap}
use mathlib.Core.Logic.{◌≢◌}
use mathlib.Core.Bool.{Bool, true, false, cond}
use mathlib.Core.List.{List, [], ◌∷◌}
use native.Mathlib.Omega.{arith}
use lib.ListN.{length, get_or, replicate, length-replicate, get_or-replicate}
use Rattle.slots.proofs.Laws.Tests.{le, gt, order}
use Rattle.slots.proofs.Laws.Sums.{All, all_imp}
use Rattle.spec.specs.declared.types.Setup.{Setup}
use Rattle.spec.specs.declared.types.Head.{Head}
use Rattle.spec.specs.declared.types.Request.{Request}
use Rattle.spec.specs.declared.types.Counts.{Counts}
use Rattle.spec.specs.Every.{map_from}
use Rattle.spec.specs.Tables.{most_counted, clock_end, number_end, zero_request, zero_counts, State, waiting}
use Rattle.spec.specs.Tables.{client_table, client_width, next_state, change, one_more_submitted, one_more_served, one_more_dropped}
use Rattle.spec.specs.Setup.{first_match}
use Rattle.spec.specs.Order.{put_in_order, remove_at}
use Rattle.spec.specs.Hours.{capacity_of, is_open, room}
use Rattle.spec.specs.Chart.{due_by, has_no_overfull, is_candidate}
use Rattle.spec.specs.Calls.Readings.{is_refused}
use Rattle.spec.specs.Calls.Outcomes.{Outcome}
use Rattle.spec.specs.Calls.Open.{open_accepted}
use Rattle.spec.specs.Calls.Submit.{new_request, counted_in, with_new, kept, request_at, dropped_at, victim_place}
use Rattle.spec.specs.Calls.Submit.{submit_accepted}
use Rattle.spec.specs.Calls.Tick.{is_period_start, restarted, counts_after, one_later, tick_accepted, tick_open, tick_closed}
use Rattle.spec.specs.Calls.{Call, outcome_of, accepted_of, refusals_of}
use Rattle.spec.proofs.Laws.Clients.{of_yes, of_no, waiting_of_none, waiting_of_put, waiting_of_remove, Changed, changes}
use Rattle.spec.proofs.Laws.Clients.{stays, changed, length_change}
use Rattle.spec.proofs.Laws.Room.{capacity_open, capacity_closed, room_back, room_step, room_split, room_next}
use Rattle.spec.proofs.Laws.Every.{all_two, Value, is_true, is_false, value, length_map_from, get_d_map_from, all_remove}
use Rattle.spec.proofs.Laws.Every.{length_remove}
use Rattle.spec.proofs.Laws.Order.{InOrder, Before, before_deadline, order_remove, all_put, length_put}
use Rattle.spec.proofs.Laws.Feasible.{FeasibleAt, Feasible, feasible_facts, due_yes, due_by_cons, due_by_none, due_by_self}
use Rattle.spec.proofs.Laws.Sound.{Shaped, Ahead, Given, ClientExists, Balanced}
use Rattle.spec.proofs.Laws.Accepted.{Decided, accepts, refuses, Ready, OpenReady, open_ready, SubmitReady, submit_ready}
use Rattle.spec.proofs.Laws.Accepted.{TickReady, tick_ready, waiting_length, next_waiting}
use Rattle.spec.proofs.Laws.Accepted.{next_behind, next_length}
use Rattle.spec.proofs.Laws.Layout.{length_numbers, records_numbers}
use Rattle.spec.proofs.Calls.CallKinds.{CallKind, of_opening, of_submit, of_tick, reads_only, call_kind, read_ready}
use Rattle.spec.proofs.Calls.Victim.{victim_place_lem}
use Rattle.spec.proofs.Calls.Fair.{new_ordered}
use Rattle.spec.proofs.Calls.Refused.{outcome_decided, accepted_none, accepted_same}

-- ---- the clauses of sound tables on requests and counts, without the one on overfull deadlines; clients have one record each
pub record Tidy (clock last clients : ℕ) (ws : List Request) (cs : List Counts) : Type 0 where
  pub ordered : InOrder ws
  pub ahead : All (Ahead clock) ws
  pub given : All (Given last) ws
  pub owned : All (ClientExists clients) ws
  pub counted : length cs ≡ clients
  pub balanced : (c : ℕ) → c < length cs → Balanced ws c (get_or cs c zero_counts)

pub tidy : (s : State) → Ready s → Tidy s.head.clock s.head.last s.head.setup.clients (waiting s) (client_table s)
tidy s r =
    record {
      ordered = r.sound.ordered;
      ahead = r.sound.ahead;
      given = r.sound.given;
      owned = r.sound.owned;
      counted = r.shape.clients;
      balanced = r.sound.balanced;
    }

-- a state that a call leaves is sound where its requests and counts are
pub next_ready : (clock last : ℕ) (ws : List Request) (cs : List Counts) (s : State) → Ready s → clock ≤ clock_end
    → last ≤ number_end → length ws ≤ length s.waiting_table → Tidy clock last s.head.setup.clients ws cs
    → FeasibleAt s.head clock ws → Ready (next_state clock last ws cs s)
unfolding next_state
next_ready clock last ws cs s r c l n t f =
    record {
      shape =
          record {
            some_records = omega (arith, next_length clock last ws cs s n, r.shape.some_records);
            most_records_lem = omega (arith, next_length clock last ws cs s n, r.shape.most_records_lem);
            numbers = length_numbers cs ∙ ap (λ (n : ℕ). client_width * n) t.counted;
            clients = ap length (records_numbers cs) ∙ t.counted;
            waits = omega (arith, next_length clock last ws cs s n);
          };
      sound =
          record {
            headed =
                record {
                  setup = r.sound.headed.setup;
                  clock = c;
                  last = l;
                };
            ordered = rw (next_waiting clock last ws cs s) t.ordered;
            ahead = rw (next_waiting clock last ws cs s) t.ahead;
            given = rw (next_waiting clock last ws cs s) t.given;
            owned = rw (next_waiting clock last ws cs s) t.owned;
            feasible = rw (next_waiting clock last ws cs s) (λ D. omega (arith, f D, room_next clock last ws cs s clock D));
            zeros = rw (next_behind clock last ws cs s, length-replicate);
            balanced = rw (next_waiting clock last ws cs s, records_numbers cs) t.balanced;
          };
    }

-- ---- open
pub open_keeps : (setup : Setup) (s : State) → OpenReady setup s → Ready (open_accepted setup s).after
unfolding open_accepted
open_keeps setup s r =
    record {
      shape =
          record {
            some_records = omega (arith, length-replicate (length s.waiting_table) zero_request, r.lengths.some_records);
            most_records_lem = omega (arith, length-replicate (length s.waiting_table) zero_request, r.lengths.most_records_lem);
            numbers = length_numbers none ∙ ap (λ (n : ℕ). client_width * n) (same_many ∙ r.lengths.clients_length);
            clients = ap length (records_numbers none) ∙ same_many ∙ r.lengths.clients_length;
            waits = omega arith;
          };
      sound =
          record {
            headed =
                record {
                  setup = r.within;
                  clock = omega arith;
                  last = omega arith;
                };
            ordered = tt;
            ahead = tt;
            given = tt;
            owned = tt;
            feasible = λ D. omega (arith, due_by_none D [] tt);
            zeros = rw length-replicate;
            balanced = rw (records_numbers none) balanced;
          };
    }
  where
    none : List Counts
    none = replicate (length (client_table s)) zero_counts

    same_many : length none ≡ length (client_table s)
    same_many = length-replicate (length (client_table s)) zero_counts

    balanced : (c : ℕ) → c < length (replicate (length (client_table s)) zero_counts)
        → Balanced [] c (get_or (replicate (length (client_table s)) zero_counts) c zero_counts)
    balanced c h =
        let n : c < length (client_table s) = omega (arith, length-replicate (length (client_table s)) zero_counts) in
        rw (get_or-replicate (length (client_table s)) c zero_counts zero_counts n) (omega (arith, waiting_of_none c), omega arith)

-- ---- submit
-- a client's counts stay balanced where the new request is counted and put in
balanced_put : (new : Request) (ws : List Request) (cs : List Counts)
    → (get_or cs new.client zero_counts).submitted ≢ most_counted → (c : ℕ) {k : Counts}
    → Changed one_more_submitted new.client cs c k → Balanced ws c (get_or cs c zero_counts) → Balanced (put_in_order new ws) c k
balanced_put new ws cs n c (changes e) b =
    let m : (get_or cs c zero_counts).submitted ≢ most_counted = rw e n in
    (omega (arith, waiting_of_put c new ws, of_yes c new e), omega arith)
balanced_put new ws cs n c (stays e) b = (omega (arith, waiting_of_put c new ws, of_no c new e), b.1)

-- the new request counted and put in; overfull deadlines apart
pub tidy_put : (client deadline : ℕ) (s : State) → SubmitReady client deadline s
    → Tidy s.head.clock (suc s.head.last) s.head.setup.clients (with_new client deadline s) (counted_in client s)
tidy_put client deadline s r =
    let last = s.head.last in
    let t = tidy s r.ready in
    record {
      ordered = new_ordered client deadline s r;
      ahead = all_put (Ahead s.head.clock) new (waiting s) (r.late, r.near) t.ahead;
      given =
          all_put (Given (suc last)) new (waiting s) (omega arith, omega arith)
          (all_imp (Given last) (Given (suc last)) (waiting s) (λ w h. (h.0, omega arith)) t.given);
      owned = all_put (ClientExists s.head.setup.clients) new (waiting s) r.exists t.owned;
      counted = same_length ∙ t.counted;
      balanced =
          λ c h. let l : c < length (client_table s) = omega (arith, same_length) in
          balanced_put new (waiting s) (client_table s) r.countable c
          (changed one_more_submitted client (client_table s) c l) (t.balanced c l);
    }
  where
    new : Request
    new = new_request client deadline s

    same_length : length (counted_in client s) ≡ length (client_table s)
    same_length = length_change one_more_submitted client (client_table s)

-- a change of counts that adds 1 to served or dropped
pub record AddsOne (f : Counts → Counts) : Type 0 where
  pub submits : (k : Counts) → (f k).submitted ≡ k.submitted
  pub ends : (k : Counts) → (f k).served + (f k).dropped ≡ suc (k.served + k.dropped)

-- a client's counts stay balanced where a request is taken out and counted as served or dropped
balanced_remove : (f : Counts → Counts) → AddsOne f → (k : ℕ) (ws : List Request) (cs : List Counts) → k < length ws → (c : ℕ)
    {j : Counts} → Changed f (get_or ws k zero_request).client cs c j → Balanced ws c (get_or cs c zero_counts)
    → Balanced (remove_at k ws) c j
balanced_remove f E k ws cs n c (changes e) b =
    let submits = E.submits (get_or cs c zero_counts) in
    let ends = E.ends (get_or cs c zero_counts) in (
      omega (arith, submits, ends, waiting_of_remove c k zero_request ws n, of_yes c (get_or ws k zero_request) e),
      omega (arith, submits),
    )
balanced_remove f E k ws cs n c (stays e) b =
    (omega (arith, waiting_of_remove c k zero_request ws n, of_no c (get_or ws k zero_request) e), b.1)

-- a request taken out, and counted as served or dropped
pub tidy_remove : (f : Counts → Counts) → AddsOne f → (k clock last clients : ℕ) (ws : List Request) (cs : List Counts)
    → k < length ws → Tidy clock last clients ws cs
    → Tidy clock last clients (remove_at k ws) (change f (get_or ws k zero_request).client cs)
tidy_remove f E k clock last clients ws cs n t =
    let client = (get_or ws k zero_request).client in
    record {
      ordered = order_remove k ws t.ordered;
      ahead = all_remove (Ahead clock) k ws t.ahead;
      given = all_remove (Given last) k ws t.given;
      owned = all_remove (ClientExists clients) k ws t.owned;
      counted = length_change f client cs ∙ t.counted;
      balanced =
          λ c h. let l : c < length cs = omega (arith, length_change f client cs) in
          balanced_remove f E k ws cs n c (changed f client cs c l) (t.balanced c l);
    }

served_ends : AddsOne one_more_served
served_ends = record { submits = λ k. refl; ends = λ k. omega arith }

dropped_ends : AddsOne one_more_dropped
dropped_ends = record { submits = λ k. refl; ends = λ k. omega arith }

module _ (client deadline : ℕ) (s : State) (r : SubmitReady client deadline s) where
  number_left : suc s.head.last ≤ number_end
  number_left = omega (arith, r.ready.sound.headed.last, r.numbered)

  record_left : length (with_new client deadline s) ≤ length s.waiting_table
  record_left =
      let shape = r.ready.shape in
      omega (arith, length_put (new_request client deadline s) (waiting s), waiting_length s shape, shape.waits, r.free)

  pub kept_keeps : Feasible s.head (with_new client deadline s) → Ready (kept client deadline s).after
  unfolding kept
  kept_keeps f =
      next_ready s.head.clock (suc s.head.last) (with_new client deadline s) (counted_in client s) s r.ready
      r.ready.sound.headed.clock number_left record_left (tidy_put client deadline s r) f

  pub dropped_keeps : (k : ℕ) → k < length (with_new client deadline s)
      → is_candidate s.head (with_new client deadline s) k ≡ true → Ready (dropped_at k client deadline s).after
  unfolding dropped_at is_candidate
  dropped_keeps k n e =
      next_ready s.head.clock (suc s.head.last) (remove_at k (with_new client deadline s))
      (change one_more_dropped (request_at k client deadline s).client (counted_in client s)) s r.ready
      r.ready.sound.headed.clock number_left (omega (arith, record_left, length_remove k (with_new client deadline s) n))
      (tidy_remove one_more_dropped dropped_ends k s.head.clock (suc s.head.last) s.head.setup.clients
      (with_new client deadline s) (counted_in client s) n (tidy_put client deadline s r))
      (feasible_facts s.head (remove_at k (with_new client deadline s)) e)

pub submit_keeps : (client deadline : ℕ) (s : State) → SubmitReady client deadline s
    → Ready (submit_accepted client deadline s).after
unfolding submit_accepted
submit_keeps client deadline s r = go (value (has_no_overfull s.head (with_new client deadline s)))
  where
    go : Value (has_no_overfull s.head (with_new client deadline s)) → Ready (submit_accepted client deadline s).after
    go (is_true e) = rw e (kept_keeps client deadline s r (feasible_facts s.head (with_new client deadline s) e))
    go (is_false e) =
        let v = victim_place_lem client deadline s r in
        rw e (dropped_keeps client deadline s r (victim_place client deadline s) v.0 v.1)

-- ---- tick
-- where there is room from the next slot on, no deadline is past
pub tidy_later : (head : Head) (clock last clients : ℕ) (ws : List Request) (cs : List Counts) → FeasibleAt head (suc clock) ws
    → Tidy clock last clients ws cs → Tidy (suc clock) last clients ws cs
tidy_later head clock last clients ws cs f t =
    record {
      ordered = t.ordered;
      ahead =
          all_two (Ahead clock) (λ (w : Request). 1 ≤ due_by w.deadline ws) (Ahead (suc clock)) ws
          (λ w h d. (later w d, omega arith)) t.ahead (due_by_self ws);
      given = t.given;
      owned = t.owned;
      counted = t.counted;
      balanced = t.balanced;
    }
  where
    later : (w : Request) → 1 ≤ due_by w.deadline ws → suc (suc clock) ≤ w.deadline
    later w d =
        elim (order w.deadline (suc clock)) [
          | le h ↦ absurd (omega (arith, f w.deadline, room_back head.setup (suc clock) w.deadline h))
          | gt h ↦ h
        ]

-- a period start, at any clock, leaves the counts balanced
pub tidy_restart : (period start clock last clients : ℕ) (ws : List Request) (cs : List Counts)
    → Tidy clock last clients ws cs → Tidy clock last clients ws (counts_after period start ws cs)
tidy_restart period start clock last clients ws cs t = go (is_period_start period start)
  where
    same_length : length (map_from (restarted ws) 0 cs) ≡ length cs
    same_length = length_map_from (restarted ws) 0 cs

    go : (x : Bool) → Tidy clock last clients ws (cond x (map_from (restarted ws) 0 cs) cs)
    go true =
        record {
          ordered = t.ordered;
          ahead = t.ahead;
          given = t.given;
          owned = t.owned;
          counted = same_length ∙ t.counted;
          balanced =
              λ c h. let l : c < length cs = omega (arith, same_length) in
              rw (get_d_map_from (restarted ws) cs c zero_counts zero_counts l) (omega arith, omega (arith, t.balanced c l));
        }
    go false = t

-- the room from the next slot on, with what the slot at the clock can take
room_later : (head : Head) (D : ℕ) → head.clock < D
    → capacity_of head.setup head.clock + room head.setup (suc head.clock) D ≡ room head.setup head.clock D
room_later head D g =
    omega (
      arith,
      room_split head.setup head.clock (suc head.clock) D (omega arith) g,
      room_step head.setup head.clock,
    )

-- the first waiting request served in the slot at the clock, which is open, there is room for the others from the next slot on
pub feasible_later : (head : Head) (w : Request) (ws : List Request) → capacity_of head.setup head.clock ≡ 1 → InOrder (w ∷ ws)
    → Feasible head (w ∷ ws) → FeasibleAt head (suc head.clock) ws
feasible_later head w ws one o f D =
    elim (order w.deadline D) [
      | le h ↦
          elim (order D head.clock) [
            | le g ↦ absurd (omega (arith, f D, due_by_cons D w ws, due_yes D w h, room_back head.setup head.clock D g))
            | gt g ↦ omega (arith, f D, due_by_cons D w ws, due_yes D w h, room_later head D g, one)
          ]
      | gt h ↦
          omega (
            arith,
            due_by_none D ws
                (all_imp (Before w) (λ (v : Request). D < v.deadline) ws (λ v b. omega (arith, before_deadline w v b)) o.0),
          )
    ]

-- a closed slot has no room, so that there is as much for all from the next slot on
pub feasible_closed : (head : Head) (ws : List Request) → capacity_of head.setup head.clock ≡ 0 → Feasible head ws
    → FeasibleAt head (suc head.clock) ws
feasible_closed head ws none f D =
    elim (order D head.clock) [
      | le g ↦ omega (arith, f D, room_back head.setup head.clock D g)
      | gt g ↦ omega (arith, f D, room_later head D g, none)
    ]

later_ready : (ws : List Request) (cs : List Counts) (s : State) → TickReady s → length ws ≤ length s.waiting_table
    → Tidy s.head.clock s.head.last s.head.setup.clients ws cs
    → FeasibleAt s.head (suc s.head.clock) ws → Ready (one_later ws cs s)
later_ready ws cs s r n t f =
    let clock = suc s.head.clock in
    next_ready clock s.head.last ws (counts_after s.head.setup.period clock ws cs) s r.ready
    (omega (arith, r.ready.sound.headed.clock, r.ticking)) r.ready.sound.headed.last n
    (tidy_restart s.head.setup.period clock clock s.head.last s.head.setup.clients ws cs
    (tidy_later s.head s.head.clock s.head.last s.head.setup.clients ws cs f t)) f

pub tick_keeps : (s : State) → TickReady s → Ready (tick_accepted (waiting s) s).after
unfolding tick_accepted remove_at
tick_keeps s r =
    go (value (is_open s.head.setup s.head.clock)) (waiting s)
    (omega (arith, waiting_length s r.ready.shape, r.ready.shape.waits)) (tidy s r.ready) r.ready.sound.feasible
  where
    slot : Bool
    slot = is_open s.head.setup s.head.clock

    go : Value slot → (ws : List Request) → length ws ≤ length s.waiting_table
        → Tidy s.head.clock s.head.last s.head.setup.clients ws (client_table s) → Feasible s.head ws
        → Ready (cond slot (tick_open ws s) (tick_closed ws s)).after
    go (is_true e) [] n t f = rw e (later_ready [] (client_table s) s r n t (λ D. omega (arith, due_by_none D [] tt)))
    go (is_true e) (w ∷ ws) n t f =
        rw e (later_ready ws (change one_more_served w.client (client_table s)) s r (omega arith)
        (tidy_remove one_more_served served_ends 0 s.head.clock s.head.last s.head.setup.clients (w ∷ ws) (client_table s)
        (omega arith) t)
        (feasible_later s.head w ws (capacity_open s.head.setup s.head.clock e) t.ordered f))
    go (is_false e) ws n t f =
        rw e (later_ready ws (client_table s) s r n t
        (feasible_closed s.head ws (capacity_closed s.head.setup s.head.clock e) f))

-- ---- every call
accepted_keeps : (c : Call) (s : State) → first_match (refusals_of c s) ≡ 0 → Ready (accepted_of c s).after
accepted_keeps c s e = by_kind (call_kind c s) e
  where
    by_kind : {c : Call} → CallKind s c → first_match (refusals_of c s) ≡ 0 → Ready (accepted_of c s).after
    by_kind (of_opening setup) e = open_keeps setup s (open_ready setup s e)
    by_kind (of_submit client deadline) e = submit_keeps client deadline s (submit_ready client deadline s e)
    by_kind of_tick e = tick_keeps s (tick_ready s e)
    by_kind (reads_only c r) e = rw r.accepted_is (read_ready r e)

-- ---- tables keep their lengths
abbrev pub SameLengths : State → State → Type 0
SameLengths s t =
    (length t.waiting_table ≡ length s.waiting_table) × (length t.client_numbers ≡ length s.client_numbers)

next_lengths : (clock last : ℕ) (ws : List Request) (cs : List Counts) (s : State) → Shaped s → length ws ≤ length s.waiting_table
    → length cs ≡ length (client_table s) → SameLengths s (next_state clock last ws cs s)
unfolding next_state
next_lengths clock last ws cs s f h e =
    (next_length clock last ws cs s h, omega (arith, length_numbers cs, f.numbers, f.clients))

submit_lengths : (client deadline : ℕ) (s : State) → SubmitReady client deadline s
    → SameLengths s (submit_accepted client deadline s).after
unfolding submit_accepted kept dropped_at
submit_lengths client deadline s r = go (has_no_overfull s.head (with_new client deadline s))
  where
    k : ℕ
    k = victim_place client deadline s

    counted : length (counted_in client s) ≡ length (client_table s)
    counted = length_change one_more_submitted client (client_table s)

    go : (x : Bool) → SameLengths s (cond x (kept client deadline s) (dropped_at k client deadline s)).after
    go true =
        next_lengths s.head.clock (suc s.head.last) (with_new client deadline s) (counted_in client s) s
        r.ready.shape (record_left client deadline s r) counted
    go false =
        next_lengths s.head.clock (suc s.head.last) (remove_at k (with_new client deadline s))
        (change one_more_dropped (request_at k client deadline s).client (counted_in client s)) s
        r.ready.shape (omega (
          arith,
          record_left client deadline s r,
          length_remove k (with_new client deadline s) (victim_place_lem client deadline s r).0,
        ))
        (length_change one_more_dropped (request_at k client deadline s).client (counted_in client s) ∙ counted)

tick_lengths : (s : State) → Ready s → SameLengths s (tick_accepted (waiting s) s).after
unfolding tick_accepted
tick_lengths s r =
    go (is_open s.head.setup s.head.clock) (waiting s) (omega (arith, waiting_length s r.shape, r.shape.waits))
  where
    after : List Request → List Counts → List Counts
    after ws cs = counts_after s.head.setup.period (suc s.head.clock) ws cs

    counted : (ws : List Request) (cs : List Counts) → length (after ws cs) ≡ length cs
    counted ws cs = which (is_period_start s.head.setup.period (suc s.head.clock))
      where
        which : (x : Bool) → length (cond x (map_from (restarted ws) 0 cs) cs) ≡ length cs
        which true = length_map_from (restarted ws) 0 cs
        which false = refl

    go : (x : Bool) (ws : List Request) → length ws ≤ length s.waiting_table
        → SameLengths s (cond x (tick_open ws s) (tick_closed ws s)).after
    go true [] h =
        next_lengths (suc s.head.clock) s.head.last [] (after [] (client_table s)) s r.shape h (counted [] (client_table s))
    go true (w ∷ ws) h =
        let cs = change one_more_served w.client (client_table s) in
        next_lengths (suc s.head.clock) s.head.last ws (after ws cs) s r.shape (omega arith)
        (counted ws cs ∙ length_change one_more_served w.client (client_table s))
    go false ws h =
        next_lengths (suc s.head.clock) s.head.last ws (after ws (client_table s)) s r.shape h (counted ws (client_table s))

open_lengths : (setup : Setup) (s : State) → OpenReady setup s → SameLengths s (open_accepted setup s).after
unfolding open_accepted
open_lengths setup s r =
    let none = replicate (length (client_table s)) zero_counts in (
      length-replicate (length s.waiting_table) zero_request,
      omega (
        arith,
        length_numbers none,
        length-replicate (length (client_table s)) zero_counts,
        r.lengths.numbers_length,
        r.lengths.clients_length,
      ),
    )

accepted_lengths : (c : Call) (s : State) → first_match (refusals_of c s) ≡ 0 → SameLengths s (accepted_of c s).after
accepted_lengths c s e = by_kind (call_kind c s) e
  where
    by_kind : {c : Call} → CallKind s c → first_match (refusals_of c s) ≡ 0 → SameLengths s (accepted_of c s).after
    by_kind (of_opening setup) e = open_lengths setup s (open_ready setup s e)
    by_kind (of_submit client deadline) e = submit_lengths client deadline s (submit_ready client deadline s e)
    by_kind of_tick e = tick_lengths s (tick_ready s e).ready
    by_kind (reads_only c r) e = rw r.accepted_is (refl, refl)

-- of every call, refused ones too
pub same_lengths : (c : Call) (s : State) → SameLengths s (outcome_of c s).after
same_lengths c s = go (outcome_decided c s)
  where
    go : {o : Outcome} → Decided (refusals_of c s) s (accepted_of c s) o → SameLengths s o.after
    go (accepts e) = accepted_lengths c s e
    go (refuses n) = (refl, refl)

-- "Every accepted call leaves sound tables.", as facts
pub keeps : (c : Call) (s : State) → is_refused (outcome_of c s).answers ≡ false → Ready (outcome_of c s).after
keeps c s h = rw (accepted_same c s h) (accepted_keeps c s (accepted_none c s h))
