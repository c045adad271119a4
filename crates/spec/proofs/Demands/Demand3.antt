-- Demand 3, of the definitions: "For every list of calls from open on, served plus waiting is as many as the largest plan has, even
-- one made by somebody who knew the whole list beforehand." Statements, each under its sentence of "Lists and plans"; the proofs stand
-- in Lists/, and why they hold in crate slots. Assumes nothing.
use Prim.Native.Nat.{ℕ, ◌+◌, ◌≤◌}
use mathlib.Core.Path.{◌≡◌, sym, ap, ◌∙◌, subst}
use mathlib.Core.Logic.{◌↔◌}
use mathlib.Core.Bool.{true, false}
use mathlib.Core.List.{List, [], map}
use native.Mathlib.Omega.{arith}
use borrow.Author.Tests.{ltb-true, lt-ltb}
use lib.ListN.{length, get_or}
use Rattle.slots.specs.Plan.{Window, Fits, Slot, none, at, Plan, size}
use Rattle.slots.proofs.Laws.Sums.{All, total}
use Rattle.slots.proofs.Single.{Distinct, usable, distinct, distinct_plan}
use Rattle.slots.proofs.Largest.{largest, reached}
use Rattle.spec.specs.declared.types.Setup.{Setup}
use Rattle.spec.specs.declared.types.Request.{Request}
use Rattle.spec.specs.Every.{exists}
use Rattle.spec.specs.Tables.{State, waiting}
use Rattle.spec.specs.Hours.{capacity_of, is_open}
use Rattle.spec.specs.Calls.Readings.{is_refused, Booking}
use Rattle.spec.specs.Calls.Outcomes.{Outcome}
use Rattle.spec.specs.Calls.{Call, opening, outcome_of}
use Rattle.spec.specs.Lists.{asked, run, Event, history, WithRefused, is_opened, ticks, bookings, served_requests}
use Rattle.spec.specs.Lists.{waiting_requests, windows, slot_for, own_bookings, own_plan}
use Rattle.spec.proofs.Demands.Words.{Numbered}
use Rattle.spec.proofs.Laws.Room.{capacity_most}
use Rattle.spec.proofs.Laws.Accepted.{waiting_length}
use Rattle.spec.proofs.Lists.Trace.{Traced, traced_open, waiting_as_many, served_as_many, along, accepted_open}
use Rattle.spec.proofs.Lists.Largest.{Follows, queue_of, follows_open, follows_step, own_plan_lem, as_many_both, slots_booked}
use Rattle.spec.proofs.Lists.Passing.{WithPassing, refused_pass, none_opened, same_ticks, same_asked, same_bookings}
use Rattle.spec.proofs.Lists.Passing.{same_served, same_waiting, same_plan}

-- "no slot to two of them", and document 02, 2.2: "A plan, likewise, may use open slots only.": with what a slot can take now, a plan is
-- just an entry for each request that fits and shares no slot, and every slot of it is open
pub plans_are : (setup : Setup) (R : List Window) (P : List Slot)
    → Plan (capacity_of setup) R P ↔ (Fits R P × Distinct P × ((i s : ℕ) → get_or P i none ≡ at s → is_open setup s ≡ true))
plans_are setup R P = (to, from)
  where
    heads : ℕ → ℕ
    heads = capacity_of setup

    to : Plan heads R P → Fits R P × Distinct P × ((i s : ℕ) → get_or P i none ≡ at s → is_open setup s ≡ true)
    to p = (p.fits, distinct heads (capacity_most setup) R P p, (λ i s e. lt-ltb 0 (heads s) (usable heads R P p i s e)))

    from : Fits R P × Distinct P × ((i s : ℕ) → get_or P i none ≡ at s → is_open setup s ≡ true) → Plan heads R P
    from d = distinct_plan heads R P d.0 d.1 (λ i s e. ltb-true 0 (heads s) (d.2 i s e))

-- what holds after a list of calls, of its calls and answers and the state that it leaves
pub record Largest (es : List Event) (s : State) : Type 0 where
  -- "The clock at a submission is the number of ticks before it in the list that were not refused": the head's clock is theirs
  pub clock : s.head.clock ≡ ticks es
  -- "It gives the next request number": the list's requests are numbered from 1 on, the newest first here, and the head has the last
  pub last : s.head.last ≡ length (asked es)
  pub numbered : Numbered (asked es)
  -- "Waiting are the list's requests that no answer in it names as victim or as served.": the waiting records are just these, since
  -- whatever is summed up over both is the same
  pub held : (f : Request → ℕ) → total f (map (λ a. a.request) (waiting_requests es)) ≡ total f (waiting s)
  -- "The waiting count in the head after the list is their number."
  pub counted : s.head.waiting ≡ length (waiting_requests es)
  -- "Served since open are the requests that the answers to the list's ticks name as served.": each answer names another
  pub served_once : length (served_requests es) ≡ length (bookings es)
  -- a plan with that many requests: the served ones in their slots and the waiting ones at the start slots that chart writes
  pub reached : Plan (capacity_of s.head.setup) (windows es) (own_plan es s)
  pub as_many : size (own_plan es s) ≡ length (served_requests es) + length (waiting_requests es)
  -- and for each of these the plan has the slot of its booking
  pub in_place : All (λ (b : Booking). slot_for (own_bookings es s) b.number ≡ at b.slot) (own_bookings es s)
  -- ".. and is not bound by what the queue served or dropped.": no plan of the list's requests has more
  pub largest : (P : List Slot) → Plan (capacity_of s.head.setup) (windows es) P
      → size P ≤ length (served_requests es) + length (waiting_requests es)

largest_of : (es : List Event) (s : State) → Traced es s → Follows es s → Largest es s
largest_of es s T B =
    let heads = capacity_of s.head.setup in
    record {
      clock = T.clock;
      last = T.last;
      numbered = T.numbered;
      held = T.sums;
      counted = omega (arith, waiting_length s T.ready.shape, waiting_as_many es s T);
      served_once = served_as_many es s T;
      reached = subst (Plan heads (windows es)) (own_plan_lem es s T) (reached heads (queue_of es s) B).0;
      as_many = ap size (sym (own_plan_lem es s T)) ∙ (reached heads (queue_of es s) B).1 ∙ as_many_both es s T B;
      in_place = slots_booked es s T B;
      largest = λ P p. omega (arith, largest heads (queue_of es s) B P p, as_many_both es s T B);
    }

-- of a list whose calls are all lent the queue's tables
largest_calls : (setup : Setup) (s : State) (cs : List Call) → is_refused (outcome_of (opening setup) s).answers ≡ false
    → exists is_opened (history (outcome_of (opening setup) s).after cs) ≡ false
    → Largest (history (outcome_of (opening setup) s).after cs) (run (outcome_of (opening setup) s).after cs)
largest_calls setup s cs a h =
    let b = along Follows follows_step (outcome_of (opening setup) s).after cs h
    (accepted_open (λ (o : Outcome). Traced [] o.after) setup s a (traced_open setup s))
    (accepted_open (λ (o : Outcome). Follows [] o.after) setup s a (λ r. follows_open setup s)) in
    largest_of (history (outcome_of (opening setup) s).after cs) (run (outcome_of (opening setup) s).after cs) b.0 b.1

-- nothing of it depends on events that ask for nothing, serve nothing and drop nothing
largest_same : {es fs : List Event} (s : State) → WithPassing es fs → Largest es s → Largest fs s
largest_same s w L =
    record {
      clock = L.clock ∙ sym (same_ticks w);
      last = L.last ∙ sym (ap length (same_asked w));
      numbered = subst Numbered (sym (same_asked w)) L.numbered;
      held = λ f. rw (same_waiting w) (L.held f);
      counted = rw (same_waiting w) L.counted;
      served_once = rw (same_served w, same_bookings w) L.served_once;
      reached = rw (same_asked w, same_plan w s) L.reached;
      as_many = rw (same_plan w s, same_served w, same_waiting w) L.as_many;
      in_place = rw (same_bookings w) L.in_place;
      largest = λ P p. rw (same_served w, same_waiting w) (L.largest P (rw (same_asked w) at p));
    }

-- a step for `Sessions`, and no statement of the demand
pub largest_passing : (setup : Setup) (s : State) (cs : List Call) (es : List Event)
    → is_refused (outcome_of (opening setup) s).answers ≡ false
    → WithPassing (history (outcome_of (opening setup) s).after cs) es
    → exists is_opened es ≡ false
    → Largest es (run (outcome_of (opening setup) s).after cs)
largest_passing setup s cs es a w h =
    largest_same (run (outcome_of (opening setup) s).after cs) w (largest_calls setup s cs a (none_opened w h))

-- "The list starts from the head and tables that an accepted open left, whatever its arguments and whatever lengths of table it took."
-- Arguments in the list are free, and it may be empty. Refused calls of every kind are in it, whether they were lent the queue's tables
-- or others. "A later accepted open begins another list", so no open in it is accepted
pub largest_plan : (setup : Setup) (s : State) (cs : List Call) (es : List Event)
    → is_refused (outcome_of (opening setup) s).answers ≡ false
    → WithRefused (history (outcome_of (opening setup) s).after cs) es
    → exists is_opened es ≡ false
    → Largest es (run (outcome_of (opening setup) s).after cs)
largest_plan setup s cs es a w h = largest_passing setup s cs es a (refused_pass w) h
