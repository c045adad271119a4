-- An accepted submit and an accepted tick, said by plans and not by overfull deadlines: what demand 2 rests on. Document 01, "Calls"
-- and "Chart and victim". Assumes nothing.
use Prim.Native.Nat.{ℕ, suc, ◌+◌, ◌≤◌, ◌<◌}
use mathlib.Core.Path.{◌≡◌, sym, ap, ◌∙◌, subst}
use mathlib.Core.Logic.{◌↔◌}
use mathlib.Core.Bool.{true}
use mathlib.Core.List.{List, map, map-map}
use native.Mathlib.Omega.{arith}
use lib.ListN.{length, get_or, length-map}
use Rattle.slots.specs.Plan.{Slot, since, Plan, size, CanAllFinish}
use Rattle.slots.proofs.Laws.Tests.{le, gt, order}
use Rattle.slots.proofs.Laws.Sums.{All, all_imp, total}
use Rattle.slots.proofs.Laws.Sorted.{due_by as deadline_due, upto, upto_deadlines}
use Rattle.slots.proofs.Queue.{Entry}
use Rattle.slots.proofs.Reached.Seat.{slotted}
use Rattle.slots.proofs.Reached.Chart.{chart}
use Rattle.slots.proofs.Room.{room as room_of}
use Rattle.slots.proofs.Largest.{placing_room, room_placing}
use Rattle.spec.specs.declared.types.Head.{Head}
use Rattle.spec.specs.declared.types.Request.{Request}
use Rattle.spec.specs.Tables.{zero_request, State, waiting, deadlines_of}
use Rattle.spec.specs.Order.{place_of, remove_at}
use Rattle.spec.specs.Chart.{room_to, due_by, has_no_overfull, is_candidate}
use Rattle.spec.specs.Hours.{capacity_of}
use Rattle.spec.specs.Calls.Submit.{new_request, new_shift, with_new, kept, dropped_at, victim_place, submit_accepted}
use Rattle.spec.proofs.Demands.Words.{CanFinish}
use Rattle.spec.proofs.Laws.Room.{room_capacity}
use Rattle.spec.proofs.Laws.Every.{is_true, is_false, value, cond_true, cond_false}
use Rattle.spec.proofs.Laws.Order.{InOrder, order_remove, order_put, place_and_shift}
use Rattle.spec.proofs.Laws.Feasible.{FeasibleAt, due_yes, due_no, due_most, due_by_put, due_by_remove, Feasible}
use Rattle.spec.proofs.Laws.Feasible.{feasible_facts, feasible_test}
use Rattle.spec.proofs.Laws.Entries.{entry_of, upto_entries, sorted_entries}
use Rattle.spec.proofs.Laws.Sound.{Given}
use Rattle.spec.proofs.Laws.Accepted.{SubmitReady, waiting_length}
use Rattle.spec.proofs.Calls.Victim.{victim_place_lem}

-- ---- all can finish just where there is room for all that are due by any D
-- the deadlines of the entries are those of the requests
entry_deadlines : (ws : List Request) → map (λ (e : Entry). e.deadline) (map entry_of ws) ≡ deadlines_of ws
entry_deadlines ws = map-map (λ (e : Entry). e.deadline) entry_of ws

due_deadlines : (D : ℕ) (ws : List Request) → due_by D ws ≡ total (deadline_due D) (deadlines_of ws)
due_deadlines D ws =
    sym (upto_entries D ws) ∙ upto_deadlines D (map entry_of ws) ∙ ap (total (deadline_due D)) (entry_deadlines ws)

-- from a slot t on
pub finish_feasible_at : (head : Head) (t : ℕ) (ws : List Request) → CanAllFinish (capacity_of head.setup) t (deadlines_of ws)
    → FeasibleAt head t ws
finish_feasible_at head t ws f D =
    omega (
      arith,
      due_deadlines D ws,
      room_capacity head.setup t D,
      placing_room (capacity_of head.setup) t (deadlines_of ws) f.0 f.1 f.2 D,
    )

pub finish_feasible : (head : Head) (ws : List Request) → CanFinish head ws → Feasible head ws
finish_feasible head ws f = finish_feasible_at head head.clock ws f

pub feasible_finish : (head : Head) (ws : List Request) → InOrder ws → Feasible head ws → CanFinish head ws
feasible_finish head ws o f = (
  slots,
  subst (λ (ds : List ℕ). Plan (capacity_of head.setup) (map (since head.clock) ds) slots) (entry_deadlines ws) placed.0,
  omega (arith, placed.1, length-map ws entry_of, length-map ws (λ (w : Request). w.deadline)),
)
  where
    es : List Entry
    es = map entry_of ws

    slots : List Slot
    slots = map slotted (chart (capacity_of head.setup) es)

    fits : (D : ℕ) → upto D es ≤ room_of (capacity_of head.setup) head.clock D
    fits D = omega (arith, upto_entries D ws, room_capacity head.setup head.clock D, f D)

    placed : Plan (capacity_of head.setup) (map (since head.clock) (map (λ (e : Entry). e.deadline) es)) slots
        × (size slots ≡ length es)
    placed = room_placing (capacity_of head.setup) head.clock es (sorted_entries ws o) fits

-- a place is a candidate's just where the others can finish
pub candidate_finish : (head : Head) (ws : List Request) (k : ℕ) → InOrder ws
    → is_candidate head ws k ≡ true → CanFinish head (remove_at k ws)
unfolding is_candidate
candidate_finish head ws k o e =
    feasible_finish head (remove_at k ws) (order_remove k ws o) (feasible_facts head (remove_at k ws) e)

pub finish_candidate : (head : Head) (ws : List Request) (k : ℕ)
    → CanFinish head (remove_at k ws) → is_candidate head ws k ≡ true
unfolding is_candidate
finish_candidate head ws k f = feasible_test head (remove_at k ws) (finish_feasible head (remove_at k ws) f)

-- ---- an accepted submit
module _ (client deadline : ℕ) (s : State) (r : SubmitReady client deadline s) where
  abbrev head : Head
  head = s.head

  abbrev all : List Request
  all = with_new client deadline s

  -- the new request has a larger number than those that wait
  pub new_largest : All (λ (w : Request). w.number < suc s.head.last) (waiting s)
  new_largest =
      all_imp (Given s.head.last) (λ (w : Request). w.number < suc s.head.last) (waiting s)
      (λ w g. omega arith) r.ready.sound.given

  -- the waiting requests and the new one stand in order
  pub new_ordered : InOrder all
  new_ordered = order_put (new_request client deadline s) (waiting s) new_largest r.ready.sound.ordered

  -- those that wait stand before the new one or behind it
  pub new_place_and_shift : place_of (new_request client deadline s) (waiting s) + new_shift client deadline s ≡ s.head.waiting
  new_place_and_shift =
      omega (
        arith,
        place_and_shift (new_request client deadline s) (waiting s) new_largest r.ready.sound.ordered,
        waiting_length s r.ready.shape,
      )

  pub finish_kept : CanFinish head all → submit_accepted client deadline s ≡ kept client deadline s
  unfolding submit_accepted
  finish_kept f =
      cond_true (has_no_overfull head all) (kept client deadline s) (dropped_at (victim_place client deadline s) client deadline s)
      (feasible_test head all (finish_feasible head all f))

  pub unfinished_dropped : (CanFinish head all → ⊥)
      → submit_accepted client deadline s ≡ dropped_at (victim_place client deadline s) client deadline s
  unfolding submit_accepted
  unfinished_dropped f =
      cond_false (has_no_overfull head all) (kept client deadline s) (dropped_at (victim_place client deadline s) client deadline s)
      (elim (value (has_no_overfull head all)) [
        | is_true e ↦ absurd (f (feasible_finish head all new_ordered (feasible_facts head all e)))
        | is_false e ↦ e
      ])

  pub victim_helps : CanFinish head (remove_at (victim_place client deadline s) all)
  victim_helps =
      candidate_finish head all (victim_place client deadline s) new_ordered (victim_place_lem client deadline s r).1

  -- the waiting ones have room, so with the new one there is at most one too many
  spare : (D : ℕ) → due_by D all ≤ suc (room_to head D)
  spare D =
      omega (
        arith,
        due_by_put D (new_request client deadline s) (waiting s),
        due_most D (new_request client deadline s),
        r.ready.sound.feasible D,
      )

  -- where D is the smallest overfull deadline, those with deadlines up to it help
  pub helps_exactly : (D : ℕ) → room_to head D < due_by D all → ((x : ℕ) → x < D → due_by x all ≤ room_to head x) → (j : ℕ)
      → j < length all → CanFinish head (remove_at j all) ↔ ((get_or all j zero_request).deadline ≤ D)
  helps_exactly D h g j i = (early, late)
    where
      w : Request
      w = get_or all j zero_request

      early : CanFinish head (remove_at j all) → w.deadline ≤ D
      early f =
          elim (order w.deadline D) [
            | le k ↦ k
            | gt k ↦ absurd (omega (
              arith,
              due_by_remove D j zero_request all i,
              due_no D w k,
              finish_feasible head (remove_at j all) f D,
            ))
          ]

      late : w.deadline ≤ D → CanFinish head (remove_at j all)
      late k =
          feasible_finish head (remove_at j all) (order_remove j all new_ordered)
          (λ x. elim (order D x) [
            | le m ↦ omega (arith, due_by_remove x j zero_request all i, due_yes x w (omega arith), spare x)
            | gt m ↦ omega (arith, due_by_remove x j zero_request all i, g x m)
          ])
