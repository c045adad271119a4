-- The results, for every `heads`, as the specification has room and plans: what the steps need, the queue's own plan is a largest
-- one where none was withdrawn, and requests released at one time can all finish just where there is room for them. Assumes
-- nothing.
use Prim.Native.Nat.{ℕ, suc, ◌+◌, ◌-◌, ◌≤◌, ◌<◌, min}
use mathlib.Core.Path.{◌≡◌, refl}
use mathlib.Core.List.{List, map}
use native.Mathlib.Omega.{arith}
use lib.ListN.{length, length-append}
use Rattle.slots.proofs.Room.{room, room_back, fits_opens, opens_fits, over_opens}
use Rattle.slots.specs.Plan.{since, Slot, at, is_at, Plan, planned, size}
use Rattle.slots.proofs.Laws.Tests.{le, gt, order}
use Rattle.slots.proofs.Laws.Sums.{all_imp, total, total_one}
use Rattle.slots.proofs.Queue.{Entry, Booking, Queue, arrival, asking, Joined, Swapped}
use Rattle.slots.proofs.Laws.Count.{size_total, uses_total, below_mono}
use Rattle.slots.proofs.Laws.Sorted.{Sorted, due_by, due, upto}
use Rattle.slots.proofs.Upper.{upper}
use Rattle.slots.proofs.Reached.Chart.{chart, plan}
use Rattle.slots.proofs.Reached.Book.{book_total, Good, book_fits}
use Rattle.slots.proofs.Reached.Seat.{slotted, chart_length}
use Rattle.slots.proofs.Both.{Both, both_kept, both_dropped, bookings, BookedWell, sound_all, known_all, once_all, heads_all}
use Rattle.slots.proofs.Reached.Placing.{none_before, due_below, placed_feasible, feasible_placed, chart_size}

module _ (heads : ℕ → ℕ) where
  -- ---- the steps, in rooms
  pub room_kept : (d : ℕ) (q : Queue) (vs : List Entry) → q.clock < d → Joined (arrival d q) q.waiting vs → Sorted 0 vs
      → ((D : ℕ) → q.clock ≤ D → upto D vs ≤ room heads q.clock D) → Both heads q → Both heads (asking d vs q)
  room_kept d q vs late J s f B = both_kept heads d q vs late J s (λ D h. fits_opens heads (upto D vs) q.clock D h (f D h)) B

  pub room_dropped : (d : ℕ) (q : Queue) (victim : Entry) (vs : List Entry) (full : ℕ) → q.clock < d
      → Swapped (arrival d q) victim q.waiting vs → Sorted 0 vs → victim.deadline ≤ full
      → room heads q.clock full < due full (arrival d q) + upto full q.waiting
      → ((D : ℕ) → q.clock ≤ D → D < full → due D (arrival d q) + upto D q.waiting ≤ room heads q.clock D)
      → Both heads q → Both heads (asking d vs q)
  room_dropped d q victim vs full late S s picked over under B =
      both_dropped heads d q victim vs full late S s picked
      (over_opens heads (due full (arrival d q) + upto full q.waiting) q.clock full over)
      (λ D h g. fits_opens heads (due D (arrival d q) + upto D q.waiting) q.clock D h (under D h g)) B

  module _ (q : Queue) (B : Both heads q) where
    -- ---- how many requests a plan has
    -- no plan has more than were served, were withdrawn and wait, and the queue's own has as many as were served and wait: it is
    -- a largest one where none was withdrawn, and no call withdraws yet
    pub largest : (P : List Slot) → Plan heads q.asked P → size P ≤ length q.log + q.withdrawn + length q.waiting
    largest = upper heads q B.inv

    own_plan_lem : Plan heads q.asked (plan heads q)
    own_plan_lem =
        record {
          fits =
              book_fits q.asked (bookings heads q)
              (all_imp (BookedWell heads q) (Good q.asked) (bookings heads q) (λ b h. h.0) (sound_all heads q B));
          shared =
              λ x.
              omega (
                arith,
                uses_total x (plan heads q),
                book_total (is_at x) refl (length q.asked) (bookings heads q) (once_all heads q B) (known_all heads q B),
                heads_all heads q B x,
              );
        }

    own_size : size (plan heads q) ≡ length q.log + length q.waiting
    own_size =
        omega (
          arith,
          size_total (plan heads q),
          book_total planned refl (length q.asked) (bookings heads q) (once_all heads q B) (known_all heads q B),
          total_one (λ (b : Booking). planned (at b.slot)) (bookings heads q) (λ b. refl),
          length-append q.log (chart heads q.waiting),
          chart_length heads q.waiting,
        )

    pub reached : Plan heads q.asked (plan heads q) × (size (plan heads q) ≡ length q.log + length q.waiting)
    reached = (own_plan_lem, own_size)

  -- ---- requests that are all released at t
  -- where all can be placed, those due by D are no more than the room up to D
  pub placing_room : (t : ℕ) (ds : List ℕ) (P : List Slot) → Plan heads (map (since t) ds) P → size P ≡ length ds
      → (D : ℕ) → total (λ (d : ℕ). min 1 (suc D - d)) ds ≤ room heads t D
  placing_room t ds P p e D =
      elim (order t D) [
        | le h ↦ opens_fits heads (total (due_by D) ds) t D (placed_feasible heads t ds P p e D h)
        | gt h ↦ omega (
          arith,
          due_below t D ds P p.fits,
          none_before t ds P p.fits,
          below_mono D t P (omega arith),
          room_back heads t D (omega arith),
        )
      ]

  -- and where there is room, the chart places all
  pub room_placing : (t : ℕ) (ws : List Entry) → Sorted 0 ws → ((D : ℕ) → upto D ws ≤ room heads t D)
      → Plan heads (map (since t) (map (λ (w : Entry). w.deadline) ws)) (map slotted (chart heads ws))
      × (size (map slotted (chart heads ws)) ≡ length ws)
  room_placing t ws s f =
      (feasible_placed heads t ws s (λ D h. fits_opens heads (upto D ws) t D h (f D)), chart_size heads ws)
