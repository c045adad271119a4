-- What every step keeps, and what follows of the log and the chart together: each request has at most one booking, in a slot that
-- it can have, and no slot has more than it can take. Assumes nothing.
use Prim.Native.Nat.{ℕ, suc, ◌+◌, ◌≤◌, ◌<◌}
use mathlib.Core.Path.{◌≡◌}
use mathlib.Core.List.{List, ◌++◌}
use native.Mathlib.Omega.{arith}
use lib.ListN.{length}
use Rattle.slots.proofs.Laws.Tests.{le, gt, order}
use Rattle.slots.proofs.Laws.Sums.{All, all_imp, all_append, total, total_append}
use Rattle.slots.proofs.Queue.{opens, Entry, Booking, Queue, empty, arrival, asking, ticked, Joined, Swapped, Taken}
use Rattle.slots.proofs.Queue.{withdrawing}
use Rattle.slots.proofs.Laws.Sorted.{Sorted, due, upto}
use Rattle.slots.proofs.Upper.{Inv, inv_empty, inv_kept, inv_dropped, inv_ticked, inv_withdrawn}
use Rattle.slots.proofs.Reached.Chart.{chart}
use Rattle.slots.proofs.Reached.Book.{who, IsNumber, Good}
use Rattle.slots.proofs.Reached.Seat.{sits, chart_who, seated, rank_heads, rank_none}
use Rattle.slots.proofs.Reached.Own.{Served, Waits, Own, own_empty, own_kept, own_dropped, own_ticked, own_withdrawn}
use Rattle.slots.proofs.Reached.Own.{log_none, none_due, roomy}

module _ (heads : ℕ → ℕ) where
  pub record Both (q : Queue) : Type 0 where
    pub inv : Inv heads q
    pub own : Own heads q

  pub both_empty : Both empty
  both_empty = record { inv = inv_empty heads; own = own_empty heads }

  -- a request with the deadline d is kept, and vs waits
  pub both_kept : (d : ℕ) (q : Queue) (vs : List Entry) → q.clock < d → Joined (arrival d q) q.waiting vs → Sorted 0 vs
      → ((D : ℕ) → q.clock ≤ D → upto D vs + opens heads q.clock ≤ opens heads D)
      → Both q → Both (asking d vs q)
  both_kept d q vs late J s f B =
      record { inv = inv_kept heads d q vs late s B.inv J f; own = own_kept heads d q vs B.own J }

  -- a request with the deadline d comes, the victim goes, and vs waits: full is the smallest deadline that is overfull with the new one
  pub both_dropped : (d : ℕ) (q : Queue) (victim : Entry) (vs : List Entry) (full : ℕ) → q.clock < d
      → Swapped (arrival d q) victim q.waiting vs → Sorted 0 vs → victim.deadline ≤ full
      → opens heads full < due full (arrival d q) + upto full q.waiting + opens heads q.clock
      → ((D : ℕ) → q.clock ≤ D → D < full → due D (arrival d q) + upto D q.waiting + opens heads q.clock ≤ opens heads D)
      → Both q → Both (asking d vs q)
  both_dropped d q victim vs full late S s picked over under B =
      record {
        inv = inv_dropped heads d q vs late s B.inv victim full S picked over under;
        own = own_dropped heads d q vs B.own victim S;
      }

  pub both_ticked : (q : Queue) → Both q → Both (ticked heads q)
  both_ticked q B = record { inv = inv_ticked heads q B.inv; own = own_ticked heads q (none_due heads q B.inv) B.own }

  -- e is withdrawn, and vs waits: no call withdraws yet, and one that does will follow this step
  pub both_withdrawn : (e : Entry) (q : Queue) (vs : List Entry) → Taken e q.waiting vs → Sorted 0 vs → Both q
      → Both (withdrawing vs q)
  both_withdrawn e q vs T s B =
      record { inv = inv_withdrawn heads e q vs T s B.inv; own = own_withdrawn heads e q vs T B.own }

  -- ---- the log and the chart together
  abbrev pub bookings : Queue → List Booking
  bookings q = q.log ++ chart heads q.waiting

  -- a booking of a request that was asked, in a slot that it can have
  abbrev pub BookedWell : Queue → Booking → Type 0
  BookedWell q b = Good q.asked b × IsNumber (length q.asked) b.number

  module _ (q : Queue) (B : Both q) where
    pub sound_all : All (BookedWell q) (bookings q)
    sound_all =
        all_append (BookedWell q) q.log (chart heads q.waiting)
        (all_imp (Served q.clock q.asked) (BookedWell q) q.log (λ b h. (h.good, h.known)) B.own.served)
        (seated heads q.clock (Waits q.clock q.asked) (BookedWell q)
        (λ w x h l u. ((omega (arith, h.released), omega (arith, h.limit)), h.known))
        0 (suc q.clock) q.waiting (none_due heads q B.inv) (roomy heads q B.inv) B.own.waits)

    pub known_all : All (λ (b : Booking). IsNumber (length q.asked) b.number) (bookings q)
    known_all = all_imp (BookedWell q) (λ (b : Booking). IsNumber (length q.asked) b.number) (bookings q) (λ b h. h.1) sound_all

    -- each number is booked at most once
    pub once_all : (i : ℕ) → total (who i) (bookings q) ≤ 1
    once_all i =
        omega (arith, total_append (who i) q.log (chart heads q.waiting), chart_who heads i q.waiting, B.own.once i)

    -- each slot is booked at most as often as it can be taken
    pub heads_all : (x : ℕ) → total (sits x) (bookings q) ≤ heads x
    heads_all x =
        elim (order q.clock x) [
          | le h ↦ omega (
            arith,
            sum,
            log_none x q.clock q.asked q.log B.own.served h,
            rank_heads heads q.clock x lo ws s f,
          )
          | gt h ↦ omega (arith, sum, B.own.spread x, rank_none heads q.clock x lo ws s f h)
        ]
      where
        ws : List Entry
        ws = q.waiting

        lo : ℕ
        lo = suc q.clock

        s : Sorted lo ws
        s = none_due heads q B.inv

        f : (x : ℕ) → lo ≤ x → 0 + upto x ws + opens heads q.clock ≤ opens heads x
        f = roomy heads q B.inv

        sum : total (sits x) (bookings q) ≡ total (sits x) q.log + total (sits x) (chart heads ws)
        sum = total_append (sits x) q.log (chart heads ws)
