-- The plan that the queue has in mind: each request that was served in the slot that served it, and each that waits at its place on
-- the chart. Places are numbered through all the slots, `heads s` of them in the slot s. Assumes nothing.
use Prim.Native.Nat.{ℕ, zero, suc, ◌-◌, min}
use mathlib.Core.Bool.{cond}
use mathlib.Core.List.{List, [], ◌∷◌, ◌++◌}
use lib.Dec.{leb, eqb}
use lib.ListN.{length}
use Rattle.slots.specs.Plan.{Slot, none, at}
use Rattle.slots.proofs.Queue.{opens, Entry, Booking, Queue}

-- the slot of the place x, one of those before D
abbrev pub slot_of : (ℕ → ℕ) → ℕ → ℕ → ℕ
slot_of heads zero x = 0
slot_of heads (suc D) x = cond (leb (opens heads D) x) D (slot_of heads D x)

-- where a request with the deadline D ends: there, or where the one behind it starts
abbrev pub ends : (ℕ → ℕ) → ℕ → List Entry → ℕ
ends heads D [] = opens heads D
ends heads D (w ∷ ws) = min (opens heads D) (ends heads w.deadline ws - 1)

abbrev pub place : (ℕ → ℕ) → Entry → List Entry → ℕ
place heads w ws = ends heads w.deadline ws - 1

abbrev pub chart : (ℕ → ℕ) → List Entry → List Booking
chart heads [] = []
chart heads (w ∷ ws) = record { number = w.number; slot = slot_of heads w.deadline (place heads w ws) } ∷ chart heads ws

-- ---- a plan from bookings: the first booking of a number counts
abbrev pub lookup : ℕ → List Booking → Slot
lookup i [] = none
lookup i (b ∷ bs) = cond (eqb i b.number) (at b.slot) (lookup i bs)

-- the plan for the numbers n, n - 1, .. 1
abbrev pub book : ℕ → List Booking → List Slot
book zero bs = []
book (suc n) bs = lookup (suc n) bs ∷ book n bs

abbrev pub plan : (ℕ → ℕ) → Queue → List Slot
plan heads q = book (length q.asked) (q.log ++ chart heads q.waiting)
