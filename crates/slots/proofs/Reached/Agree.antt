-- Each booking of the log and the chart is what the plan has for its number. Assumes nothing.
use Prim.Native.Nat.{ℕ, ◌≤◌}
use mathlib.Core.Path.{◌≡◌, refl, ◌∙◌}
use mathlib.Core.List.{List, [], ◌∷◌}
use mathlib.Core.Logic.{◌≢◌}
use native.Mathlib.Omega.{arith}
use Rattle.slots.specs.Plan.{at}
use Rattle.slots.proofs.Laws.Sums.{one_yes, All, total}
use Rattle.slots.proofs.Queue.{Booking, Queue}
use Rattle.slots.proofs.Reached.Chart.{lookup}
use Rattle.slots.proofs.Reached.Book.{who, lookup_yes, lookup_no}
use Rattle.slots.proofs.Both.{Both, bookings, once_all}

-- the number's slot is the booking's
abbrev pub Booked : List Booking → Booking → Type 0
Booked bs b = lookup b.number bs ≡ at b.slot

-- a booking of another number in front changes nothing
booked_on : (b : Booking) (cs bs : List Booking) → total (who b.number) bs ≡ 0 → All (Booked cs) bs → All (Booked (b ∷ cs)) bs
unfolding total
booked_on b cs [] h a = tt
booked_on b cs (c ∷ bs) h a = (lookup_no c.number b cs other ∙ a.0, booked_on b cs bs (omega arith) a.1)
  where
    other : c.number ≢ b.number
    other e = omega (arith, one_yes b.number c.number (omega arith))

pub unique_booked : (bs : List Booking) → ((i : ℕ) → total (who i) bs ≤ 1) → All (Booked bs) bs
unfolding total
unique_booked [] u = tt
unique_booked (b ∷ bs) u = (
  lookup_yes b.number b bs refl,
  booked_on b bs bs (omega (arith, u b.number, one_yes b.number b.number refl))
      (unique_booked bs (λ i. omega (arith, u i))),
)

module _ (heads : ℕ → ℕ) (q : Queue) (B : Both heads q) where
  pub as_booked : All (Booked (bookings heads q)) (bookings heads q)
  as_booked = unique_booked (bookings heads q) (once_all heads q B)
