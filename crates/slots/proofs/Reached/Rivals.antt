-- No list of slots in chart order that ends each request by its deadline, and gives no slot to more than it can take, has a later
-- slot than the chart. Assumes nothing.
use Prim.Native.Nat.{ℕ, suc, ◌+◌, ◌≤◌, ◌<◌}
use mathlib.Core.Path.{◌≡◌, ap}
use mathlib.Core.List.{List, [], ◌∷◌}
use native.Mathlib.Omega.{arith}
use Rattle.slots.proofs.Laws.Tests.{le, gt, order}
use Rattle.slots.proofs.Queue.{opens, Entry}
use Rattle.slots.proofs.Laws.Count.{opens_suc, opens_mono}
use Rattle.slots.proofs.Laws.Sorted.{Sorted}
use Rattle.slots.proofs.Reached.Chart.{slot_of, place}
use Rattle.slots.proofs.Reached.Seat.{Roomy, roomy_next, seat}
use Rattle.slots.proofs.Reached.Words.{taken, taken_here}

-- x is not after the first
abbrev pub First : ℕ → List ℕ → Type 0
First x [] = Unit {0}
First x (y ∷ ys) = x ≤ y

module _ (heads : ℕ → ℕ) where
  -- slots that do not descend, each before its request's deadline, none with more than it can take
  abbrev pub Rival : List Entry → List ℕ → Type 0
  Rival [] [] = Unit {0}
  Rival [] (x ∷ xs) = ⊥
  Rival (w ∷ ws) [] = ⊥
  Rival (w ∷ ws) (x ∷ xs) = (x < w.deadline) × (taken x (x ∷ xs) ≤ heads x) × First x xs × Rival ws xs

  abbrev pub NotLater : List Entry → List ℕ → Type 0
  NotLater [] [] = Unit {0}
  NotLater [] (x ∷ xs) = ⊥
  NotLater (w ∷ ws) [] = ⊥
  NotLater (w ∷ ws) (x ∷ xs) = (x ≤ slot_of heads w.deadline (place heads w ws)) × NotLater ws xs

  module _ (t : ℕ) where
    -- the rival's place is not behind the chart's
    rank : (n lo : ℕ) (w : Entry) (ws : List Entry) (x : ℕ) (xs : List ℕ) → Sorted lo (w ∷ ws) → Roomy heads t n lo (w ∷ ws)
        → Rival (w ∷ ws) (x ∷ xs) → opens heads (suc x) ≤ place heads w ws + suc (taken x xs)
    rank n lo w [] x [] s f r =
        omega (arith, (seat heads t n lo w [] s f).mark, opens_mono heads (suc x) w.deadline r.0)
    rank n lo w [] x (y ∷ ys) s f r = absurd r.3
    rank n lo w (v ∷ vs) x [] s f r = absurd r.3
    rank n lo w (v ∷ vs) x (y ∷ ys) s f r =
        let m = (seat heads t n lo w (v ∷ vs) s f).mark in
        let i = rank (suc n) w.deadline v vs y ys s.1 (roomy_next heads t n lo w (v ∷ vs) s f) r.3 in
        let h = opens_mono heads (suc x) w.deadline r.0 in
        elim (order y x) [
          | le a ↦
              let e : x ≡ y = omega (arith, r.2) in
              omega (arith, m, i, h, ap (λ (z : ℕ). taken z (y ∷ ys)) e, ap (λ (z : ℕ). opens heads (suc z)) e, taken_here y ys)
          | gt a ↦ omega (arith, m, i, h, r.3.1, taken_here y ys, opens_suc heads y, opens_mono heads (suc x) y a)
        ]

    -- so its slot is not later
    pub not_later : (n lo : ℕ) (ws : List Entry) (xs : List ℕ) → Sorted lo ws → Roomy heads t n lo ws → Rival ws xs → NotLater ws xs
    not_later n lo [] [] s f r = tt
    not_later n lo [] (x ∷ xs) s f r = absurd r
    not_later n lo (w ∷ ws) [] s f r = absurd r
    not_later n lo (w ∷ ws) (x ∷ xs) s f r = (
      elim (order x u) [
        | le a ↦ a
        | gt a ↦
            absurd (omega (
              arith,
              rank n lo w ws x xs s f r,
              r.1,
              taken_here x xs,
              opens_suc heads x,
              opens_mono heads (suc u) x a,
              (seat heads t n lo w ws s f).spot.to,
            ))
      ],
      not_later (suc n) w.deadline ws xs s.1 (roomy_next heads t n lo w ws s f) r.3,
    )
      where
        u : ℕ
        u = slot_of heads w.deadline (place heads w ws)
