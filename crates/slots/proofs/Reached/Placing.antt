-- Requests that are all released at t can all be placed just where no deadline is overfull. Assumes nothing.
use Prim.Native.Nat.{ℕ, suc, ◌+◌, ◌≤◌}
use mathlib.Core.Path.{◌≡◌, refl}
use mathlib.Core.List.{List, [], ◌∷◌, map}
use native.Mathlib.Omega.{arith}
use lib.ListN.{length}
use Rattle.slots.specs.Plan.{since, Slot, none, at, Fits, is_at, Plan, planned, size}
use Rattle.slots.proofs.Laws.Sums.{total, total_map, total_one}
use Rattle.slots.proofs.Queue.{opens, Entry, Booking}
use Rattle.slots.proofs.Laws.Count.{size_total, uses_total, before, below, pigeon}
use Rattle.slots.proofs.Laws.Sorted.{Sorted, sorted_low, due_by}
use Rattle.slots.proofs.Upper.{Feasible}
use Rattle.slots.proofs.Reached.Chart.{chart}
use Rattle.slots.proofs.Reached.Seat.{slotted, Roomy, chart_length, chart_fits, rank_heads}

-- ---- where all have a slot, those due by D have theirs before D
module _ (t : ℕ) where
  pub none_before : (ds : List ℕ) (P : List Slot) → Fits (map (since t) ds) P → below t P ≡ 0
  unfolding total before
  none_before [] [] f = refl
  none_before [] (p ∷ P) f = absurd f
  none_before (d ∷ ds) [] f = absurd f
  none_before (d ∷ ds) (none ∷ P) f = omega (arith, none_before ds P f)
  none_before (d ∷ ds) (at s ∷ P) f = omega (arith, none_before ds P f.2)

  pub due_below : (D : ℕ) (ds : List ℕ) (P : List Slot) → Fits (map (since t) ds) P
      → total (due_by D) ds + size P ≤ below D P + length ds
  unfolding total before size
  due_below D [] [] f = omega arith
  due_below D [] (p ∷ P) f = absurd f
  due_below D (d ∷ ds) [] f = absurd f
  due_below D (d ∷ ds) (none ∷ P) f = omega (arith, due_below D ds P f)
  due_below D (d ∷ ds) (at s ∷ P) f = omega (arith, due_below D ds P f.2)

module _ (heads : ℕ → ℕ) (t : ℕ) where
  pub placed_feasible : (ds : List ℕ) (P : List Slot) → Plan heads (map (since t) ds) P → size P ≡ length ds
      → (D : ℕ) → t ≤ D → total (due_by D) ds + opens heads t ≤ opens heads D
  placed_feasible ds P p e D h =
      omega (arith, due_below t D ds P p.fits, none_before t ds P p.fits, pigeon heads P p.shared t D h)

  -- ---- where none is overfull, the chart places all
  pub feasible_placed : (ws : List Entry) → Sorted 0 ws → Feasible heads t ws
      → Plan heads (map (since t) (map (λ (w : Entry). w.deadline) ws)) (map slotted (chart heads ws))
  feasible_placed ws s f =
      record {
        fits = chart_fits heads t 0 (suc t) ws low wide;
        shared =
            λ x.
            omega (
              arith,
              uses_total x (map slotted (chart heads ws)),
              total_map (is_at x) slotted (chart heads ws),
              rank_heads heads t x (suc t) ws low wide,
            );
      }
    where
      low : Sorted (suc t) ws
      low = sorted_low t 0 ws s (omega (arith, f t (omega arith)))

      wide : Roomy heads t 0 (suc t) ws
      wide x h = omega (arith, f x (omega arith))

pub chart_size : (heads : ℕ → ℕ) (ws : List Entry) → size (map slotted (chart heads ws)) ≡ length ws
chart_size heads ws =
    omega (
      arith,
      size_total (map slotted (chart heads ws)),
      total_map planned slotted (chart heads ws),
      total_one (λ (b : Booking). planned (slotted b)) (chart heads ws) (λ b. refl),
      chart_length heads ws,
    )
