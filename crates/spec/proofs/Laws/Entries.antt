-- The waiting requests as entries of the queue of crate slots. Assumes nothing.
use Prim.Native.Nat.{ℕ, ◌≤◌}
use mathlib.Core.Path.{◌≡◌, sym, ◌∙◌}
use mathlib.Core.List.{List, [], ◌∷◌, map}
use native.Mathlib.Omega.{arith}
use Rattle.slots.proofs.Laws.Tests.{le, gt, order}
use Rattle.slots.proofs.Laws.Sums.{All, all_each, total_map}
use Rattle.slots.proofs.Laws.Sorted.{Sorted, due as entry_due, due_yes as entry-yes, due_no as entry-no, upto}
use Rattle.slots.proofs.Queue.{Entry}
use Rattle.spec.specs.declared.types.Request.{Request}
use Rattle.spec.specs.Chart.{due_by}
use Rattle.spec.proofs.Laws.Every.{total_same}
use Rattle.spec.proofs.Laws.Order.{InOrder, first_earliest}
use Rattle.spec.proofs.Laws.Feasible.{due, due_yes, due_no, due_by_total}

abbrev pub entry_of : Request → Entry
entry_of w = record { deadline = w.deadline; number = w.number }

-- how many are due by D, counted there and here
due_entry : (D : ℕ) (w : Request) → entry_due D (entry_of w) ≡ due D w
due_entry D w =
    elim (order w.deadline D) [
      | le h ↦ entry-yes D (entry_of w) h ∙ sym (due_yes D w h)
      | gt h ↦ entry-no D (entry_of w) h ∙ sym (due_no D w h)
    ]

pub upto_entries : (D : ℕ) (ws : List Request) → upto D (map entry_of ws) ≡ due_by D ws
upto_entries D ws =
    total_map (entry_due D) entry_of ws
    ∙ total_same (λ (w : Request). entry_due D (entry_of w)) (due D) ws (due_entry D)
    ∙ sym (due_by_total D ws)

-- chart order is by deadline
sorted_from : (lo : ℕ) (ws : List Request) → All (λ (w : Request). lo ≤ w.deadline) ws → InOrder ws → Sorted lo (map entry_of ws)
sorted_from lo [] a o = tt
sorted_from lo (w ∷ ws) a o = (a.0, sorted_from w.deadline ws (first_earliest w ws o.0) o.1)

pub sorted_entries : (ws : List Request) → InOrder ws → Sorted 0 (map entry_of ws)
sorted_entries ws o = sorted_from 0 ws (all_each (λ (w : Request). 0 ≤ w.deadline) ws (λ w. omega arith)) o
