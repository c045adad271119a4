-- A waiting list that is sorted by deadline, and how many of it are due up to a time. Assumes nothing.
use Prim.Native.Nat.{ℕ, zero, suc, ◌-◌, ◌≤◌, ◌<◌, min}
use mathlib.Core.Path.{◌≡◌, refl, sym}
use mathlib.Core.List.{List, [], ◌∷◌, map}
use native.Mathlib.Omega.{arith}
use lib.ListN.{drop}
use Rattle.slots.proofs.Laws.Tests.{le, gt, order}
use Rattle.slots.proofs.Laws.Sums.{total, total_map}
use Rattle.slots.proofs.Queue.{Entry}

-- the deadlines do not fall, and none is before lo
abbrev pub Sorted : ℕ → List Entry → Type 0
Sorted lo [] = Unit {0}
Sorted lo (w ∷ ws) = (lo ≤ w.deadline) × Sorted w.deadline ws

pub sorted_weaken : (lo hi : ℕ) (ws : List Entry) → lo ≤ hi → Sorted hi ws → Sorted lo ws
sorted_weaken lo hi [] h s = tt
sorted_weaken lo hi (w ∷ ws) h s = (omega arith, s.1)

pub sorted_drop : (lo k : ℕ) (ws : List Entry) → Sorted lo ws → Sorted lo (drop k ws)
sorted_drop lo zero ws s = s
sorted_drop lo (suc k) [] s = tt
sorted_drop lo (suc k) (w ∷ ws) s = sorted_drop lo k ws (sorted_weaken lo w.deadline ws s.0 s.1)

-- ---- how many are due up to D
-- 1 where the deadline d is not after D
abbrev pub due_by : ℕ → ℕ → ℕ
due_by D d = min 1 (suc D - d)

unfoldable pub due : ℕ → Entry → ℕ
due D w = due_by D w.deadline

abbrev pub upto : ℕ → List Entry → ℕ
upto D ws = total (due D) ws

pub due_one : (D : ℕ) (w : Entry) → due D w ≤ 1
unfolding due
due_one D w = omega arith

pub due_yes : (D : ℕ) (w : Entry) → w.deadline ≤ D → due D w ≡ 1
unfolding due
due_yes D w h = omega arith

pub due_no : (D : ℕ) (w : Entry) → D < w.deadline → due D w ≡ 0
unfolding due
due_no D w h = omega arith

due_mono : (x y : ℕ) → x ≤ y → (w : Entry) → due x w ≤ due y w
unfolding due
due_mono x y h w = omega arith

pub upto_deadlines : (D : ℕ) (ws : List Entry) → upto D ws ≡ total (due_by D) (map (λ (w : Entry). w.deadline) ws)
unfolding due
upto_deadlines D ws = sym (total_map (due_by D) (λ (w : Entry). w.deadline) ws)

pub upto_none : (D lo : ℕ) (ws : List Entry) → Sorted lo ws → D < lo → upto D ws ≡ 0
unfolding total
upto_none D lo [] s h = refl
upto_none D lo (w ∷ ws) s h = omega (arith, due_no D w (omega arith), upto_none D w.deadline ws s.1 (omega arith))

-- the first k are those that are due first
pub upto_drop : (D lo k : ℕ) (ws : List Entry) → Sorted lo ws → upto D (drop k ws) ≡ upto D ws - k
unfolding total
upto_drop D lo zero ws s = omega arith
upto_drop D lo (suc k) [] s = omega arith
upto_drop D lo (suc k) (w ∷ ws) s =
    elim (order w.deadline D) [
      | le h ↦ omega (arith, due_yes D w h, upto_drop D w.deadline k ws s.1)
      | gt h ↦ omega (arith, due_no D w h, upto_drop D w.deadline k ws s.1, upto_none D w.deadline ws s.1 h)
    ]

-- where none is due up to t, all are due after it
pub sorted_low : (t lo : ℕ) (ws : List Entry) → Sorted lo ws → upto t ws ≡ 0 → Sorted (suc t) ws
unfolding total
sorted_low t lo [] s h = tt
sorted_low t lo (w ∷ ws) s h =
    elim (order w.deadline t) [ le g ↦ absurd (omega (arith, due_yes t w g)) | gt g ↦ (g, s.1) ]
