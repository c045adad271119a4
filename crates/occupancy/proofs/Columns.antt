-- A list of one field of the requests: one put in, and how many are due. Assumes nothing.
use Prim.Native.Nat.{ℕ, zero, suc, ◌+◌, ◌≤◌}
use mathlib.Core.Path.{◌≡◌, refl, ap}
use mathlib.Core.List.{List, [], ◌∷◌, map}
use native.Mathlib.Omega.{arith}
use lib.Dec.{leb}
use lib.ListN.{length, take}
use Rattle.spec.specs.declared.types.Request.{Request}
use Rattle.spec.specs.Every.{to_number, count_if}
use Rattle.spec.specs.Tables.{deadlines_of}
use Rattle.spec.specs.Order.{insert_at}
use Rattle.spec.specs.Chart.{due_by}
use Rattle.occupancy.specs.Scans.{put_at}

-- of the first requests it is the first entries
pub field_take : (f : Request → ℕ) (n : ℕ) (ws : List Request) → take n (map f ws) ≡ map f (take n ws)
field_take f zero ws = refl
field_take f (suc n) [] = refl
field_take f (suc n) (w ∷ ws) = ap (λ (l : List ℕ). f w ∷ l) (field_take f n ws)

-- with one request put in it is the list with its entry put in
pub column_insert : (f : Request → ℕ) (k : ℕ) (r : Request) (ws : List Request)
    → map f (insert_at k r ws) ≡ put_at k (f r) (map f ws)
column_insert f zero r ws = refl
column_insert f (suc k) r [] = refl
column_insert f (suc k) r (w ∷ ws) = ap (λ (l : List ℕ). f w ∷ l) (column_insert f k r ws)

pub due_column : (D : ℕ) (ws : List Request) → count_if (λ d. leb d D) (deadlines_of ws) ≡ due_by D ws
unfolding count_if due_by
due_column D [] = refl
due_column D (w ∷ ws) = ap (λ (n : ℕ). to_number (leb w.deadline D) + n) (due_column D ws)

-- the first ones, with one among them
pub take_put : (k x n : ℕ) (xs : List ℕ) → k ≤ n → k ≤ length xs → take (suc n) (put_at k x xs) ≡ put_at k x (take n xs)
take_put zero x n xs h l = refl
take_put (suc k) x n [] h l = absurd (omega arith)
take_put (suc k) x zero (y ∷ xs) h l = absurd (omega arith)
take_put (suc k) x (suc n) (y ∷ xs) h l = ap (λ (z : List ℕ). y ∷ z) (take_put k x n xs (omega arith) (omega arith))
