-- What is done to the waiting table as a list of records. Assumes nothing.
use Rattle.std.specs.Prelude.{ℕ, suc, ◌-◌, ◌≡◌, Bool, Option, None, Some, cond, ◌&&◌, List, ◌∷◌, ◌++◌, ltb, leb, length, get_or, take, drop}
use Rattle.spec.specs.declared.types.Request.{Request}
use Rattle.spec.specs.Tables.{zero_request}
use Rattle.spec.specs.Order.{insert_at, remove_at}

-- whether both places are in the table
abbrev pub are_in : ℕ → ℕ → List Request → Bool
are_in out at ys = ltb out (length ys) && ltb at (length ys)

-- the table with the record at `out` taken out and then r put in at `at`, those between moved by one; as it was where one of
-- the places is not in it
unfoldable pub replaced : ℕ → ℕ → Request → List Request → List Request
replaced out at r ys = cond (are_in out at ys) (insert_at at r (remove_at out ys)) ys

-- the record that was taken out; r itself where one of the places is not in the table
unfoldable pub taken_out : ℕ → ℕ → Request → List Request → Request
taken_out out at r ys = cond (are_in out at ys) (get_or ys out zero_request) r

-- ---- the first n records, which wait, and the others
-- whether r can be put in at a place: it is among them or behind the last, and behind them is a record that can be lost
abbrev pub can_insert : ℕ → ℕ → List Request → Bool
can_insert n at ys = leb at n && ltb n (length ys)

-- how many of the first n stand behind a record that is put in at `at`: those from there on. It is no count of what is moved, for where
-- r goes in for another, other records move
abbrev pub shift_at : ℕ → ℕ → ℕ
shift_at n at = n - at

-- the table with r put in at `at` among the first n, and the record behind them lost
unfoldable pub inserted : ℕ → ℕ → Request → List Request → List Request
inserted n at r ys = cond (can_insert n at ys) (insert_at at r (take n ys) ++ drop (suc n) ys) ys

-- whether there is one to take out at a place
abbrev pub can_remove : ℕ → ℕ → List Request → Bool
can_remove n at ys = ltb at n && leb n (length ys)

-- the table with the one at `at` of the first n taken out, and a zero record behind the others of them
unfoldable pub removed : ℕ → ℕ → List Request → List Request
removed n at ys = cond (can_remove n at ys) (remove_at at (take n ys) ++ zero_request ∷ drop n ys) ys

-- the record that was taken out; a zero record where none was
unfoldable pub removed_out : ℕ → ℕ → List Request → Request
removed_out n at ys = cond (can_remove n at ys) (get_or ys at zero_request) zero_request

-- the same, where there was one
unfoldable pub removed_from : ℕ → ℕ → List Request → Option Request
removed_from n at ys = cond (can_remove n at ys) (Some (get_or ys at zero_request)) None

-- ---- a slide
-- the records but for one place: from one table to the other that place moved from `from` to `to`
pub record Slid (from to : ℕ) (before after : List Request) : Type 0 where
  pub others : remove_at to after ≡ remove_at from before
