-- Chart order, and records put in and taken out: document 01, "Tables and bounds" and "Calls", and document 02, 2.1. Assumes nothing.
use Rattle.std.specs.Prelude.{ℕ, suc, Bool, true, cond, ◌&&◌, ◌||◌, List, [], ◌∷◌, ◌++◌, ltb, eqb, take, drop}
use Rattle.spec.specs.declared.types.Request.{Request}
use Rattle.spec.specs.Every.{count_if}

-- "chart order (earlier deadline first, equal deadlines by smaller number ..)"
unfoldable pub comes_before : Request → Request → Bool
comes_before a b =
    ltb a.deadline b.deadline || (eqb a.deadline b.deadline && ltb a.number b.number)

-- "the waiting records stand in chart order (.. no two equal in both)"
unfoldable pub is_in_order : List Request → Bool
is_in_order [] = true
is_in_order (a ∷ []) = true
is_in_order (a ∷ b ∷ ws) = comes_before a b && is_in_order (b ∷ ws)

-- "place (from 0)": behind all that come before it in chart order
unfoldable pub place_of : Request → List Request → ℕ
place_of r [] = 0
place_of r (w ∷ ws) = cond (comes_before w r) (suc (place_of r ws)) 0

-- document 02, 2.1: "how many waiting records stood behind the new one in chart order when it was put in": those that it comes before
abbrev pub shift_of : Request → List Request → ℕ
shift_of r ws = count_if (comes_before r) ws

-- the requests with r at a place, those from there on moved one further
abbrev pub insert_at : ℕ → Request → List Request → List Request
insert_at k r ws = take k ws ++ r ∷ drop k ws

-- "puts the record in chart order"
unfoldable pub put_in_order : Request → List Request → List Request
put_in_order r ws = insert_at (place_of r ws) r ws

-- "one record is taken out": the requests without the one at a place
unfoldable pub remove_at : ℕ → List Request → List Request
remove_at k ws = take k ws ++ drop (suc k) ws
