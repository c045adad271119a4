-- What is done to the records of a client table, as its numbers are lent. Assumes nothing.
use Rattle.std.specs.Prelude.{ℕ, zero, suc, ◌+◌, ◌-◌, cond, ◌&&◌, List, [], ◌∷◌, ltb, get_or}
use Rattle.spec.specs.declared.types.Counts.{Counts}
use Rattle.spec.specs.Tables.{one_more_submitted, one_more_served, one_more_dropped, record_of, record_then}
use Rattle.spec.specs.Calls.Tick.{is_period_start}
use Rattle.table.specs.declared.clients.Count.{Count}
use Rattle.table.specs.declared.clients.Count.TheVariants.{Submitted, Served, Dropped}
use Rattle.table.specs.Widths.{largest32}

-- the numbers with the record at an index changed; where there is no whole record nothing changes
unfoldable pub changed_at : (Counts → Counts) → ℕ → List ℕ → List ℕ
changed_at f i [] = []
changed_at f i (a ∷ []) = a ∷ []
changed_at f i (a ∷ b ∷ []) = a ∷ b ∷ []
changed_at f zero (a ∷ b ∷ c ∷ xs) = record_then (f (record_of a b c)) xs
changed_at f (suc i) (a ∷ b ∷ c ∷ xs) = a ∷ b ∷ c ∷ changed_at f i xs

-- the numbers with each whole record changed
unfoldable pub changed_all : (Counts → Counts) → List ℕ → List ℕ
changed_all f [] = []
changed_all f (a ∷ []) = a ∷ []
changed_all f (a ∷ b ∷ []) = a ∷ b ∷ []
changed_all f (a ∷ b ∷ c ∷ xs) = record_then (f (record_of a b c)) (changed_all f xs)

-- the counts that a record's numbers are; one that is not there is 0
abbrev pub counts_of : List ℕ → Counts
counts_of xs = record_of (get_or xs 0 0) (get_or xs 1 0) (get_or xs 2 0)

-- one of a client's counts, and the counts with 1 added to it
abbrev pub count_of : Count → Counts → ℕ
count_of Submitted k = k.submitted
count_of Served k = k.served
count_of Dropped k = k.dropped

abbrev pub one_more_of : Count → Counts → Counts
one_more_of Submitted k = one_more_submitted k
one_more_of Served k = one_more_served k
one_more_of Dropped k = one_more_dropped k

-- "adds 1 to" one of them, unless it is the largest number of 32 bits
abbrev pub one_more_unless_full : Count → Counts → Counts
one_more_unless_full which k = cond (ltb (count_of which k) largest32) (one_more_of which k) k

-- what was submitted and neither served nor dropped: in sound tables the client's waiting count
abbrev pub waiting_count : Counts → ℕ
waiting_count k = k.submitted - (k.served + k.dropped)

-- "each client's submitted becomes its waiting count, served and dropped become 0."
abbrev pub restarted_counts : Counts → Counts
restarted_counts k = record_of (waiting_count k) 0 0

-- the numbers once the clock is this: at a period start every record restarts
abbrev pub restarted_numbers : ℕ → ℕ → List ℕ → List ℕ
restarted_numbers period clock xs = cond (ltb 0 period && is_period_start period clock) (changed_all restarted_counts xs) xs
