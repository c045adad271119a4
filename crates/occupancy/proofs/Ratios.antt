-- Laws of miss ratios: the counts of a client once a new request is counted. Assumes nothing.
use Prim.Native.Nat.{ℕ, ◌+◌, ◌≤◌, ◌<◌}
use mathlib.Core.Path.{◌≡◌}
use mathlib.Core.Logic.{◌≢◌}
use mathlib.Core.List.{List}
use native.Mathlib.Numerals.{add-one}
use lib.ListN.{length, get_or}
use lib.Seq.{set_out, get_or-set_same, get_or-set_other}
use Rattle.spec.specs.declared.types.Counts.{Counts}
use Rattle.spec.specs.Tables.{zero_counts, record_of, change, one_more_submitted}

-- the counts r of client c, once a request of `client` is counted: where c is another, does not exist, or is that client
module _ (client c : ℕ) (cs : List Counts) (r : Counts) (found : r ≡ get_or cs c zero_counts) where
  pub counted_other : c ≢ client → r ≡ get_or (change one_more_submitted client cs) c zero_counts
  unfolding change
  counted_other n = rw (get_or-set_other cs client c (one_more_submitted (get_or cs client zero_counts)) zero_counts n) found

  pub counted_none : length cs ≤ c → c ≡ client → r ≡ get_or (change one_more_submitted client cs) c zero_counts
  unfolding change
  counted_none h e = rw (← e, set_out cs c (one_more_submitted (get_or cs c zero_counts)) h) found

  pub counted_same : c < length cs → c ≡ client
      → record_of (r.submitted + 1) r.served r.dropped ≡ get_or (change one_more_submitted client cs) c zero_counts
  unfolding change
  counted_same h e =
      rw (← e, get_or-set_same cs c (one_more_submitted (get_or cs c zero_counts)) zero_counts h, ← found, add-one)
