-- What the loop of `scan::first_full` keeps: none of the records so far is full by the test.
use Rattle.std.proofs.Common.{ℕ, ◌+◌, ◌^◌, ◌<◌, get_or, false}
use Rattle.spec.specs.Tables.{zero_request}
use Rattle.occupancy.proofs.scan.first_full.Given as goal

abbrev pub invariant-loop-i : goal.invariant-loop-i
invariant-loop-i g l =
    (k : ℕ) → k < l.i
    → ((get_or l.waiting k zero_request).deadline < 2 ^ 64)
    × goal.F-post g l.is_full (l.taken + k) (get_or l.waiting k zero_request).deadline false
