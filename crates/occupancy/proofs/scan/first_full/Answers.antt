-- `scan::first_full` meets its contract: the first record that is full by the test is the first of those for which it says so.
use Rattle.std.proofs.Common.{◌≡◌, ◌+◌, ◌<◌, ℕ, Bool, true, false, length, get_or, sym, ap, ◌∙◌, arith, List}
use lib.ListN.{get_or-map, length-map}
use Rattle.spec.specs.declared.types.Request.{Request}
use Rattle.spec.specs.Tables.{zero_request, deadlines_of}
use Rattle.occupancy.specs.Scans.{if_any}
use Rattle.occupancy.proofs.Searches.{first_at, first_none}
use Rattle.occupancy.proofs.scan.first_full.Goals as goal

-- what a call of the test says of a request's deadline, said of the column of deadlines
in_column : (ws : List Request) (k : ℕ) (test : ℕ → ℕ → Bool) (i : ℕ) (r : Bool) → r ≡ test i (get_or ws k zero_request).deadline
    → test i (get_or (deadlines_of ws) k 0) ≡ r
in_column ws k test i r e = rw (get_or-map (λ w. w.deadline) ws k zero_request) (sym e)

pub returns-then-is_full : goal.returns-then-is_full
returns-then-is_full g c test computes =
    let a = c.args in
    let ws = a.waiting.now in
    let i = c.loop-i.i in
    let size : length (deadlines_of ws) ≡ length ws = length-map ws (λ (w : Request). w.deadline) in
    let none : (k : ℕ) → k < i → test (a.taken + k) (get_or (deadlines_of ws) k 0) ≡ false =
    λ k l. let no = c.loop-i.invariant k l in in_column ws k test (a.taken + k) false (computes _ _ _ (omega arith) no.0 no.1)
    in
    let full = in_column ws i test (a.taken + i) true (computes _ _ _ (omega arith) (omega arith) c.if-is_full.ensures) in
    let found = first_at test a.taken i (deadlines_of ws) none (omega arith) full in
    c.if_any.ensures ∙ ap if_any (sym (get_or-map (λ w. w.deadline) ws i zero_request) ∙ found)

pub returns : goal.returns
returns g c test computes =
    let a = c.args in
    let ws = a.waiting.now in
    let i = c.loop-i.i in
    let size : length (deadlines_of ws) ≡ length ws = length-map ws (λ (w : Request). w.deadline) in
    let none : (k : ℕ) → k < i → test (a.taken + k) (get_or (deadlines_of ws) k 0) ≡ false =
    λ k l. let no = c.loop-i.invariant k l in in_column ws k test (a.taken + k) false (computes _ _ _ (omega arith) no.0 no.1)
    in ap if_any (first_none test a.taken i (deadlines_of ws) none (omega arith))
