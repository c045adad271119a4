-- `queue::submission::drop_at` meets its contract: where the new record itself goes nothing changes, and else the exchange leaves the
-- same table as putting it in and then taking the other out (`Laws/Placement.antt`).
use Rattle.std.proofs.Common.{refl, ◌∙◌}
use Rattle.queue.proofs.Laws.Placement.{drops_new, drops_other}
use Rattle.queue.proofs.submission.drop_at.Goals as goal

pub returns-then-victim-place-clause-insertion : goal.returns-then-victim-place-clause-insertion
returns-then-victim-place-clause-insertion c =
    let a = c.args in
    rw (c.exchange_of-out.ensures.shift, ← (drops_new a.place a.victim a.new a.waiting.now c.if-victim-place.true).0) refl

pub returns-then-victim-place-clause-table : goal.returns-then-victim-place-clause-table
returns-then-victim-place-clause-table c =
    let a = c.args in
    (drops_new a.place a.victim a.new a.waiting.now c.if-victim-place.true).1

pub returns-else-victim-place-clause-insertion : goal.returns-else-victim-place-clause-insertion
returns-else-victim-place-clause-insertion c =
    let a = c.args in
    let found = c.exchange_of-out.ensures in
    let tied = drops_other a.place a.victim a.new a.waiting.now found.out found.at c.if-victim-place.false in
    rw (found.shift, c.replace-gone.ensures.0, tied.0) refl

pub returns-else-victim-place-clause-table : goal.returns-else-victim-place-clause-table
returns-else-victim-place-clause-table c =
    let a = c.args in
    let found = c.exchange_of-out.ensures in
    c.replace-gone.ensures.1 ∙ (drops_other a.place a.victim a.new a.waiting.now found.out found.at c.if-victim-place.false).1
