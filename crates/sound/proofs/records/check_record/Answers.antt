-- `sound::records::check_record` meets its contract: a record that passes has a client that exists, and is counted for it.
use Rattle.std.proofs.Common.{refl, sym, ◌∙◌, arith}
use Rattle.sound.proofs.RecordTests.{next_client}
use Rattle.sound.proofs.Turns.{one_counted, one_stopped}
use Rattle.sound.proofs.records.check_record.Goals as goal

pub count-requires : goal.count-requires
count-requires c =
    let owned = next_client _ _ _ _ (sym c.is_next-passed.ensures ∙ c.if-passed.true) in (omega (arith, c.requires.0.clients), c.requires.1)

pub returns-then-passed-clause-turn : goal.returns-then-passed-clause-turn
returns-then-passed-clause-turn c =
    rw (c.if-passed.true, c.count.ensures)
    (one_counted c.requires.0.clients (omega arith) (sym c.if-passed.true ∙ c.is_next-passed.ensures))

pub returns-else-passed-clause-turn : goal.returns-else-passed-clause-turn
returns-else-passed-clause-turn c = rw c.if-passed.false (one_stopped (sym c.if-passed.false ∙ c.is_next-passed.ensures))

pub returns-then-passed-clause-counted : goal.returns-then-passed-clause-counted
returns-then-passed-clause-counted c = rw c.if-passed.true c.count.ensures

pub returns-else-passed-clause-counted : goal.returns-else-passed-clause-counted
returns-else-passed-clause-counted c = rw c.if-passed.false refl
