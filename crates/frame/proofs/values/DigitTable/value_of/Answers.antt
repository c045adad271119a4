-- `frame::values::DigitTable::value_of` meets its contract: every character has its entry. Assumes nothing.
use Rattle.std.proofs.Common.{arith}
use Rattle.frame.proofs.FieldDigits.{table_length, table_at}
use Rattle.frame.proofs.values.DigitTable.value_of.Goals as goal

pub bounds-self-from : goal.bounds-self-from
bounds-self-from c = rw (c.args.self.is_table, table_length, c.from.ensures) (omega arith)

pub returns : goal.returns
returns c = rw (c.args.self.is_table, c.from.ensures) (table_at c.args.character (omega arith))
