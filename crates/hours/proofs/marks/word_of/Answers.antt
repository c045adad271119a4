-- `hours::marks::word_of` meets its contract: the mark of an hour stands at its bit in each of the three words. Assumes nothing.
use Rattle.std.proofs.Common.{arith}
use Rattle.hours.proofs.MarkedHours.{word_0, word_64, word_128}
use Rattle.hours.proofs.marks.word_of.Goals as goal

pub returns-in-0-to-63 : goal.returns-in-0-to-63
returns-in-0-to-63 c = word_0 c.args.setup c.args.hour (omega arith)

pub returns-in-64-to-127 : goal.returns-in-64-to-127
returns-in-64-to-127 c = word_64 c.args.setup c.args.hour (omega arith) (omega arith)

pub returns-in_default : goal.returns-in_default
returns-in_default c = rw c.last_word.ensures (word_128 c.args.setup c.args.hour (omega arith) (omega arith) (omega arith))
