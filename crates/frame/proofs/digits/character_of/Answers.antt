-- `frame::digits::character_of` meets its contract: figures and letters follow one rule. Assumes nothing.
use Rattle.frame.proofs.FieldDigits.{by_rule}
use Rattle.frame.proofs.digits.character_of.Goals as goal

pub returns : goal.returns
returns c = by_rule c.args.value c.requires
