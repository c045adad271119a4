-- Open, by values. Assumes nothing.
use Rattle.spec.specs.declared.types.Setup.{Setup}
use Rattle.spec.specs.declared.types.Answer.TheVariants.{Opened}
use Rattle.spec.specs.declared.types.Reply.{Reply}
use Rattle.spec.specs.Tables.{open_head}

-- "sets clock, last number and waiting count to 0"
abbrev pub open_reply : Setup → Reply
open_reply setup = record { head = open_head setup; answer = Opened }
