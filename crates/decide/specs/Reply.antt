-- What a call hands back, refused or not. Assumes nothing.
use Rattle.std.specs.Prelude.{ℕ, Result, Ok, Err}
use Rattle.spec.specs.declared.types.Head.{Head}
use Rattle.spec.specs.declared.types.Reason.{Reason}
use Rattle.spec.specs.declared.types.Answer.TheVariants.{Refused}
use Rattle.spec.specs.declared.types.Reply.{Reply}
use Rattle.spec.specs.Reasons.{number_of}

-- "Each answers with its number only; head, tables and output stay unchanged."
abbrev pub refused_with : Head → ℕ → Reply
refused_with head number = record { head = head; answer = Refused number }

-- what a call hands back that was lent this head: what it came to, or the refusal
abbrev pub reply_by : Head → Result Reply Reason → Reply
reply_by head (Ok reply) = reply
reply_by head (Err why) = refused_with head (number_of why)
