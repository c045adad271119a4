-- Chart, the call, by values. Assumes nothing.
use Rattle.spec.specs.declared.types.Head.{Head}
use Rattle.spec.specs.declared.types.Answer.TheVariants.{Charted}
use Rattle.spec.specs.declared.types.Reply.{Reply}

-- "answers their count"
abbrev pub chart_reply : Head → Reply
chart_reply head = record { head = head; answer = Charted head.waiting }
