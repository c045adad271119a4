-- What a call of the library does: one contract for every call. Assumes nothing.
use Rattle.std.specs.Prelude.{ℕ, ◌≡◌, Result, List, [], ◌∷◌}
use Rattle.spec.specs.declared.types.Answer.{Answer}
use Rattle.spec.specs.declared.types.Reason.{Reason}
use Rattle.spec.specs.declared.types.Request.{Request}
use Rattle.spec.specs.Tables.{State, state_of}
use Rattle.spec.specs.Calls.{Call, outcome_of}
use Rattle.decide.specs.Reply.{reply_by}
pub use Rattle.spec.specs.declared.types.Reply.{Reply}

-- the answers that a reply stands for: the one that it has
abbrev pub said : Reply → List Answer
said r = r.answer ∷ []

-- from the head and the tables that a caller lends to those that it then has: the answers are those that the definition gives, and
-- so is all that the head handed back and the tables hold
pub record Gives (c : Call) (before : State) (r : Reply) (after : State) : Type 0 where
  pub answers_same : said r ≡ (outcome_of c before).answers
  pub head_kept : after.head ≡ r.head
  pub after_same : after ≡ (outcome_of c before).after

-- what is done of a call, up to its reply or the reason why it is refused, leaves these tables, so that its reply is what it gives
abbrev pub ComesTo : Call → State → Result Reply Reason → List Request → List ℕ → Type 0
ComesTo c before done ws numbers =
    Gives c before (reply_by before.head done) (state_of (reply_by before.head done).head ws numbers)
