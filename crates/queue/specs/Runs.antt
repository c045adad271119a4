-- Lists of calls of the library: each is handed the head and the tables that the one before handed back, but for refused calls that were
-- lent others. Assumes nothing.
use Rattle.std.specs.Prelude.{ℕ, ◌≡◌, List, [], ◌∷◌}
use Rattle.spec.specs.declared.types.Answer.TheVariants.{Refused}
use Rattle.spec.specs.Tables.{State}
use Rattle.spec.specs.Calls.{Call}
use Rattle.spec.specs.Lists.{Event, refused_event}
use Rattle.queue.specs.Gives.{Reply, said, Gives}

-- a list of calls that meet their contract, with their answers, the newest first. Among them may stand refused calls that were lent
-- other tables, and so left these alone
pub data Ran (from : State) : List Event → State → Type 0 where
  none : Ran from [] from
  next : {es : List Event} {before after : State} (c : Call) (r : Reply) → Ran from es before → Gives c before r after
      → Ran from (record { call = c; answers = said r } ∷ es) after
  refused :
      {es : List Event} {now other otherAfter : State} (c : Call) (r : Reply) (number : ℕ) → Ran from es now
      → Gives c other r otherAfter → r.answer ≡ Refused number → Ran from (refused_event c number ∷ es) now
