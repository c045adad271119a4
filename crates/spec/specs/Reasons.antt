-- Why a call is refused, by the papers' numbers: document 01, "Refusals, first match wins", and document 02, 2.2. Assumes nothing.
use Rattle.std.specs.Prelude.{ℕ, Result, Ok, Err}
use Rattle.spec.specs.declared.types.Reason.{Reason}
use Rattle.spec.specs.declared.types.Reason.TheVariants as reason

-- "Each answers with its number only"
abbrev pub number_of : Reason → ℕ
number_of reason.NoFrame = 1
number_of reason.Clients = 2
number_of reason.Period = 3
number_of reason.Lengths = 4
number_of reason.Unsound = 5
number_of reason.UnknownClient = 6
number_of reason.Deadline = 7
number_of reason.Submitted = 8
number_of reason.LastNumber = 9
number_of reason.TableFull = 10
number_of reason.ClockEnd = 11
number_of reason.ShortOutput = 12
number_of reason.SlotsPerHour = 13
number_of reason.AllClosed = 14
number_of reason.NoOpenSlot = 15

-- what is refused by a check, or by a call: the number of the reason that it ends with, 0 where it ends well
abbrev pub refused_by : {T : Type 0} → Result T Reason → ℕ
refused_by (Ok _) = 0
refused_by (Err why) = number_of why
