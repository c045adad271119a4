-- The windows of a list's requests, and the clock after the list, read off its calls alone. `Lists/Alone` shows that where none of them
-- is refused this is what they are. Assumes nothing.
use mathlib.Core.Bool.{Bool}
use mathlib.Core.List.{List, [], ◌∷◌, ◌++◌, map}
use Prim.Native.Nat.{ℕ}
use Rattle.slots.specs.Plan.{Window, since}
use Rattle.spec.specs.Every.{count_if}
use Rattle.spec.specs.Calls.Readings.{is_refused}
use Rattle.spec.specs.Calls.{Call, meaning}
use Rattle.spec.specs.Lists.{Event}

-- ---- what calls say without their answers
-- This counts the ticks among the calls. It asks each call's meaning alone, so that a new call needs no clause here.
unfoldable pub tick_calls : List Call → ℕ
tick_calls cs = count_if (λ c. (meaning c).is_tick) cs

-- Each request that a call asks to put in has a window from the number of ticks before that call to its deadline.
unfoldable pub call_windows : List Call → List Window
call_windows [] = []
call_windows (c ∷ cs) = map (λ w. since (tick_calls cs) w.deadline) (meaning c).wants ++ call_windows cs

-- ---- lists of which no call is refused
abbrev pub is_refused_event : Event → Bool
is_refused_event e = is_refused e.answers
