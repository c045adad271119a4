-- Where no call of a list is refused, the windows of its requests and the clock after it are read off its calls alone (`Lists/Windows`).
-- So two runs of the same calls are asked for the same, whatever else they answer. Assumes nothing.
use Prim.Native.Nat.{ℕ}
use mathlib.Core.Path.{◌≡◌, refl, ap, ◌∙◌}
use mathlib.Core.Bool.{false, and-true}
use mathlib.Core.List.{List, [], ◌∷◌, map, map-append, map-map}
use Rattle.slots.specs.Plan.{since}
use Rattle.spec.specs.Every.{exists, count_if}
use Rattle.spec.specs.Tables.{State}
use Rattle.spec.specs.Calls.{Call, meaning}
use Rattle.spec.specs.Lists.{Event, history, ticks, asked_by, asked, window_of, windows}
use Rattle.spec.proofs.Laws.Every.{or_none}
use Rattle.spec.proofs.Lists.Windows.{tick_calls, call_windows, is_refused_event}

-- A call that is not refused asks for all that it wants, from the clock on.
asked_windows : (e : Event) (clock : ℕ) → is_refused_event e ≡ false
    → map window_of (asked_by e clock) ≡ map (λ w. since clock w.deadline) (meaning e.call).wants
asked_windows e clock h = rw h (map-map window_of _ (meaning e.call).wants)

abbrev calls_of : List Event → List Call
calls_of es = map (λ e. e.call) es

-- It holds of any events, however their answers came about.
events_alone : (es : List Event) → exists is_refused_event es ≡ false
    → (windows es ≡ call_windows (calls_of es)) × (ticks es ≡ tick_calls (calls_of es))
unfolding exists ticks count_if asked tick_calls call_windows
events_alone [] h = (refl, refl)
events_alone (e ∷ es) h =
    let n = or_none (is_refused_event e) (exists is_refused_event es) h in
    let r = events_alone es n.1 in (
      map-append window_of (asked_by e (ticks es)) (asked es) ∙ rw (asked_windows e (ticks es) n.0, r.1, r.0),
      rw (n.0, and-true (meaning e.call).is_tick, r.1),
    )

-- The calls of a history are those that were made.
history_calls : (s : State) (cs : List Call) → calls_of (history s cs) ≡ cs
unfolding history
history_calls s [] = refl
history_calls s (c ∷ cs) = ap (λ (ds : List Call). c ∷ ds) (history_calls s cs)

-- Where no call of a list is refused, the windows of the list's requests and the number of its ticks are those that the calls
-- say without their answers, whatever state the calls began in. Requests 2.7 and 2.9 of document 02 use this: they compare two
-- runs of the same calls with nothing refused in either, and a plan for the requests of the one is then one for the other's.
pub calls_alone : (s : State) (cs : List Call) → exists is_refused_event (history s cs) ≡ false
    → (windows (history s cs) ≡ call_windows cs) × (ticks (history s cs) ≡ tick_calls cs)
calls_alone s cs h = rw (history_calls s cs) at (events_alone (history s cs) h)
