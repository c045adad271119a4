-- The events that are read off a session: since the last accepted open they are the calls that were lent the queue's tables, and
-- among them refused calls that were not, and charts. Assumes nothing.
use Prim.Native.Nat.{ℕ}
use mathlib.Core.Path.{◌≡◌, refl, sym, ap, subst, subst₂}
use mathlib.Core.Bool.{true, false, cond, and-false, true≢false}
use mathlib.Core.List.{List, [], ◌∷◌, ◌++◌, map}
use lib.ListN.{length, take}
use Rattle.spec.specs.declared.types.Setup.{Setup}
use Rattle.spec.specs.declared.types.Answer.{Answer}
use Rattle.spec.specs.declared.types.Answer.TheVariants.{Charted}
use Rattle.spec.specs.declared.types.Frame.{Frame}
use Rattle.spec.specs.declared.types.Frame.TheVariants.{Open}
use Rattle.spec.specs.Every.{exists}
use Rattle.spec.specs.Tables.{State}
use Rattle.spec.specs.Setup.{first_match}
use Rattle.spec.specs.Chart.{segments_of}
use Rattle.spec.specs.Calls.Readings.{is_refused}
use Rattle.spec.specs.Calls.Outcomes.{Outcome}
use Rattle.spec.specs.Calls.Open.{open_accepted, open_refusals}
use Rattle.spec.specs.Calls.Chart.{chart_accepted, chart_refusals}
use Rattle.spec.specs.Calls.{Call, opening, chart, outcome_of, meaning}
use Rattle.spec.specs.Lists.{run, Event, history, is_opened, empty, own, other, refused_event}
use Rattle.spec.specs.Lines.Frames.{frame_of, Task, task}
use Rattle.spec.specs.Lines.Session.{text_of, at_start, blank, line_outcome, replies, state_after, at_end, session, session_state}
use Rattle.spec.specs.Lines.Session.{line_outcome_of}
use Rattle.spec.specs.Lines.Printed.{events_by, events_from, events_in, since_open, setup_in, AsPrinted, charted, Beside}
use Rattle.spec.specs.Lines.Printed.{refused_one}
use Rattle.spec.proofs.Demands.Words.{FromOpen}
use Rattle.spec.proofs.Laws.Accepted.{Decided, accepts, refuses}
use Rattle.spec.proofs.Calls.Refused.{outcome_decided, first_answer, call_answers, left_same, none_accepted}
use Rattle.spec.proofs.Lists.Trace.{event, Passing, refused_passing}
use Rattle.spec.proofs.Lists.Passing.{WithPassing, among_pass}
use Rattle.spec.proofs.Calls.CallKinds.{Asks, asks_open, asks_chart, asks_nothing, asks_call, asks}
use Rattle.spec.proofs.Lists.Printed.{answers_of, shown_as, calls_in, lent_in, outcome_in, output_in, answer_to, line_answered}

-- nothing that is read off the list depends on what it has beside those calls
beside_pass : (e : Event) → Beside e → Passing e
beside_pass e (refused_one c number) = refused_passing c number
beside_pass e (charted count) =
    record { no_tick = refl; none_asked = λ clock. refl; none_served = refl; none_dropped = refl }

pub printed_pass : {es fs : List Event} → AsPrinted es fs → WithPassing es fs
printed_pass p = among_pass beside_pass p

-- all events since the last accepted open are such a list, where there is one
abbrev pub SinceOpened : List Event → State → Type 0
SinceOpened es s = exists is_opened es ≡ true → FromOpen (setup_in es) (since_open es) s

module _ (es : List Event) (s : State) (so_far : SinceOpened es s) where
  -- an event that is no accepted open stands in the same list
  goes_on : (e : Event) (t : State) → is_opened e ≡ false
      → (FromOpen (setup_in es) (since_open es) s → FromOpen (setup_in es) (e ∷ since_open es) t)
      → SinceOpened (e ∷ es) t
  unfolding exists since_open setup_in
  goes_on e t n f h = rw n (f (so_far (rw n at h)))

  -- an event beside the calls that are lent the queue's tables
  event_goes_on : (e : Event) → is_opened e ≡ false → Beside e → SinceOpened (e ∷ es) s
  unfolding exists
  event_goes_on e n b =
      goes_on e s n
      (λ F.
      record {
        before = F.before;
        calls = F.calls;
        accepted = F.accepted;
        printed = other e b F.printed;
        none_opened = rw n F.none_opened;
        state = F.state;
      })

  refused_goes_on : (c : Call) (number : ℕ) → SinceOpened (refused_event c number ∷ es) s
  refused_goes_on c number = event_goes_on (refused_event c number) (and-false (meaning c).is_opening) (refused_one c number)

  -- a call that is lent the queue's tables
  call_goes_on : (c : Call) → (meaning c).is_opening ≡ false
      → SinceOpened (event c (outcome_of c s).answers ∷ es) (outcome_of c s).after
  unfolding history run exists
  call_goes_on c n =
      goes_on e (outcome_of c s).after none
      (λ F.
      record {
        before = F.before;
        calls = c ∷ F.calls;
        accepted = F.accepted;
        printed = rw F.state (own e F.printed);
        none_opened = rw none F.none_opened;
        state = ap (λ (t : State). (outcome_of c t).after) F.state;
      })
    where
      e : Event
      e = event c (outcome_of c s).answers

      none : is_opened e ≡ false
      none = rw n

  -- .. and that is lent no output: its answer is printed as it is, and the session goes on from the state that it leaves
  plain_goes_on : (c : Call) → (meaning c).is_opening ≡ false → (meaning c).outputs s ≡ [] → (setup : Setup) (output : List ℕ)
      → SinceOpened (event c (shown_as setup output (first_answer (outcome_of c s).answers) ∷ []) ∷ es)
      (cond (is_refused (outcome_of c s).answers) s (outcome_of c s).after)
  plain_goes_on c n none setup output =
      subst₂ (λ (answers : List Answer) (t : State). SinceOpened (event c answers ∷ es) t) (sym same) (sym (left_same c s))
      (call_goes_on c n)
    where
      same : shown_as setup output (first_answer (outcome_of c s).answers) ∷ [] ≡ (outcome_of c s).answers
      same = rw ((call_answers c s).uncharted none) (sym (call_answers c s).one)

  -- open: an accepted one begins another list
  open_goes_on : (setup : Setup) (before : State) (drawn : Setup) (output : List ℕ)
      → SinceOpened (event (opening setup) (shown_as drawn output (first_answer (outcome_of (opening setup) before).answers) ∷ []) ∷ es)
      (cond (is_refused (outcome_of (opening setup) before).answers) s (outcome_of (opening setup) before).after)
  unfolding open_accepted exists since_open setup_in history run
  open_goes_on setup before drawn output = go (outcome_decided (opening setup) before)
    where
      go : {o : Outcome} → Decided (open_refusals setup before) before (open_accepted setup before) o
          → SinceOpened (event (opening setup) (shown_as drawn output (first_answer o.answers) ∷ []) ∷ es)
          (cond (is_refused o.answers) s o.after)
      go (refuses e) = refused_goes_on (opening setup) (first_match (open_refusals setup before))
      go (accepts e) =
          let same = none_accepted (opening setup) before e in
          λ h.
          record {
            before = before;
            calls = [];
            accepted = ap (λ (o : Outcome). is_refused o.answers) same;
            printed = empty;
            none_opened = refl;
            state = ap (λ (o : Outcome). o.after) same;
          }

  -- chart: whatever it answers, the state stays
  chart_goes_on : (setup : Setup) (output : List ℕ)
      → SinceOpened (event (chart blank) (shown_as setup output (first_answer (outcome_of (chart blank) s).answers) ∷ []) ∷ es)
      (cond (is_refused (outcome_of (chart blank) s).answers) s (outcome_of (chart blank) s).after)
  unfolding chart_accepted
  chart_goes_on setup output = go (outcome_decided (chart blank) s)
    where
      go : {o : Outcome} → Decided (chart_refusals blank s) s (chart_accepted s) o
          → SinceOpened (event (chart blank) (shown_as setup output (first_answer o.answers) ∷ []) ∷ es)
          (cond (is_refused o.answers) s o.after)
      go (refuses e) = refused_goes_on (chart blank) (first_match (chart_refusals blank s))
      go (accepts e) =
          let count = length (segments_of setup (take s.head.waiting output)) in
          event_goes_on (event (chart blank) (Charted count ∷ [])) refl (charted count)

  -- a line that asks for this
  abbrev TaskGoesOn : Task → Type 0
  TaskGoesOn t =
      SinceOpened (map (λ c. event c (answer_to t s ∷ [])) (calls_in t) ++ es) (line_outcome_of s (outcome_in t s) (output_in t s)).after

  frame_goes_on : (frame : Frame) → SinceOpened (events_by frame (answer_to (task frame) s) ++ es) (line_outcome frame s).after
  unfolding line_outcome
  frame_goes_on frame = by_case (asks frame)
    where
      by_case : {frame : Frame} → Asks frame → TaskGoesOn (task frame)
      by_case (asks_open setup records) = open_goes_on setup (lent_in (task (Open setup records)) s) _ _
      by_case asks_chart = chart_goes_on _ _
      by_case asks_nothing = so_far
      by_case (asks_call frame c e no-open none) = subst TaskGoesOn (sym e) (plain_goes_on c no-open (none s) _ _)

-- ---- all lines
lines_go_on : (lines : List (List ℕ)) (es : List Event) (s : State) (ys : List ℕ) → SinceOpened es s
    → SinceOpened (events_from es lines (answers_of (replies s lines ++ ys))) (state_after s lines)
unfolding events_from replies state_after
lines_go_on [] es s ys k = k
lines_go_on (line ∷ lines) es s ys k =
    let f = frame_of line in
    let t = (line_outcome f s).after in
    subst (λ (answers : List Answer). SinceOpened (events_from es (line ∷ lines) answers) (state_after t lines))
    (sym (line_answered line lines s ys))
    (lines_go_on lines (events_by f (answer_to (task f) s) ++ es) t ys (frame_goes_on es s k f))

pub since_opened : (input : List ℕ) → SinceOpened (events_in input (session input)) (session_state input)
unfolding events_in session session_state exists
since_opened input =
    lines_go_on (text_of input).lines [] at_start (at_end (text_of input).rest) (λ h. absurd (true≢false (sym h)))
