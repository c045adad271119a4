-- Refused calls: document 01, "Refusals, first match wins". Assumes nothing.
use Prim.Native.Nat.{ℕ, suc}
use mathlib.Core.Path.{◌≡◌, refl, ap}
use mathlib.Core.Logic.{◌≢◌}
use mathlib.Core.Bool.{Bool, true, false, cond, true≢false}
use mathlib.Core.List.{List, [], ◌∷◌, ◌++◌}
use native.Mathlib.Omega.{arith}
use lib.Dec.{eqb}
use lib.ListN.{length, drop, length-append, length-drop}
use Rattle.slots.proofs.Laws.Tests.{Same, same_yes, same_no, same}
use Rattle.slots.proofs.Laws.Sums.{All}
use Rattle.spec.specs.declared.types.Setup.{Setup}
use Rattle.spec.specs.declared.types.Request.{Request}
use Rattle.spec.specs.declared.types.Answer.{Answer}
use Rattle.spec.specs.declared.types.Answer.TheVariants.{Refused}
use Rattle.spec.specs.Every.{first_or}
use Rattle.spec.specs.Tables.{State, waiting, next_state}
use Rattle.spec.specs.Setup.{Refusal, first_match, setup_refusals}
use Rattle.spec.specs.Hours.{is_open}
use Rattle.spec.specs.Chart.{starts_of, has_no_overfull}
use Rattle.spec.specs.Calls.Readings.{is_refused, reading}
use Rattle.spec.specs.Calls.Outcomes.{Outcome, saying}
use Rattle.spec.specs.Calls.Open.{open_refusals, open_accepted}
use Rattle.spec.specs.Calls.Submit.{submit_refusals, kept, dropped_at, victim_place, with_new, submit_accepted}
use Rattle.spec.specs.Calls.Tick.{tick_refusals, tick_accepted, tick_open, tick_closed}
use Rattle.spec.specs.Calls.Chart.{chart_refusals, chart_output}
use Rattle.spec.specs.Calls.{Call, opening, submit, tick, outcome_of, accepted_of, refusals_of, meaning}
use Rattle.spec.proofs.Demands.Words.{FirstHolds, here, further}
use Rattle.spec.proofs.Laws.Accepted.{Decided, accepts, refuses, decided, SubmitReady, submit_none, chart_ready}
use Rattle.spec.proofs.Laws.Accepted.{waiting_length}
use Rattle.spec.proofs.Calls.CallKinds.{Listed, CallKind, of_opening, of_submit, of_tick, reads_only, call_kind}

-- ---- each call is its refusals and what it does where none holds
pub outcome_decided : (c : Call) (s : State) → Decided (refusals_of c s) s (accepted_of c s) (outcome_of c s)
unfolding outcome_of
outcome_decided c s = decided (refusals_of c s) s (accepted_of c s)

-- ---- what a call answers: one answer
abbrev pub first_answer : List Answer → Answer
first_answer answers = first_or (Refused 0) answers

pub record OneAnswer (c : Call) (s : State) (answers : List Answer) : Type 0 where
  pub one : answers ≡ first_answer answers ∷ []
  -- a call that is lent no output draws no chart
  pub uncharted : (meaning c).outputs s ≡ [] → (reading (first_answer answers)).charted ≡ []

-- what an accepted call comes to: it is not answered with a refusal, and only an open changes the setup
pub record Accepted (c : Call) (s : State) (o : Outcome) : Type 0 where
  pub answered : OneAnswer c s o.answers
  pub unrefused : is_refused o.answers ≡ false
  pub same_setup : (meaning c).is_opening ≡ false → o.after.head.setup ≡ s.head.setup

-- one that reads as no chart
accepted_one : (c : Call) (s : State) (a : Answer) (t : State) → (reading a).refuses ≡ false → (reading a).charted ≡ []
    → ((meaning c).is_opening ≡ false → t.head.setup ≡ s.head.setup) → Accepted c s (saying a t)
accepted_one c s a t r u h = record { answered = record { one = refl; uncharted = λ e. u }; unrefused = r; same_setup = h }

pub call_accepted : (c : Call) (s : State) → Accepted c s (accepted_of c s)
unfolding open_accepted submit_accepted kept dropped_at tick_accepted next_state
call_accepted c s = by_kind (call_kind c s)
  where
    kept_or_dropped : (client deadline : ℕ) (x : Bool)
        → Accepted (submit client deadline) s
        (cond x (kept client deadline s) (dropped_at (victim_place client deadline s) client deadline s))
    kept_or_dropped client deadline true = accepted_one (submit client deadline) s _ _ refl refl (λ e. refl)
    kept_or_dropped client deadline false = accepted_one (submit client deadline) s _ _ refl refl (λ e. refl)

    ticked : (x : Bool) (ws : List Request) → Accepted tick s (cond x (tick_open ws s) (tick_closed ws s))
    ticked true [] = accepted_one tick s _ _ refl refl (λ e. refl)
    ticked true (w ∷ ws) = accepted_one tick s _ _ refl refl (λ e. refl)
    ticked false ws = accepted_one tick s _ _ refl refl (λ e. refl)

    by_kind : {c : Call} → CallKind s c → Accepted c s (accepted_of c s)
    by_kind (of_opening setup) = accepted_one (opening setup) s _ _ refl refl (λ e. absurd (true≢false e))
    by_kind (of_submit client deadline) = kept_or_dropped client deadline (has_no_overfull s.head (with_new client deadline s))
    by_kind of_tick = ticked (is_open s.head.setup s.head.clock) (waiting s)
    by_kind (reads_only c r) =
        rw r.accepted_is
        (record {
          answered = record { one = refl; uncharted = r.uncharted };
          unrefused = r.unrefused;
          same_setup = λ e. refl;
        })

pub accepted_answer : (c : Call) (s : State) → is_refused (accepted_of c s).answers ≡ false
accepted_answer c s = (call_accepted c s).unrefused

pub call_answers : (c : Call) (s : State) → OneAnswer c s (outcome_of c s).answers
call_answers c s = go (outcome_decided c s)
  where
    go : {o : Outcome} → Decided (refusals_of c s) s (accepted_of c s) o → OneAnswer c s o.answers
    go (accepts e) = (call_accepted c s).answered
    go (refuses e) = record { one = refl; uncharted = λ e. refl }

pub setup_same : (c : Call) (s : State) → (meaning c).is_opening ≡ false → (outcome_of c s).after.head.setup ≡ s.head.setup
setup_same c s h = go (outcome_decided c s)
  where
    go : {o : Outcome} → Decided (refusals_of c s) s (accepted_of c s) o → o.after.head.setup ≡ s.head.setup
    go (accepts e) = (call_accepted c s).same_setup h
    go (refuses e) = refl

-- ---- the first that holds
pub first_holds : (rs : List Refusal) → first_match rs ≢ 0 → FirstHolds rs (first_match rs)
unfolding first_match
first_holds [] n = absurd (n refl)
first_holds (r ∷ rs) n = go r.holds refl n (first_holds rs)
  where
    go : (x : Bool) → r.holds ≡ x → cond x r.number (first_match rs) ≢ 0 → (first_match rs ≢ 0 → FirstHolds rs (first_match rs))
        → FirstHolds (r ∷ rs) (cond x r.number (first_match rs))
    go true e n f = here e
    go false e n f = further e (f n)

pub first_match_lem : {rs : List Refusal} {n : ℕ} → FirstHolds rs n → first_match rs ≡ n
unfolding first_match
first_match_lem (here e) = rw e
first_match_lem (further e f) = rw e (first_match_lem f)

pub first_listed : {rs : List Refusal} {n : ℕ} → FirstHolds rs n → All (λ (r : Refusal). Listed r.number) rs → Listed n
first_listed (here e) a = a.0
first_listed (further e f) a = first_listed f a.1

pub listed : (c : Call) (s : State) → All (λ (r : Refusal). Listed r.number) (refusals_of c s)
unfolding setup_refusals open_refusals submit_refusals tick_refusals
listed c s = by_kind (call_kind c s)
  where
    by_kind : {c : Call} → CallKind s c → All (λ (r : Refusal). Listed r.number) (refusals_of c s)
    by_kind (of_opening setup) = omega arith
    by_kind (of_submit client deadline) = omega arith
    by_kind of_tick = omega arith
    by_kind (reads_only c r) = rw r.refusals_are (omega arith, (omega arith, r.own_listed))

-- a call that is not refused meets none of its refusals, and comes to what an accepted call does
pub accepted_none : (c : Call) (s : State) → is_refused (outcome_of c s).answers ≡ false → first_match (refusals_of c s) ≡ 0
accepted_none c s = go (outcome_decided c s)
  where
    go : {o : Outcome} → Decided (refusals_of c s) s (accepted_of c s) o → is_refused o.answers ≡ false
        → first_match (refusals_of c s) ≡ 0
    go (accepts e) p = e
    go (refuses e) p = absurd (true≢false p)

pub none_accepted : (c : Call) (s : State) → first_match (refusals_of c s) ≡ 0 → outcome_of c s ≡ accepted_of c s
unfolding outcome_of
none_accepted c s e = rw e

-- A submit that meets none of the conditions of its refusals is accepted.
pub submit_accepted_lem : (client deadline : ℕ) (s : State) → SubmitReady client deadline s
    → is_refused (outcome_of (submit client deadline) s).answers ≡ false
submit_accepted_lem client deadline s r =
    rw (none_accepted (submit client deadline) s (submit_none client deadline s r)) (accepted_answer (submit client deadline) s)

pub accepted_same : (c : Call) (s : State) → is_refused (outcome_of c s).answers ≡ false → outcome_of c s ≡ accepted_of c s
accepted_same c s = go (outcome_decided c s)
  where
    go : {o : Outcome} → Decided (refusals_of c s) s (accepted_of c s) o → is_refused o.answers ≡ false → o ≡ accepted_of c s
    go (accepts e) p = refl
    go (refuses e) p = absurd (true≢false p)

-- what a refused call leaves of the state is what it was given
pub left_same : (c : Call) (s : State) → cond (is_refused (outcome_of c s).answers) s (outcome_of c s).after ≡ (outcome_of c s).after
left_same c s = go (outcome_decided c s)
  where
    go : {o : Outcome} → Decided (refusals_of c s) s (accepted_of c s) o → cond (is_refused o.answers) s o.after ≡ o.after
    go (accepts e) = rw (accepted_answer c s)
    go (refuses e) = refl

-- a call that changes nothing where it is accepted changes nothing
pub state_stays : (c : Call) (s : State) → (accepted_of c s).after ≡ s → (outcome_of c s).after ≡ s
state_stays c s h = go (outcome_decided c s)
  where
    go : {o : Outcome} → Decided (refusals_of c s) s (accepted_of c s) o → o.after ≡ s
    go (accepts e) = h
    go (refuses e) = refl

-- ---- the output of chart
-- "one start slot a waiting record"
pub length_starts : (setup : Setup) (ws : List Request) → length (starts_of setup ws) ≡ length ws
unfolding starts_of
length_starts setup [] = refl
length_starts setup (w ∷ ws) = ap suc (length_starts setup ws)

-- the output is written where no refusal matches, and only there
pub data Written (output : List ℕ) (s : State) : List ℕ → Type 0 where
  untouched : first_match (chart_refusals output s) ≢ 0 → Written output s output
  written :
      first_match (chart_refusals output s) ≡ 0
      → Written output s (starts_of s.head.setup (waiting s) ++ drop (length (starts_of s.head.setup (waiting s))) output)

pub output_written : (output : List ℕ) (s : State) → Written output s (chart_output output s)
unfolding chart_output
output_written output s = go (eqb (first_match (chart_refusals output s)) 0) (same (first_match (chart_refusals output s)) 0)
  where
    go : (x : Bool) → Same (first_match (chart_refusals output s)) 0 x
        → Written output s (cond x (starts_of s.head.setup (waiting s) ++ drop (length (starts_of s.head.setup (waiting s))) output) output)
    go true (same_yes e) = written e
    go false (same_no e) = untouched e

pub output_length : (output : List ℕ) (s : State) → length (chart_output output s) ≡ length output
output_length output s = go (output_written output s)
  where
    go : {l : List ℕ} → Written output s l → length l ≡ length output
    go (untouched f) = refl
    go (written e) =
        let starts = starts_of s.head.setup (waiting s) in
        let r = chart_ready output s e in
        omega (
          arith,
          length-append starts (drop (length starts) output),
          length-drop (length starts) output,
          length_starts s.head.setup (waiting s),
          waiting_length s r.ready.shape,
          r.long,
        )
