-- Demand 2, of the definitions: "Serving and dropping follow Fair-EDF in whole slots: earliest deadline first; exactly one dropped
-- exactly when not all can finish; the victim's client has the smallest miss ratio of all whose removal helps." Said by plans
-- (`CanAllFinish` of crate slots), not by overfull deadlines. Statements, each under its sentence; the proofs stand in Calls/.
-- Assumes nothing.
use Prim.Native.Nat.{ℕ, suc, ◌+◌, ◌≤◌, ◌<◌}
use mathlib.Core.Path.{◌≡◌, ap, ◌∙◌}
use mathlib.Core.Logic.{◌↔◌}
use mathlib.Core.Bool.{true, false}
use mathlib.Core.List.{List, [], ◌∷◌}
use native.Mathlib.Omega.{arith}
use lib.ListN.{length, drop}
use Rattle.slots.proofs.Laws.Sums.{All}
use Rattle.spec.specs.declared.types.Request.{Request}
use Rattle.spec.specs.declared.types.Counts.{Counts}
use Rattle.spec.specs.declared.types.Answer.TheVariants.{Kept, Dropped, Served, Idle, Closed}
use Rattle.spec.specs.Tables.{zero_request, State, waiting, client_table}
use Rattle.spec.specs.Order.{is_in_order, place_of, remove_at}
use Rattle.spec.specs.Hours.{is_open}
use Rattle.spec.specs.Chart.{is_overfull, Search, nothing, found, first_overfull, has_smaller_ratio, counts_at}
use Rattle.spec.specs.Calls.Readings.{is_refused}
use Rattle.spec.specs.Calls.Outcomes.{Outcome}
use Rattle.spec.specs.Calls.Submit.{kept, dropped_at, request_at, new_request, new_shift, counted_in, with_new, victim_place}
use Rattle.spec.specs.Calls.Submit.{submit_accepted}
use Rattle.spec.specs.Calls.Tick.{one_later, tick_accepted}
use Rattle.spec.specs.Calls.{submit, tick, outcome_of}
use Rattle.spec.proofs.Demands.Words.{CanFinish}
use Rattle.spec.proofs.Laws.Order.{get_d_put, remove_put, order_test, InOrder, first_earliest}
use Rattle.spec.proofs.Laws.Room.{capacity_open, capacity_closed}
use Rattle.spec.proofs.Laws.Feasible.{overfull_test, roomy_test, Verdict, fine, over, verdict}
use Rattle.spec.proofs.Laws.Accepted.{kept_waiting, dropped_waiting, ticked_waiting, SubmitReady, submit_ready}
use Rattle.spec.proofs.Laws.Accepted.{tick_ready}
use Rattle.spec.proofs.Calls.Refused.{accepted_none, accepted_same}
use Rattle.spec.proofs.Calls.Victim.{victim_place_lem, victim_least, victim_last, counted_some}
use Rattle.spec.proofs.Calls.Fair.{finish_feasible, feasible_finish, finish_candidate, new_ordered, new_place_and_shift, finish_kept}
use Rattle.spec.proofs.Calls.Fair.{unfinished_dropped, victim_helps, helps_exactly}

-- ---- submit. Among the waiting requests and the new one, in chart order, a request is named by its place j
-- "every request can still finish"
abbrev pub AllFinish : ℕ → ℕ → State → Type 0
AllFinish client deadline s = CanFinish s.head (with_new client deadline s)

-- all but the one at j can finish: its removal helps
abbrev pub OthersFinish : ℕ → ℕ → ℕ → State → Type 0
OthersFinish j client deadline s = CanFinish s.head (remove_at j (with_new client deadline s))

-- the counts of its client, "the new request already counted in submitted"
abbrev pub counts_of : ℕ → ℕ → ℕ → State → Counts
counts_of j client deadline s = counts_at (counted_in client s) (with_new client deadline s) j

-- kept: all wait, and the answer names the new number, its place and its shift
pub record Keeps (client deadline : ℕ) (s : State) (o : Outcome) : Type 0 where
  pub answer :
      o.answers
      ≡ Kept (suc s.head.last) (place_of (new_request client deadline s) (waiting s)) (new_shift client deadline s) ∷ []
  pub waits : waiting o.after ≡ with_new client deadline s
  pub whole : o ≡ kept client deadline s

-- dropped: all but the one at k wait, and the answer names it, and the new one's shift as it was with that one there
pub record Drops (k client deadline : ℕ) (s : State) (o : Outcome) : Type 0 where
  pub answer :
      o.answers
      ≡ Dropped (suc s.head.last) (request_at k client deadline s).number (request_at k client deadline s).client (new_shift client deadline s)
      ∷ []
  pub waits : waiting o.after ≡ remove_at k (with_new client deadline s)
  pub whole : o ≡ dropped_at k client deadline s

pub record FairSubmit (client deadline : ℕ) (s : State) : Type 0 where
  -- ".. and puts the record in chart order.": it stands at its place, the others are those that waited, and all are in order
  pub placed : request_at (place_of (new_request client deadline s) (waiting s)) client deadline s ≡ new_request client deadline s
  pub others : remove_at (place_of (new_request client deadline s) (waiting s)) (with_new client deadline s) ≡ waiting s
  pub ordered : is_in_order (with_new client deadline s) ≡ true
  -- document 02, 2.1: "how many waiting records stood behind the new one in chart order when it was put in": all that waited before the
  -- call and do not stand before it
  pub shifted : place_of (new_request client deadline s) (waiting s) + new_shift client deadline s ≡ s.head.waiting
  -- "If every request can still finish, the answer is kept, with number and place (from 0)."
  pub keeps : AllFinish client deadline s → Keeps client deadline s (outcome_of (submit client deadline) s)
  -- "Otherwise one record is taken out, its client's dropped rises by 1, and the answer names the new number, the victim's number
  -- and the victim's client."
  pub drops : (AllFinish client deadline s → ⊥)
      → Drops (victim_place client deadline s) client deadline s (outcome_of (submit client deadline) s)
  -- it is one of the waiting requests or the new one
  pub place : victim_place client deadline s < length (with_new client deadline s)
  -- and the others can finish
  pub helps : OthersFinish (victim_place client deadline s) client deadline s
  -- "The miss ratio is dropped divided by submitted": the divisor is not 0
  pub counted : (j : ℕ) → j < length (with_new client deadline s) → 1 ≤ (counts_of j client deadline s).submitted
  -- "The smallest wins;": no request whose removal helps has a smaller ratio
  pub fair : (j : ℕ) → j < length (with_new client deadline s) → OthersFinish j client deadline s
      → has_smaller_ratio (counts_of j client deadline s) (counts_of (victim_place client deadline s) client deadline s) ≡ false
  -- "among equals, the last in chart order.": one of those with the same ratio stands there or before
  pub last : (j : ℕ) → j < length (with_new client deadline s) → OthersFinish j client deadline s
      → has_smaller_ratio (counts_of (victim_place client deadline s) client deadline s) (counts_of j client deadline s) ≡ false
      → j ≤ victim_place client deadline s

accepted_submit : (client deadline : ℕ) (s : State) → is_refused (outcome_of (submit client deadline) s).answers ≡ false
    → SubmitReady client deadline s × (outcome_of (submit client deadline) s ≡ submit_accepted client deadline s)
unfolding outcome_of
accepted_submit client deadline s e = (
  submit_ready client deadline s (accepted_none (submit client deadline) s e),
  accepted_same (submit client deadline) s e,
)

keeps_of : (client deadline : ℕ) (s : State) (o : Outcome) → o ≡ kept client deadline s → Keeps client deadline s o
unfolding kept
keeps_of client deadline s o e =
    record {
      answer = ap (λ (r : Outcome). r.answers) e;
      waits = ap (λ (r : Outcome). waiting r.after) e ∙ kept_waiting client deadline s;
      whole = e;
    }

drops_of : (k client deadline : ℕ) (s : State) (o : Outcome) → o ≡ dropped_at k client deadline s → Drops k client deadline s o
unfolding dropped_at
drops_of k client deadline s o e =
    record {
      answer = ap (λ (r : Outcome). r.answers) e;
      waits = ap (λ (r : Outcome). waiting r.after) e ∙ dropped_waiting k client deadline s;
      whole = e;
    }

pub fair_submit : (client deadline : ℕ) (s : State) → is_refused (outcome_of (submit client deadline) s).answers ≡ false
    → FairSubmit client deadline s
fair_submit client deadline s e =
    let p = accepted_submit client deadline s e in
    let r : SubmitReady client deadline s = p.0 in
    let some = counted_some client deadline s r in
    let new = new_request client deadline s in
    record {
      placed = get_d_put new zero_request (waiting s);
      others = remove_put new (waiting s);
      ordered = order_test (with_new client deadline s) (new_ordered client deadline s r);
      shifted = new_place_and_shift client deadline s r;
      keeps = λ f. keeps_of client deadline s (outcome_of (submit client deadline) s) (p.1 ∙ finish_kept client deadline s r f);
      drops =
          λ f. drops_of (victim_place client deadline s) client deadline s (outcome_of (submit client deadline) s)
          (p.1 ∙ unfinished_dropped client deadline s r f);
      place = (victim_place_lem client deadline s r).0;
      helps = victim_helps client deadline s r;
      counted = some;
      fair =
          λ j h f. victim_least s.head (counted_in client s) (with_new client deadline s) j h
          (finish_candidate s.head (with_new client deadline s) j f) some;
      last =
          λ j h f. victim_last s.head (counted_in client s) (with_new client deadline s) j h
          (finish_candidate s.head (with_new client deadline s) j f) some;
    }

-- "These are exactly those with deadlines up to the smallest overfull one; later ones in the same segment do not help."
pub record Candidates (client deadline D : ℕ) (s : State) : Type 0 where
  pub overfull : is_overfull s.head (with_new client deadline s) D ≡ true
  pub smallest : (x : ℕ) → x < D → is_overfull s.head (with_new client deadline s) x ≡ false
  pub exactly : (j : ℕ) → j < length (with_new client deadline s)
      → OthersFinish j client deadline s ↔ ((request_at j client deadline s).deadline ≤ D)

-- "The search for an overfull deadline ends at the first one found and yields it.": nothing, and all can finish; or D
abbrev pub Searched : ℕ → ℕ → State → Search → Type 0
Searched client deadline s nothing = AllFinish client deadline s
Searched client deadline s (found D) = (AllFinish client deadline s → ⊥) × Candidates client deadline D s

pub searched : (client deadline : ℕ) (s : State) → is_refused (outcome_of (submit client deadline) s).answers ≡ false
    → Searched client deadline s (first_overfull s.head (with_new client deadline s))
searched client deadline s e = go (verdict s.head (with_new client deadline s) (new_ordered client deadline s r))
  where
    r : SubmitReady client deadline s
    r = (accepted_submit client deadline s e).0

    go : {f : Search} → Verdict s.head (with_new client deadline s) f → Searched client deadline s f
    go (fine f) = feasible_finish s.head (with_new client deadline s) (new_ordered client deadline s r) f
    go (over D h g) = (
      (λ f. absurd (omega (arith, finish_feasible s.head (with_new client deadline s) f D))),
      record {
        overfull = overfull_test s.head (with_new client deadline s) D h;
        smallest = λ x l. roomy_test s.head (with_new client deadline s) x (g x l);
        exactly = helps_exactly client deadline s r D h g;
      },
    )

-- ---- tick
-- "Tick serves the first waiting record in the slot that starts at the clock, takes it out, ..; with none waiting it answers idle.":
-- the one served has the earliest deadline of all that wait
abbrev pub Serves : State → List Request → Type 0
Serves s [] = (outcome_of tick s).answers ≡ Idle s.head.clock ∷ []
Serves s (w ∷ ws) =
    ((outcome_of tick s).answers ≡ Served s.head.clock w.number w.client ∷ [])
    × (waiting (outcome_of tick s).after ≡ ws)
    × All (λ (v : Request). w.deadline ≤ v.deadline) ws

-- document 02, 2.2: "A closed slot serves nobody and tick answers 89 with the slot": whether or not reads wait, all go on waiting, and no
-- count changes but by a period start
pub record Rests (s : State) : Type 0 where
  pub answer : (outcome_of tick s).answers ≡ Closed s.head.clock ∷ []
  pub waits : waiting (outcome_of tick s).after ≡ waiting s
  pub whole : (outcome_of tick s).after ≡ one_later (waiting s) (client_table s) s

-- an open slot serves, so that a tick answers idle only where none waits; a closed one rests
pub record FairTick (s : State) : Type 0 where
  pub open_slot : is_open s.head.setup s.head.clock ≡ true → Serves s (waiting s)
  pub closed_slot : is_open s.head.setup s.head.clock ≡ false → Rests s

pub fair_tick : (s : State) → is_refused (outcome_of tick s).answers ≡ false → FairTick s
unfolding outcome_of
fair_tick s e =
    let same = accepted_same tick s e in
    record {
      open_slot = λ o. serves o (waiting s) same (tick_ready s (accepted_none tick s e)).ready.sound.ordered;
      closed_slot = λ o. rests o same;
    }
  where
    serves : is_open s.head.setup s.head.clock ≡ true → (ws : List Request) → outcome_of tick s ≡ tick_accepted ws s
        → InOrder ws → Serves s ws
    serves o [] same t = ap (λ (r : Outcome). r.answers) same ∙ unfold tick_accepted in rw o
    serves o (w ∷ ws) same t = (
      ap (λ (r : Outcome). r.answers) same ∙ unfold tick_accepted in rw o,
      ap (λ (r : Outcome). waiting r.after) same ∙ ticked_waiting (w ∷ ws) s
          ∙ ap (λ (n : ℕ). drop n (w ∷ ws)) (capacity_open s.head.setup s.head.clock o),
      first_earliest w ws t.0,
    )

    rests : is_open s.head.setup s.head.clock ≡ false → outcome_of tick s ≡ tick_accepted (waiting s) s → Rests s
    rests o same =
        record {
          answer = ap (λ (r : Outcome). r.answers) same ∙ unfold tick_accepted in rw o;
          waits =
              ap (λ (r : Outcome). waiting r.after) same ∙ ticked_waiting (waiting s) s
              ∙ ap (λ (n : ℕ). drop n (waiting s)) (capacity_closed s.head.setup s.head.clock o);
          whole = ap (λ (r : Outcome). r.after) same ∙ unfold tick_accepted in rw o;
        }
