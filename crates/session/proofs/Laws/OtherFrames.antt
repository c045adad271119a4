-- What a frame that opens no session comes to, on any state: how the call's answer reads, and what the call leaves. Assumes
-- nothing.
use Prim.Native.Nat.{ℕ, ◌≤◌, ◌<◌}
use mathlib.Core.Path.{◌≡◌, refl, sym, ap, ◌∙◌}
use mathlib.Core.Bool.{Bool, true, false, cond}
use mathlib.Core.List.{List, [], ◌∷◌, append-nil}
use native.Mathlib.Omega.{arith}
use borrow.Author.Tests.{le-ltb, not-false}
use lib.ListN.{length, get_or, take, length-replicate, length-map, get_or-map}
use lib.Seq.{get_or-take}
use Rattle.spec.specs.declared.types.Setup.{Setup}
use Rattle.spec.specs.declared.types.Answer.{Answer}
use Rattle.spec.specs.declared.types.Answer.TheVariants.{Charted, Refused}
use Rattle.spec.specs.Every.{gather}
use Rattle.spec.specs.Tables.{most_records, State, waiting, zero_request, deadlines_of}
use Rattle.spec.specs.Setup.{first_match}
use Rattle.spec.specs.Chart.{starts_of}
use Rattle.spec.specs.Calls.Readings.{reading, is_refused}
use Rattle.spec.specs.Calls.Refusals.{refusal4, refusal5, refusal12}
use Rattle.spec.specs.Calls.Outcomes.{Outcome}
use Rattle.spec.specs.Calls.Chart.{chart_refusals, chart_accepted, chart_output}
use Rattle.spec.specs.Calls.{Call, chart, meaning, outcome_of}
use Rattle.spec.specs.Lines.Frames.{answer_line, chart_lines, answer_lines}
use Rattle.spec.specs.Lines.Session.{LineOutcome, outcome_by, output_by, line_outcome_of, blank}
use Rattle.spec.proofs.Demands.Demand1.{Charts, chart_written}
use Rattle.spec.proofs.Laws.Every.{all_at}
use Rattle.spec.proofs.Laws.Sound.{Ahead}
use Rattle.spec.proofs.Laws.Accepted.{chart_ready, Ready, waiting_length}
use Rattle.spec.proofs.Calls.Refused.{first_answer, call_answers, setup_same, left_same}
use Rattle.table.specs.Widths.{largest64}
use Rattle.occupancy.proofs.StartsAndSegments.{starts_column, starts_below}
use Rattle.sound.proofs.RecordTests.{shape_of, shape_facts, shape_refused}
use Rattle.frame.specs.LineLengths.{CanDraw}
use Rattle.session.proofs.Laws.Lending.{alike}

-- ---- frames that open no session
-- where a line asks for these calls, by the output that is lent: the bytes and the state that it gets in a session
abbrev pub reply_by : (List ℕ → List Call) → State → LineOutcome
reply_by calls t = line_outcome_of t (outcome_by (calls blank) t) (output_by (calls blank) blank t)

-- the tables keep their shape, and what the call gives, with the answer a, is the session's reply
pub record Plain (calls : List ℕ → List Call) (starts : List ℕ) (t : State) (a : Answer) : Type 0 where
  pub clients : (outcome_by (calls starts) t).after.head.setup.clients ≡ t.head.setup.clients
  pub after : (outcome_by (calls starts) t).after ≡ (reply_by calls t).after
  pub bytes :
      answer_lines (outcome_by (calls starts) t).after.head.setup (output_by (calls starts) starts t) a ≡ (reply_by calls t).bytes
  pub draws : CanDraw a (output_by (calls starts) starts t)

-- what is the one answer of a list is its first
the_answer : {a : Answer} {answers : List Answer} → a ∷ [] ≡ answers → a ≡ first_answer answers
the_answer e = ap first_answer e

module _ (starts : List ℕ) (t : State) {a : Answer} where
  -- a call that is no open and is lent no output
  pub call_plain : (c : Call) → (meaning c).is_opening ≡ false → (meaning c).outputs t ≡ [] → a ∷ [] ≡ (outcome_of c t).answers
      → Plain (λ output. c ∷ []) starts t a
  call_plain c no-open none e =
      record {
        clients = ap (λ (x : Setup). x.clients) (setup_same c t no-open);
        after = sym (left_same c t);
        bytes = rw (← e, uncharted) (sym (append-nil (answer_line a)));
        draws = rw uncharted tt;
      }
    where
      uncharted : (reading a).charted ≡ []
      uncharted = ap (λ (x : Answer). (reading x).charted) (the_answer e) ∙ (call_answers c t).uncharted none

  -- a line that is no frame
  pub bad_plain : a ∷ [] ≡ Refused 1 ∷ [] → Plain (λ output. []) starts t a
  bad_plain e =
      record {
        clients = refl;
        after = refl;
        bytes = rw (the_answer e) (sym (append-nil (answer_line (Refused 1))));
        draws = rw (the_answer e) tt;
      }

-- ---- the chart
-- an output as long as a waiting table can be is never too short: only the tables can be refused
chart_match_lem : (output : List ℕ) (t : State) → most_records ≤ length output
    → first_match (chart_refusals output t) ≡ first_match (refusal4 t ∷ refusal5 t ∷ [])
unfolding chart_refusals first_match
chart_match_lem output t h = go (refusal4 t).holds refl
  where
    go : (x : Bool) → (refusal4 t).holds ≡ x
        → cond x (refusal4 t).number (first_match (refusal5 t ∷ refusal12 output t ∷ []))
        ≡ cond x (refusal4 t).number (first_match (refusal5 t ∷ []))
    go true e = refl
    go false e =
        let shape = shape_facts t (not-false (shape_of t) (sym (shape_refused t) ∙ e)) in
        rw (le-ltb (length output) t.head.waiting (omega (arith, shape.waits, shape.most_records_lem)))

-- an accepted chart writes the start slots, and none is the largest number
module _ (output : List ℕ) (t : State) (none : first_match (chart_refusals output t) ≡ 0) where
  abbrev ready : Ready t
  ready = (chart_ready output t none).ready

  charts : Charts output t (chart_output output t)
  unfolding outcome_of chart_accepted
  charts = chart_written output t (rw none)

  drawn : take t.head.waiting (chart_output output t) ≡ starts_of t.head.setup (waiting t)
  drawn = rw (charts.one_each ∙ waiting_length t ready.shape) at charts.starts

  deadline_most : (j : ℕ) → j < length (deadlines_of (waiting t)) → get_or (deadlines_of (waiting t)) j 0 ≤ largest64
  deadline_most j h =
      let l = length-map (waiting t) (λ w. w.deadline) in
      let a = all_at (Ahead t.head.clock) (waiting t) j zero_request (omega arith) ready.sound.ahead in
      omega (arith, get_or-map (λ w. w.deadline) (waiting t) j zero_request, a.1, ready.sound.headed.clock)

  start_most : (k : ℕ) → k < t.head.waiting → get_or (chart_output output t) k 0 < largest64
  start_most k h =
      rw (← get_or-take t.head.waiting (chart_output output t) k 0 h, drawn, ← starts_column t.head.setup (waiting t))
      (starts_below t.head.setup (deadlines_of (waiting t)) k
      (omega (arith, length-map (waiting t) (λ w. w.deadline), waiting_length t ready.shape)) deadline_most)

  can_draw : CanDraw (Charted t.head.waiting) (chart_output output t)
  can_draw = (
    omega (arith, ready.shape.waits, ready.shape.most_records_lem),
    omega (arith, charts.same_length, (chart_ready output t none).long),
    start_most,
  )

-- so every output as long gets the answer and the start slots of the session's own
module _ (starts : List ℕ) (t : State) (a : Answer) (long : most_records ≤ length starts) where
  record SameDrawing (o q : Outcome) : Type 0 where
    after : o.after ≡ t
    back : cond (is_refused q.answers) t q.after ≡ t
    bytes :
        answer_lines o.after.head.setup (chart_output starts t) a
        ≡ gather (answer_lines q.after.head.setup (chart_output blank t)) q.answers
    draws : CanDraw a (chart_output starts t)

  both_drawn : a ∷ [] ≡ (outcome_of (chart starts) t).answers → SameDrawing (outcome_of (chart starts) t) (outcome_of (chart blank) t)
  unfolding outcome_of chart_accepted
  both_drawn =
      alike (λ (o q : Outcome). a ∷ [] ≡ o.answers → SameDrawing o q) (chart_refusals starts t) (chart_refusals blank t) t t
      (chart_accepted t) (chart_accepted t)
      (chart_match_lem starts t long ∙ sym (chart_match_lem blank t (omega (arith, length-replicate {A = ℕ} most_records 0))))
      (λ e e' g.
      record {
        after = refl;
        back = refl;
        bytes = rw (the_answer g, drawn starts t e, drawn blank t e') (sym (append-nil (chart_lines _)));
        draws = rw (the_answer g) (can_draw starts t e);
      })
      (λ k g.
      record {
        after = refl;
        back = refl;
        bytes = rw (the_answer g) (sym (append-nil (answer_line (Refused k))));
        draws = rw (the_answer g) tt;
      })

  pub chart_plain : a ∷ [] ≡ (outcome_of (chart starts) t).answers → Plain (λ output. chart output ∷ []) starts t a
  chart_plain e =
      let d = both_drawn e in
      record {
        clients = rw d.after;
        after = d.after ∙ sym d.back;
        bytes = d.bytes;
        draws = d.draws;
      }
