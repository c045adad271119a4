-- No value of an answer is too large for its field: document 01, "Session lines", "widths in bytes in brackets". Assumes nothing.
use Prim.Native.Nat.{ℕ, suc, ◌+◌, ◌≤◌, ◌<◌}
use mathlib.Core.Path.{◌≡◌}
use mathlib.Core.Bool.{Bool, true, false, cond}
use mathlib.Core.List.{List, [], ◌∷◌}
use native.Mathlib.Omega.{arith}
use lib.ListN.{length}
use Rattle.slots.proofs.Laws.Sums.{All, all_imp}
use Rattle.spec.specs.declared.types.Setup.{Setup}
use Rattle.spec.specs.declared.types.Request.{Request}
use Rattle.spec.specs.declared.types.Answer.{Answer}
use Rattle.spec.specs.Tables.{most_ahead, most_records, zero_request, State, waiting}
use Rattle.spec.specs.Setup.{first_match}
use Rattle.spec.specs.Chart.{starts_of, Segment, do_touch, join_left, segments_of, has_no_overfull}
use Rattle.spec.specs.Hours.{is_open}
use Rattle.spec.specs.Calls.Readings.{field, values_of}
use Rattle.spec.specs.Calls.Outcomes.{Outcome}
use Rattle.spec.specs.Calls.Open.{open_accepted}
use Rattle.spec.specs.Calls.Submit.{new_request, new_shift, with_new, kept, dropped_at, victim_place, submit_accepted}
use Rattle.spec.specs.Calls.Tick.{tick_accepted, tick_open, tick_closed}
use Rattle.spec.specs.Calls.{Call, outcome_of, accepted_of, refusals_of}
use Rattle.spec.proofs.Demands.Words.{Finish, FitsField}
use Rattle.spec.proofs.Laws.Every.{all_at}
use Rattle.spec.proofs.Laws.Order.{place_most, shift_most}
use Rattle.spec.proofs.Laws.Sound.{Ahead}
use Rattle.spec.proofs.Laws.Accepted.{Decided, accepts, refuses, Ready, SubmitReady, submit_ready, tick_ready}
use Rattle.spec.proofs.Laws.Accepted.{waiting_length}
use Rattle.spec.proofs.Calls.CallKinds.{CallKind, of_opening, of_submit, of_tick, reads_only, call_kind}
use Rattle.spec.proofs.Calls.Refused.{length_starts, outcome_decided, first_holds, first_listed, listed}
use Rattle.spec.proofs.Calls.Victim.{victim_place_lem}
use Rattle.spec.proofs.Calls.LatestSlots.{ready_chart}
use Rattle.spec.proofs.Calls.Segments.{segments_all}
use Rattle.spec.proofs.Calls.Keeps.{tidy_put}

abbrev AllFit : List Answer → Type 0
AllFit answers = All (λ (a : Answer). All FitsField (values_of a)) answers

-- ---- submit
module _ (client deadline : ℕ) (s : State) (r : SubmitReady client deadline s) where
  -- no more than 2,047 stand behind the new request, for there is a record free for it
  shift_fits : new_shift client deadline s < most_records
  shift_fits =
      omega (
        arith,
        shift_most (new_request client deadline s) (waiting s),
        waiting_length s r.ready.shape,
        r.free,
        r.ready.shape.waits,
        r.ready.shape.most_records_lem,
      )

  kept_fits : AllFit (kept client deadline s).answers
  unfolding kept
  kept_fits =
      omega (
        arith,
        r.ready.sound.headed.last,
        r.numbered,
        place_most (new_request client deadline s) (waiting s),
        shift_fits,
        waiting_length s r.ready.shape,
        r.ready.shape.waits,
        r.ready.shape.most_records_lem,
      )

  dropped_fits : (k : ℕ) → k < length (with_new client deadline s) → AllFit (dropped_at k client deadline s).answers
  unfolding dropped_at
  dropped_fits k h =
      let t = tidy_put client deadline s r in
      omega (
        arith,
        r.ready.sound.headed.last,
        r.numbered,
        r.ready.sound.headed.setup.most_clients_lem,
        shift_fits,
        all_at (λ (w : Request). (1 ≤ w.number) × (w.number ≤ suc s.head.last)) (with_new client deadline s) k zero_request h
            t.given,
        all_at (λ (w : Request). w.client < s.head.setup.clients) (with_new client deadline s) k zero_request h t.owned,
      )

  submit_fits : AllFit (submit_accepted client deadline s).answers
  unfolding submit_accepted
  submit_fits =
      go (has_no_overfull s.head (with_new client deadline s)) kept_fits
      (dropped_fits (victim_place client deadline s) (victim_place_lem client deadline s r).0)
    where
      go : (x : Bool) → AllFit (kept client deadline s).answers
          → AllFit (dropped_at (victim_place client deadline s) client deadline s).answers
          → AllFit (cond x (kept client deadline s) (dropped_at (victim_place client deadline s) client deadline s)).answers
      go true a b = a
      go false a b = b

-- ---- tick
tick_fits : (s : State) → Ready s → AllFit (tick_accepted (waiting s) s).answers
unfolding tick_accepted
tick_fits s r = go (is_open s.head.setup s.head.clock) (waiting s) r.sound.given r.sound.owned
  where
    go : (x : Bool) (ws : List Request) → All (λ (w : Request). (1 ≤ w.number) × (w.number ≤ s.head.last)) ws
        → All (λ (w : Request). w.client < s.head.setup.clients) ws → AllFit (cond x (tick_open ws s) (tick_closed ws s)).answers
    go true [] g o = omega (arith, r.sound.headed.clock)
    go false ws g o = omega (arith, r.sound.headed.clock)
    go true (w ∷ ws) g o =
        omega (arith, r.sound.headed.clock, r.sound.headed.last, r.sound.headed.setup.most_clients_lem, g.0, o.0)

-- ---- every call, refused ones too
accepted_fits : (c : Call) (s : State) → first_match (refusals_of c s) ≡ 0 → AllFit (accepted_of c s).answers
unfolding open_accepted
accepted_fits c s e = by_kind (call_kind c s) e
  where
    by_kind : {c : Call} → CallKind s c → first_match (refusals_of c s) ≡ 0 → AllFit (accepted_of c s).answers
    by_kind (of_opening setup) e = (tt, tt)
    by_kind (of_submit client deadline) e = submit_fits client deadline s (submit_ready client deadline s e)
    by_kind of_tick e = tick_fits s (tick_ready s e).ready
    by_kind (reads_only c r) e = rw r.accepted_is (r.fits e, tt)

pub call_fits : (c : Call) (s : State) → AllFit (outcome_of c s).answers
call_fits c s = go (outcome_decided c s)
  where
    go : {o : Outcome} → Decided (refusals_of c s) s (accepted_of c s) o → AllFit o.answers
    go (accepts e) = accepted_fits c s e
    go (refuses n) = omega (arith, first_listed (first_holds (refusals_of c s) n) (listed c s))

-- ---- segments
-- a segment whose ends are within the bound
abbrev Within : ℕ → Segment → Type 0
Within most g = (g.left ≤ most) × (g.right ≤ most)

segments_within : (setup : Setup) (most : ℕ) (starts : List ℕ) → All (λ (s : ℕ). suc s ≤ most) starts → All (Within most) (segments_of setup starts)
segments_within setup most starts a =
    segments_all setup (λ s. suc s ≤ most) (Within most) (λ s h. (omega arith, h)) (λ s g h k. (omega arith, k.1)) starts a

join_length : (setup : Setup) (s : ℕ) (gs : List Segment) → length (join_left setup s gs) ≤ suc (length gs)
join_length setup s [] = omega arith
join_length setup s (g ∷ gs) = go (do_touch setup (suc s) g.left)
  where
    go : (x : Bool)
        → length (cond x (record { left = s; right = g.right } ∷ gs) (record { left = s; right = suc s } ∷ g ∷ gs))
        ≤ suc (suc (length gs))
    go true = omega arith
    go false = omega arith

pub segments_length : (setup : Setup) (starts : List ℕ) → length (segments_of setup starts) ≤ length starts
unfolding segments_of
segments_length setup [] = omega arith
segments_length setup (s ∷ starts) = omega (arith, join_length setup s (segments_of setup starts), segments_length setup starts)

-- slots ended by deadlines within the bound
ended_within : (most : ℕ) (ws : List Request) (slots : List ℕ) → Finish ws slots → All (λ (w : Request). w.deadline ≤ most) ws
    → All (λ (s : ℕ). suc s ≤ most) slots
ended_within most [] [] f a = tt
ended_within most [] (s ∷ slots) f a = absurd f
ended_within most (w ∷ ws) [] f a = absurd f
ended_within most (w ∷ ws) (s ∷ slots) f a = (omega (arith, f.0, a.0), ended_within most ws slots f.1 a.1)

module _ (s : State) (r : Ready s) where
  latest_end : ℕ
  latest_end = s.head.clock + most_ahead

  pub segment_fits : All (λ (g : Segment). FitsField (field 8 g.left) × FitsField (field 8 g.right))
      (segments_of s.head.setup (starts_of s.head.setup (waiting s)))
  unfolding latest_end
  segment_fits =
      all_imp (Within latest_end) (λ (g : Segment). FitsField (field 8 g.left) × FitsField (field 8 g.right))
      (segments_of s.head.setup (starts_of s.head.setup (waiting s))) (λ g h. omega (arith, r.sound.headed.clock))
      (segments_within s.head.setup latest_end (starts_of s.head.setup (waiting s))
      (ended_within latest_end (waiting s) (starts_of s.head.setup (waiting s)) (ready_chart s r).ended
      (all_imp (Ahead s.head.clock) (λ (w : Request). w.deadline ≤ latest_end) (waiting s) (λ w h. h.1) r.sound.ahead)))

  pub count_fits : FitsField (field 2 (length (segments_of s.head.setup (starts_of s.head.setup (waiting s)))))
  count_fits =
      omega (
        arith,
        segments_length s.head.setup (starts_of s.head.setup (waiting s)),
        length_starts s.head.setup (waiting s),
        waiting_length s r.shape,
        r.shape.waits,
        r.shape.most_records_lem,
      )
