-- What the calls do where all hours are open: what they did before document 02, 2.2. Assumes nothing.
use Prim.Native.Nat.{ℕ, zero, suc, ◌+◌, ◌-◌, ◌≤◌, ◌<◌, min}
use mathlib.Core.Path.{◌≡◌, refl, sym, ap, ◌∙◌}
use mathlib.Core.Bool.{Bool, true, false, cond, true≢false}
use mathlib.Core.List.{List, [], ◌∷◌, ◌++◌}
use mathlib.Core.Logic.{◌≢◌, ◌↔◌}
use native.Mathlib.Omega.{arith}
use borrow.Author.Tests.{le-ltb, lt-ltb, eq-eqb, ne_eqb}
use lib.Dec.{eqb}
use Rattle.slots.specs.Plan.{Window, Slot, Fits, Plan}
use Rattle.slots.proofs.Single.{Distinct, distinct, distinct_plan}
use Rattle.slots.proofs.Laws.Tests.{Same, same_yes, same_no, same, le, gt, order}
use Rattle.slots.proofs.Laws.Sums.{All, all_imp}
use Rattle.spec.specs.declared.types.Setup.{Setup}
use Rattle.spec.specs.declared.types.Request.{Request}
use Rattle.spec.specs.declared.types.Answer.{Answer}
use Rattle.spec.specs.declared.types.Answer.TheVariants.{Refused}
use Rattle.spec.specs.Every.{count_if}
use Rattle.spec.specs.Tables.{most_ahead, State, waiting}
use Rattle.spec.specs.Hours.{capacity_of, is_open, room}
use Rattle.spec.specs.Chart.{taken, Segment, join_left, segments_of, latest_free, start_before, starts_of, do_touch, room_to}
use Rattle.spec.specs.Setup.{Refusal, first_match}
use Rattle.spec.specs.Calls.Readings.{kind_of, is_refused}
use Rattle.spec.specs.Calls.Outcomes.{Outcome}
use Rattle.spec.specs.Calls.Refusals.{refusal4, refusal5, refusal6, refusal7, refusal15, refusal8, refusal9, refusal10}
use Rattle.spec.specs.Calls.Submit.{submit_refusals}
use Rattle.spec.specs.Calls.Tick.{tick_open, tick_closed, tick_accepted}
use Rattle.spec.specs.Calls.{tick, submit, outcome_of, accepted_of, refusals_of}
use Rattle.spec.proofs.Demands.Words.{AllOpen, end_of, from, slots_of_all, Proper, NotDescending, Ascending, WithinCapacity}
use Rattle.spec.proofs.Laws.Every.{number_no, number_most, cond_true}
use Rattle.spec.proofs.Laws.Room.{open_capacity, open_room, open_slot}
use Rattle.spec.proofs.Laws.Sound.{within_refused}
use Rattle.spec.proofs.Laws.Accepted.{Decided, accepts, refuses}
use Rattle.spec.proofs.Calls.Refused.{outcome_decided, accepted_answer}
use Rattle.spec.proofs.Calls.LatestSlots.{starts_not_descending, taken_first}
use Rattle.spec.proofs.Calls.Segments.{segments_all, segments_proper}

none_below : (x : ℕ) (slots : List ℕ) → All (λ (y : ℕ). x < y) slots → taken x slots ≡ 0
unfolding count_if
none_below x [] a = refl
none_below x (y ∷ slots) a =
    omega (arith, number_no (eqb x y) (ne_eqb x y (λ e. omega (arith, a.0))), none_below x slots a.1)

ascending_not_descending : (slots : List ℕ) → Ascending slots → NotDescending slots
ascending_not_descending [] a = tt
ascending_not_descending (s ∷ slots) a = (
  all_imp (λ (y : ℕ). s < y) (λ (y : ℕ). s ≤ y) slots (λ y g. omega arith) a.0,
  ascending_not_descending slots a.1,
)

module _ (setup : Setup) (all : AllOpen setup) where
  -- ---- the chart
  -- the slot before e, where none before e is taken
  latest_free_lem : (later : List ℕ) (e : ℕ) → ((x : ℕ) → x < e → taken x later ≡ 0) → latest_free setup later e ≡ e - 1
  unfolding latest_free
  latest_free_lem later zero f = refl
  latest_free_lem later (suc e) f =
      rw (lt-ltb (taken e later) (capacity_of setup e) (omega (arith, f e (omega arith), open_capacity setup all e))) (omega arith)

  -- a slot that is taken is passed over
  latest_passed : (later : List ℕ) (e : ℕ) → 1 ≤ taken e later → latest_free setup later (suc e) ≡ latest_free setup later e
  unfolding latest_free
  latest_passed later e h = rw (le-ltb (taken e later) (capacity_of setup e) (omega (arith, open_capacity setup all e)))

  start_before_lem : (w : Request) (later : List ℕ) → NotDescending later → start_before setup w later ≡ (end_of w later - 1) ∷ later
  start_before_lem w [] o = ap (λ (s : ℕ). s ∷ []) (latest_free_lem [] w.deadline (λ x h. none_below x [] tt))
  start_before_lem w (x ∷ later) o =
      ap (λ (s : ℕ). s ∷ x ∷ later)
      (elim (order w.deadline x) [
        | le h ↦
            let d : min w.deadline (suc x) ≡ w.deadline = omega arith in
            let e : min w.deadline x ≡ w.deadline = omega arith in
            rw (d, e) (latest_free_lem (x ∷ later) w.deadline (λ y g. untaken y (omega arith)))
        | gt h ↦
            let d : min w.deadline (suc x) ≡ suc x = omega arith in
            let e : min w.deadline x ≡ x = omega arith in
            rw (d, e) (latest_passed (x ∷ later) x (omega (arith, taken_first x later)) ∙ latest_free_lem (x ∷ later) x untaken)
      ])
    where
      untaken : (y : ℕ) → y < x → taken y (x ∷ later) ≡ 0
      untaken y g =
          none_below y (x ∷ later) (g, all_imp (λ (z : ℕ). x ≤ z) (λ (z : ℕ). y < z) later (λ z k. omega arith) o.0)

  pub open_starts : (w : Request) (ws : List Request)
      → starts_of setup (w ∷ ws) ≡ (end_of w (starts_of setup ws) - 1) ∷ starts_of setup ws
  unfolding starts_of
  open_starts w ws = start_before_lem w (starts_of setup ws) (starts_not_descending setup ws)

  pub open_touch : (end start : ℕ) → end ≤ start → do_touch setup end start ≡ eqb end start
  open_touch end start h = go (eqb end start) (same end start)
    where
      go : (b : Bool) → Same end start b → eqb (room setup end start) 0 ≡ b
      go true (same_yes e) = eq-eqb (room setup end start) 0 (omega (arith, open_room setup all end start))
      go false (same_no n) = ne_eqb (room setup end start) 0 (λ e. omega (arith, open_room setup all end start))

  -- ---- segments: their slots are just the start slots
  one_slot : (s : ℕ) → suc s - s ≡ 1
  one_slot s = omega arith

  join_slots : (s : ℕ) (gs : List Segment) → All (λ (g : Segment). s < g.left) gs → All Proper gs
      → slots_of_all (join_left setup s gs) ≡ s ∷ slots_of_all gs
  join_slots s [] l a = ap (λ (n : ℕ). from s n ++ []) (one_slot s)
  join_slots s (g ∷ gs) l a =
      rw (open_touch (suc s) g.left l.0) (go (eqb (suc s) g.left) (same (suc s) g.left) a.0)
    where
      go : (x : Bool) → Same (suc s) g.left x → Proper g
          → slots_of_all (cond x (record { left = s; right = g.right } ∷ gs) (record { left = s; right = suc s } ∷ g ∷ gs))
          ≡ s ∷ slots_of_all (g ∷ gs)
      go true (same_yes e) p =
          let more : g.right - s ≡ suc (g.right - g.left) = omega arith in
          ap (λ (n : ℕ). from s n ++ slots_of_all gs) more ∙ ap (λ (x : ℕ). s ∷ (from x (g.right - g.left) ++ slots_of_all gs)) e
      go false (same_no e) p = ap (λ (n : ℕ). from s n ++ slots_of_all (g ∷ gs)) (one_slot s)

  pub open_segments : (starts : List ℕ) → Ascending starts → slots_of_all (segments_of setup starts) ≡ starts
  unfolding segments_of
  open_segments [] a = refl
  open_segments (s ∷ starts) a =
      join_slots s (segments_of setup starts)
      (segments_all setup (λ (x : ℕ). s < x) (λ (g : Segment). s < g.left) (λ x h. h) (λ x g h k. h) starts a.0)
      (segments_proper setup starts (ascending_not_descending starts a.1))
      ∙ ap (λ (l : List ℕ). s ∷ l) (open_segments starts a.1)

  -- ---- plans and rivals of the chart
  pub open_plans : (R : List Window) (P : List Slot) → Plan (capacity_of setup) R P ↔ (Fits R P × Distinct P)
  open_plans R P = (
    (λ p. (p.fits, distinct (capacity_of setup) (λ s. omega (arith, open_capacity setup all s)) R P p)),
    (λ d. distinct_plan (capacity_of setup) R P d.0 d.1 (λ i s e. omega (arith, open_capacity setup all s))),
  )

  -- slots that ascend are given to one each
  ascending_once : (slots : List ℕ) → Ascending slots → (x : ℕ) → taken x slots ≤ 1
  unfolding count_if
  ascending_once [] a x = omega arith
  ascending_once (s ∷ slots) a x =
      elim (order x s) [
        | le h ↦
            omega (
              arith,
              number_most (eqb x s),
              none_below x slots (all_imp (λ (y : ℕ). s < y) (λ (y : ℕ). x < y) slots (λ y g. omega arith) a.0),
            )
        | gt h ↦ omega (arith, number_no (eqb x s) (ne_eqb x s (λ e. omega arith)), ascending_once slots a.1 x)
      ]

  pub open_ascending : (slots : List ℕ) → Ascending slots → NotDescending slots × WithinCapacity setup slots
  open_ascending slots a = (
    ascending_not_descending slots a,
    (λ x. omega (arith, ascending_once slots a x, open_capacity setup all x)),
  )

-- ---- tick
abbrev NotClosed : List Answer → Type 0
NotClosed answers = All (λ (a : Answer). kind_of a ≢ 0x89) answers

open_tick : (ws : List Request) (s : State) → NotClosed (tick_open ws s).answers
open_tick [] s = omega arith
open_tick (w ∷ ws) s = omega arith

open_accepted_lem : (ws : List Request) (s : State) → AllOpen s.head.setup → tick_accepted ws s ≡ tick_open ws s
unfolding tick_accepted
open_accepted_lem ws s all =
    cond_true (is_open s.head.setup s.head.clock) (tick_open ws s) (tick_closed ws s)
    (open_slot s.head.setup all s.head.clock)

pub never_closed : (s : State) → AllOpen s.head.setup → NotClosed (outcome_of tick s).answers
never_closed s all = go (outcome_decided tick s)
  where
    go : {o : Outcome} → Decided (refusals_of tick s) s (accepted_of tick s) o → NotClosed o.answers
    go (accepts e) = rw (open_accepted_lem (waiting s) s all) (open_tick (waiting s) s)
    go (refuses e) = omega arith

-- ---- submit
refused_number : {m n : ℕ} → ◌≡◌ {A = List Answer} (Refused m ∷ []) (Refused n ∷ []) → m ≡ n
refused_number e = cc

-- the first that holds has another number: it does not hold, and n is the first number of the rest
first_other : (n : ℕ) (r : Refusal) (rs : List Refusal) → r.number ≢ n → first_match (r ∷ rs) ≡ n
    → (r.holds ≡ false) × (first_match rs ≡ n)
unfolding first_match
first_other n r rs m e = go r.holds e
  where
    go : (x : Bool) → cond x r.number (first_match rs) ≡ n → (x ≡ false) × (first_match rs ≡ n)
    go true e = absurd (m e)
    go false e = (refl, e)

module _ (client deadline : ℕ) (s : State) (all : AllOpen s.head.setup) where
  -- a deadline after the clock has an open slot before it
  passes_15 : (refusal7 deadline s).holds ≡ false → (refusal15 deadline s).holds ≡ false
  passes_15 e =
      let w = within_refused (suc s.head.clock) (s.head.clock + most_ahead) deadline e in
      ne_eqb (room_to s.head deadline) 0
      (λ z. omega (arith, w.0, open_room s.head.setup all s.head.clock deadline))

  never_first : first_match (submit_refusals client deadline s) ≢ 15
  unfolding submit_refusals first_match
  never_first e =
      let a = first_other 15 (refusal4 s) (refusal5 s ∷ refusal6 client s ∷ behind6) (omega arith) e in
      let b = first_other 15 (refusal5 s) (refusal6 client s ∷ behind6) (omega arith) a.1 in
      let c = first_other 15 (refusal6 client s) behind6 (omega arith) b.1 in
      let d = first_other 15 (refusal7 deadline s) (refusal15 deadline s ∷ behind15) (omega arith) c.1 in
      let f = ap (λ (x : Bool). cond x 15 (first_match behind15)) (sym (passes_15 d.0)) ∙ d.1 in
      let g = first_other 15 (refusal8 client s) (refusal9 s ∷ refusal10 s ∷ []) (omega arith) f in
      let h = first_other 15 (refusal9 s) (refusal10 s ∷ []) (omega arith) g.1 in
      let i = first_other 15 (refusal10 s) [] (omega arith) h.1 in
      omega (arith, i.1)
    where
      behind15 : List Refusal
      behind15 = refusal8 client s ∷ refusal9 s ∷ refusal10 s ∷ []

      behind6 : List Refusal
      behind6 = refusal7 deadline s ∷ refusal15 deadline s ∷ behind15

  pub never_15 : (outcome_of (submit client deadline) s).answers ≢ Refused 15 ∷ []
  never_15 = go (outcome_decided (submit client deadline) s)
    where
      go : {o : Outcome} → Decided (submit_refusals client deadline s) s (accepted_of (submit client deadline) s) o
          → o.answers ≢ Refused 15 ∷ []
      go (accepts e) p = absurd (true≢false (sym (ap is_refused p) ∙ accepted_answer (submit client deadline) s))
      go (refuses e) p = never_first (refused_number p)
