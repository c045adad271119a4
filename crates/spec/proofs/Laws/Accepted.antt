-- What it means that a call is accepted, as facts, and the states that accepted calls leave. Assumes nothing.
use Prim.Native.Nat.{ℕ, suc, ◌+◌, ◌-◌, ◌≤◌, ◌<◌, ◌*◌}
use mathlib.Core.Path.{◌≡◌, sym, ap, ◌∙◌}
use mathlib.Core.Logic.{◌≢◌}
use mathlib.Core.Bool.{Bool, true, false, not, cond}
use mathlib.Core.List.{List, [], ◌∷◌, ◌++◌}
use native.Mathlib.Omega.{arith}
use borrow.Author.Tests.{ltb-true, ltb-false, eqb-true, eqb-false, not-false, le-ltb, lt-ltb, eq-eqb, ne_eqb}
use lib.Dec.{ltb, eqb}
use lib.ListN.{drop, length, get_or, replicate, length-take, length-drop, length-append, length-replicate, take-append-drop}
use lib.Seq.{take-append_seam, drop-append_seam}
use Rattle.slots.proofs.Laws.Tests.{Same, same_yes, same_no, same}
use Rattle.spec.specs.declared.types.Setup.{Setup}
use Rattle.spec.specs.declared.types.Counts.{Counts}
use Rattle.spec.specs.declared.types.Request.{Request}
use Rattle.spec.specs.Every.{is_within}
use Rattle.spec.specs.Tables.{most_records, most_counted, clock_end, number_end, most_ahead, client_table, client_width, zero_request}
use Rattle.spec.specs.Tables.{zero_counts, State, waiting, behind, holding, next_state, change, one_more_dropped}
use Rattle.spec.specs.Tables.{one_more_served}
use Rattle.spec.specs.Setup.{Refusal, first_match}
use Rattle.spec.specs.Order.{remove_at}
use Rattle.spec.specs.Hours.{capacity_of, is_open}
use Rattle.spec.specs.Chart.{room_to}
use Rattle.spec.specs.Sound.{is_client, is_sound}
use Rattle.spec.specs.Calls.Refusals.{is_misshapen, refusal4_open, refusal4, refusal5, refusal6, refusal7, refusal15, refusal8}
use Rattle.spec.specs.Calls.Refusals.{refusal9, refusal10, refusal11, refusal12}
use Rattle.spec.specs.Calls.Outcomes.{Outcome, refusing, unless_refused}
use Rattle.spec.specs.Calls.Open.{open_refusals}
use Rattle.spec.specs.Calls.Submit.{submit_refusals, kept, dropped_at, with_new, counted_in, request_at}
use Rattle.spec.specs.Calls.Tick.{tick_refusals, tick_accepted, tick_open, tick_closed, counts_after}
use Rattle.spec.specs.Calls.Report.{report_refusals}
use Rattle.spec.specs.Calls.Chart.{chart_refusals}
use Rattle.spec.proofs.Laws.Every.{or_none, Value, is_true, is_false, value}
use Rattle.spec.proofs.Laws.Room.{capacity_open, capacity_closed}
use Rattle.spec.proofs.Laws.Layout.{whole_records}
use Rattle.spec.proofs.Laws.Sound.{within_test, within_refused, none_match, SetupWithin, setup_none, Shaped, Sound}
use Rattle.spec.proofs.Laws.Sound.{sound_facts, sound_test}

-- ---- accepted, or refused with the first number that matches
pub data Decided (rs : List Refusal) (s : State) (o : Outcome) : Outcome → Type 0 where
  accepts : first_match rs ≡ 0 → Decided rs s o o
  refuses : first_match rs ≢ 0 → Decided rs s o (refusing (first_match rs) s)

pub decided : (rs : List Refusal) (s : State) (o : Outcome) → Decided rs s o (unless_refused rs s o)
decided rs s o = go (eqb (first_match rs) 0) (same (first_match rs) 0)
  where
    go : (x : Bool) → Same (first_match rs) 0 x
        → Decided rs s o (cond x o (refusing (first_match rs) s))
    go true (same_yes e) = accepts e
    go false (same_no e) = refuses e

-- ---- the conditions as facts
pub record RightLengths (clients : ℕ) (s : State) : Type 0 where
  pub some_records : 1 ≤ length s.waiting_table
  pub most_records_lem : length s.waiting_table ≤ most_records
  pub numbers_length : length s.client_numbers ≡ client_width * clients
  pub clients_length : length (client_table s) ≡ clients

lengths : (clients : ℕ) (s : State) → is_misshapen clients s ≡ false → RightLengths clients s
lengths clients s e =
    let p = or_none (not (is_within 1 most_records (length s.waiting_table))) (not (eqb (length s.client_numbers) (client_width * clients))) e in
    let w = within_refused 1 most_records (length s.waiting_table) p.0 in
    let n = eqb-true (length s.client_numbers) (client_width * clients) (not-false (eqb (length s.client_numbers) (client_width * clients)) p.1) in
    record {
      some_records = w.0;
      most_records_lem = w.1;
      numbers_length = n;
      clients_length = whole_records s.client_numbers clients n;
    }

shaped : (s : State) → (refusal4 s).holds ≡ false → Shaped s
shaped s e =
    let p = or_none (is_misshapen s.head.setup.clients s) (ltb (length s.waiting_table) s.head.waiting) e in
    let l = lengths s.head.setup.clients s p.0 in
    record {
      some_records = l.some_records;
      most_records_lem = l.most_records_lem;
      numbers = l.numbers_length;
      clients = l.clients_length;
      waits = ltb-false (length s.waiting_table) s.head.waiting p.1;
    }

-- tables of the right lengths do not meet refusal 4
pub shaped_test : (s : State) → Shaped s → (refusal4 s).holds ≡ false
shaped_test s f =
    rw (
      within_test 1 most_records (length s.waiting_table) f.some_records f.most_records_lem,
      eq-eqb (length s.client_numbers) (client_width * s.head.setup.clients) f.numbers,
      le-ltb (length s.waiting_table) s.head.waiting f.waits,
    )

-- refusals 4 and 5 do not hold
pub record Ready (s : State) : Type 0 where
  pub shape : Shaped s
  pub sound : Sound s

pub ready : (s : State) (rs : List Refusal) → first_match (refusal4 s ∷ refusal5 s ∷ rs) ≡ 0 → Ready s × (first_match rs ≡ 0)
ready s rs e =
    let p = none_match (refusal4 s) (refusal5 s ∷ rs) (omega arith) e in
    let q = none_match (refusal5 s) rs (omega arith) p.1 in
    (record { shape = shaped s p.0; sound = sound_facts s (not-false (is_sound s) q.0) }, q.1)

-- The reverse: where tables are of the right lengths and sound, only the refusals behind 4 and 5 can match.
ready_passes : (s : State) (rs : List Refusal) → Ready s → first_match (refusal4 s ∷ refusal5 s ∷ rs) ≡ first_match rs
unfolding first_match
ready_passes s rs r = rw (shaped_test s r.shape, sound_test s r.sound)

-- ---- each call
pub record OpenReady (setup : Setup) (s : State) : Type 0 where
  pub within : SetupWithin setup
  pub lengths : RightLengths setup.clients s

pub open_ready : (setup : Setup) (s : State) → first_match (open_refusals setup s) ≡ 0 → OpenReady setup s
unfolding open_refusals
open_ready setup s e =
    let p = setup_none setup (refusal4_open setup.clients s ∷ []) e in
    let r = none_match (refusal4_open setup.clients s) [] (omega arith) p.1 in
    record { within = p.0; lengths = lengths setup.clients s r.0 }

pub record SubmitReady (client deadline : ℕ) (s : State) : Type 0 where
  pub ready : Ready s
  pub exists : client < s.head.setup.clients
  pub late : suc s.head.clock ≤ deadline
  pub near : deadline ≤ s.head.clock + most_ahead
  pub some_open : room_to s.head deadline ≢ 0
  pub countable : (get_or (client_table s) client zero_counts).submitted ≢ most_counted
  pub numbered : s.head.last ≢ number_end
  pub free : s.head.waiting ≢ length s.waiting_table

pub submit_ready : (client deadline : ℕ) (s : State) → first_match (submit_refusals client deadline s) ≡ 0
    → SubmitReady client deadline s
unfolding submit_refusals
submit_ready client deadline s e =
    let a = ready s (refusal6 client s ∷ refusal7 deadline s ∷ refusal15 deadline s ∷ behind_hours) e in
    let b = none_match (refusal6 client s) (refusal7 deadline s ∷ refusal15 deadline s ∷ behind_hours) (omega arith) a.1 in
    let c = none_match (refusal7 deadline s) (refusal15 deadline s ∷ behind_hours) (omega arith) b.1 in
    let h = none_match (refusal15 deadline s) behind_hours (omega arith) c.1 in
    let d = none_match (refusal8 client s) (refusal9 s ∷ refusal10 s ∷ []) (omega arith) h.1 in
    let f = none_match (refusal9 s) (refusal10 s ∷ []) (omega arith) d.1 in
    let g = none_match (refusal10 s) [] (omega arith) f.1 in
    let w = within_refused (suc s.head.clock) (s.head.clock + most_ahead) deadline c.0 in
    record {
      ready = a.0;
      exists = ltb-true client s.head.setup.clients (not-false (is_client s.head.setup.clients client) b.0);
      late = w.0;
      near = w.1;
      some_open = eqb-false (room_to s.head deadline) 0 h.0;
      countable = eqb-false (get_or (client_table s) client zero_counts).submitted most_counted d.0;
      numbered = eqb-false s.head.last number_end f.0;
      free = eqb-false s.head.waiting (length s.waiting_table) g.0;
    }
  where
    behind_hours : List Refusal
    behind_hours = refusal8 client s ∷ refusal9 s ∷ refusal10 s ∷ []

-- The reverse: no refusal matches a submit of which these facts hold, so that they are all that an accepted submit needs.
pub submit_none : (client deadline : ℕ) (s : State) → SubmitReady client deadline s
    → first_match (submit_refusals client deadline s) ≡ 0
unfolding submit_refusals first_match
submit_none client deadline s r =
    ready_passes s (refusal6 client s ∷ refusal7 deadline s ∷ refusal15 deadline s ∷ refusal8 client s ∷ refusal9 s ∷ refusal10 s ∷ []) r.ready
    ∙ rw (
      lt-ltb client s.head.setup.clients r.exists,
      within_test (suc s.head.clock) (s.head.clock + most_ahead) deadline r.late r.near,
      ne_eqb (room_to s.head deadline) 0 r.some_open,
      ne_eqb (get_or (client_table s) client zero_counts).submitted most_counted r.countable,
      ne_eqb s.head.last number_end r.numbered,
      ne_eqb s.head.waiting (length s.waiting_table) r.free,
    )

pub record TickReady (s : State) : Type 0 where
  pub ready : Ready s
  pub ticking : s.head.clock ≢ clock_end

pub tick_ready : (s : State) → first_match (tick_refusals s) ≡ 0 → TickReady s
unfolding tick_refusals
tick_ready s e =
    let a = ready s (refusal11 s ∷ []) e in
    let b = none_match (refusal11 s) [] (omega arith) a.1 in
    record { ready = a.0; ticking = eqb-false s.head.clock clock_end b.0 }

-- The same holds of a tick.
pub tick_none : (s : State) → TickReady s → first_match (tick_refusals s) ≡ 0
unfolding tick_refusals first_match
tick_none s r = ready_passes s (refusal11 s ∷ []) r.ready ∙ rw (ne_eqb s.head.clock clock_end r.ticking)

pub record ReportReady (client : ℕ) (s : State) : Type 0 where
  pub ready : Ready s
  pub exists : client < s.head.setup.clients

pub report_ready : (client : ℕ) (s : State) → first_match (report_refusals client s) ≡ 0 → ReportReady client s
unfolding report_refusals
report_ready client s e =
    let a = ready s (refusal6 client s ∷ []) e in
    let b = none_match (refusal6 client s) [] (omega arith) a.1 in
    record { ready = a.0; exists = ltb-true client s.head.setup.clients (not-false (is_client s.head.setup.clients client) b.0) }

pub record ChartReady (output : List ℕ) (s : State) : Type 0 where
  pub ready : Ready s
  pub long : s.head.waiting ≤ length output

pub chart_ready : (output : List ℕ) (s : State) → first_match (chart_refusals output s) ≡ 0 → ChartReady output s
unfolding chart_refusals
chart_ready output s e =
    let a = ready s (refusal12 output s ∷ []) e in
    let b = none_match (refusal12 output s) [] (omega arith) a.1 in
    record { ready = a.0; long = ltb-false (length output) s.head.waiting b.0 }

-- ---- the waiting requests of a state
pub waiting_length : (s : State) → Shaped s → length (waiting s) ≡ s.head.waiting
waiting_length s f = omega (arith, length-take s.head.waiting s.waiting_table, f.waits)

-- in sound tables the waiting table is what holds them
pub table_held : (s : State) → Ready s → s.waiting_table ≡ holding (length s.waiting_table) (waiting s)
table_held s r =
    sym (take-append-drop s.head.waiting s.waiting_table)
    ∙ ap (λ (l : List Request). waiting s ++ l) (r.sound.zeros ∙ ap (λ (n : ℕ). replicate n zero_request) left)
  where
    left : length (behind s) ≡ length s.waiting_table - length (waiting s)
    left = omega (arith, length-drop s.head.waiting s.waiting_table, waiting_length s r.shape)

-- ---- the states that calls leave
module _ (clock last : ℕ) (ws : List Request) (cs : List Counts) (s : State) where
  pub next_waiting : waiting (next_state clock last ws cs s) ≡ ws
  unfolding next_state
  next_waiting = take-append_seam ws (replicate (length s.waiting_table - length ws) zero_request)

  pub next_behind : behind (next_state clock last ws cs s) ≡ replicate (length s.waiting_table - length ws) zero_request
  unfolding next_state
  next_behind = drop-append_seam ws (replicate (length s.waiting_table - length ws) zero_request)

  pub next_length : length ws ≤ length s.waiting_table
      → length (next_state clock last ws cs s).waiting_table ≡ length s.waiting_table
  unfolding next_state
  next_length h =
      omega (
        arith,
        length-append ws (replicate (length s.waiting_table - length ws) zero_request),
        length-replicate (length s.waiting_table - length ws) zero_request,
      )

-- what waits then
pub kept_waiting : (client deadline : ℕ) (s : State) → waiting (kept client deadline s).after ≡ with_new client deadline s
unfolding kept
kept_waiting client deadline s =
    next_waiting s.head.clock (suc s.head.last) (with_new client deadline s) (counted_in client s) s

pub dropped_waiting : (k client deadline : ℕ) (s : State)
    → waiting (dropped_at k client deadline s).after ≡ remove_at k (with_new client deadline s)
unfolding dropped_at
dropped_waiting k client deadline s =
    next_waiting s.head.clock (suc s.head.last) (remove_at k (with_new client deadline s))
    (change one_more_dropped (request_at k client deadline s).client (counted_in client s)) s

-- an open slot serves one, a closed one nobody
pub ticked_waiting : (ws : List Request) (s : State)
    → waiting (tick_accepted ws s).after ≡ drop (capacity_of s.head.setup s.head.clock) ws
unfolding tick_accepted
ticked_waiting ws s = go (value (is_open s.head.setup s.head.clock))
  where
    clock : ℕ
    clock = suc s.head.clock

    go : Value (is_open s.head.setup s.head.clock)
        → waiting (cond (is_open s.head.setup s.head.clock) (tick_open ws s) (tick_closed ws s)).after
        ≡ drop (capacity_of s.head.setup s.head.clock) ws
    go (is_true e) = rw (e, capacity_open s.head.setup s.head.clock e) (served ws)
      where
        served : (ws : List Request) → waiting (tick_open ws s).after ≡ drop 1 ws
        served [] = next_waiting clock s.head.last [] (counts_after s.head.setup.period clock [] (client_table s)) s
        served (w ∷ ws) =
            next_waiting clock s.head.last ws
            (counts_after s.head.setup.period clock ws (change one_more_served w.client (client_table s))) s
    go (is_false e) =
        rw (e, capacity_closed s.head.setup s.head.clock e)
        (next_waiting clock s.head.last ws (counts_after s.head.setup.period clock ws (client_table s)) s)
