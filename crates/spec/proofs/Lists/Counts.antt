-- Counts: after any list of calls from open on, each client's counts are what the calls and answers since the last period start
-- say. Assumes nothing.
use Prim.Native.Nat.{ℕ, suc, ◌+◌, ◌<◌}
use mathlib.Core.Path.{◌≡◌, refl, sym, ap, ◌∙◌}
use mathlib.Core.Bool.{Bool, true, false, cond}
use mathlib.Core.List.{List, [], ◌∷◌, map}
use native.Mathlib.Nat.{zero-add}
use native.Mathlib.Omega.{arith}
use lib.Dec.{eqb}
use lib.ListN.{length, get_or, get_or-replicate, length-replicate, replicate}
use Rattle.slots.proofs.Laws.Sums.{total_map}
use Rattle.spec.specs.declared.types.Setup.{Setup}
use Rattle.spec.specs.declared.types.Request.{Request}
use Rattle.spec.specs.declared.types.Counts.{Counts}
use Rattle.spec.specs.declared.types.Answer.{Answer}
use Rattle.spec.specs.declared.types.Answer.TheVariants.{Served, Idle, Closed}
use Rattle.spec.specs.Every.{to_number, exists, count_if, map_from}
use Rattle.spec.specs.Tables.{zero_counts, State, waiting, next_state, client_table, change, one_more_submitted}
use Rattle.spec.specs.Tables.{one_more_served, one_more_dropped}
use Rattle.spec.specs.Sound.{waiting_of}
use Rattle.spec.specs.Calls.Readings.{is_refused, Victim, reading, nobody}
use Rattle.spec.specs.Calls.Outcomes.{Outcome}
use Rattle.spec.specs.Calls.Open.{open_accepted}
use Rattle.spec.specs.Calls.Submit.{counted_in, kept, dropped_at, victim_place, request_at}
use Rattle.spec.specs.Calls.Tick.{is_period_start, restarted, one_later, tick_open}
use Rattle.spec.specs.Calls.Report.{report_accepted, report_answer}
use Rattle.spec.specs.Calls.{Call, submit, tick, report, outcome_of, opening}
use Rattle.spec.specs.Lists.{run, history, Event, is_opened, is_tick, ticks, Asked, waiting_requests, waiting_by, submitters}
use Rattle.spec.specs.Lists.{served_clients, victim_clients, starts_period, since_start, counts_since}
use Rattle.spec.proofs.Laws.Layout.{records_numbers}
use Rattle.spec.proofs.Laws.Clients.{length_change, get_d_change, counts_path}
use Rattle.spec.proofs.Laws.Every.{count_total, length_map_from, get_d_map_from}
use Rattle.spec.proofs.Laws.Accepted.{next_waiting, ReportReady, report_ready}
use Rattle.spec.proofs.Calls.Refused.{accepted_none, accepted_same}
use Rattle.spec.proofs.Lists.Trace.{Then, Traced, event, Submitted, keeps, drops, submitted_cases, Step, submits, serves}
use Rattle.spec.proofs.Lists.Trace.{passes, Ticked, idles, serves_first, rests, ticked_cases, traced_open, traced_step, along, accepted_open}

-- ---- what one event adds
abbrev adding : ℕ → ℕ → ℕ → Counts → Counts
adding a b d k = record { submitted = a + k.submitted; served = b + k.served; dropped = d + k.dropped }

adding_none : (k : Counts) → adding 0 0 0 k ≡ k
adding_none k =
    counts_path (adding 0 0 0 k) k (zero-add k.submitted) (zero-add k.served) (zero-add k.dropped)

-- what an event adds to a client's counts: one for each time that it names the client
abbrev added_by : ℕ → Event → Counts → Counts
added_by c e = adding (count_if (eqb c) (submitters e)) (count_if (eqb c) (served_clients e)) (count_if (eqb c) (victim_clients e))

-- where no period starts
since_adds : (period c : ℕ) (e : Event) (es : List Event) → starts_period period e es ≡ false
    → counts_since period c (e ∷ es) ≡ added_by c e (counts_since period c es)
unfolding counts_since since_start
since_adds period c e es h =
    counts_path (counts_since period c (e ∷ es)) (added_by c e (counts_since period c es))
    (later (waiting_by c) submitters) (later (λ _. 0) served_clients) (later (λ _. 0) victim_clients)
  where
    later : (at_start : List Event → ℕ) (names : Event → List ℕ)
        → since_start at_start names period c (e ∷ es) ≡ count_if (eqb c) (names e) + since_start at_start names period c es
    later at_start names = rw h

-- where one starts, only what waits is counted
since_starts : (period c : ℕ) (e : Event) (es : List Event) → starts_period period e es ≡ true
    → counts_since period c (e ∷ es) ≡ record { submitted = waiting_by c (e ∷ es); served = 0; dropped = 0 }
unfolding counts_since since_start
since_starts period c e es h =
    counts_path (counts_since period c (e ∷ es)) (record { submitted = waiting_by c (e ∷ es); served = 0; dropped = 0 })
    (first (waiting_by c) submitters) (first (λ _. 0) served_clients) (first (λ _. 0) victim_clients)
  where
    first : (at_start : List Event → ℕ) (names : Event → List ℕ) → since_start at_start names period c (e ∷ es) ≡ at_start (e ∷ es)
    first at_start names = rw h

named_one : (c x : ℕ) → count_if (eqb c) (x ∷ []) ≡ to_number (eqb c x)
unfolding count_if
named_one c x = omega arith

named_none : (c : ℕ) → count_if (eqb c) [] ≡ 0
unfolding count_if
named_none c = refl

one_add : (n : ℕ) → suc n ≡ 1 + n
one_add n = omega arith

none_add : (n : ℕ) → n ≡ 0 + n
none_add n = sym (zero-add n)

-- one more submitted, and one more dropped
both_added : (x y : ℕ) (j : Counts) → adding 0 0 y (adding x 0 0 j) ≡ adding x 0 y j
both_added x y j =
    counts_path (adding 0 0 y (adding x 0 0 j)) (adding x 0 y j) (zero-add (x + j.submitted)) (zero-add (0 + j.served))
    (ap (λ (n : ℕ). y + n) (zero-add j.dropped))

-- one more of a count, where the client is the one named
module _ (x : Bool) (k : Counts) where
  one_submitted : cond x (one_more_submitted k) k ≡ adding (to_number x) 0 0 k
  one_submitted = go x
    where
      go : (y : Bool) → cond y (one_more_submitted k) k ≡ adding (to_number y) 0 0 k
      go true = counts_path (one_more_submitted k) (adding 1 0 0 k) (one_add k.submitted) (none_add k.served) (none_add k.dropped)
      go false = sym (adding_none k)

  one_served : cond x (one_more_served k) k ≡ adding 0 (to_number x) 0 k
  one_served = go x
    where
      go : (y : Bool) → cond y (one_more_served k) k ≡ adding 0 (to_number y) 0 k
      go true = counts_path (one_more_served k) (adding 0 1 0 k) (none_add k.submitted) (one_add k.served) (none_add k.dropped)
      go false = sym (adding_none k)

  one_dropped : cond x (one_more_dropped k) k ≡ adding 0 0 (to_number x) k
  one_dropped = go x
    where
      go : (y : Bool) → cond y (one_more_dropped k) k ≡ adding 0 0 (to_number y) k
      go true = counts_path (one_more_dropped k) (adding 0 0 1 k) (none_add k.submitted) (none_add k.served) (one_add k.dropped)
      go false = sym (adding_none k)

-- ---- the client table is what the events say
pub record Counted (period : ℕ) (es : List Event) (s : State) : Type 0 where
  pub period_is : s.head.setup.period ≡ period
  pub counts_are : (c : ℕ) → c < length (client_table s) → get_or (client_table s) c zero_counts ≡ counts_since period c es

-- the requests that wait by the events are those of the table
waits_counted : (es : List Event) (s : State) (c : ℕ) → Traced es s → waiting_by c es ≡ waiting_of c (waiting s)
unfolding waiting_by waiting_of
waits_counted es s c T =
    count_total (λ a. eqb a.request.client c) (waiting_requests es)
    ∙ sym (total_map of_client (λ (a : Asked). a.request) (waiting_requests es))
    ∙ T.sums of_client
    ∙ sym (count_total (λ w. eqb w.client c) (waiting s))
  where
    of_client : Request → ℕ
    of_client r = to_number (eqb r.client c)

module _ (period : ℕ) (es : List Event) (s : State) (C : Counted period es s) where
  -- ---- a call that leaves the state as it was, and names nobody
  counted_same : (e : Event) → is_tick e ≡ false → submitters e ≡ [] → victim_clients e ≡ [] → Counted period (e ∷ es) s
  counted_same e t p q =
      record {
        period_is = C.period_is;
        counts_are = λ c h. C.counts_are c h ∙ sym (since_adds period c e es none_starts ∙ none c);
      }
    where
      none_starts : starts_period period e es ≡ false
      none_starts = rw t

      served : served_clients e ≡ []
      served = rw t

      none : (c : ℕ) → added_by c e (counts_since period c es) ≡ counts_since period c es
      none c = rw (p, served, q, named_none c) (adding_none (counts_since period c es))

  -- ---- submit
  counted_kept : (client deadline : ℕ) → Then (Counted period) (submit client deadline) (kept client deadline s) es
  unfolding kept next_state
  counted_kept client deadline =
      record {
        period_is = C.period_is;
        counts_are = λ c h. ap (λ (cs : List Counts). get_or cs c zero_counts) (records_numbers (counted_in client s))
            ∙ table c (omega (arith, ap length (records_numbers (counted_in client s)), length_change one_more_submitted client (client_table s)));
      }
    where
      e : Event
      e = event (submit client deadline) (kept client deadline s).answers

      table : (c : ℕ) → c < length (client_table s)
          → get_or (change one_more_submitted client (client_table s)) c zero_counts ≡ counts_since period c (e ∷ es)
      table c h =
          get_d_change one_more_submitted client (client_table s) c h
          ∙ one_submitted (eqb c client) (get_or (client_table s) c zero_counts)
          ∙ ap (adding (to_number (eqb c client)) 0 0) (C.counts_are c h)
          ∙ sym (since_adds period c e es refl ∙ rw (named_one c client, named_none c))

  counted_dropped : (k client deadline : ℕ)
      → Then (Counted period) (submit client deadline) (dropped_at k client deadline s) es
  unfolding dropped_at next_state
  counted_dropped k client deadline =
      record {
        period_is = C.period_is;
        counts_are =
            λ c h. ap (λ (cs : List Counts). get_or cs c zero_counts) (records_numbers (change one_more_dropped v.client counted))
            ∙ table c (omega (
              arith,
              ap length (records_numbers (change one_more_dropped v.client counted)),
              length_change one_more_dropped v.client counted,
              length_change one_more_submitted client (client_table s),
            ));
      }
    where
      e : Event
      e = event (submit client deadline) (dropped_at k client deadline s).answers

      v : Request
      v = request_at k client deadline s

      counted : List Counts
      counted = change one_more_submitted client (client_table s)

      table : (c : ℕ) → c < length (client_table s)
          → get_or (change one_more_dropped v.client counted) c zero_counts ≡ counts_since period c (e ∷ es)
      table c h =
          get_d_change one_more_dropped v.client counted c (omega (arith, length_change one_more_submitted client (client_table s)))
          ∙ one_dropped (eqb c v.client) (get_or counted c zero_counts)
          ∙ ap (adding 0 0 (to_number (eqb c v.client)))
          (get_d_change one_more_submitted client (client_table s) c h
          ∙ one_submitted (eqb c client) (get_or (client_table s) c zero_counts)
          ∙ ap (adding (to_number (eqb c client)) 0 0) (C.counts_are c h))
          ∙ both_added (to_number (eqb c client)) (to_number (eqb c v.client)) (counts_since period c es)
          ∙ sym (since_adds period c e es refl ∙ rw (named_one c client, named_one c v.client, named_none c))

  -- ---- tick
  -- the state one slot later, where cs counts what the tick served
  module _ (ws : List Request) (cs : List Counts) (a : List Answer) (accepted : is_refused a ≡ false)
      (clock-is : s.head.clock ≡ ticks es) where
    abbrev begins : Bool
    begins = is_period_start s.head.setup.period (suc s.head.clock)

    starts_same : begins ≡ starts_period period (event tick a) es
    unfolding ticks count_if
    starts_same = rw (accepted, C.period_is, later)
      where
        later : suc s.head.clock ≡ 1 + ticks es
        later = omega arith

    counted_later : Traced (event tick a ∷ es) (one_later ws cs s)
        → ((c : ℕ) → c < length cs → get_or cs c zero_counts ≡ added_by c (event tick a) (counts_since period c es))
        → Counted period (event tick a ∷ es) (one_later ws cs s)
    unfolding next_state
    counted_later T f =
        record { period_is = C.period_is; counts_are = rw (records_numbers (cond begins (map_from (restarted ws) 0 cs) cs)) (table begins refl) }
      where
        e : Event
        e = event tick a

        waits : (c : ℕ) → waiting_of c ws ≡ waiting_by c (e ∷ es)
        waits c =
            ap (waiting_of c)
            (sym (next_waiting (suc s.head.clock) s.head.last ws (cond begins (map_from (restarted ws) 0 cs) cs) s))
            ∙ sym (waits_counted (e ∷ es) (one_later ws cs s) c T)

        table : (x : Bool) → begins ≡ x → (c : ℕ) → c < length (cond x (map_from (restarted ws) 0 cs) cs)
            → get_or (cond x (map_from (restarted ws) 0 cs) cs) c zero_counts ≡ counts_since period c (e ∷ es)
        table true p c h =
            get_d_map_from (restarted ws) cs c zero_counts zero_counts (omega (arith, length_map_from (restarted ws) 0 cs))
            ∙ ap (λ (n : ℕ). record { submitted = n; served = 0; dropped = 0 }) (waits c)
            ∙ sym (since_starts period c e es (sym starts_same ∙ p))
        table false p c h = f c h ∙ sym (since_adds period c e es (sym starts_same ∙ p))

  -- nobody is served: no count changes
  counted_unserved : (ws : List Request) (a : Answer) → (reading a).refuses ≡ false → (reading a).names ≡ nobody → s.head.clock ≡ ticks es
      → Traced (event tick (a ∷ []) ∷ es) (one_later ws (client_table s) s)
      → Counted period (event tick (a ∷ []) ∷ es) (one_later ws (client_table s) s)
  counted_unserved ws a u n k T =
      counted_later ws (client_table s) (a ∷ []) u k T
      (λ c h. C.counts_are c h ∙ sym (rw (u, n, named_none c) (adding_none (counts_since period c es))))

  -- the first is served
  counted_served : (w : Request) (ws : List Request) → s.head.clock ≡ ticks es
      → Then Traced tick (tick_open (w ∷ ws) s) es → Then (Counted period) tick (tick_open (w ∷ ws) s) es
  counted_served w ws k T =
      counted_later ws (change one_more_served w.client (client_table s)) answers refl k T
      (λ c h. table c (omega (arith, length_change one_more_served w.client (client_table s))))
    where
      answers : List Answer
      answers = Served s.head.clock w.number w.client ∷ []

      table : (c : ℕ) → c < length (client_table s)
          → get_or (change one_more_served w.client (client_table s)) c zero_counts
          ≡ added_by c (event tick answers) (counts_since period c es)
      table c h =
          get_d_change one_more_served w.client (client_table s) c h
          ∙ one_served (eqb c w.client) (get_or (client_table s) c zero_counts)
          ∙ ap (adding 0 (to_number (eqb c w.client)) 0) (C.counts_are c h)
          ∙ sym (rw (named_one c w.client, named_none c))

  counted_tick : {ws : List Request} {o : Outcome} → Ticked s ws o → s.head.clock ≡ ticks es → Then Traced tick o es
      → Then (Counted period) tick o es
  counted_tick (idles o) k T = counted_unserved [] (Idle s.head.clock) refl refl k T
  counted_tick (serves_first w ws o) k T = counted_served w ws k T
  counted_tick (rests ws o) k T = counted_unserved ws (Closed s.head.clock) refl refl k T

  -- ---- any call but an accepted open
  counted_step : (e : Event) (t : State) → Step s e t → Traced es s → Traced (e ∷ es) t → Counted period (e ∷ es) t
  counted_step e t (submits client deadline r) T U = go (submitted_cases client deadline s)
    where
      go : {o : Outcome} → Submitted client deadline s o
          → Counted period (event (submit client deadline) o.answers ∷ es) o.after
      go (keeps h) = counted_kept client deadline
      go (drops h) = counted_dropped (victim_place client deadline s) client deadline
  counted_step e t (serves r) T U = counted_tick (ticked_cases s (waiting s)) T.clock U
  counted_step e t (passes x p) T U =
      counted_same x p.no_tick (ap (map (λ (a : Asked). a.request.client)) (p.none_asked 0))
      (ap (map (λ (v : Victim). v.client)) p.none_dropped)

counted_open : (setup : Setup) (s : State) → Counted setup.period [] (open_accepted setup s).after
unfolding open_accepted counts_since since_start
counted_open setup s =
    record {
      period_is = refl;
      counts_are =
          rw (records_numbers (replicate (length (client_table s)) zero_counts))
          (λ c h. get_or-replicate (length (client_table s)) c zero_counts zero_counts
          (omega (arith, length-replicate (length (client_table s)) zero_counts)));
    }

-- after any list of calls from an accepted open on, with no other accepted open in it
pub counted : (setup : Setup) (s : State) (cs : List Call) → is_refused (outcome_of (opening setup) s).answers ≡ false
    → exists is_opened (history (outcome_of (opening setup) s).after cs) ≡ false
    → Counted setup.period (history (outcome_of (opening setup) s).after cs) (run (outcome_of (opening setup) s).after cs)
counted setup s cs a h =
    (along (Counted setup.period)
    (λ s e t es k T C. counted_step setup.period es s C e t k T (traced_step s e t es k T)) (outcome_of (opening setup) s).after cs h
    (accepted_open (λ (o : Outcome). Traced [] o.after) setup s a (traced_open setup s))
    (accepted_open (λ (o : Outcome). Counted setup.period [] o.after) setup s a (λ r. counted_open setup s))).1

-- an accepted report says so
pub reported_counts : (period client : ℕ) (es : List Event) (s : State) → Traced es s → Counted period es s
    → is_refused (outcome_of (report client) s).answers ≡ false
    → (outcome_of (report client) s).answers ≡ report_answer client (counts_since period client es) (waiting_by client es) ∷ []
unfolding report_accepted outcome_of
reported_counts period client es s T C a =
    ap (λ (o : Outcome). o.answers) (accepted_same (report client) s a)
    ∙ (λ i. report_answer client (C.counts_are client inside i) (sym (waits_counted es s client T) i) ∷ [])
  where
    R : ReportReady client s
    R = report_ready client s (accepted_none (report client) s a)

    inside : client < length (client_table s)
    inside = omega (arith, R.exists, R.ready.shape.clients)
