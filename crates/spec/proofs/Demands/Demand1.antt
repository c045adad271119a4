-- Demand 1, of the definitions: "After every call and for all input, damaged tables included, the lent tables hold exactly what
-- document 01 says. A refused call gives its number and changes nothing." The calls' definitions say what the tables hold; here is
-- what follows from them. Statements, each under its sentence; the proofs stand in Calls/ and Lists/. Assumes nothing.
use Prim.Native.Nat.{ℕ, ◌-◌, ◌*◌, ◌/◌, ◌%◌, ◌≤◌, ◌<◌, min}
use mathlib.Core.Path.{◌≡◌, refl, sym, ap, ◌∙◌}
use mathlib.Core.Logic.{◌↔◌}
use mathlib.Core.Bool.{true, false, true≢false}
use mathlib.Core.List.{List, [], ◌∷◌, ◌++◌}
use native.Mathlib.Omega.{arith}
use native.Mathlib.Nat.{div-add-mod', mul-mod_left}
use borrow.Author.Tests.{eqb-true, eq-eqb}
use lib.ListN.{length, get_or, take, drop, length-append, length-drop}
use lib.Seq.{take-append_seam, drop-append_seam}
use Rattle.slots.specs.Plan.{CanAllFinish}
use Rattle.slots.proofs.Laws.Sums.{All}
use Rattle.spec.specs.declared.types.Setup.{Setup}
use Rattle.spec.specs.declared.types.Answer.{Answer}
use Rattle.spec.specs.declared.types.Answer.TheVariants.{Charted, Refused}
use Rattle.spec.specs.Every.{exists, count_if}
use Rattle.spec.specs.Tables.{zero_counts, State, waiting, deadlines_of, client_table}
use Rattle.spec.specs.Setup.{first_match}
use Rattle.spec.specs.Chart.{taken, Segment, starts_of, segments_of}
use Rattle.spec.specs.Hours.{capacity_of, is_open}
use Rattle.spec.specs.Sound.{is_sound}
use Rattle.spec.specs.Calls.Readings.{field, values_of, is_refused}
use Rattle.spec.specs.Calls.Refusals.{refusal4}
use Rattle.spec.specs.Calls.Outcomes.{Outcome}
use Rattle.spec.specs.Calls.Tick.{is_period_start}
use Rattle.spec.specs.Calls.Report.{report_answer}
use Rattle.spec.specs.Calls.Chart.{chart_refusals, chart_accepted, chart_output}
use Rattle.spec.specs.Calls.{Call, chart, outcome_of, opening, report, accepted_of, refusals_of}
use Rattle.spec.specs.Lists.{run, Event, history, WithRefused, is_opened, waiting_by, counts_since}
use Rattle.spec.proofs.Demands.Words.{FitsField, FirstHolds, Ascending, NotDescending, Pairs, Finish, WithinCapacity, IsStart}
use Rattle.spec.proofs.Demands.Words.{ChartFits, Proper, Touch, lies_in, LongestRuns}
use Rattle.spec.proofs.Laws.Sound.{sound_test}
use Rattle.spec.proofs.Laws.Accepted.{shaped_test, Decided, accepts, refuses, decided, ChartReady, chart_ready}
use Rattle.spec.proofs.Laws.Accepted.{waiting_length}
use Rattle.spec.proofs.Calls.Refused.{accepted_same, outcome_decided, accepted_answer, accepted_none}
use Rattle.spec.proofs.Calls.Refused.{first_holds, first_match_lem, first_listed, listed, length_starts, Written, untouched}
use Rattle.spec.proofs.Calls.Refused.{written, output_written}
use Rattle.spec.proofs.Calls.Keeps.{same_lengths, keeps}
use Rattle.spec.proofs.Calls.Widths.{call_fits, segment_fits, count_fits}
use Rattle.spec.proofs.Calls.LatestSlots.{latest_start, latest_behind, ready_chart, chart_ascends}
use Rattle.spec.proofs.Calls.Segments.{touch_none, longest_runs, segments_proper, segments_ends, segments_cover}
use Rattle.spec.proofs.Lists.Trace.{traced}
use Rattle.spec.proofs.Lists.Counts.{counted, reported_counts}
use Rattle.spec.proofs.Lists.Passing.{WithPassing, refused_pass, none_opened, same_waits, same_counts}

-- ---- refused calls
-- "Each is given whenever its condition holds and no earlier one does, and only then."
pub refused_exactly : (c : Call) (s : State) (n : ℕ) → ((outcome_of c s).answers ≡ Refused n ∷ []) ↔ FirstHolds (refusals_of c s) n
refused_exactly c s n = (to (outcome_decided c s), (λ f. from f (outcome_decided c s)))
  where
    to : {o : Outcome} → Decided (refusals_of c s) s (accepted_of c s) o → o.answers ≡ Refused n ∷ [] → FirstHolds (refusals_of c s) n
    to (accepts e) p = absurd (true≢false (sym (ap is_refused p) ∙ accepted_answer c s))
    to (refuses e) p =
        let q : first_match (refusals_of c s) ≡ n = cc in
        rw q at (first_holds (refusals_of c s) e)

    from : {o : Outcome} → FirstHolds (refusals_of c s) n → Decided (refusals_of c s) s (accepted_of c s) o → o.answers ≡ Refused n ∷ []
    from f (accepts e) = absurd (omega (arith, first_listed f (listed c s), first_match_lem f, e))
    from f (refuses e) = ap (λ (k : ℕ). Refused k ∷ []) (first_match_lem f)

-- "head, tables and output stay unchanged.": head and tables
pub refused_same : (c : Call) (s : State) → is_refused (outcome_of c s).answers ≡ true → (outcome_of c s).after ≡ s
refused_same c s = go (outcome_decided c s)
  where
    go : {o : Outcome} → Decided (refusals_of c s) s (accepted_of c s) o → is_refused o.answers ≡ true → o.after ≡ s
    go (accepts e) p = absurd (true≢false (sym p ∙ accepted_answer c s))
    go (refuses e) p = refl

-- "head, tables and output stay unchanged.": the output
pub chart_refused_same : (output : List ℕ) (s : State) → is_refused (outcome_of (chart output) s).answers ≡ true
    → chart_output output s ≡ output
unfolding outcome_of
chart_refused_same output s = go (decided (chart_refusals output s) s (chart_accepted s)) (output_written output s)
  where
    go : {o : Outcome} {l : List ℕ} → Decided (chart_refusals output s) s (chart_accepted s) o → Written output s l
        → is_refused o.answers ≡ true → l ≡ output
    go (accepts e) w p = absurd (true≢false (sym p ∙ accepted_answer (chart output) s))
    go (refuses e) (untouched f) p = refl
    go (refuses e) (written f) p = absurd (e f)

-- ---- accepted calls
-- "Every accepted call leaves sound tables." They keep their right lengths too: refusals 4 and 5 do not hold of them
pub leaves_sound : (c : Call) (s : State) → is_refused (outcome_of c s).answers ≡ false
    → (is_sound (outcome_of c s).after ≡ true) × ((refusal4 (outcome_of c s).after).holds ≡ false)
leaves_sound c s h =
    let r = keeps c s h in
    (sound_test (outcome_of c s).after r.sound, shaped_test (outcome_of c s).after r.shape)

-- the tables are lent: every call, accepted or refused, hands them back as long as it got them
pub keeps_lengths : (c : Call) (s : State)
    → (length (outcome_of c s).after.waiting_table ≡ length s.waiting_table)
    × (length (outcome_of c s).after.client_numbers ≡ length s.client_numbers)
keeps_lengths c s = same_lengths c s

-- ---- counts
-- To be shut out: "counts in a report that the calls since open do not give". What holds after a list of calls
pub record CountsGiven (period : ℕ) (es : List Event) (s : State) : Type 0 where
  -- each client's counts are what the calls and answers since the last period start say
  pub counts : (c : ℕ) → c < s.head.setup.clients → get_or (client_table s) c zero_counts ≡ counts_since period c es
  -- "Report gives a client's three counts and its waiting count."
  pub reports : (c : ℕ) → is_refused (outcome_of (report c) s).answers ≡ false
      → (outcome_of (report c) s).answers ≡ report_answer c (counts_since period c es) (waiting_by c es) ∷ []

-- of a list whose calls are all lent the queue's tables
counts_calls : (setup : Setup) (s : State) (cs : List Call) → is_refused (outcome_of (opening setup) s).answers ≡ false
    → exists is_opened (history (outcome_of (opening setup) s).after cs) ≡ false
    → CountsGiven setup.period (history (outcome_of (opening setup) s).after cs) (run (outcome_of (opening setup) s).after cs)
counts_calls setup s cs a h =
    let C = counted setup s cs a h in
    let T = traced setup s cs a h in
    let es = history (outcome_of (opening setup) s).after cs in
    let t = run (outcome_of (opening setup) s).after cs in
    record {
      counts = λ c l. C.counts_are c (omega (arith, T.ready.shape.clients));
      reports = λ c e. reported_counts setup.period c es t T C e;
    }

-- nothing of it depends on events that ask for nothing, serve nothing and drop nothing
counts_same : (period : ℕ) {es fs : List Event} (s : State) → WithPassing es fs → CountsGiven period es s
    → CountsGiven period fs s
counts_same period s w C =
    record {
      counts = λ c l. C.counts c l ∙ sym (same_counts w period c);
      reports = λ c e. rw (same_counts w period c, same_waits w c) (C.reports c e);
    }

-- a step for `Sessions`, and no statement of the demand
pub counts_passing : (setup : Setup) (s : State) (cs : List Call) (es : List Event)
    → is_refused (outcome_of (opening setup) s).answers ≡ false
    → WithPassing (history (outcome_of (opening setup) s).after cs) es
    → exists is_opened es ≡ false
    → CountsGiven setup.period es (run (outcome_of (opening setup) s).after cs)
counts_passing setup s cs es a w h =
    counts_same setup.period (run (outcome_of (opening setup) s).after cs) w (counts_calls setup s cs a (none_opened w h))

-- the list is one of demand 3: from an accepted open on, with no other accepted open in it, and with refused calls of every kind
pub counts_given_lem : (setup : Setup) (s : State) (cs : List Call) (es : List Event)
    → is_refused (outcome_of (opening setup) s).answers ≡ false
    → WithRefused (history (outcome_of (opening setup) s).after cs) es
    → exists is_opened es ≡ false
    → CountsGiven setup.period es (run (outcome_of (opening setup) s).after cs)
counts_given_lem setup s cs es a w h = counts_passing setup s cs es a (refused_pass w) h

-- "If it is now a multiple of the period": where a period starts, which the call and the counts since the last start ask alike. It is
-- said of every period and every clock. 0 is a multiple of every period, but no tick leaves the clock at 0; of a period 0, which
-- neither an open nor sound tables have, it is the only one
pub period_starts : (period clock : ℕ) → (is_period_start period clock ≡ true) ↔ ((k : ℕ) × (clock ≡ k * period))
period_starts period clock = (multiple, starts)
  where
    multiple : is_period_start period clock ≡ true → (k : ℕ) × (clock ≡ k * period)
    multiple e = (
      clock / period,
      omega (arith, div-add-mod' clock period, eqb-true (clock % period) 0 e),
    )

    starts : (k : ℕ) × (clock ≡ k * period) → is_period_start period clock ≡ true
    starts (k, e) = eq-eqb (clock % period) 0 (rw e (mul-mod_left k period))

-- ---- the chart
-- "Chart writes one start slot a waiting record, in chart order, into a lent output table and answers their count; entries beyond are
-- untouched.": l is the output after the call
pub record Charts (output : List ℕ) (s : State) (l : List ℕ) : Type 0 where
  pub answer : (outcome_of (chart output) s).answers ≡ Charted (length (starts_of s.head.setup (waiting s))) ∷ []
  pub one_each : length (starts_of s.head.setup (waiting s)) ≡ length (waiting s)
  pub same_length : length l ≡ length output
  pub starts : take (length (starts_of s.head.setup (waiting s))) l ≡ starts_of s.head.setup (waiting s)
  pub beyond : drop (length (starts_of s.head.setup (waiting s))) l ≡ drop (length (starts_of s.head.setup (waiting s))) output

-- an output whose front is the start slots, and the rest as it was, is such a one
written_charts : (output : List ℕ) (s : State) → (outcome_of (chart output) s).answers ≡ Charted (length (starts_of s.head.setup (waiting s))) ∷ []
    → length (starts_of s.head.setup (waiting s)) ≤ length output
    → Charts output s (starts_of s.head.setup (waiting s) ++ drop (length (starts_of s.head.setup (waiting s))) output)
written_charts output s a h =
    let starts = starts_of s.head.setup (waiting s) in
    let rest = drop (length starts) output in
    record {
      answer = a;
      one_each = length_starts s.head.setup (waiting s);
      same_length = omega (arith, length-append starts rest, length-drop (length starts) output);
      starts = take-append_seam starts rest;
      beyond = drop-append_seam starts rest;
    }

pub chart_written : (output : List ℕ) (s : State) → is_refused (outcome_of (chart output) s).answers ≡ false
    → Charts output s (chart_output output s)
unfolding outcome_of chart_accepted
chart_written output s p = go (output_written output s)
  where
    none : first_match (chart_refusals output s) ≡ 0
    none = accepted_none (chart output) s p

    r : ChartReady output s
    r = chart_ready output s none

    count : length (starts_of s.head.setup (waiting s)) ≡ s.head.waiting
    count = length_starts s.head.setup (waiting s) ∙ waiting_length s r.ready.shape

    answer : (outcome_of (chart output) s).answers ≡ Charted (length (starts_of s.head.setup (waiting s))) ∷ []
    answer = ap (λ (o : Outcome). o.answers) (accepted_same (chart output) s p) ∙ ap (λ (n : ℕ). Charted n ∷ []) (sym count)

    go : {l : List ℕ} → Written output s l → Charts output s l
    go (untouched f) = absurd (f none)
    go (written f) = written_charts output s answer (omega (arith, count, r.long))

-- "From the last record to the first, a request ends at the smaller of its deadline and the start of the record behind it, and starts
-- one slot earlier.", and document 02, 2.2: "the chart uses the latest open slots"
pub record ChartIsLatest (s : State) : Type 0 where
  -- the start slots are open slots from the clock on that do not descend, each ended by its request's deadline, and none is given to more
  -- than it can take
  pub fits : ChartFits s.head.setup s.head.clock (waiting s) (starts_of s.head.setup (waiting s))
  -- which is one, so that they ascend
  pub ascending : Ascending (starts_of s.head.setup (waiting s))
  -- each is the latest slot from which on the request at k and all later ones can finish
  pub begins : (k : ℕ) → k < length (waiting s) → (t : ℕ)
      → CanAllFinish (capacity_of s.head.setup) t (deadlines_of (drop k (waiting s))) ↔ (t ≤ get_or (starts_of s.head.setup (waiting s)) k 0)
  -- and the latest for it where they are served in chart order, in slots that can take them
  pub latest : (k : ℕ) (slots : List ℕ) → NotDescending slots → WithinCapacity s.head.setup slots → Finish (drop k (waiting s)) slots
      → Pairs (λ slot start. slot ≤ start) slots (drop k (starts_of s.head.setup (waiting s)))
  -- "Segments are the longest runs of touching intervals": these are the runs of the start slots, and no other list is
  pub segments : (gs : List Segment)
      → LongestRuns s.head.setup (starts_of s.head.setup (waiting s)) gs
      ↔ (gs ≡ segments_of s.head.setup (starts_of s.head.setup (waiting s)))
  -- no segment is empty, and its left, and its right less 1, are start slots
  pub none_empty : All Proper (segments_of s.head.setup (starts_of s.head.setup (waiting s)))
  pub ends :
      All (λ (g : Segment). IsStart g.left (starts_of s.head.setup (waiting s))
      × IsStart (g.right - 1) (starts_of s.head.setup (waiting s))) (segments_of s.head.setup (starts_of s.head.setup (waiting s)))
  -- an open slot lies in one segment where it is a start slot, else in none
  pub covered : (x : ℕ) → is_open s.head.setup x ≡ true
      → count_if (lies_in x) (segments_of s.head.setup (starts_of s.head.setup (waiting s)))
      ≡ min 1 (taken x (starts_of s.head.setup (waiting s)))

pub chart_latest : (output : List ℕ) (s : State) → is_refused (outcome_of (chart output) s).answers ≡ false → ChartIsLatest s
unfolding outcome_of
chart_latest output s e =
    let r = (chart_ready output s (accepted_none (chart output) s e)).ready in
    let c = ready_chart s r in
    let setup = s.head.setup in
    let starts = starts_of s.head.setup (waiting s) in
    record {
      fits = c;
      ascending = chart_ascends setup s.head.clock (waiting s) starts c;
      begins = λ k h. latest_start s.head s.head.clock (waiting s) k r.sound.ordered r.sound.feasible h;
      latest = λ k slots. latest_behind s.head s.head.clock (waiting s) k r.sound.ordered r.sound.feasible slots;
      segments = λ gs. longest_runs setup starts gs;
      none_empty = segments_proper setup starts c.not_descending;
      ends = segments_ends setup starts;
      covered = λ x p. segments_cover setup starts c.not_descending x p;
    }

-- document 02, 2.2: "two of them touch if no open slot lies between"
pub touches : (setup : Setup) (s next : ℕ) → Touch setup s next ↔ ((x : ℕ) → s < x → x < next → is_open setup x ≡ false)
touches setup s next = touch_none setup s next

-- ---- lines
-- "Numbers are big-endian; widths in bytes in brackets.": no value is too large for its field, so that no answer is cut
pub values_fit : (c : Call) (s : State) → All (λ (a : Answer). All FitsField (values_of a)) (outcome_of c s).answers
values_fit c s = call_fits c s

-- nor any segment's ends, nor their count
pub segments_fit : (output : List ℕ) (s : State) → is_refused (outcome_of (chart output) s).answers ≡ false
    → All (λ (g : Segment). FitsField (field 8 g.left) × FitsField (field 8 g.right)) (segments_of s.head.setup (starts_of s.head.setup (waiting s)))
    × FitsField (field 2 (length (segments_of s.head.setup (starts_of s.head.setup (waiting s)))))
unfolding outcome_of
segments_fit output s e =
    let r = (chart_ready output s (accepted_none (chart output) s e)).ready in (segment_fits s r, count_fits s r)
