-- What a call on the lent parts of the tables comes to is the frame's reply in the session. Assumes nothing.
use Prim.Native.Nat.{ℕ, ◌≤◌, ◌*◌}
use mathlib.Core.Path.{◌≡◌, refl, sym, ap, ◌∙◌, subst}
use mathlib.Core.Bool.{true, cond}
use mathlib.Core.List.{List, [], ◌∷◌, ◌++◌, append-nil}
use native.Mathlib.Omega.{arith}
use borrow.Author.Tests.{le-leb}
use lib.ListN.{length, take, drop, length-take, length-replicate, take-append-drop, replicate}
use lib.Seq.{take_at}
use Rattle.spec.specs.declared.types.Setup.{Setup}
use Rattle.spec.specs.declared.types.Frame.{Frame}
use Rattle.spec.specs.declared.types.Frame.TheVariants.{Open, Chart, Bad}
use Rattle.spec.specs.declared.types.Answer.TheVariants.{Opened, Refused}
use Rattle.spec.specs.declared.types.Head.{Head}
use Rattle.spec.specs.declared.types.Request.{Request}
use Rattle.spec.specs.Every.{gather}
use Rattle.spec.specs.Tables.{most_records, most_clients, State, zero_request, zero_counts, client_width, state_of}
use Rattle.spec.specs.Calls.Readings.{is_refused}
use Rattle.spec.specs.Calls.Outcomes.{Outcome, refusing}
use Rattle.spec.specs.Calls.Open.{open_refusals, open_accepted}
use Rattle.spec.specs.Calls.{opening as opening-call, outcome_of}
use Rattle.spec.specs.Lines.Frames.{answer_line, answer_lines, Task, task}
use Rattle.spec.specs.Lines.Session.{LineOutcome as SessionReply, line_outcome, outcome_by, lent, blank}
use Rattle.spec.proofs.Laws.Layout.{length_numbers, whole_records}
use Rattle.spec.proofs.Laws.Accepted.{OpenReady, open_ready}
use Rattle.frame.specs.LineLengths.{CanDraw}
use Rattle.spec.proofs.Calls.Refused.{first_answer}
use Rattle.spec.proofs.Calls.CallKinds.{Asks, asks_open, asks_chart, asks_nothing, asks_call, asks}
use Rattle.queue.specs.Gives.{Reply, said}
use Rattle.session.specs.declared.types.Session.{Session}
use Rattle.session.specs.Answered.{Answered, outcome_for}
use Rattle.session.specs.Standing.{reserved_of, held_in, do_fit, up_to, records_for, numbers_for, records_after}
use Rattle.session.proofs.Laws.Lending.{TablesFit, fit_facts, up_same, up_most, open_match_lem, alike}
use Rattle.session.proofs.Laws.OtherFrames.{reply_by, Plain, call_plain, bad_plain, chart_plain}
use Rattle.session.proofs.Laws.LentCall.{Replied, session_after}

module _ (s : Session) (ws : List Request) (xs starts : List ℕ)
    (fit : do_fit s (length ws) (length xs) (length starts) ≡ true)
    (r : Reply) (zs : List Request) (ys starts' : List ℕ) where
  abbrev held : State
  held = held_in s (reserved_of ws xs)

  abbrev lent_state : ℕ → ℕ → State
  lent_state n c = state_of s.head (take n ws) (take c xs)

  abbrev left : State
  left = state_of r.head zs ys

  -- the first n waiting records and the first c numbers were lent to the frame's call, and come back as long
  record LentParts (frame : Frame) (n c : ℕ) : Type 0 where
    answered : Answered frame starts (lent_state n c) r left starts'
    waiting_long : length zs ≡ length (take n ws)
    numbers_long : length ys ≡ length (take c xs)

  abbrev Done : Frame → Type 0
  Done frame = Replied frame s (reserved_of ws xs) starts r zs ys starts'

  facts : TablesFit s (length ws) (length xs) (length starts)
  facts = fit_facts s (length ws) (length xs) (length starts) fit

  -- the tables will do for the session after the call
  still_fits : (frame : Frame) → records_after frame r.answer s.records ≤ most_records → r.head.setup.clients ≤ most_clients
      → do_fit (session_after frame s r) (length ws) (length xs) (length starts) ≡ true
  unfolding do_fit
  still_fits frame records clients =
      rw (
        le-leb (records_after frame r.answer s.records) most_records records,
        le-leb r.head.setup.clients most_clients clients,
      )
      (rw (le-leb s.records most_records facts.records, le-leb s.head.setup.clients most_clients facts.clients) at fit)

  -- where as much is in use after the call as was lent to it, the parts that came back are in use
  module _ {frame : Frame} {n c : ℕ} (h : LentParts frame n c) (records : n ≤ most_records) (numbers : c ≤ client_width * most_clients) where
    stands : (k : ℕ) (rest : List Request) (others : List ℕ) → k ≡ n → client_width * r.head.setup.clients ≡ c
        → state_of r.head (take k (zs ++ rest)) (take (client_width * r.head.setup.clients) (ys ++ others)) ≡ left
    stands k rest others d e =
        rw (
          take_at zs rest k (omega (arith, h.waiting_long, length-take n ws, facts.waiting_long)),
          take_at ys others (client_width * r.head.setup.clients) (omega (arith, h.numbers_long, length-take c xs, facts.numbers_long)),
        )

  -- ---- every frame but open: what is in use is lent
  plain_replied : (frame : Frame) → (task frame).named ≡ []
      → (r.answer ∷ [] ≡ (outcome_for frame starts held).answers → Plain (task frame).calls starts held r.answer)
      → LentParts frame (records_for frame s) (numbers_for frame s) → Done frame
  unfolding records_for numbers_for records_after
  plain_replied frame none plain handed =
      record {
        bytes = rw (heads, a.starts_same) p.bytes ∙ ap (λ (x : SessionReply). x.bytes) same_reply;
        after =
            stands h facts.records (omega (arith, facts.clients)) (records_after frame r.answer s.records)
            (drop (records_for frame s) ws) (drop (numbers_for frame s) xs) records (ap (λ (n : ℕ). client_width * n) clients)
            ∙ a.after_same
            ∙ p.after
            ∙ ap (λ (x : SessionReply). x.after) same_reply;
        fits = still_fits frame (omega (arith, records, facts.records)) (omega (arith, clients, facts.clients));
        draws = rw a.starts_same p.draws;
      }
    where
      h : LentParts frame s.records (client_width * s.head.setup.clients)
      h =
          rw (up_same most_records s.records facts.records, up_same most_clients s.head.setup.clients facts.clients)
          at (rw none at handed)

      p : Plain (task frame).calls starts held r.answer
      p = plain h.answered.answers_same

      records : records_after frame r.answer s.records ≡ s.records
      records = rw none

      same_reply : reply_by (task frame).calls held ≡ line_outcome frame held
      same_reply = unfold line_outcome in rw none

      a : Answered frame starts held r left starts'
      a = h.answered

      heads : r.head ≡ (outcome_for frame starts held).after.head
      heads = ap (λ (t : State). t.head) a.after_same

      clients : r.head.setup.clients ≡ s.head.setup.clients
      clients = ap (λ (x : Head). x.setup.clients) heads ∙ p.clients

  -- ---- open: what it names is lent
  module _ (setup : Setup) (records : ℕ) where
    abbrev n : ℕ
    n = up_to most_records records

    abbrev c : ℕ
    c = client_width * up_to most_clients setup.clients

    abbrev opening : Frame
    opening = Open setup records

    abbrev in_code : State
    in_code = lent_state n c

    abbrev in_spec : State
    in_spec = lent (task opening).named held

    records_lent : length in_code.waiting_table ≡ n
    records_lent = omega (arith, length-take n ws, up_most most_records records, facts.waiting_long)

    numbers_lent : length in_code.client_numbers ≡ c
    numbers_lent = omega (arith, length-take c xs, up_most most_clients setup.clients, facts.numbers_long)

    named : length in_spec.client_numbers ≡ client_width * setup.clients
    named =
        length_numbers (replicate setup.clients zero_counts)
        ∙ ap (λ (n : ℕ). client_width * n) (length-replicate setup.clients zero_counts)

    record GivenBack (o : Outcome) : Type 0 where
      answers_same : said r ≡ o.answers
      after_same : left ≡ o.after

    -- the reply is q, what the definition gives on tables as long as the frame names
    record Opens (q : Outcome) : Type 0 where
      bytes : answer_lines r.head.setup starts' r.answer ≡ gather (answer_lines q.after.head.setup blank) q.answers
      after :
          held_in (session_after opening s r) (reserved_of (zs ++ drop n ws) (ys ++ drop c xs))
          ≡ cond (is_refused q.answers) held q.after
      records_most : records_after opening r.answer s.records ≤ most_records
      clients_most : r.head.setup.clients ≤ most_clients
      draws : CanDraw r.answer starts'

    -- accepted: the tables are zero, and as long
    opens : LentParts opening n c → OpenReady setup in_spec → GivenBack (open_accepted setup in_code)
        → Opens (open_accepted setup in_spec)
    unfolding open_accepted records_after
    opens h ready g =
        record {
          bytes = rw is_opened_lem (sym (append-nil (answer_line Opened)));
          after =
              stands h (up_most most_records records) (omega (arith, up_most most_clients setup.clients))
              (records_after opening r.answer s.records) (drop n ws) (drop c xs)
              (rw is_opened_lem (sym same_records))
              (ap (λ (t : State). client_width * t.head.setup.clients) g.after_same ∙ sym same_numbers)
              ∙ g.after_same
              ∙ rw (
                records_lent,
                same_records,
                length-replicate records zero_request,
                whole_records in_code.client_numbers setup.clients (numbers_lent ∙ same_numbers),
                whole_records in_spec.client_numbers setup.clients named,
              );
          records_most = rw is_opened_lem few;
          clients_most = omega (arith, ap (λ (t : State). t.head.setup.clients) g.after_same, ready.within.most_clients_lem);
          draws = rw is_opened_lem tt;
        }
      where
        is_opened_lem : r.answer ≡ Opened
        is_opened_lem = ap first_answer g.answers_same

        few : records ≤ most_records
        few = omega (arith, ready.lengths.most_records_lem, length-replicate records zero_request)

        same_records : n ≡ records
        same_records = up_same most_records records few

        same_numbers : c ≡ client_width * setup.clients
        same_numbers = ap (λ (n : ℕ). client_width * n) (up_same most_clients setup.clients ready.within.most_clients_lem)

    -- refused: the parts come back as they were
    declines : (k : ℕ) → GivenBack (refusing k in_code) → Opens (refusing k in_spec)
    unfolding records_after
    declines k g =
        let heads : r.head ≡ s.head = ap (λ (t : State). t.head) g.after_same in
        let is_refused_lem : r.answer ≡ Refused k = ap first_answer g.answers_same in
        record {
          bytes = rw is_refused_lem (sym (append-nil (answer_line (Refused k))));
          after =
              rw (
                is_refused_lem,
                heads,
                ap (λ (t : State). t.waiting_table) g.after_same,
                ap (λ (t : State). t.client_numbers) g.after_same,
                take-append-drop n ws,
                take-append-drop c xs,
              );
          records_most = rw is_refused_lem facts.records;
          clients_most = rw heads facts.clients;
          draws = rw is_refused_lem tt;
        }

    both_open : LentParts opening n c → Opens (outcome_of (opening-call setup) in_spec)
    unfolding outcome_of
    both_open h =
        alike (λ o q. GivenBack o → Opens q) (open_refusals setup in_code) (open_refusals setup in_spec) in_code in_spec
        (open_accepted setup in_code) (open_accepted setup in_spec)
        (open_match_lem setup records in_code in_spec records_lent numbers_lent (length-replicate records zero_request) named)
        (λ e e'. opens h (open_ready setup in_spec e')) declines
        (record { answers_same = h.answered.answers_same; after_same = h.answered.after_same })

    open_replied : LentParts opening n c → Done opening
    unfolding line_outcome records_for numbers_for
    open_replied h =
        let w = both_open h in
        record {
          bytes = w.bytes;
          after = w.after;
          fits = still_fits opening w.records_most w.clients_most;
          draws = w.draws;
        }

  -- ---- every frame
  handed_replied : (frame : Frame) → LentParts frame (records_for frame s) (numbers_for frame s) → Done frame
  handed_replied frame = by_case (asks frame)
    where
      by_case : {frame : Frame} → Asks frame → LentParts frame (records_for frame s) (numbers_for frame s) → Done frame
      by_case (asks_open setup records) h = open_replied setup records (unfold records_for numbers_for in h)
      by_case asks_chart h = plain_replied Chart refl (chart_plain starts held r.answer facts.starts_long) h
      by_case asks_nothing h = plain_replied Bad refl (bad_plain starts held) h
      by_case (asks_call frame c e no-open none) h =
          plain_replied frame (ap (λ (t : Task). t.named) e)
          (subst (λ (t : Task). r.answer ∷ [] ≡ (outcome_by (t.calls starts) held).answers → Plain t.calls starts held r.answer) (sym e)
          (call_plain starts held c no-open (none held)))
          h

-- with the parts that came back in front of the rest of the tables
pub replied : (frame : Frame) (s : Session) (ws : List Request) (xs starts : List ℕ)
    → do_fit s (length ws) (length xs) (length starts) ≡ true
    → (r : Reply) (zs : List Request) (ys starts' : List ℕ)
    → Answered frame starts (state_of s.head (take (records_for frame s) ws) (take (numbers_for frame s) xs)) r
    (state_of r.head zs ys) starts'
    → length zs ≡ length (take (records_for frame s) ws) → length ys ≡ length (take (numbers_for frame s) xs)
    → Replied frame s (reserved_of ws xs) starts r zs ys starts'
replied frame s ws xs starts fit r zs ys starts' a i j =
    handed_replied s ws xs starts fit r zs ys starts' frame
    (record { answered = a; waiting_long = i; numbers_long = j })
