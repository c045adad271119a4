-- What the parts of a tick come to together. Assumes nothing.
use Rattle.std.proofs.Common.{◌≡◌, ℕ, suc, ◌-◌, ◌≤◌, ◌<◌, Bool, true, false, cond, eqb, Option, None, Some}
use Rattle.std.proofs.Common.{Ok, List, [], ◌∷◌, ◌++◌, map, length, get_or, replicate, refl, sym, ap, ◌∙◌, arith}
use borrow.Author.Tests.{lt-ltb, le-leb, eq-eqb, ne_eqb}
use lib.ListN.{length-drop, length-map, get_or-map}
use lib.Seq.{get_or-take, ext_get_or}
use Rattle.spec.specs.declared.types.Request.{Request}
use Rattle.spec.specs.declared.types.Counts.{Counts}
use Rattle.spec.specs.Every.{map_from}
use Rattle.spec.specs.Tables.{zero_request, zero_counts, State, waiting, behind, holding, next_state, client_table}
use Rattle.spec.specs.Tables.{numbers_of, change, one_more_served}
use Rattle.spec.specs.Setup.{first_match}
use Rattle.spec.specs.Calls.Outcomes.{Outcome}
use Rattle.spec.specs.Order.{remove_at}
use Rattle.spec.specs.Hours.{is_open}
use Rattle.spec.specs.Calls.Tick.{tick_refusals, restarted, counts_after, one_later, tick_open, tick_closed, tick_accepted}
use Rattle.spec.specs.Calls.{tick, outcome_of}
use Rattle.spec.proofs.Laws.Every.{length_map_from, get_d_map_from}
use Rattle.spec.proofs.Laws.Clients.{counts_path}
use Rattle.spec.proofs.Laws.Sound.{Balanced}
use Rattle.spec.proofs.Laws.Accepted.{Ready, TickReady, tick_ready, waiting_length, table_held, Decided, accepts, refuses}
use Rattle.spec.proofs.Calls.Refused.{outcome_decided, none_accepted}
use Rattle.spec.proofs.Calls.Keeps.{Tidy, tidy, AddsOne, tidy_remove}
use Rattle.table.specs.Clients.{changed_at, one_more_unless_full, restarted_counts, restarted_numbers}
use Rattle.table.specs.declared.clients.Count.TheVariants as count
use Rattle.table.specs.Records.{removed, removed_from}
use Rattle.table.proofs.ChangedCounts.{restarted_at, restarted_numbers_lem, more_numbers}
use Rattle.decide.specs.Tick.{clock_after, tick_numbers, waiting_after, head_after_tick, tick_reply}
use Rattle.queue.specs.Gives.{ComesTo}
use Rattle.queue.specs.Serving.{served_from, table_served}
use Rattle.queue.proofs.Laws.Replies.{whole, bounded, next_fits, ReplyMatches, answers, accepted_gives}

-- ---- a period start
-- where the counts balance, what is neither served nor dropped waits
restarted_same : (ws : List Request) (cs : List Counts)
    → ((c : ℕ) → c < length cs → Balanced ws c (get_or cs c zero_counts)) → map_from (restarted ws) 0 cs ≡ map restarted_counts cs
restarted_same ws cs b =
    ext_get_or zero_counts (map_from (restarted ws) 0 cs) (map restarted_counts cs)
    (length_map_from (restarted ws) 0 cs ∙ sym (length-map cs restarted_counts)) each
  where
    each : (c : ℕ) → c < length (map_from (restarted ws) 0 cs)
        → get_or (map_from (restarted ws) 0 cs) c zero_counts ≡ get_or (map restarted_counts cs) c zero_counts
    each c h =
        let l : c < length cs = omega (arith, length_map_from (restarted ws) 0 cs) in
        get_d_map_from (restarted ws) cs c zero_counts zero_counts l
        ∙ counts_path (restarted ws c k) (restarted_counts k) (omega (arith, b c l)) refl refl
        ∙ sym (get_or-map restarted_counts cs c zero_counts)
      where
        k : Counts
        k = get_or cs c zero_counts

restarted_after : {clock last clients : ℕ} {ws : List Request} {cs : List Counts} (period start : ℕ) → 1 ≤ period
    → Tidy clock last clients ws cs → restarted_at period start cs ≡ counts_after period start ws cs
restarted_after {ws = ws} {cs = cs} period start p t =
    rw (lt-ltb 0 period (omega arith), restarted_same ws cs t.balanced)

-- ---- the client table and the reply
-- the first of these, where there is one
abbrev pub first_of : List Request → Option Request
first_of [] = None
first_of (w ∷ ws) = Some w

module _ (s : State) (r : TickReady s) where
  abbrev clock : ℕ
  clock = s.head.clock

  rises : clock_after s.head ≡ suc clock
  rises = next_fits clock (omega (arith, r.ready.sound.headed.clock))

  later_head : (serves : Bool) (ws : List Request) (cs : List Counts) → waiting_after serves s.head ≡ length ws
      → head_after_tick serves s.head ≡ (one_later ws cs s).head
  unfolding next_state
  later_head serves ws cs e = rw (rises, e)

  -- the numbers of a table that balances, one slot later
  later_numbers : (ws : List Request) (cs : List Counts) → Tidy clock s.head.last s.head.setup.clients ws cs
      → restarted_numbers s.head.setup.period (clock_after s.head) (numbers_of cs) ≡ (one_later ws cs s).client_numbers
  unfolding next_state
  later_numbers ws cs t =
      restarted_numbers_lem s.head.setup.period (clock_after s.head) cs
      ∙ ap numbers_of
      (rw rises (restarted_after s.head.setup.period (suc clock) r.ready.sound.headed.setup.some_period t))

  -- where nobody is served the table is one slot later
  idle_numbers : (ws : List Request) → waiting s ≡ ws → tick_numbers s.head None s.client_numbers ≡ (one_later ws (client_table s) s).client_numbers
  idle_numbers ws e =
      ap (restarted_numbers s.head.setup.period (clock_after s.head)) (whole s r.ready.shape)
      ∙ later_numbers ws (client_table s) (rw e at (tidy s r.ready))

  idle_answers : waiting s ≡ [] → ReplyMatches (tick_open [] s) (tick_reply true s.head None) (tick_numbers s.head None s.client_numbers)
  idle_answers e =
      let no_one : s.head.waiting ≡ 0 = sym (waiting_length s r.ready.shape) ∙ ap length e in
      answers refl (later_head true [] (client_table s) (omega arith)) (idle_numbers [] e)

  served_answers : (w : Request) (ws : List Request) → waiting s ≡ w ∷ ws
      → ReplyMatches (tick_open (w ∷ ws) s) (tick_reply true s.head (Some w)) (tick_numbers s.head (Some w) s.client_numbers)
  unfolding remove_at
  served_answers w ws e =
      answers refl (later_head true ws cs (omega (arith, many)))
      (ap (restarted_numbers s.head.setup.period (clock_after s.head)) counted
      ∙ later_numbers ws cs
      (tidy_remove one_more_served ends 0 clock s.head.last s.head.setup.clients (w ∷ ws) (client_table s) (omega arith) all))
    where
      cs : List Counts
      cs = change one_more_served w.client (client_table s)

      many : s.head.waiting ≡ suc (length ws)
      many = sym (waiting_length s r.ready.shape) ∙ ap length e

      all : Tidy clock s.head.last s.head.setup.clients (w ∷ ws) (client_table s)
      all = rw e at (tidy s r.ready)

      ends : AddsOne one_more_served
      ends = record { submits = λ k. refl; ends = λ k. omega arith }

      counted : changed_at (one_more_unless_full count.Served) w.client s.client_numbers ≡ numbers_of cs
      counted =
          ap (changed_at (one_more_unless_full count.Served) w.client) (whole s r.ready.shape)
          ∙ more_numbers count.Served w.client (client_table s) (bounded all w.client all.owned.0).1

  open_answers : (ws : List Request) → waiting s ≡ ws
      → ReplyMatches (tick_open ws s) (tick_reply true s.head (first_of ws)) (tick_numbers s.head (first_of ws) s.client_numbers)
  open_answers [] e = idle_answers e
  open_answers (w ∷ ws) e = served_answers w ws e

  closed_answers : ReplyMatches (tick_closed (waiting s) s) (tick_reply false s.head None) (tick_numbers s.head None s.client_numbers)
  closed_answers =
      answers refl (later_head false (waiting s) (client_table s) (sym (waiting_length s r.ready.shape))) (idle_numbers (waiting s) refl)

  -- by whether the slot is open
  tick_answers : (serves : Bool) → let gone = cond serves (first_of (waiting s)) None in
      ReplyMatches (cond serves (tick_open (waiting s) s) (tick_closed (waiting s) s)) (tick_reply serves s.head gone)
      (tick_numbers s.head gone s.client_numbers)
  tick_answers true = open_answers (waiting s) refl
  tick_answers false = closed_answers

-- ---- the waiting table
module _ (s : State) (w : Request) (ws : List Request) (first : waiting s ≡ w ∷ ws) (ready : Ready s) where
  abbrev waits : ℕ
  waits = s.head.waiting

  some : waits ≡ suc (length ws)
  some = omega (arith, ap length first, waiting_length s ready.shape)

  -- a zero record, and those that hold none
  one_freed : zero_request ∷ behind s ≡ replicate (length s.waiting_table - length ws) zero_request
  one_freed =
      let e : length s.waiting_table - length ws ≡ suc (length (behind s)) =
      omega (arith, length-drop waits s.waiting_table, some, ready.shape.waits) in
      rw e (ap (λ (l : List Request). zero_request ∷ l) ready.sound.zeros)

  served_table : removed waits 0 s.waiting_table ≡ holding (length s.waiting_table) ws
  unfolding removed remove_at
  served_table =
      rw (lt-ltb 0 waits (omega (arith, some)), le-leb waits (length s.waiting_table) ready.shape.waits, first)
      (ap (λ (l : List Request). ws ++ l) one_freed)

  served_gone : removed_from waits 0 s.waiting_table ≡ Some w
  unfolding removed_from
  served_gone =
      rw (lt-ltb 0 waits (omega (arith, some)), le-leb waits (length s.waiting_table) ready.shape.waits)
      (ap Some
      (sym (get_or-take waits s.waiting_table 0 zero_request (omega (arith, some)))
      ∙ ap (λ (l : List Request). get_or l 0 zero_request) first))

-- of none that wait none is removed
none_removed : (ys : List Request) → removed 0 0 ys ≡ ys
unfolding removed
none_removed ys = refl

none_gone : (ys : List Request) → removed_from 0 0 ys ≡ None
unfolding removed_from
none_gone ys = refl

-- in an open slot the first goes, where one waits; in a closed one none does
module _ (s : State) (ready : Ready s) where
  open_table : (ws : List Request) → waiting s ≡ ws → removed s.head.waiting 0 s.waiting_table ≡ (tick_open ws s).after.waiting_table
  unfolding next_state
  open_table [] e =
      let none : s.head.waiting ≡ 0 = sym (waiting_length s ready.shape) ∙ ap length e in
      ap (λ (n : ℕ). removed n 0 s.waiting_table) none
      ∙ none_removed s.waiting_table
      ∙ table_held s ready
      ∙ ap (holding (length s.waiting_table)) e
  open_table (w ∷ ws) e = served_table s w ws e ready

  table_after : (serves : Bool)
      → table_served serves s.head s.waiting_table
      ≡ (cond serves (tick_open (waiting s) s) (tick_closed (waiting s) s)).after.waiting_table
  unfolding next_state
  table_after true = open_table (waiting s) refl
  table_after false = table_held s ready

  first_gone : (ws : List Request) → waiting s ≡ ws → removed_from s.head.waiting 0 s.waiting_table ≡ first_of ws
  first_gone [] e =
      let none : s.head.waiting ≡ 0 = sym (waiting_length s ready.shape) ∙ ap length e in
      ap (λ (n : ℕ). removed_from n 0 s.waiting_table) none ∙ none_gone s.waiting_table
  first_gone (w ∷ ws) e = served_gone s w ws e ready

  gone_after : (serves : Bool) → served_from serves s.head s.waiting_table ≡ cond serves (first_of (waiting s)) None
  gone_after true = first_gone (waiting s) refl
  gone_after false = refl

-- ---- every tick, refused or not: the waiting table is the definition's
pub tick_table : (s : State) {serves : Bool} → serves ≡ is_open s.head.setup s.head.clock
    → cond (eqb (first_match (tick_refusals s)) 0) (table_served serves s.head s.waiting_table) s.waiting_table
    ≡ (outcome_of tick s).after.waiting_table
unfolding tick_accepted
tick_table s {serves} opens = go (outcome_decided tick s)
  where
    go : {o : Outcome} → Decided (tick_refusals s) s (tick_accepted (waiting s) s) o
        → cond (eqb (first_match (tick_refusals s)) 0) (table_served serves s.head s.waiting_table) s.waiting_table
        ≡ o.after.waiting_table
    go (accepts e) = rw (eq-eqb (first_match (tick_refusals s)) 0 e, ← opens) (table_after s (tick_ready s e).ready serves)
    go (refuses n) = rw (ne_eqb (first_match (tick_refusals s)) 0 n) refl

-- ---- a tick that is not refused
module _ (s : State) (z : first_match (tick_refusals s) ≡ 0) {serves : Bool} (opens : serves ≡ is_open s.head.setup s.head.clock) where
  pub ticked : {gone : Option Request} {ws : List Request} {xs : List ℕ} → gone ≡ served_from serves s.head s.waiting_table
      → ws ≡ table_served serves s.head s.waiting_table → xs ≡ tick_numbers s.head gone s.client_numbers
      → ComesTo tick s (Ok (tick_reply serves s.head gone)) ws xs
  unfolding tick_accepted
  ticked {gone} {ws} {xs} taken moved counted =
      let who : gone ≡ cond serves (first_of (waiting s)) None = taken ∙ gone_after s (tick_ready s z).ready serves in
      accepted_gives tick s z (moved ∙ rw (none_accepted tick s z, eq-eqb (first_match (tick_refusals s)) 0 z) at (tick_table s opens))
      (rw (counted, who, ← opens) (tick_answers s (tick_ready s z) serves))
