-- What ties the tables to what is read off the calls and answers of a list that an accepted open began, kept by every call that
-- is no accepted open: clock, last number, and that the waiting table holds just the list's requests that no answer names.
-- Assumes nothing.
use Prim.Native.Nat.{ℕ, suc, ◌+◌, ◌≤◌, ◌<◌}
use mathlib.Core.Path.{◌≡◌, refl, sym, ap, ◌∙◌, subst}
use mathlib.Core.Bool.{and-false, or_assoc, or_comm, Bool, true, false, not, cond, ◌||◌, true≢false}
use mathlib.Core.List.{List, [], ◌∷◌, ◌++◌, map}
use native.Mathlib.Omega.{arith}
use borrow.Author.Tests.{eqb-true, eq-eqb, ne_eqb}
use lib.Dec.{eqb}
use lib.ListN.{length, get_or}
use Rattle.slots.proofs.Laws.Tests.{Same, same_yes, same_no, same}
use Rattle.slots.proofs.Laws.Sums.{one, one_yes, one_no, one_most, All, all_each, all_imp, total, total_le, total_zero}
use Rattle.slots.proofs.Laws.Sums.{total_map, total_one, total_cons}
use Rattle.spec.specs.declared.types.Setup.{Setup}
use Rattle.spec.specs.declared.types.Request.{Request}
use Rattle.spec.specs.declared.types.Counts.{Counts}
use Rattle.spec.specs.declared.types.Answer.{Answer}
use Rattle.spec.specs.declared.types.Answer.TheVariants.{Served, Idle, Closed}
use Rattle.spec.specs.Every.{exists, count_if, select}
use Rattle.spec.specs.Tables.{zero_request, State, waiting, next_state, client_table, change, one_more_served}
use Rattle.spec.specs.Hours.{is_open}
use Rattle.spec.specs.Setup.{first_match}
use Rattle.spec.specs.Order.{remove_at}
use Rattle.spec.specs.Chart.{has_no_overfull}
use Rattle.spec.specs.Calls.Readings.{is_refused, Booking, Victim, victims_by, reading, nobody}
use Rattle.spec.specs.Calls.Outcomes.{Outcome}
use Rattle.spec.specs.Calls.Open.{open_accepted}
use Rattle.spec.specs.Calls.Submit.{submit_accepted, kept, dropped_at, with_new, new_request, request_at, victim_place}
use Rattle.spec.specs.Calls.Tick.{counts_after, one_later, tick_accepted, tick_open, tick_closed}
use Rattle.spec.specs.Calls.{Call, opening, submit, tick, outcome_of, accepted_of, refusals_of, meaning}
use Rattle.spec.specs.Lists.{run, Event, history, is_opened, is_tick, ticks, Asked, asked_by, asked, served_in, bookings}
use Rattle.spec.specs.Lists.{victims, served_requests, waiting_requests, refused_event}
use Rattle.spec.proofs.Demands.Words.{Numbered}
use Rattle.spec.proofs.Laws.Every.{total_same, total_add, total_select, exists_none, or_none, all_at, Value, is_true}
use Rattle.spec.proofs.Laws.Every.{is_false, value, cond_true, cond_false, total_remove}
use Rattle.spec.proofs.Laws.Order.{total_put, all_put}
use Rattle.spec.proofs.Laws.Sound.{Given}
use Rattle.spec.proofs.Laws.Accepted.{kept_waiting, dropped_waiting, next_waiting, Ready, OpenReady, SubmitReady}
use Rattle.spec.proofs.Laws.Accepted.{TickReady, open_ready, submit_ready, tick_ready, Decided, accepts, refuses}
use Rattle.spec.proofs.Calls.CallKinds.{ReadsOnly, CallKind, of_opening, of_submit, of_tick, reads_only, call_kind}
use Rattle.spec.proofs.Calls.Refused.{outcome_decided, accepted_none, accepted_same}
use Rattle.spec.proofs.Calls.Keeps.{open_keeps, submit_keeps, tick_keeps}
use Rattle.spec.proofs.Calls.Victim.{victim_place_lem}

or_swap : (x y z : Bool) → y || (x || z) ≡ x || (y || z)
or_swap x y z = sym (or_assoc y x z) ∙ ap (λ (b : Bool). b || z) (or_comm y x) ∙ or_assoc x y z

-- ---- requests with the number v, or all others
abbrev only : ℕ → (Request → ℕ) → Request → ℕ
only v f r = cond (eqb v r.number) (f r) 0

abbrev without : ℕ → (Request → ℕ) → Request → ℕ
without v f r = cond (eqb v r.number) 0 (f r)

-- 1 for the number v
abbrev has : ℕ → Request → ℕ
has v r = one v r.number

only_without : (v : ℕ) (f : Request → ℕ) (ws : List Request) → total (only v f) ws + total (without v f) ws ≡ total f ws
only_without v f ws =
    sym (total_add (only v f) (without v f) ws)
    ∙ total_same (λ (r : Request). only v f r + without v f r) f ws (λ r. go r (eqb v r.number))
  where
    go : (r : Request) (b : Bool) → cond b (f r) 0 + cond b 0 (f r) ≡ f r
    go r true = omega arith
    go r false = omega arith

without_none : (v : ℕ) (f : Request → ℕ) (ws : List Request) → total (has v) ws ≡ 0 → total (without v f) ws ≡ total f ws
unfolding total
without_none v f [] h = refl
without_none v f (w ∷ ws) h = go (eqb v w.number) (same v w.number) (without_none v f ws (omega arith))
  where
    go : (b : Bool) → Same v w.number b → total (without v f) ws ≡ total f ws
        → cond b 0 (f w) + total (without v f) ws ≡ f w + total f ws
    go true (same_yes e) r = absurd (omega (arith, one_yes v w.number e))
    go false (same_no n) r = omega arith

-- no number stands twice
numbered_none : (v : ℕ) (rs : List Asked) → Numbered rs → length rs < v → total (λ (a : Asked). has v a.request) rs ≡ 0
unfolding total
numbered_none v [] n h = refl
numbered_none v (a ∷ rs) n h =
    omega (arith, one_no v a.request.number (omega (arith, n.0)), numbered_none v rs n.1 (omega arith))

numbered_once : (v : ℕ) (rs : List Asked) → Numbered rs → total (λ (a : Asked). has v a.request) rs ≤ 1
unfolding total
numbered_once v [] n = omega arith
numbered_once v (a ∷ rs) n = go (eqb v a.request.number) (same v a.request.number) (numbered_once v rs n.1)
  where
    go : (b : Bool) → Same v a.request.number b → total (λ (a : Asked). has v a.request) rs ≤ 1
        → has v a.request + total (λ (a : Asked). has v a.request) rs ≤ 1
    go true (same_yes e) r = omega (arith, one_most v a.request.number, numbered_none v rs n.1 (omega (arith, n.0)))
    go false (same_no m) r = omega (arith, one_no v a.request.number m)

-- ---- sums over the requests whose number passes a test, or does not
abbrev passing : (ℕ → Bool) → (Request → ℕ) → Asked → ℕ
passing test f a = cond (test a.request.number) (f a.request) 0

abbrev failing : (ℕ → Bool) → (Request → ℕ) → Asked → ℕ
failing test f a = cond (test a.request.number) 0 (f a.request)

-- a number that counts unless a test passes
cond_most : (b : Bool) (n : ℕ) → cond b 0 n ≤ n
cond_most true n = omega arith
cond_most false n = omega arith

cond_none : (b : Bool) (n : ℕ) → n ≡ 0 → cond b 0 n ≡ 0
cond_none true n e = refl
cond_none false n e = e

cond_or : (x y z : Bool) (n : ℕ) → x ≡ y || z → cond x 0 n ≡ cond z 0 (cond y 0 n)
cond_or x true true n e = rw e
cond_or x true false n e = rw e
cond_or x false true n e = rw e
cond_or x false false n e = rw e

-- a number that counts where `before` holds, or y does, which holds of what is not named and is not counted before
cond_split : (y named before : Bool) (n : ℕ) → (y ≡ true → (named ≡ false) × (before ≡ false))
    → cond (y || before) n 0 ≡ cond named 0 (cond y n 0) + cond before n 0
cond_split true named before n h = rw ((h refl).0, (h refl).1) (omega arith)
cond_split false true before n h = omega arith
cond_split false false before n h = omega arith

-- ws holds just the requests that are not named: one of them is named now, at the place k
module _ (named : ℕ → Bool) (rs : List Asked) (ws : List Request) (k : ℕ) (num : Numbered rs)
    (sums : (f : Request → ℕ) → total (failing named f) rs ≡ total f ws) (h : k < length ws) where
  abbrev it : Request
  it = get_or ws k zero_request

  abbrev its : ℕ
  its = it.number

  once : total (has its) ws ≤ 1
  once =
      omega (
        arith,
        sums (has its),
        numbered_once its rs num,
        total_le (failing named (has its)) (λ (a : Asked). has its a.request) rs
            (λ a. cond_most (named a.request.number) (has its a.request)),
      )

  rest_none : total (has its) (remove_at k ws) ≡ 0
  rest_none = omega (arith, once, total_remove (has its) k zero_request ws h, one_yes its its refl)

  -- those that are not named now stand in what is left
  sums_left : (now : ℕ → Bool) → ((n : ℕ) → now n ≡ eqb its n || named n) → (f : Request → ℕ)
      → total (failing now f) rs ≡ total f (remove_at k ws)
  sums_left now e f =
      total_same (failing now f) (failing named (without its f)) rs
      (λ a. cond_or (now a.request.number) (eqb its a.request.number) (named a.request.number) (f a.request)
      (e a.request.number))
      ∙ sums (without its f)
      ∙ omega (
        arith,
        total_remove (without its f) k zero_request ws h,
        cond_true (eqb its its) 0 (f it) (eq-eqb its its refl),
        without_none its f (remove_at k ws) rest_none,
      )

  -- it was not named before
  none_counted : named its ≡ true → (a : Asked) → failing named (has its) a ≡ 0
  none_counted e a = at_number (eqb its a.request.number) (same its a.request.number)
    where
      at_number : (b : Bool) → Same its a.request.number b → failing named (has its) a ≡ 0
      at_number true (same_yes g) = cond_true (named a.request.number) 0 (has its a.request) (rw g at e)
      at_number false (same_no n) =
          cond_none (named a.request.number) (has its a.request) (one_no its a.request.number n)

  fresh : named its ≡ false
  fresh = go (value (named its))
    where
      go : Value (named its) → named its ≡ false
      go (is_true e) =
          absurd (omega (
            arith,
            sums (has its),
            total_zero (failing named (has its)) rs (all_each (λ (a : Asked). failing named (has its) a ≡ 0) rs (none_counted e)),
            total_remove (has its) k zero_request ws h,
            one_yes its its refl,
          ))
      go (is_false e) = e

  -- a sum over those that pass a test rises by the request that passes it now
  sums_passing : (before now : ℕ → Bool) → before its ≡ false → ((n : ℕ) → now n ≡ eqb its n || before n) → (f : Request → ℕ)
      → total (passing now f) rs ≡ f it + total (passing before f) rs
  sums_passing before now b e f =
      total_same (passing now f) (λ (a : Asked). failing named (only its f) a + passing before f a) rs split
      ∙ total_add (failing named (only its f)) (passing before f) rs
      ∙ omega (arith, sums (only its f), only_one)
    where
      only_one : total (only its f) ws ≡ f it
      only_one =
          omega (
            arith,
            total_remove (only its f) k zero_request ws h,
            cond_true (eqb its its) (f it) 0 (eq-eqb its its refl),
            only_without its f (remove_at k ws),
            without_none its f (remove_at k ws) rest_none,
          )

      split : (a : Asked) → passing now f a ≡ failing named (only its f) a + passing before f a
      split a =
          let n = a.request.number in
          rw (e n) (cond_split (eqb its n) (named n) (before n) (f a.request)
          (λ y. let g = eqb-true its n y in (rw g at fresh, rw g at b)))

-- ---- what is read off the list, in sums
-- whether an answer names the number
abbrev pub is_served_number : List Event → ℕ → Bool
is_served_number es n = exists (λ (b : Booking). eqb b.number n) (bookings es)

abbrev pub is_victim_number : List Event → ℕ → Bool
is_victim_number es n = exists (λ (v : Victim). eqb v.number n) (victims es)

abbrev pub is_named : List Event → ℕ → Bool
is_named es n = is_victim_number es n || is_served_number es n

abbrev pub requests : List Asked → List Request
requests rs = map (λ (a : Asked). a.request) rs

waiting_total : (f : Request → ℕ) (es : List Event)
    → total f (requests (waiting_requests es)) ≡ total (failing (is_named es) f) (asked es)
unfolding waiting_requests
waiting_total f es =
    total_map f (λ (a : Asked). a.request) (waiting_requests es)
    ∙ total_select (λ (a : Asked). f a.request) (λ (a : Asked). not (is_named es a.request.number)) (asked es)
    ∙ total_same staying (failing (is_named es) f) (asked es) (λ a. go a (is_named es a.request.number))
  where
    staying : Asked → ℕ
    staying a = cond (not (is_named es a.request.number)) (f a.request) 0

    go : (a : Asked) (b : Bool) → cond (not b) (f a.request) 0 ≡ cond b 0 (f a.request)
    go a true = refl
    go a false = refl

served_total : (f : Request → ℕ) (es : List Event)
    → total f (requests (served_requests es)) ≡ total (passing (is_served_number es) f) (asked es)
unfolding served_requests
served_total f es =
    total_map f (λ (a : Asked). a.request) (served_requests es)
    ∙ total_select (λ (a : Asked). f a.request) (λ (a : Asked). is_served_number es a.request.number) (asked es)

-- ---- what the list says of the state
-- what can be summed up over requests and over bookings
abbrev pub known : (ℕ → ℕ → ℕ) → Request → ℕ
known f r = f r.number r.client

abbrev pub known_booking : (ℕ → ℕ → ℕ) → Booking → ℕ
known_booking f b = f b.number b.client

pub record Traced (es : List Event) (s : State) : Type 0 where
  pub ready : Ready s
  -- "The clock at a submission is the number of ticks before it in the list that were not refused, whatever they answered."
  pub clock : s.head.clock ≡ ticks es
  pub last : s.head.last ≡ length (asked es)
  pub numbered : Numbered (asked es)
  -- the answers name given numbers
  pub bookings_given : All (λ (b : Booking). b.number ≤ length (asked es)) (bookings es)
  pub victims_given : All (λ (v : Victim). v.number ≤ length (asked es)) (victims es)
  -- "Waiting are the list's requests that no answer in it names as victim or as served.": the table holds just these
  pub sums : (f : Request → ℕ) → total f (requests (waiting_requests es)) ≡ total f (waiting s)
  -- the bookings are of the list's requests, each of another
  pub served : (f : ℕ → ℕ → ℕ) → total (known f) (requests (served_requests es)) ≡ total (known_booking f) (bookings es)

-- as many wait as the list says, and as many were served
pub waiting_as_many : (es : List Event) (s : State) → Traced es s → length (waiting_requests es) ≡ length (waiting s)
waiting_as_many es s T =
    sym (total_one (λ (a : Asked). 1) (waiting_requests es) (λ a. refl))
    ∙ sym (total_map (λ (r : Request). 1) (λ (a : Asked). a.request) (waiting_requests es))
    ∙ T.sums (λ r. 1)
    ∙ total_one (λ (r : Request). 1) (waiting s) (λ r. refl)

pub served_as_many : (es : List Event) (s : State) → Traced es s → length (served_requests es) ≡ length (bookings es)
served_as_many es s T =
    sym (total_one (λ (a : Asked). 1) (served_requests es) (λ a. refl))
    ∙ sym (total_map (λ (r : Request). 1) (λ (a : Asked). a.request) (served_requests es))
    ∙ T.served (λ n c. 1)
    ∙ total_one (λ (b : Booking). 1) (bookings es) (λ b. refl)

-- a number that was not given is not named
module _ (es : List Event) (s : State) (T : Traced es s) (n : ℕ) (h : length (asked es) < n) where
  unserved : is_served_number es n ≡ false
  unserved =
      exists_none (λ (b : Booking). eqb b.number n) (bookings es)
      (all_imp (λ (b : Booking). b.number ≤ length (asked es)) (λ (b : Booking). eqb b.number n ≡ false) (bookings es)
      (λ b g. ne_eqb b.number n (omega arith)) T.bookings_given)

  unnamed : is_named es n ≡ false
  unnamed = rw (none_of, unserved)
    where
      none_of : is_victim_number es n ≡ false
      none_of =
          exists_none (λ (v : Victim). eqb v.number n) (victims es)
          (all_imp (λ (v : Victim). v.number ≤ length (asked es)) (λ (v : Victim). eqb v.number n ≡ false) (victims es)
          (λ v g. ne_eqb v.number n (omega arith)) T.victims_given)

-- ---- one call more
abbrev pub event : Call → List Answer → Event
event c answers = record { call = c; answers = answers }

-- p holds of the list with the call and its answer, and of the state after it
abbrev pub Then : (List Event → State → Type 0) → Call → Outcome → List Event → Type 0
Then p c o es = p (event c o.answers ∷ es) o.after

-- ---- open
pub traced_open : (setup : Setup) (s : State) → OpenReady setup s → Traced [] (open_accepted setup s).after
unfolding open_accepted ticks count_if asked bookings victims waiting_requests served_requests select total
traced_open setup s r =
    record {
      ready = open_keeps setup s r;
      clock = refl;
      last = refl;
      numbered = tt;
      bookings_given = tt;
      victims_given = tt;
      sums = λ f. refl;
      served = λ f. refl;
    }

-- ---- submit
-- kept, or one dropped
pub data Submitted (client deadline : ℕ) (s : State) : Outcome → Type 0 where
  keeps :
      has_no_overfull s.head (with_new client deadline s) ≡ true
      → Submitted client deadline s (kept client deadline s)
  drops :
      has_no_overfull s.head (with_new client deadline s) ≡ false
      → Submitted client deadline s (dropped_at (victim_place client deadline s) client deadline s)

pub submitted_cases : (client deadline : ℕ) (s : State) → Submitted client deadline s (submit_accepted client deadline s)
unfolding submit_accepted
submitted_cases client deadline s = go (has_no_overfull s.head (with_new client deadline s)) refl
  where
    go : (x : Bool) → has_no_overfull s.head (with_new client deadline s) ≡ x → Submitted client deadline s
        (cond x (kept client deadline s) (dropped_at (victim_place client deadline s) client deadline s))
    go true e = keeps e
    go false e = drops e

-- with one number more
given_on : {A : Type 0} (f : A → ℕ) (n : ℕ) (xs : List A) → All (λ (x : A). f x ≤ n) xs → All (λ (x : A). f x ≤ suc n) xs
given_on {A} f n xs a = all_imp (λ (x : A). f x ≤ n) (λ (x : A). f x ≤ suc n) xs (λ x h. omega arith) a

module _ (client deadline : ℕ) (s : State) (es : List Event) (T : Traced es s) where
  abbrev new : Asked
  new = record { request = new_request client deadline s; release = ticks es }

  -- the new request and the others that are not named are those that wait with it
  new_sums : (f : Request → ℕ) → total (failing (is_named es) f) (new ∷ asked es) ≡ total f (with_new client deadline s)
  new_sums f =
      omega (
        arith,
        total_cons (failing (is_named es) f) new (asked es),
        cond_false (is_named es (suc s.head.last)) 0 (f (new_request client deadline s))
            (unnamed es s T (suc s.head.last) (omega (arith, T.last))),
        waiting_total f es,
        T.sums f,
        total_put f (new_request client deadline s) (waiting s),
      )

  -- it is not served
  new_served : (f : Request → ℕ) → total (passing (is_served_number es) f) (new ∷ asked es) ≡ total f (requests (served_requests es))
  new_served f =
      omega (
        arith,
        total_cons (passing (is_served_number es) f) new (asked es),
        cond_false (is_served_number es (suc s.head.last)) (f (new_request client deadline s)) 0
            (unserved es s T (suc s.head.last) (omega (arith, T.last))),
        served_total f es,
      )

  traced_kept : Ready (kept client deadline s).after → Then Traced (submit client deadline) (kept client deadline s) es
  unfolding kept next_state ticks count_if asked bookings victims
  traced_kept r =
      record {
        ready = r;
        clock = omega (arith, T.clock);
        last = ap suc T.last;
        numbered = (ap suc T.last, T.numbered);
        bookings_given = given_on (λ (b : Booking). b.number) (length (asked es)) (bookings es) T.bookings_given;
        victims_given = given_on (λ (v : Victim). v.number) (length (asked es)) (victims es) T.victims_given;
        sums = λ f. waiting_total f now ∙ new_sums f ∙ ap (total f) (sym (kept_waiting client deadline s));
        served = λ f. served_total (known f) now ∙ new_served (known f) ∙ T.served f;
      }
    where
      now : List Event
      now = event (submit client deadline) (kept client deadline s).answers ∷ es

  -- the record at the place k is dropped
  module _ (k : ℕ) (h : k < length (with_new client deadline s)) where
    victim_given : (request_at k client deadline s).number ≤ suc (length (asked es))
    victim_given =
        all_at (λ (r : Request). r.number ≤ suc (length (asked es))) (with_new client deadline s) k zero_request h
        (all_put (λ (r : Request). r.number ≤ suc (length (asked es))) (new_request client deadline s) (waiting s)
        (omega (arith, T.last))
        (all_imp (Given s.head.last) (λ (r : Request). r.number ≤ suc (length (asked es))) (waiting s)
        (λ r g. omega (arith, T.last)) T.ready.sound.given))

    traced_dropped : Ready (dropped_at k client deadline s).after
        → Then Traced (submit client deadline) (dropped_at k client deadline s) es
    unfolding dropped_at next_state ticks count_if asked bookings victims exists
    traced_dropped r =
        record {
          ready = r;
          clock = omega (arith, T.clock);
          last = ap suc T.last;
          numbered = (ap suc T.last, T.numbered);
          bookings_given = given_on (λ (b : Booking). b.number) (length (asked es)) (bookings es) T.bookings_given;
          victims_given = (victim_given, given_on (λ (v : Victim). v.number) (length (asked es)) (victims es) T.victims_given);
          sums =
              λ f. waiting_total f now
              ∙ sums_left (is_named es) (new ∷ asked es) (with_new client deadline s) k (ap suc T.last, T.numbered) new_sums h
              (is_named now) named_now f
              ∙ ap (total f) (sym (dropped_waiting k client deadline s));
          served = λ f. served_total (known f) now ∙ new_served (known f) ∙ T.served f;
        }
      where
        now : List Event
        now = event (submit client deadline) (dropped_at k client deadline s).answers ∷ es

        named_now : (n : ℕ) → is_named now n ≡ eqb (request_at k client deadline s).number n || is_named es n
        named_now n = or_assoc (eqb (request_at k client deadline s).number n) (is_victim_number es n) (is_served_number es n)

pub traced_submit : (client deadline : ℕ) (s : State) (es : List Event) → SubmitReady client deadline s → Traced es s
    → Then Traced (submit client deadline) (submit_accepted client deadline s) es
traced_submit client deadline s es r T = go (submitted_cases client deadline s) (submit_keeps client deadline s r)
  where
    go : {o : Outcome} → Submitted client deadline s o → Ready o.after → Then Traced (submit client deadline) o es
    go (keeps e) q = traced_kept client deadline s es T q
    go (drops e) q =
        traced_dropped client deadline s es T (victim_place client deadline s) (victim_place_lem client deadline s r).0 q

-- ---- tick
-- none waits, the first is served, or the slot is closed
pub data Ticked (s : State) : List Request → Outcome → Type 0 where
  idles : is_open s.head.setup s.head.clock ≡ true → Ticked s [] (tick_open [] s)
  serves_first :
      (w : Request) (ws : List Request) → is_open s.head.setup s.head.clock ≡ true → Ticked s (w ∷ ws) (tick_open (w ∷ ws) s)
  rests : (ws : List Request) → is_open s.head.setup s.head.clock ≡ false → Ticked s ws (tick_closed ws s)

pub ticked_cases : (s : State) (ws : List Request) → Ticked s ws (tick_accepted ws s)
unfolding tick_accepted
ticked_cases s ws = go (is_open s.head.setup s.head.clock) refl ws
  where
    go : (x : Bool) → is_open s.head.setup s.head.clock ≡ x → (ws : List Request)
        → Ticked s ws (cond x (tick_open ws s) (tick_closed ws s))
    go true e [] = idles e
    go true e (w ∷ ws) = serves_first w ws e
    go false e ws = rests ws e

-- what waits a slot later
later_waiting : (ws : List Request) (cs : List Counts) (s : State) → waiting (one_later ws cs s) ≡ ws
later_waiting ws cs s =
    next_waiting (suc s.head.clock) s.head.last ws
    (counts_after s.head.setup.period (suc s.head.clock) ws cs) s

-- a tick whose answer names nobody
module _ (a : Answer) (u : (reading a).refuses ≡ false) (n : (reading a).names ≡ nobody) (es : List Event) where
  abbrev nameless : Event
  nameless = event tick (a ∷ [])

  one_tick : ticks (nameless ∷ es) ≡ 1 + ticks es
  unfolding ticks count_if
  one_tick = rw u

  no_asked : asked (nameless ∷ es) ≡ asked es
  unfolding asked
  no_asked = rw u

  no_bookings : bookings (nameless ∷ es) ≡ bookings es
  unfolding bookings
  no_bookings = rw (u, n)

  no_victims : victims (nameless ∷ es) ≡ victims es
  unfolding victims
  no_victims = rw n

  no_waiting : waiting_requests (nameless ∷ es) ≡ waiting_requests es
  unfolding waiting_requests
  no_waiting = rw (no_asked, no_bookings, no_victims)

  no_served : served_requests (nameless ∷ es) ≡ served_requests es
  unfolding served_requests
  no_served =
      λ i. select (λ (a : Asked). exists (λ (b : Booking). eqb b.number a.request.number) (no_bookings i)) (no_asked i)

module _ (s : State) (es : List Event) (T : Traced es s) where
  abbrev served_later : Request → List Request → State
  served_later w ws = one_later ws (change one_more_served w.client (client_table s)) s

  -- nobody is served, since none waits or the slot is closed: the answer names nobody, and all go on waiting
  traced_unserved : (a : Answer) → (reading a).refuses ≡ false → (reading a).names ≡ nobody → Ready (one_later (waiting s) (client_table s) s)
      → Traced (event tick (a ∷ []) ∷ es) (one_later (waiting s) (client_table s) s)
  unfolding next_state
  traced_unserved a u n r =
      record {
        ready = r;
        clock = omega (arith, T.clock, one_tick a u n es);
        last = rw (no_asked a u n es) T.last;
        numbered = rw (no_asked a u n es) T.numbered;
        bookings_given = rw (no_asked a u n es, no_bookings a u n es) T.bookings_given;
        victims_given = rw (no_asked a u n es, no_victims a u n es) T.victims_given;
        sums =
            λ f. rw (no_waiting a u n es) (T.sums f ∙ ap (total f) (sym (later_waiting (waiting s) (client_table s) s)));
        served = rw (no_served a u n es, no_bookings a u n es) T.served;
      }

  -- the first is served
  traced_served : (w : Request) (ws : List Request) → waiting s ≡ w ∷ ws → Ready (served_later w ws)
      → Traced (event tick (Served s.head.clock w.number w.client ∷ []) ∷ es) (served_later w ws)
  unfolding next_state ticks count_if asked bookings victims exists total remove_at
  traced_served w ws e r =
      record {
        ready = r;
        clock = omega (arith, T.clock);
        last = T.last;
        numbered = T.numbered;
        bookings_given = (first_given, T.bookings_given);
        victims_given = T.victims_given;
        sums =
            λ f. waiting_total f now
            ∙ sums_left (is_named es) (asked es) (w ∷ ws) 0 T.numbered old (omega arith) (is_named now) named_now f
            ∙ ap (total f) (sym (later_waiting ws (change one_more_served w.client (client_table s)) s));
        served =
            λ f. served_total (known f) now
            ∙ sums_passing (is_named es) (asked es) (w ∷ ws) 0 T.numbered old (omega arith) (is_served_number es)
            (is_served_number now) not_served (λ n. refl) (known f)
            ∙ ap (λ (n : ℕ). f w.number w.client + n) (sym (served_total (known f) es) ∙ T.served f);
      }
    where
      now : List Event
      now = event tick (Served s.head.clock w.number w.client ∷ []) ∷ es

      old : (f : Request → ℕ) → total (failing (is_named es) f) (asked es) ≡ total f (w ∷ ws)
      old f = sym (waiting_total f es) ∙ T.sums f ∙ ap (total f) e

      named_now : (n : ℕ) → is_named now n ≡ eqb w.number n || is_named es n
      named_now n = or_swap (eqb w.number n) (is_victim_number es n) (is_served_number es n)

      not_served : is_served_number es w.number ≡ false
      not_served =
          (or_none (is_victim_number es w.number) (is_served_number es w.number)
          (fresh (is_named es) (asked es) (w ∷ ws) 0 T.numbered old (omega arith))).1

      first_given : w.number ≤ length (asked es)
      first_given =
          let g : All (Given s.head.last) (w ∷ ws) = subst (All (Given s.head.last)) e T.ready.sound.given in
          omega (arith, g.0, T.last)

  traced_ticked : (ws : List Request) {o : Outcome} → waiting s ≡ ws → Ticked s ws o → Ready o.after → Then Traced tick o es
  traced_ticked ws e (idles o) r =
      let same = ap (λ (l : List Request). one_later l (client_table s) s) e in
      subst (Traced (event tick (Idle s.head.clock ∷ []) ∷ es)) same
      (traced_unserved (Idle s.head.clock) refl refl (subst Ready (sym same) r))
  traced_ticked ws e (serves_first v vs o) r = traced_served v vs e r
  traced_ticked ws e (rests vs o) r =
      let same = ap (λ (l : List Request). one_later l (client_table s) s) e in
      subst (Traced (event tick (Closed s.head.clock ∷ []) ∷ es)) same
      (traced_unserved (Closed s.head.clock) refl refl (subst Ready (sym same) r))

pub traced_tick : (s : State) (es : List Event) → TickReady s → Traced es s → Then Traced tick (tick_accepted (waiting s) s) es
traced_tick s es r T = traced_ticked s es T (waiting s) refl (ticked_cases s (waiting s)) (tick_keeps s r)

-- ---- events that leave the state: refused calls, and those that change nothing
pub record Passing (e : Event) : Type 0 where
  pub no_tick : is_tick e ≡ false
  pub none_asked : (clock : ℕ) → asked_by e clock ≡ []
  pub none_served : served_in e ≡ []
  pub none_dropped : victims_by e.answers ≡ []

pub refused_passing : (c : Call) (n : ℕ) → Passing (refused_event c n)
refused_passing c n =
    record { no_tick = no_tick; none_asked = λ t. refl; none_served = rw no_tick; none_dropped = refl }
  where
    no_tick : is_tick (refused_event c n) ≡ false
    no_tick = and-false (meaning c).is_tick

read_passing : {c : Call} {s : State} (r : ReadsOnly c s) → Passing (event c (r.answer ∷ []))
read_passing {c} {s} r =
    record {
      no_tick = rw r.no_tick;
      none_asked = λ t. rw (r.unrefused, r.wants_none);
      none_served = rw r.no_tick;
      none_dropped = rw r.names_nobody;
    }

module _ (e : Event) (es : List Event) (p : Passing e) where
  pub same_ticks : ticks (e ∷ es) ≡ ticks es
  unfolding ticks count_if
  same_ticks = rw p.no_tick (omega arith)

  pub same_asked : asked (e ∷ es) ≡ asked es
  unfolding asked
  same_asked = ap (λ (l : List Asked). l ++ asked es) (p.none_asked (ticks es))

  pub same_bookings : bookings (e ∷ es) ≡ bookings es
  unfolding bookings
  same_bookings = ap (λ (l : List Booking). l ++ bookings es) p.none_served

  pub same_victims : victims (e ∷ es) ≡ victims es
  unfolding victims
  same_victims = ap (λ (l : List Victim). l ++ victims es) p.none_dropped

  pub same_waiting : waiting_requests (e ∷ es) ≡ waiting_requests es
  unfolding waiting_requests
  same_waiting = rw (same_asked, same_bookings, same_victims)

  pub same_served : served_requests (e ∷ es) ≡ served_requests es
  unfolding served_requests
  same_served =
      λ i. select (λ (a : Asked). exists (λ (b : Booking). eqb b.number a.request.number) (same_bookings i)) (same_asked i)

  pub traced_same : (s : State) → Traced es s → Traced (e ∷ es) s
  traced_same s T =
      record {
        ready = T.ready;
        clock = rw same_ticks T.clock;
        last = rw same_asked T.last;
        numbered = rw same_asked T.numbered;
        bookings_given = rw (same_asked, same_bookings) T.bookings_given;
        victims_given = rw (same_asked, same_victims) T.victims_given;
        sums = rw same_waiting T.sums;
        served = rw (same_served, same_bookings) T.served;
      }

-- ---- a call that is no accepted open
pub data Step (s : State) : Event → State → Type 0 where
  submits :
      (client deadline : ℕ) → SubmitReady client deadline s
      → Step s (event (submit client deadline) (submit_accepted client deadline s).answers) (submit_accepted client deadline s).after
  serves : TickReady s → Step s (event tick (tick_accepted (waiting s) s).answers) (tick_accepted (waiting s) s).after
  passes : (e : Event) → Passing e → Step s e s

abbrev pub event_of : Call → State → Event
event_of c s = event c (outcome_of c s).answers

accepted_step : (c : Call) (s : State) → first_match (refusals_of c s) ≡ 0 → is_opened (event c (accepted_of c s).answers) ≡ false
    → Step s (event c (accepted_of c s).answers) (accepted_of c s).after
unfolding open_accepted
accepted_step c s e h = by_kind (call_kind c s) e h
  where
    by_kind : {c : Call} → CallKind s c → first_match (refusals_of c s) ≡ 0 → is_opened (event c (accepted_of c s).answers) ≡ false
        → Step s (event c (accepted_of c s).answers) (accepted_of c s).after
    by_kind (of_opening setup) e h = absurd (true≢false h)
    by_kind (of_submit client deadline) e h = submits client deadline (submit_ready client deadline s e)
    by_kind of_tick e h = serves (tick_ready s e)
    by_kind (reads_only c r) e h = rw r.accepted_is (passes (event c (r.answer ∷ [])) (read_passing r))

pub step : (c : Call) (s : State) → is_opened (event_of c s) ≡ false → Step s (event_of c s) (outcome_of c s).after
step c s = go (outcome_decided c s)
  where
    go : {o : Outcome} → Decided (refusals_of c s) s (accepted_of c s) o → is_opened (event c o.answers) ≡ false
        → Step s (event c o.answers) o.after
    go (accepts e) h = accepted_step c s e h
    go (refuses n) h =
        passes (refused_event c (first_match (refusals_of c s))) (refused_passing c (first_match (refusals_of c s)))

pub traced_step : (s : State) (e : Event) (t : State) (es : List Event) → Step s e t → Traced es s → Traced (e ∷ es) t
traced_step s e t es (submits client deadline r) T = traced_submit client deadline s es r T
traced_step s e t es (serves r) T = traced_tick s es r T
traced_step s e t es (passes x p) T = traced_same x es p s T

-- ---- the whole list: what every step keeps holds after it
module _ (P : List Event → State → Type 0)
    (keep : (s : State) (e : Event) (t : State) (es : List Event) → Step s e t → Traced es s → P es s → P (e ∷ es) t)
    (s : State) where
  pub along : (cs : List Call) → exists is_opened (history s cs) ≡ false → Traced [] s → P [] s
      → Traced (history s cs) (run s cs) × P (history s cs) (run s cs)
  unfolding history run exists
  along [] h T p = (T, p)
  along (c ∷ cs) h T p =
      go (or_none (is_opened (event_of c (run s cs))) (exists is_opened (history s cs)) h)
      (λ g. along cs g T p)
    where
      go : (is_opened (event_of c (run s cs)) ≡ false) × (exists is_opened (history s cs) ≡ false)
          → (exists is_opened (history s cs) ≡ false → Traced (history s cs) (run s cs) × P (history s cs) (run s cs))
          → Traced (event_of c (run s cs) ∷ history s cs) (outcome_of c (run s cs)).after
          × P (event_of c (run s cs) ∷ history s cs) (outcome_of c (run s cs)).after
      go q r =
          let k : Step (run s cs) (event_of c (run s cs)) (outcome_of c (run s cs)).after = step c (run s cs) q.0 in
          let b : Traced (history s cs) (run s cs) × P (history s cs) (run s cs) = r q.1 in (
            traced_step (run s cs) (event_of c (run s cs)) (outcome_of c (run s cs)).after (history s cs) k b.0,
            keep (run s cs) (event_of c (run s cs)) (outcome_of c (run s cs)).after (history s cs) k b.0 b.1,
          )

-- ---- from an accepted open on
-- what holds of the outcome where open is accepted
pub accepted_open : (P : Outcome → Type 0) (setup : Setup) (s : State) → is_refused (outcome_of (opening setup) s).answers ≡ false
    → (OpenReady setup s → P (open_accepted setup s)) → P (outcome_of (opening setup) s)
unfolding outcome_of
accepted_open P setup s a f =
    subst P (sym (accepted_same (opening setup) s a))
    (f (open_ready setup s (accepted_none (opening setup) s a)))

pub traced : (setup : Setup) (s : State) (cs : List Call) → is_refused (outcome_of (opening setup) s).answers ≡ false
    → exists is_opened (history (outcome_of (opening setup) s).after cs) ≡ false
    → Traced (history (outcome_of (opening setup) s).after cs) (run (outcome_of (opening setup) s).after cs)
traced setup s cs a h =
    (along (λ (es : List Event) (t : State). Unit {0}) (λ s e t es k T p. tt) (outcome_of (opening setup) s).after cs h
    (accepted_open (λ (o : Outcome). Traced [] o.after) setup s a (traced_open setup s)) tt).0
