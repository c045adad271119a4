-- The tables follow the queue of crate slots, of which it is proved that served plus waiting is as many as the largest plan has.
-- Document 01, "Lists and plans". Assumes nothing.
use Prim.Native.Nat.{ℕ, suc, ◌+◌, ◌≤◌, ◌<◌}
use mathlib.Core.Path.{◌≡◌, refl, sym, ap, ◌∙◌, subst, subst₂}
use mathlib.Core.Bool.{Bool, true, false, cond, true≢false}
use mathlib.Core.List.{List, [], ◌∷◌, ◌++◌, map, map-append}
use native.Mathlib.Omega.{arith}
use lib.Dec.{eqb}
use lib.ListN.{length, take, drop, length-map}
use Rattle.slots.proofs.Room.{room as room_of}
use Rattle.slots.specs.Plan.{Slot, at}
use Rattle.slots.proofs.Laws.Tests.{le, gt, order}
use Rattle.slots.proofs.Laws.Sums.{All, all_imp, all_map, total, total_map}
use Rattle.slots.proofs.Queue.{Entry, Booking as Booked, Queue, arrival, asking, serve, Joined, Swapped}
use Rattle.slots.proofs.Laws.Sorted.{due as entry_due, upto}
use Rattle.slots.proofs.Reached.Chart.{slot_of, place, plan, chart, lookup, book}
use Rattle.slots.proofs.Both.{bookings as booking, Both, both_empty, both_ticked}
use Rattle.slots.proofs.Reached.Agree.{Booked as IsBooked, as_booked}
use Rattle.slots.proofs.Largest.{room_kept, room_dropped}
use Rattle.spec.specs.declared.types.Setup.{Setup}
use Rattle.spec.specs.declared.types.Request.{Request}
use Rattle.spec.specs.declared.types.Counts.{Counts}
use Rattle.spec.specs.Every.{count_if}
use Rattle.spec.specs.Tables.{zero_request, State, waiting, next_state, client_table, change, one_more_dropped, one_more_served}
use Rattle.spec.specs.Order.{remove_at}
use Rattle.spec.specs.Chart.{room_to, starts_of, due_by, has_no_overfull, Search, is_candidate}
use Rattle.spec.specs.Hours.{capacity_of, is_open}
use Rattle.spec.specs.Calls.Readings.{Booking}
use Rattle.spec.specs.Calls.Outcomes.{Outcome}
use Rattle.spec.specs.Calls.Open.{open_accepted}
use Rattle.spec.specs.Calls.Submit.{counted_in, submit_accepted, kept, dropped_at, with_new, new_request, request_at}
use Rattle.spec.specs.Calls.Submit.{victim_place}
use Rattle.spec.specs.Calls.Tick.{counts_after, one_later, tick_open, tick_closed, tick_accepted}
use Rattle.spec.specs.Calls.{submit, tick}
use Rattle.spec.specs.Lists.{Event, ticks, Asked, asked, bookings, served_requests, waiting_requests, window_of, windows}
use Rattle.spec.specs.Lists.{chart_bookings, slot_for, own_bookings, own_plan}
use Rattle.spec.proofs.Demands.Words.{Numbered}
use Rattle.spec.proofs.Laws.Room.{capacity_open, capacity_closed, room_capacity, capacity_next}
use Rattle.spec.proofs.Laws.Entries.{entry_of, upto_entries, sorted_entries}
use Rattle.spec.proofs.Laws.Every.{Value, is_true, is_false, value, total_remove, all_remove}
use Rattle.spec.proofs.Laws.Order.{InOrder, total_put, all_put, order_remove}
use Rattle.spec.proofs.Laws.Feasible.{due_no, due_by_remove, Feasible, feasible_facts, feasible_test, Verdict, fine, over}
use Rattle.spec.proofs.Laws.Feasible.{verdict}
use Rattle.spec.proofs.Laws.Accepted.{kept_waiting, dropped_waiting, next_waiting, Ready, SubmitReady}
use Rattle.spec.proofs.Calls.Victim.{victim_place_lem}
use Rattle.spec.proofs.Calls.Fair.{new_ordered}
use Rattle.spec.proofs.Calls.LatestSlots.{starts_chart}
use Rattle.spec.proofs.Lists.Trace.{event, Traced, Submitted, keeps, drops, submitted_cases, same_ticks, same_asked}
use Rattle.spec.proofs.Lists.Trace.{same_bookings, Step, submits, serves, passes, Then, waiting_as_many, served_as_many}

-- ---- the tables as a queue of crate slots
abbrev pub booked_of : Booking → Booked
booked_of b = record { number = b.number; slot = b.slot }

-- no call withdraws a request yet, so that none is withdrawn
abbrev pub queue_of : List Event → State → Queue
queue_of es s =
    record {
      clock = ticks es;
      log = map booked_of (bookings es);
      waiting = map entry_of (waiting s);
      asked = windows es;
      withdrawn = 0;
    }

all_unmap : {A B : Type 0} (p : B → Type 0) (g : A → B) (xs : List A) → All p (map g xs) → All (λ (x : A). p (g x)) xs
all_unmap p g [] a = tt
all_unmap p g (x ∷ xs) a = (a.0, all_unmap p g xs a.1)

-- the queue of crate slots has what its steps keep
abbrev pub Follows : List Event → State → Type 0
Follows es s = Both (capacity_of s.head.setup) (queue_of es s)

-- ---- submit
module _ (client deadline : ℕ) (s : State) (es : List Event) (r : SubmitReady client deadline s) (T : Traced es s) where
  abbrev heads : ℕ → ℕ
  heads = capacity_of s.head.setup

  abbrev q : Queue
  q = queue_of es s

  -- the waiting requests and the new one
  abbrev together : List Request
  together = with_new client deadline s

  arrives : entry_of (new_request client deadline s) ≡ arrival deadline q
  arrives = λ i. record { deadline = deadline; number = suc (number i) }
    where
      number : s.head.last ≡ length (windows es)
      number = T.last ∙ sym (length-map (asked es) window_of)

  late : ticks es < deadline
  late = omega (arith, r.late, T.clock)

  new_total : (f : Entry → ℕ) → total f (map entry_of together) ≡ f (arrival deadline q) + total f (map entry_of (waiting s))
  new_total f =
      omega (
        arith,
        total_map f entry_of together,
        total_map f entry_of (waiting s),
        total_put (λ (w : Request). f (entry_of w)) (new_request client deadline s) (waiting s),
        ap f arrives,
      )

  new_lifts : (p : Entry → Type 0) → p (arrival deadline q) → All p (map entry_of (waiting s))
      → All (λ (w : Request). p (entry_of w)) together
  new_lifts p h a =
      all_put (λ (w : Request). p (entry_of w)) (new_request client deadline s) (waiting s) (subst p (sym arrives) h)
      (all_unmap p entry_of (waiting s) a)

  ordered : InOrder together
  ordered = new_ordered client deadline s r

  same_clock : ticks es ≡ 0 + ticks es
  same_clock = omega arith

  same_room : (D : ℕ) → room_to s.head D ≡ room_of heads (ticks es) D
  same_room D = room_capacity s.head.setup s.head.clock D ∙ ap (λ (t : ℕ). room_of heads t D) T.clock

  -- ---- it is kept
  kept_queue : asking deadline (map entry_of together) q
      ≡ queue_of (event (submit client deadline) (kept client deadline s).answers ∷ es) (kept client deadline s).after
  unfolding kept ticks count_if asked bookings
  kept_queue =
      λ i.
      record {
        clock = same_clock i;
        log = q.log;
        waiting = map entry_of (sym (kept_waiting client deadline s) i);
        asked = record { release = ticks es; deadline = deadline } ∷ windows es;
        withdrawn = 0;
      }

  kept_heads : heads ≡ capacity_of (kept client deadline s).after.head.setup
  unfolding kept
  kept_heads = sym (capacity_next s.head.clock (suc s.head.last) together (counted_in client s) s)

  follows_kept : Follows es s → has_no_overfull s.head together ≡ true
      → Then Follows (submit client deadline) (kept client deadline s) es
  follows_kept B e =
      subst₂ Both kept_heads kept_queue
      (room_kept heads deadline q (map entry_of together) late joined (sorted_entries together ordered)
      (λ D h. omega (arith, upto_entries D together, feasible_facts s.head together e D, same_room D)) B)
    where
      joined : Joined (arrival deadline q) (map entry_of (waiting s)) (map entry_of together)
      joined = record { sums = new_total; lifts = λ p h a. all_map p entry_of together (new_lifts p h a) }

  -- ---- one is dropped, at the place k
  module _ (k : ℕ) (h : k < length together) (c : is_candidate s.head together k ≡ true) where
    abbrev others : List Request
    others = remove_at k together

    abbrev victim : Request
    victim = request_at k client deadline s

    dropped_queue : asking deadline (map entry_of others) q
        ≡ queue_of (event (submit client deadline) (dropped_at k client deadline s).answers ∷ es)
        (dropped_at k client deadline s).after
    unfolding dropped_at ticks count_if asked bookings
    dropped_queue =
        λ i.
        record {
          clock = same_clock i;
          log = q.log;
          waiting = map entry_of (sym (dropped_waiting k client deadline s) i);
          asked = record { release = ticks es; deadline = deadline } ∷ windows es;
          withdrawn = 0;
        }

    dropped_heads : heads ≡ capacity_of (dropped_at k client deadline s).after.head.setup
    unfolding dropped_at
    dropped_heads =
        sym (capacity_next s.head.clock (suc s.head.last) others
        (change one_more_dropped victim.client (counted_in client s)) s)

    -- without the victim there is room
    room_left : Feasible s.head others
    unfolding is_candidate
    room_left = feasible_facts s.head others c

    swapped : Swapped (arrival deadline q) (entry_of victim) (map entry_of (waiting s)) (map entry_of others)
    swapped =
        record {
          sums =
              λ f.
              omega (
                arith,
                new_total f,
                total_map f entry_of together,
                total_map f entry_of others,
                total_remove (λ (w : Request). f (entry_of w)) k zero_request together h,
              );
          lifts =
              λ p g a. all_map p entry_of others (all_remove (λ (w : Request). p (entry_of w)) k together (new_lifts p g a));
        }

    -- how many are due by D with the new one
    all_due : (D : ℕ) → entry_due D (arrival deadline q) + upto D (map entry_of (waiting s)) ≡ due_by D together
    all_due D = sym (new_total (entry_due D)) ∙ upto_entries D together

    -- a victim with a later deadline would leave D overfull
    picked : (D : ℕ) → room_to s.head D < due_by D together → victim.deadline ≤ D
    picked D g =
        elim (order victim.deadline D) [
          | le l ↦ l
          | gt l ↦ absurd (omega (arith, room_left D, due_by_remove D k zero_request together h, due_no D victim l))
        ]

    follows_dropped : Follows es s → has_no_overfull s.head together ≡ false
        → Then Follows (submit client deadline) (dropped_at k client deadline s) es
    follows_dropped B e = subst₂ Both dropped_heads dropped_queue (go (verdict s.head together ordered))
      where
        go : {f : Search} → Verdict s.head together f → Both heads (asking deadline (map entry_of others) q)
        go (fine f) = absurd (true≢false (sym (feasible_test s.head together f) ∙ e))
        go (over D g u) =
            room_dropped heads deadline q (entry_of victim) (map entry_of others) D late swapped
            (sorted_entries others (order_remove k together ordered)) (picked D g) (omega (arith, all_due D, same_room D))
            (λ x l m. omega (arith, all_due x, same_room x, u x m)) B

  follows_submit : Follows es s → Then Follows (submit client deadline) (submit_accepted client deadline s) es
  follows_submit B = go (submitted_cases client deadline s) (victim_place_lem client deadline s r)
    where
      k : ℕ
      k = victim_place client deadline s

      go : {o : Outcome} → Submitted client deadline s o
          → (k < length together) × (is_candidate s.head together k ≡ true) → Then Follows (submit client deadline) o es
      go (keeps e) p = follows_kept B e
      go (drops e) p = follows_dropped k p.0 p.1 B e

-- ---- tick
module _ (s : State) (es : List Event) (T : Traced es s) where
  later_clock : suc (ticks es) ≡ 1 + ticks es
  later_clock = omega arith

  abbrev serving : ℕ → ℕ
  serving = capacity_of s.head.setup

  -- the queue of crate slots one slot later, with the first n served, is what an outcome leaves
  abbrev ServesFirst : ℕ → Outcome → Type 0
  ServesFirst n o =
      record {
        clock = suc (ticks es);
        log = serve (ticks es) (take n (map entry_of (waiting s))) (map booked_of (bookings es));
        waiting = drop n (map entry_of (waiting s));
        asked = windows es;
        withdrawn = 0;
      }
      ≡ queue_of (event tick o.answers ∷ es) o.after

  later_waiting : (ws : List Request) (cs : List Counts) → map entry_of ws ≡ map entry_of (waiting (one_later ws cs s))
  later_waiting ws cs =
      ap (map entry_of)
      (sym (next_waiting (suc s.head.clock) s.head.last ws
      (counts_after s.head.setup.period (suc s.head.clock) ws cs) s))

  -- an open slot serves one, if one waits
  open_queue : (ws : List Request) → waiting s ≡ ws → ServesFirst 1 (tick_open ws s)
  unfolding ticks count_if asked bookings
  open_queue [] e =
      λ i.
      record {
        clock = later_clock i;
        log = serve (ticks es) (take 1 (map entry_of (e i))) (map booked_of (bookings es));
        waiting = (ap (λ (l : List Request). drop 1 (map entry_of l)) e ∙ later_waiting [] (client_table s)) i;
        asked = windows es;
        withdrawn = 0;
      }
  open_queue (w ∷ ws) e =
      λ i.
      record {
        clock = later_clock i;
        log = serve (sym T.clock i) (take 1 (map entry_of (e i))) (map booked_of (bookings es));
        waiting =
            (ap (λ (l : List Request). drop 1 (map entry_of l)) e
            ∙ later_waiting ws (change one_more_served w.client (client_table s)))
            i;
        asked = windows es;
        withdrawn = 0;
      }

  -- a closed slot serves nobody
  closed_queue : ServesFirst 0 (tick_closed (waiting s) s)
  unfolding ticks count_if asked bookings
  closed_queue =
      λ i.
      record {
        clock = later_clock i;
        log = map booked_of (bookings es);
        waiting = later_waiting (waiting s) (client_table s) i;
        asked = windows es;
        withdrawn = 0;
      }

  tick_queue : ServesFirst (serving (ticks es)) (tick_accepted (waiting s) s)
  unfolding tick_accepted
  tick_queue = go (value (is_open s.head.setup s.head.clock))
    where
      go : Value (is_open s.head.setup s.head.clock)
          → ServesFirst (serving (ticks es))
          (cond (is_open s.head.setup s.head.clock) (tick_open (waiting s) s) (tick_closed (waiting s) s))
      go (is_true e) =
          let c : serving (ticks es) ≡ 1 = ap serving (sym T.clock) ∙ capacity_open s.head.setup s.head.clock e in
          rw (e, c) (open_queue (waiting s) refl)
      go (is_false e) =
          let c : serving (ticks es) ≡ 0 = ap serving (sym T.clock) ∙ capacity_closed s.head.setup s.head.clock e in
          rw (e, c) closed_queue

  tick_heads : serving ≡ capacity_of (tick_accepted (waiting s) s).after.head.setup
  unfolding tick_accepted next_state
  tick_heads = go (is_open s.head.setup s.head.clock) (waiting s)
    where
      go : (b : Bool) (ws : List Request) → serving ≡ capacity_of (cond b (tick_open ws s) (tick_closed ws s)).after.head.setup
      go true [] = refl
      go true (w ∷ ws) = refl
      go false ws = refl

  follows_tick : Follows es s → Then Follows tick (tick_accepted (waiting s) s) es
  follows_tick B =
      subst₂ Both tick_heads tick_queue (both_ticked serving (queue_of es s) B)

-- ---- every step
pub follows_step : (s : State) (e : Event) (t : State) (es : List Event) → Step s e t → Traced es s → Follows es s
    → Follows (e ∷ es) t
follows_step s e t es (submits client deadline r) T B = follows_submit client deadline s es r T B
follows_step s e t es (serves r) T B = follows_tick s es T B
follows_step s e t es (passes x p) T B = rw (same_ticks x es p, same_asked x es p, same_bookings x es p) B

-- ---- the queue's own plan, there and here
lookup_slot : (n : ℕ) (bs : List Booking) → slot_for bs n ≡ lookup n (map booked_of bs)
unfolding slot_for
lookup_slot n [] = refl
lookup_slot n (b ∷ bs) = ap (λ (p : Slot). cond (eqb n b.number) (at b.slot) p) (lookup_slot n bs)

abbrev slot_in : Booked → ℕ
slot_in b = b.slot

-- the chart's bookings, with the slots that crate slots has for them
chart_bookings_lem : (heads : ℕ → ℕ) (ws : List Request)
    → map booked_of (chart_bookings ws (map slot_in (chart heads (map entry_of ws)))) ≡ chart heads (map entry_of ws)
unfolding chart_bookings
chart_bookings_lem heads [] = refl
chart_bookings_lem heads (w ∷ ws) =
    ap (λ (bs : List Booked). record { number = w.number; slot = start } ∷ bs) (chart_bookings_lem heads ws)
  where
    start : ℕ
    start = slot_of heads w.deadline (place heads (entry_of w) (map entry_of ws))

-- the requests are numbered from the last down to 1
book_numbered : (bs : List Booking) (rs : List Asked) → Numbered rs
    → book (length (map window_of rs)) (map booked_of bs) ≡ map (λ (a : Asked). slot_for bs a.request.number) rs
book_numbered bs [] n = refl
book_numbered bs (a ∷ rs) n = λ i. first i ∷ book_numbered bs rs n.1 i
  where
    number : suc (length (map window_of rs)) ≡ a.request.number
    number = omega (arith, length-map rs window_of, n.0)

    first : lookup (suc (length (map window_of rs))) (map booked_of bs) ≡ slot_for bs a.request.number
    first = ap (λ (m : ℕ). lookup m (map booked_of bs)) number ∙ sym (lookup_slot a.request.number bs)

-- the bookings of the queue of crate slots are those of the list and of the chart
booked_here : (es : List Event) (s : State) → Ready s
    → booking (capacity_of s.head.setup) (queue_of es s) ≡ map booked_of (own_bookings es s)
booked_here es s r =
    ap (λ (bs : List Booked). map booked_of (bookings es) ++ bs)
    (sym (chart_bookings_lem heads (waiting s)) ∙ ap (λ (l : List ℕ). map booked_of (chart_bookings (waiting s) l)) (sym starts))
    ∙ sym (map-append booked_of (bookings es) (chart_bookings (waiting s) (starts_of s.head.setup (waiting s))))
  where
    heads : ℕ → ℕ
    heads = capacity_of s.head.setup

    starts : starts_of s.head.setup (waiting s) ≡ map slot_in (chart heads (map entry_of (waiting s)))
    starts = starts_chart s.head s.head.clock (waiting s) r.sound.ordered r.sound.feasible

pub own_plan_lem : (es : List Event) (s : State) → Traced es s → plan (capacity_of s.head.setup) (queue_of es s) ≡ own_plan es s
unfolding own_plan
own_plan_lem es s T =
    ap (book (length (windows es))) (booked_here es s T.ready) ∙ book_numbered (own_bookings es s) (asked es) T.numbered

-- ---- what demand 3 says of them
module _ (es : List Event) (s : State) (T : Traced es s) (B : Follows es s) where
  pub as_many_both :
      length (map booked_of (bookings es)) + length (map entry_of (waiting s))
      ≡ length (served_requests es) + length (waiting_requests es)
  as_many_both =
      omega (
        arith,
        length-map (bookings es) booked_of,
        length-map (waiting s) entry_of,
        served_as_many es s T,
        waiting_as_many es s T,
      )

  pub slots_booked : All (λ (b : Booking). slot_for (own_bookings es s) b.number ≡ at b.slot) (own_bookings es s)
  slots_booked =
      all_imp (λ (b : Booking). IsBooked (map booked_of bs) (booked_of b)) (λ (b : Booking). slot_for bs b.number ≡ at b.slot) bs
      (λ b e. lookup_slot b.number bs ∙ e)
      (all_unmap (IsBooked (map booked_of bs)) booked_of bs
      (subst (λ (l : List Booked). All (IsBooked l) l) (booked_here es s T.ready) (as_booked (capacity_of s.head.setup) (queue_of es s) B)))
    where
      bs : List Booking
      bs = own_bookings es s

-- ---- from an accepted open on
pub follows_open : (setup : Setup) (s : State) → Follows [] (open_accepted setup s).after
unfolding open_accepted ticks count_if asked bookings
follows_open setup s = both_empty (capacity_of setup)
