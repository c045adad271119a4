-- The occupancy chart: its slots are the latest open ones in chart order. Document 01, "Chart and victim", and document 02, 2.2. Assumes
-- nothing.
use Prim.Native.Nat.{ℕ, zero, suc, ◌+◌, ◌-◌, ◌≤◌, ◌<◌, min}
use mathlib.Core.Path.{◌≡◌, refl, sym, ap, ◌∙◌, subst₂}
use mathlib.Core.Bool.{Bool, true, false, cond}
use mathlib.Core.List.{List, [], ◌∷◌, map, map-map}
use mathlib.Core.Logic.{◌↔◌, ◌≢◌}
use native.Mathlib.Omega.{arith}
use borrow.Author.Tests.{lt-ltb, eq-eqb}
use lib.Dec.{leb, ltb, eqb}
use lib.ListN.{length, get_or, drop}
use Rattle.slots.specs.Plan.{Slot, at, EndedBy, Fits, uses, since, Plan, size, CanAllFinish}
use Rattle.slots.proofs.Laws.Tests.{Same, same_yes, same_no, same}
use Rattle.slots.proofs.Laws.Sums.{All, all_imp, one, one_yes, one_no, total, total_split}
use Rattle.slots.proofs.Laws.Sorted.{Sorted, sorted_low, upto}
use Rattle.slots.proofs.Queue.{Entry, Booking}
use Rattle.slots.proofs.Room.{room as room_of, room_back, fits_opens}
use Rattle.slots.proofs.Reached.Chart.{chart}
use Rattle.slots.proofs.Reached.Seat.{Roomy}
use Rattle.slots.proofs.Reached.Words.{taken as taken_of, limit, latest_free as latest_of, starts, starts_chart as places-chart}
use Rattle.slots.proofs.Reached.Rivals.{First, Rival, NotLater, not_later}
use Rattle.slots.proofs.Largest.{room_placing}
use Rattle.spec.specs.declared.types.Setup.{Setup}
use Rattle.spec.specs.declared.types.Head.{Head}
use Rattle.spec.specs.declared.types.Request.{Request}
use Rattle.spec.specs.Every.{to_number, count_if}
use Rattle.spec.specs.Tables.{State, waiting, deadlines_of}
use Rattle.spec.specs.Chart.{taken, limit_of, latest_free, start_before, starts_of}
use Rattle.spec.specs.Hours.{capacity_of, is_open}
use Rattle.spec.proofs.Demands.Words.{IsStart, Ascending, NotDescending, Pairs, Finish, WithinCapacity, ChartFits}
use Rattle.spec.proofs.Laws.Every.{number_yes, all_two}
use Rattle.spec.proofs.Laws.Order.{order_drop, InOrder}
use Rattle.spec.proofs.Laws.Feasible.{FeasibleAt, due, due_by_total}
use Rattle.spec.proofs.Laws.Entries.{entry_of, upto_entries, sorted_entries}
use Rattle.spec.proofs.Laws.Room.{room_capacity, capacity_most}
use Rattle.spec.proofs.Laws.Accepted.{Ready}
use Rattle.spec.proofs.Calls.Refused.{length_starts}
use Rattle.spec.proofs.Calls.Fair.{finish_feasible_at}

-- ---- the start slots are the chart of crate slots
-- how many of these starts are s, counted here and there
pub taken_same : (s : ℕ) (later : List ℕ) → taken s later ≡ taken_of s later
unfolding count_if total
taken_same s [] = refl
taken_same s (x ∷ later) = go (eqb s x) (same s x) (taken_same s later)
  where
    go : (b : Bool) → Same s x b → taken s later ≡ taken_of s later
        → to_number b + count_if (eqb s) later ≡ one s x + total (one s) later
    go true (same_yes e) r = omega (arith, one_yes s x e)
    go false (same_no n) r = omega (arith, one_no s x n)

limit_same : (deadline : ℕ) (later : List ℕ) → limit_of deadline later ≡ limit deadline later
limit_same deadline [] = refl
limit_same deadline (s ∷ later) = refl

latest_same : (setup : Setup) (later : List ℕ) (e : ℕ) → latest_free setup later e ≡ latest_of (capacity_of setup) later e
unfolding latest_free latest_of
latest_same setup later zero = refl
latest_same setup later (suc e) =
    λ i. cond (leb (suc (taken_same e later i)) (capacity_of setup e)) e (latest_same setup later e i)

starts_same : (setup : Setup) (ws : List Request) → starts_of setup ws ≡ starts (capacity_of setup) (map entry_of ws)
unfolding starts_of
starts_same setup [] = refl
starts_same setup (w ∷ ws) = λ i. first (starts_same setup ws) i ∷ starts_same setup ws i
  where
    heads : ℕ → ℕ
    heads = capacity_of setup

    first : starts_of setup ws ≡ starts heads (map entry_of ws)
        → latest_free setup (starts_of setup ws) (limit_of w.deadline (starts_of setup ws))
        ≡ latest_of heads (starts heads (map entry_of ws)) (limit w.deadline (starts heads (map entry_of ws)))
    first e =
        latest_same setup (starts_of setup ws) (limit_of w.deadline (starts_of setup ws))
        ∙ ap (latest_of heads (starts_of setup ws)) (limit_same w.deadline (starts_of setup ws))
        ∙ ap (λ (l : List ℕ). latest_of heads l (limit w.deadline l)) e

-- of requests in order that have room from the clock on
module _ (head : Head) (clock : ℕ) (ws : List Request) (o : InOrder ws) (f : FeasibleAt head clock ws) where
  abbrev heads : ℕ → ℕ
  heads = capacity_of head.setup

  abbrev entries : List Entry
  entries = map entry_of ws

  entries_room : (D : ℕ) → upto D entries ≤ room_of heads clock D
  entries_room D = omega (arith, upto_entries D ws, room_capacity head.setup clock D, f D)

  entries_late : Sorted (suc clock) entries
  entries_late =
      sorted_low clock 0 entries (sorted_entries ws o) (omega (arith, entries_room clock, room_back heads clock clock (omega arith)))

  entries_roomy : Roomy heads clock 0 (suc clock) entries
  entries_roomy D h = omega (arith, fits_opens heads (upto D entries) clock D (omega arith) (entries_room D))

  -- "From the last record to the first": each start slot is that of the request's place, where places are numbered through all slots
  pub starts_chart : starts_of head.setup ws ≡ map (λ (b : Booking). b.slot) (chart heads entries)
  starts_chart =
      starts_same head.setup ws ∙ places-chart heads clock 0 (suc clock) entries entries_late entries_roomy

  -- so they are a plan of all these requests
  starts_plan : Plan heads (map (since clock) (deadlines_of ws)) (map at (starts_of head.setup ws))
  starts_plan =
      subst₂ (λ (ds : List ℕ) (P : List Slot). Plan heads (map (since clock) ds) P) (map-map (λ (e : Entry). e.deadline) entry_of ws)
      (sym (map-map at (λ (b : Booking). b.slot) (chart heads entries)) ∙ ap (map at) (sym starts_chart))
      (room_placing heads clock entries (sorted_entries ws o) entries_room).0

-- ---- how many requests have a slot
taken_uses : (x : ℕ) (slots : List ℕ) → taken x slots ≡ uses x (map at slots)
unfolding count_if uses
taken_uses x [] = refl
taken_uses x (s ∷ slots) = ap (λ (n : ℕ). to_number (eqb x s) + n) (taken_uses x slots)

pub taken_first : (x : ℕ) (slots : List ℕ) → taken x (x ∷ slots) ≡ suc (taken x slots)
unfolding count_if
taken_first x slots = omega (arith, number_yes (eqb x x) (eq-eqb x x refl))

-- each of these slots is taken
pub all_taken : (slots : List ℕ) → All (λ (s : ℕ). IsStart s slots) slots
unfolding count_if
all_taken [] = tt
all_taken (x ∷ slots) = (
  omega (arith, taken_first x slots),
  all_imp (λ (s : ℕ). IsStart s slots) (λ (s : ℕ). IsStart s (x ∷ slots)) slots (λ s h. omega arith) (all_taken slots),
)

-- those that are behind are no more than all
taken_behind : (x s : ℕ) (slots : List ℕ) → taken x slots ≤ taken x (s ∷ slots)
unfolding count_if
taken_behind x s slots = omega arith

capacity_behind : (setup : Setup) (s : ℕ) (slots : List ℕ) → WithinCapacity setup (s ∷ slots) → WithinCapacity setup slots
capacity_behind setup s slots c x = omega (arith, c x, taken_behind x s slots)

capacity_drop : (setup : Setup) (k : ℕ) (slots : List ℕ) → WithinCapacity setup slots → WithinCapacity setup (drop k slots)
capacity_drop setup zero slots c = c
capacity_drop setup (suc k) [] c = c
capacity_drop setup (suc k) (s ∷ slots) c = capacity_drop setup k slots (capacity_behind setup s slots c)

-- a slot that is not given to more than it can take is open
capacity_all_open : (setup : Setup) (slots : List ℕ) → WithinCapacity setup slots → All (λ (s : ℕ). is_open setup s ≡ true) slots
capacity_all_open setup slots c =
    all_imp (λ (s : ℕ). IsStart s slots) (λ (s : ℕ). is_open setup s ≡ true) slots
    (λ s h. lt-ltb 0 (capacity_of setup s) (omega (arith, c s))) (all_taken slots)

-- ---- start slots do not descend
latest_below : (setup : Setup) (later : List ℕ) (e : ℕ) → latest_free setup later e ≤ e - 1
unfolding latest_free
latest_below setup later zero = omega arith
latest_below setup later (suc e) = go (ltb (taken e later) (capacity_of setup e)) (latest_below setup later e)
  where
    go : (b : Bool) → latest_free setup later e ≤ e - 1 → cond b e (latest_free setup later e) ≤ suc e - 1
    go true h = omega arith
    go false h = omega arith

pub starts_not_descending : (setup : Setup) (ws : List Request) → NotDescending (starts_of setup ws)
unfolding starts_of
starts_not_descending setup [] = tt
starts_not_descending setup (w ∷ ws) = go (starts_of setup ws) (starts_not_descending setup ws)
  where
    go : (later : List ℕ) → NotDescending later → NotDescending (start_before setup w later)
    go [] a = (tt, tt)
    go (x ∷ xs) a =
        let s = latest_free setup (x ∷ xs) (min w.deadline (suc x)) in
        let h : s ≤ x = omega (arith, latest_below setup (x ∷ xs) (min w.deadline (suc x))) in
        ((h, all_imp (λ (y : ℕ). x ≤ y) (λ (y : ℕ). s ≤ y) xs (λ y g. omega arith) a.0), a)

-- where no slot can take two, they ascend
none_taken : (x : ℕ) (slots : List ℕ) → taken x slots ≡ 0 → All (λ (y : ℕ). x ≢ y) slots
unfolding count_if
none_taken x [] e = tt
none_taken x (s ∷ slots) e = ((λ q. omega (arith, number_yes (eqb x s) (eq-eqb x s q))), none_taken x slots (omega arith))

not_descending_once : (slots : List ℕ) → NotDescending slots → ((x : ℕ) → taken x slots ≤ 1) → Ascending slots
not_descending_once [] a c = tt
not_descending_once (s ∷ slots) a c = (
  all_two (λ (y : ℕ). s ≤ y) (λ (y : ℕ). s ≢ y) (λ (y : ℕ). s < y) slots (λ y h n. omega arith) a.0
      (none_taken s slots (omega (arith, c s, taken_first s slots))),
  not_descending_once slots a.1 (λ x. omega (arith, c x, taken_behind x s slots)),
)

-- ---- a chart is a plan that places all
fits_chart : (t : ℕ) (ws : List Request) (slots : List ℕ) → Fits (map (since t) (deadlines_of ws)) (map at slots)
    → Finish ws slots × All (λ (s : ℕ). t ≤ s) slots
fits_chart t [] [] f = (tt, tt)
fits_chart t [] (s ∷ slots) f = absurd f
fits_chart t (w ∷ ws) [] f = absurd f
fits_chart t (w ∷ ws) (s ∷ slots) f = let r = fits_chart t ws slots f.2 in ((f.1, r.0), (f.0, r.1))

chart_fits : (t : ℕ) (ws : List Request) (slots : List ℕ) → Finish ws slots → All (λ (s : ℕ). t ≤ s) slots
    → Fits (map (since t) (deadlines_of ws)) (map at slots)
chart_fits t [] [] f a = tt
chart_fits t [] (s ∷ slots) f a = absurd f
chart_fits t (w ∷ ws) [] f a = absurd f
chart_fits t (w ∷ ws) (s ∷ slots) f a = (a.0, f.0, chart_fits t ws slots f.1 a.1)

chart_size : (ws : List Request) (slots : List ℕ) → Finish ws slots → size (map at slots) ≡ length (deadlines_of ws)
unfolding size
chart_size [] [] f = refl
chart_size [] (s ∷ slots) f = absurd f
chart_size (w ∷ ws) [] f = absurd f
chart_size (w ∷ ws) (s ∷ slots) f = omega (arith, chart_size ws slots f.1)

-- slots from t on, one for each request and ended by its deadline, none given to more than it can take
chart_finish : (setup : Setup) (t : ℕ) (ws : List Request) (slots : List ℕ) → Finish ws slots → All (λ (s : ℕ). t ≤ s) slots
    → WithinCapacity setup slots → CanAllFinish (capacity_of setup) t (deadlines_of ws)
chart_finish setup t ws slots f a c = (
  map at slots,
  record {
    fits = chart_fits t ws slots f a;
    shared = λ x. omega (arith, c x, taken_uses x slots);
  },
  chart_size ws slots f,
)

pub starts_fit : (head : Head) (clock : ℕ) (ws : List Request) → InOrder ws → FeasibleAt head clock ws
    → ChartFits head.setup clock ws (starts_of head.setup ws)
starts_fit head clock ws o f =
    record {
      ended = placed.0;
      ahead = placed.1;
      not_descending = starts_not_descending head.setup ws;
      shared = within;
      all_open_lem = capacity_all_open head.setup (starts_of head.setup ws) within;
    }
  where
    plan : Plan (capacity_of head.setup) (map (since clock) (deadlines_of ws)) (map at (starts_of head.setup ws))
    plan = starts_plan head clock ws o f

    placed : Finish ws (starts_of head.setup ws) × All (λ (s : ℕ). clock ≤ s) (starts_of head.setup ws)
    placed = fits_chart clock ws (starts_of head.setup ws) plan.fits

    within : WithinCapacity head.setup (starts_of head.setup ws)
    within x = omega (arith, plan.shared x, taken_uses x (starts_of head.setup ws))

-- so in sound tables
pub ready_chart : (s : State) → Ready s → ChartFits s.head.setup s.head.clock (waiting s) (starts_of s.head.setup (waiting s))
ready_chart s r = starts_fit s.head s.head.clock (waiting s) r.sound.ordered r.sound.feasible

-- with at most one request a slot, the slots of a chart ascend
pub chart_ascends : (setup : Setup) (clock : ℕ) (ws : List Request) (slots : List ℕ) → ChartFits setup clock ws slots → Ascending slots
chart_ascends setup clock ws slots c =
    not_descending_once slots c.not_descending (λ x. omega (arith, c.shared x, capacity_most setup x))

-- ---- the chart of some last requests is the last part of the chart
pub starts_drop : (setup : Setup) (k : ℕ) (ws : List Request) → starts_of setup (drop k ws) ≡ drop k (starts_of setup ws)
unfolding starts_of
starts_drop setup zero ws = refl
starts_drop setup (suc k) [] = refl
starts_drop setup (suc k) (w ∷ ws) = starts_drop setup k ws

feasible_drop : (head : Head) (clock k : ℕ) (ws : List Request) → FeasibleAt head clock ws → FeasibleAt head clock (drop k ws)
feasible_drop head clock k ws f D =
    omega (arith, f D, due_by_total D ws, due_by_total D (drop k ws), total_split (due D) k ws)

pairs_drop : {A B : Type 0} (p : A → B → Type 0) (k : ℕ) (xs : List A) (ys : List B) → Pairs p xs ys
    → Pairs p (drop k xs) (drop k ys)
pairs_drop p zero xs ys a = a
pairs_drop p (suc k) [] [] a = tt
pairs_drop p (suc k) [] (y ∷ ys) a = absurd a
pairs_drop p (suc k) (x ∷ xs) [] a = absurd a
pairs_drop p (suc k) (x ∷ xs) (y ∷ ys) a = pairs_drop p k xs ys a.1

-- what holds from t on holds of the first, and the other way round
ahead_first : (t k d : ℕ) (xs : List ℕ) → k < length xs → All (λ (s : ℕ). t ≤ s) (drop k xs) → t ≤ get_or xs k d
ahead_first t k d [] h a = absurd (omega arith)
ahead_first t zero d (x ∷ xs) h a = a.0
ahead_first t (suc k) d (x ∷ xs) h a = ahead_first t k d xs (omega arith) a

first_ahead : (t k d : ℕ) (xs : List ℕ) → k < length xs → NotDescending xs → t ≤ get_or xs k d → All (λ (s : ℕ). t ≤ s) (drop k xs)
first_ahead t k d [] h a l = absurd (omega arith)
first_ahead t zero d (x ∷ xs) h a l = (l, all_imp (λ (y : ℕ). x ≤ y) (λ (s : ℕ). t ≤ s) xs (λ y g. omega arith) a.0)
first_ahead t (suc k) d (x ∷ xs) h a l = first_ahead t k d xs (omega arith) a.1 l

-- ---- each start slot is the latest
module _ (head : Head) (clock : ℕ) (ws : List Request) (k : ℕ) (o : InOrder ws) (f : FeasibleAt head clock ws) where
  abbrev all : List ℕ
  all = starts_of head.setup ws

  -- the request at k and all later ones can finish from t on just where t is not after its start
  pub latest_start : k < length ws → (t : ℕ) → CanAllFinish (capacity_of head.setup) t (deadlines_of (drop k ws)) ↔ (t ≤ get_or all k 0)
  latest_start h t = (to, from_start)
    where
      c : ChartFits head.setup clock ws all
      c = starts_fit head clock ws o f

      inside : k < length all
      inside = omega (arith, length_starts head.setup ws)

      to : CanAllFinish (capacity_of head.setup) t (deadlines_of (drop k ws)) → t ≤ get_or all k 0
      to g =
          let later = (starts_fit head t (drop k ws) (order_drop k ws o) (finish_feasible_at head t (drop k ws) g)).ahead in
          ahead_first t k 0 all inside (rw (starts_drop head.setup k ws) at later)

      from_start : t ≤ get_or all k 0 → CanAllFinish (capacity_of head.setup) t (deadlines_of (drop k ws))
      from_start l =
          chart_finish head.setup t (drop k ws) (drop k all)
          (pairs_drop (λ (w : Request) (s : ℕ). EndedBy w.deadline s) k ws all c.ended)
          (first_ahead t k 0 all inside c.not_descending l) (capacity_drop head.setup k all c.shared)

-- a list of slots is a rival of the chart, as crate slots has it
first_of : (x : ℕ) (xs : List ℕ) → All (λ (y : ℕ). x ≤ y) xs → First x xs
first_of x [] a = tt
first_of x (y ∷ ys) a = a.0

rival : (setup : Setup) (ws : List Request) (slots : List ℕ) → NotDescending slots → WithinCapacity setup slots → Finish ws slots
    → Rival (capacity_of setup) (map entry_of ws) slots
rival setup [] [] a c f = tt
rival setup [] (s ∷ slots) a c f = absurd f
rival setup (w ∷ ws) [] a c f = absurd f
rival setup (w ∷ ws) (s ∷ slots) a c f = (
  f.0,
  omega (arith, c s, taken_same s (s ∷ slots)),
  first_of s slots a.0,
  rival setup ws slots a.1 (capacity_behind setup s slots c) f.1,
)

rival_pairs : (heads : ℕ → ℕ) (es : List Entry) (slots : List ℕ) → NotLater heads es slots
    → Pairs (λ s start. s ≤ start) slots (map (λ (b : Booking). b.slot) (chart heads es))
rival_pairs heads [] [] n = tt
rival_pairs heads [] (s ∷ slots) n = absurd n
rival_pairs heads (e ∷ es) [] n = absurd n
rival_pairs heads (e ∷ es) (s ∷ slots) n = (n.0, rival_pairs heads es slots n.1)

-- "From the last record to the first, a request ends at the smaller of its deadline and the start of the record behind it, and
-- starts one slot earlier.", and document 02, 2.2: "the chart uses the latest open slots": each starts at the latest slot at which it
-- and all later ones finish, in chart order
pub starts_latest : (head : Head) (clock : ℕ) (ws : List Request) → InOrder ws → FeasibleAt head clock ws → (slots : List ℕ)
    → NotDescending slots → WithinCapacity head.setup slots → Finish ws slots
    → Pairs (λ s start. s ≤ start) slots (starts_of head.setup ws)
starts_latest head clock ws o f slots a c g =
    let heads = capacity_of head.setup in
    rw (starts_chart head clock ws o f)
    (rival_pairs heads (map entry_of ws) slots
    (not_later heads clock 0 (suc clock) (map entry_of ws) slots (entries_late head clock ws o f) (entries_roomy head clock ws o f)
    (rival head.setup ws slots a c g)))

-- of the request at k and all later ones
pub latest_behind : (head : Head) (clock : ℕ) (ws : List Request) (k : ℕ) → InOrder ws → FeasibleAt head clock ws → (slots : List ℕ)
    → NotDescending slots → WithinCapacity head.setup slots → Finish (drop k ws) slots
    → Pairs (λ s start. s ≤ start) slots (drop k (starts_of head.setup ws))
latest_behind head clock ws k o f slots a c g =
    rw (starts_drop head.setup k ws) at
    (starts_latest head clock (drop k ws) (order_drop k ws o) (feasible_drop head clock k ws f) slots a c g)
