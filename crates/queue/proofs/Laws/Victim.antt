-- What an accepted submit comes to: the new request's place, what the search finds, the candidates and the victim, by each
-- client's last candidate. Assumes nothing.
use Prim.Native.Nat.{ℕ, suc, ◌+◌, ◌%◌, ◌≤◌, ◌<◌}
use mathlib.Core.Path.{◌≡◌, refl, sym, ap, subst, ◌∙◌}
use mathlib.Core.Bool.{true, false, cond}
use mathlib.Core.List.{List, ◌∷◌, map}
use native.Mathlib.Nat.{zero-add}
use native.Mathlib.Omega.{arith}
use Rattle.std.proofs.Common.{Option, Some, ap₂}
use borrow.Author.Tests.{le-leb, leb-true, ne_eqb}
use lib.Dec.{leb}
use lib.ListN.{length, get_or, take, drop, replicate, get_or-map, length-map, length-take, length-replicate, get_or-replicate}
use lib.ListN.{get_or-eq_default}
use lib.Seq.{get_or-take, get_or_at, length-take-le}
use Rattle.slots.proofs.Laws.Sums.{all_imp}
use Rattle.slots.proofs.Laws.Tests.{le, gt, order}
use Rattle.spec.specs.declared.types.Head.{Head}
use Rattle.spec.specs.declared.types.Request.{Request}
use Rattle.spec.specs.declared.types.Counts.{Counts}
use Rattle.spec.specs.Tables.{most_clients, zero_request, zero_counts, State, waiting, deadlines_of, clients_of, client_table}
use Rattle.spec.specs.Order.{place_of, put_in_order}
use Rattle.spec.specs.Chart.{room_to, due_by, has_no_overfull, Search, is_candidate, has_smaller_ratio}
use Rattle.spec.specs.Calls.Submit.{new_request, counted_in, with_new, victim_place}
use Rattle.spec.proofs.Laws.Order.{InOrder, all_put}
use Rattle.spec.proofs.Laws.Feasible.{due_yes, due_no, due_by_put, due_by_none, due_by_mono, Verdict, fine, over}
use Rattle.spec.proofs.Laws.Feasible.{verdict, feasible_facts, feasible_test}
use Rattle.spec.proofs.Calls.Fair.{candidate_finish, finish_candidate, helps_exactly, new_largest, new_ordered}
use Rattle.spec.proofs.Calls.Victim.{victim_least, victim_last, victim_place_lem, counted_some}
use Rattle.spec.proofs.Laws.Sound.{Ahead, ClientExists}
use Rattle.spec.proofs.Laws.Accepted.{SubmitReady, submit_ready}
use Rattle.spec.proofs.Laws.Every.{value, is_true, is_false, same_test, all_at}
use Rattle.spec.proofs.Laws.Places.{Roomy, feasible_roomy}
use Rattle.occupancy.specs.Scans.{overfull_from, if_any, latest_of, put_at, counts_with, smallest_ratio_place, HaveRatios, Wins}
use Rattle.occupancy.proofs.BestClient.{place_wins}
use Rattle.occupancy.proofs.Columns.{column_insert, take_put}
use Rattle.occupancy.proofs.LastOfEach.{Source, before, placed, source, latest_least}
use Rattle.decide.specs.declared.submit.Decision.{Decision}
use Rattle.decide.specs.declared.submit.Decision.TheVariants.{Keep, Drop}
use Rattle.decide.specs.Submit.{choice_by}
use Rattle.queue.specs.Decision.{submit_choice}
use Rattle.queue.proofs.Laws.Decision.{SearchResults}
use Rattle.queue.proofs.Laws.Deadlines.{few_due, place_due, search_skip, overfull_of, search_same, due_early}
use Rattle.queue.proofs.Laws.Deadlines.{early_due}

-- nothing is known of any client
abbrev unmarked : List ℕ
unmarked = replicate most_clients 0

unmarked_zero : (c : ℕ) → ◌≡◌ {A = ℕ} (get_or unmarked c 0) 0
unmarked_zero c =
    elim (order (suc c) most_clients) [
      | le k ↦ get_or-replicate {A = ℕ} most_clients c 0 0 k
      | gt k ↦ get_or-eq_default unmarked 0 {n = c} (omega (arith, length-replicate {A = ℕ} most_clients 0))
    ]

-- a client's counts, the new request counted
abbrev pub counts_in : ℕ → State → ℕ → Counts
counts_in client s c = get_or (counted_in client s) c zero_counts

-- of each client the last of the requests that are due by D, the new one among them
abbrev pub latest_by : ℕ → ℕ → State → ℕ → List ℕ
latest_by client deadline s D =
    latest_of 1 (put_at (due_by deadline (waiting s)) client (take (due_by D (waiting s)) (clients_of (waiting s)))) unmarked

-- what the search over the deadlines finds, and what is to be done
pub data Chosen (client deadline : ℕ) (s : State) : ℕ → Decision → Type 0 where
  keeps : Chosen client deadline s 0 (Keep (due_by deadline (waiting s)))
  drops : (D : ℕ) → 0 < D → due_by deadline (waiting s) ≤ due_by D (waiting s)
      → HaveRatios (counts_in client s) (latest_by client deadline s D) s.head.setup.clients
      → 0 < get_or (latest_by client deadline s D) client 0
      → ((v : ℕ) → Wins (counts_in client s) (latest_by client deadline s D) s.head.setup.clients v
      → v ≡ victim_place client deadline s)
      → Chosen client deadline s D (Drop (due_by deadline (waiting s)) (victim_place client deadline s))

module _ (client deadline : ℕ) (s : State) (r : SubmitReady client deadline s) where
  abbrev head : Head
  head = s.head

  abbrev ws : List Request
  ws = waiting s

  abbrev all : List Request
  all = with_new client deadline s

  abbrev at : ℕ
  at = due_by deadline (waiting s)

  place : place_of (new_request client deadline s) ws ≡ at
  place =
      place_due (new_request client deadline s) ws (new_largest client deadline s r) r.ready.sound.ordered

  -- a field of all requests, with the new one's
  column : (f : Request → ℕ) → map f all ≡ put_at at (f (new_request client deadline s)) (map f ws)
  unfolding put_in_order
  column f = column_insert f (place_of new ws) new ws ∙ rw place
    where
      new : Request
      new = new_request client deadline s

  -- those before the new one have room as they had
  same_search : overfull_from head at (deadline ∷ drop at (deadlines_of ws)) ≡ overfull_from head 0 (deadlines_of all)
  same_search =
      rw (column (λ (w : Request). w.deadline))
      (sym (rw zero-add at (search_skip head 0 at ws (deadline ∷ drop at (deadlines_of ws)) (few_due deadline ws) roomy)))
    where
      roomy : Roomy head 0 ws
      roomy = feasible_roomy head ws r.ready.sound.ordered (feasible_test head ws r.ready.sound.feasible)

  ordered : InOrder all
  ordered = new_ordered client deadline s r

  -- every deadline is past the clock
  positive : (D : ℕ) → 0 < due_by D all → 0 < D
  positive D h =
      elim (order 1 D) [
        | le k ↦ k
        | gt k ↦ absurd (omega (
          arith,
          due_by_none D all (all_put (λ (w : Request). D < w.deadline) (new_request client deadline s) ws (omega (arith, r.late))
              (all_imp (Ahead s.head.clock) (λ (w : Request). D < w.deadline) ws (λ w a. omega (arith, a))
              r.ready.sound.ahead)),
        ))
      ]

  -- each client exists
  owned : (k : ℕ) → k < length all → (get_or all k zero_request).client < head.setup.clients
  owned k h =
      all_at (ClientExists head.setup.clients) all k zero_request h
      (all_put (ClientExists head.setup.clients) (new_request client deadline s) ws r.exists r.ready.sound.owned)

  module _ (D : ℕ) (h : room_to head D < due_by D all) (g : (x : ℕ) → x < D → due_by x all ≤ room_to head x) where
    abbrev last : ℕ
    last = due_by D ws

    -- the new one is due by an overfull deadline, since without it there was room
    new_due : deadline ≤ D
    new_due =
        elim (order deadline D) [
          | le k ↦ k
          | gt k ↦ absurd (omega (
            arith,
            due_by_put D (new_request client deadline s) ws,
            due_no D (new_request client deadline s) k,
            r.ready.sound.feasible D,
          ))
        ]

    due_all : due_by D all ≡ suc last
    due_all =
        omega (
          arith,
          due_by_put D (new_request client deadline s) ws,
          due_yes D (new_request client deadline s) new_due,
        )

    -- the candidates stand up to the last one
    is_candidate_lem : (k : ℕ) → k < length all → is_candidate head all k ≡ leb (get_or all k zero_request).deadline D
    is_candidate_lem k i =
        same_test (is_candidate head all k) (leb (get_or all k zero_request).deadline D)
        (λ e. le-leb (get_or all k zero_request).deadline D
        ((helps_exactly client deadline s r D h g k i).0 (candidate_finish head all k ordered e)))
        (λ e. finish_candidate head all k
        ((helps_exactly client deadline s r D h g k i).1 (leb-true (get_or all k zero_request).deadline D e)))

    inside : (k : ℕ) → k ≤ last → k < length all
    inside k l = omega (arith, few_due D all, due_all)

    candidate : (k : ℕ) → k ≤ last → is_candidate head all k ≡ true
    candidate k l =
        is_candidate_lem k (inside k l)
        ∙ le-leb (get_or all k zero_request).deadline D (due_early D k all ordered (omega (arith, due_all)))

    up_to_last : (k : ℕ) → k < length all → is_candidate head all k ≡ true → k ≤ last
    up_to_last k i e =
        omega (
          arith,
          due_all,
          early_due D k all ordered i (leb-true (get_or all k zero_request).deadline D (sym (is_candidate_lem k i) ∙ e)),
        )

    over_full : has_no_overfull head all ≡ false
    over_full =
        elim (value (has_no_overfull head all)) [
          | is_true e ↦ absurd (omega (arith, feasible_facts head all e D))
          | is_false e ↦ e
        ]

    -- ---- the clients of the candidates, in chart order
    abbrev theirs : List ℕ
    theirs = put_at at client (take last (clients_of ws))

    first_ones : take (suc last) (clients_of all) ≡ theirs
    first_ones =
        ap (take (suc last)) (column (λ (w : Request). w.client))
        ∙ take_put at client last (clients_of ws) (due_by_mono deadline D ws new_due)
        (omega (arith, few_due deadline ws, length-map ws (λ (w : Request). w.client)))

    long : length theirs ≡ suc last
    long =
        ap length (sym first_ones)
        ∙ omega (arith, length-take (suc last) (clients_of all), length-map all (λ (w : Request). w.client), inside last (omega arith))

    whose : (k : ℕ) → k ≤ last → get_or theirs k 0 ≡ (get_or all k zero_request).client
    whose k l =
        ap (λ (l : List ℕ). get_or l k 0) (sym first_ones)
        ∙ get_or-take (suc last) (clients_of all) k 0 (omega arith)
        ∙ get_or-map (λ (w : Request). w.client) all k zero_request

    entry : (k : ℕ) → k ≤ last → get_or theirs k 0 % most_clients ≡ (get_or all k zero_request).client
    entry k l = omega (arith, whose k l, owned k (inside k l), r.ready.sound.headed.setup.most_clients_lem)

    abbrev latest : List ℕ
    latest = latest_of 1 theirs unmarked

    size : length unmarked ≡ most_clients
    size = length-replicate {A = ℕ} most_clients 0

    -- a candidate's client has its place or a later one
    at_least : (k : ℕ) → k ≤ last → 1 + k ≤ get_or latest (get_or all k zero_request).client 0
    at_least k l =
        subst (λ (c : ℕ). 1 + k ≤ get_or latest c 0) (entry k l)
        (latest_least 1 theirs unmarked size (λ j. omega (arith, unmarked_zero j)) k (omega (arith, long)))

    -- a place that is noted of a client is that of a candidate of its own
    data Noted (c : ℕ) : ℕ → Type 0 where
      nothing : Noted c 0
      noted : (k : ℕ) → k ≤ last → (get_or all k zero_request).client ≡ c → Noted c (1 + k)

    noted_of : (c : ℕ) → Noted c (get_or latest c 0)
    noted_of c = go (source 1 theirs unmarked c size)
      where
        go : {v : ℕ} → Source 1 theirs unmarked c v → Noted c v
        go before = subst (Noted c) (sym (unmarked_zero c)) nothing
        go (placed k i e) =
            let l : k ≤ last = omega (arith, long) in noted k l (sym (entry k l) ∙ e)

    -- ---- the victim: the client that wins is its client, and the place the client's last
    abbrev counts : ℕ → Counts
    counts = counts_in client s

    -- no ratio has the divisor 0
    pub countable : HaveRatios counts latest head.setup.clients
    countable c l some = go (noted_of c) some
      where
        go : {v : ℕ} → Noted c v → 0 < v → 1 ≤ (counts c).submitted
        go nothing h = absurd (omega arith)
        go (noted k i e) h =
            subst (λ (x : ℕ). 1 ≤ (counts x).submitted) e (counted_some client deadline s r k (inside k i))

    -- the new request is a candidate
    pub new_noted : 0 < get_or latest client 0
    new_noted =
        let l : at ≤ last = due_by_mono deadline D ws new_due in
        let k : at ≤ length (take last (clients_of ws)) =
        omega (arith, l, length-take last (clients_of ws), length-map ws (λ (w : Request). w.client), few_due D ws) in
        let own : get_or theirs at 0 ≡ client =
        get_or_at (take at (take last (clients_of ws))) client (drop at (take last (clients_of ws))) 0 at
        (length-take-le at (take last (clients_of ws)) k) in
        omega (arith, subst (λ (c : ℕ). 1 + at ≤ get_or latest c 0) (sym (whose at l) ∙ own) (at_least at l))

    pub victim_same : (v : ℕ) → Wins counts latest head.setup.clients v → v ≡ victim_place client deadline s
    victim_same v w = omega (arith, before_victim, behind_victim)
      where
        p : ℕ
        p = victim_place client deadline s

        theirs_of : ℕ → ℕ
        theirs_of k = (get_or all k zero_request).client

        victim : (p < length all) × (is_candidate head all p ≡ true)
        victim = victim_place_lem client deadline s r

        p_last : p ≤ last
        p_last = up_to_last p victim.0 victim.1

        -- the place is a candidate's of the client that wins
        mine : (v ≤ last) × (theirs_of v ≡ w.owner)
        mine = go (noted_of w.owner) w.here
          where
            go : {x : ℕ} → Noted w.owner x → x ≡ suc v → (v ≤ last) × (theirs_of v ≡ w.owner)
            go nothing e = absurd (omega arith)
            go (noted k l e) q = let z : k ≡ v = omega arith in (omega arith, ap theirs_of (sym z) ∙ e)

        no_less : has_smaller_ratio (counts (theirs_of v)) (counts (theirs_of p)) ≡ false
        no_less =
            victim_least head (counted_in client s) all v (inside v mine.0) (candidate v mine.0)
            (counted_some client deadline s r)

        behind_victim : v ≤ p
        behind_victim =
            victim_last head (counted_in client s) all v (inside v mine.0) (candidate v mine.0)
            (counted_some client deadline s r)
            (ap (λ (c : ℕ). has_smaller_ratio (counts (theirs_of p)) (counts c)) mine.1
            ∙ w.least (theirs_of p) (owned p victim.0) (omega (arith, at_least p p_last)))

        before_victim : p ≤ v
        before_victim =
            omega (
              arith,
              at_least p p_last,
              w.last (theirs_of p) (owned p victim.0) (omega (arith, at_least p p_last))
                  (ap (λ (c : ℕ). has_smaller_ratio (counts c) (counts (theirs_of p))) (sym mine.1) ∙ no_less),
            )

  pub chosen : Chosen client deadline s (overfull_from head at (deadline ∷ drop at (deadlines_of ws))) (submit_choice client deadline s)
  unfolding submit_choice
  chosen = rw (same_search, search_same head all ordered, place) (go (verdict head all ordered))
    where
      go : {f : Search} → Verdict head all f
          → Chosen client deadline s (overfull_of f)
          (cond (has_no_overfull head all) (Keep at) (Drop at (victim_place client deadline s)))
      go (fine f) = rw (feasible_test head all f) keeps
      go (over D h g) =
          rw (over_full D h g)
          (drops D (positive D (omega arith)) (due_by_mono deadline D ws (new_due D h g)) (countable D h g) (new_noted D h g) (victim_same D h g))

-- the last candidate does not stand before the new request
pub place_last : (client deadline : ℕ) (s : State) → SubmitReady client deadline s → {found : ℕ}
    → found ≡ overfull_from s.head (due_by deadline (waiting s))
    (deadline ∷ drop (due_by deadline (waiting s)) (deadlines_of (waiting s)))
    → 0 < found → due_by deadline (waiting s) ≤ due_by found (waiting s)
place_last client deadline s r {found} e some = go (chosen client deadline s r) e
  where
    go : {x : ℕ} {d : Decision} → Chosen client deadline s x d → found ≡ x → due_by deadline (waiting s) ≤ due_by found (waiting s)
    go keeps q = absurd (omega arith)
    go (drops D h l c n v) q = subst (λ (x : ℕ). due_by deadline (waiting s) ≤ due_by x (waiting s)) (sym q) l

-- ---- by what the searches found the choice is the submit's
module _
    {client deadline : ℕ} {latest : List ℕ} {place : ℕ} {found : Option ℕ} {s : State}
    (f : SearchResults client deadline latest place found s) where
  abbrev clients : ℕ
  clients = s.head.setup.clients

  ready : SubmitReady client deadline s
  ready = submit_ready client deadline s f.accepted

  -- it is one among the clients' last candidates
  choice_drops : (D : ℕ) → latest ≡ latest_by client deadline s D → HaveRatios (counts_in client s) (latest_by client deadline s D) clients
      → 0 < get_or (latest_by client deadline s D) client 0
      → Wins (counts_in client s) (latest_by client deadline s D) clients (smallest_ratio_place (counts_in client s) latest clients)
  choice_drops D e countable new =
      let ratios = subst (λ (l : List ℕ). HaveRatios (counts_in client s) l clients) (sym e) countable in
      let own = subst (λ (l : List ℕ). 0 < get_or l client 0) (sym e) new in
      subst (λ (l : List ℕ). Wins (counts_in client s) l clients (smallest_ratio_place (counts_in client s) latest clients)) e
      (place_wins (counts_in client s) latest clients ratios client ready.exists own)

  pub choice_found : choice_by clients (counts_with client (client_table s)) latest place found ≡ submit_choice client deadline s
  choice_found =
      go (chosen client deadline s ready)
      (f.searched ∙ ap (λ (k : ℕ). if_any (overfull_from s.head k (deadline ∷ drop k (deadlines_of (waiting s))))) f.placed)
    where
      go : {x : ℕ} {d : Decision} → Chosen client deadline s x d → found ≡ if_any x
          → choice_by clients (counts_with client (client_table s)) latest place found ≡ d
      go keeps e = rw e (ap Keep f.placed)
      go (drops D some l countable new same) e =
          let q : found ≡ Some D = e ∙ rw (ne_eqb D 0 (omega (arith, some))) refl in
          let m : latest ≡ latest_by client deadline s D =
          f.marked D q
          ∙ ap (λ (j : ℕ). latest_of 1 (put_at j client (take (due_by D (waiting s)) (clients_of (waiting s)))) unmarked) f.placed in
          rw q (ap₂ Drop f.placed (same (smallest_ratio_place (counts_in client s) latest clients) (choice_drops D m countable new)))
