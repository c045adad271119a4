-- Shape and soundness as facts, and what it means that a call is not refused. Assumes nothing.
use Prim.Native.Nat.{ℕ, zero, suc, ◌+◌, ◌≤◌, ◌<◌, ◌*◌}
use mathlib.Core.Path.{◌≡◌, refl, ap, ◌∙◌}
use mathlib.Core.Logic.{◌≢◌}
use mathlib.Core.Bool.{Bool, true, false, not, cond, ◌&&◌, and-eq-true_iff}
use mathlib.Core.List.{List, [], ◌∷◌, ◌++◌}
use native.Mathlib.Omega.{arith}
use borrow.Author.Tests.{leb-true, ltb-true, eqb-true, eqb-false, le-leb, lt-ltb, eq-eqb, ne_eqb, not-false}
use lib.Dec.{leb, eqb}
use lib.ListN.{length, get_or, replicate}
use Rattle.slots.proofs.Laws.Sums.{All, all_imp}
use Rattle.spec.specs.declared.types.Setup.{Setup}
use Rattle.spec.specs.declared.types.Head.{Head}
use Rattle.spec.specs.declared.types.Request.{Request}
use Rattle.spec.specs.declared.types.Counts.{Counts}
use Rattle.spec.specs.Every.{is_within, every}
use Rattle.spec.specs.Tables.{most_clients, most_records, most_counted, clock_end, number_end, most_period, most_per_hour, most_ahead}
use Rattle.spec.specs.Tables.{client_table, client_width, zero_request, zero_counts, State, waiting, behind}
use Rattle.spec.specs.Setup.{Refusal, first_match, refusal2, refusal3, refusal13, refusal14, setup_refusals}
use Rattle.spec.specs.Hours.{open_hours}
use Rattle.spec.specs.Sound.{is_head_within, is_ahead, is_given, is_client, is_zero_request, waiting_of, is_balanced, is_sound}
use Rattle.spec.proofs.Laws.Every.{and_left, and_right, and_both, every_facts, every_test, every_from_facts}
use Rattle.spec.proofs.Laws.Every.{every_from_test}
use Rattle.spec.proofs.Laws.Order.{InOrder, order_facts, order_test}
use Rattle.spec.proofs.Laws.Feasible.{Feasible, feasible_facts, feasible_test}

-- ---- numbers within bounds
pub within_facts : (lo hi x : ℕ) → is_within lo hi x ≡ true → (lo ≤ x) × (x ≤ hi)
within_facts lo hi x e =
    (leb-true lo x (and_left (leb lo x) (leb x hi) e), leb-true x hi (and_right (leb lo x) (leb x hi) e))

pub within_test : (lo hi x : ℕ) → lo ≤ x → x ≤ hi → is_within lo hi x ≡ true
within_test lo hi x h g = and_both (leb lo x) (leb x hi) (le-leb lo x h) (le-leb x hi g)

pub within_refused : (lo hi x : ℕ) → not (is_within lo hi x) ≡ false → (lo ≤ x) × (x ≤ hi)
within_refused lo hi x e = within_facts lo hi x (not-false (is_within lo hi x) e)

-- ---- refusals
-- none matches: the first does not hold, and none of the rest matches
pub none_match : (r : Refusal) (rs : List Refusal) → r.number ≢ 0 → first_match (r ∷ rs) ≡ 0
    → (r.holds ≡ false) × (first_match rs ≡ 0)
unfolding first_match
none_match r rs n e = go r.holds e
  where
    go : (x : Bool) → cond x r.number (first_match rs) ≡ 0 → (x ≡ false) × (first_match rs ≡ 0)
    go true e = absurd (n e)
    go false e = (refl, e)

-- ---- the setup
pub record SetupWithin (setup : Setup) : Type 0 where
  pub some_clients : 1 ≤ setup.clients
  pub most_clients_lem : setup.clients ≤ most_clients
  pub some_period : 1 ≤ setup.period
  pub most_period_lem : setup.period ≤ most_period
  pub some_slots : 1 ≤ setup.hour
  pub most_slots : setup.hour ≤ most_per_hour
  pub some_open : 1 ≤ open_hours setup

-- none of a setup's refusals matches, nor of those behind
pub setup_none : (setup : Setup) (rs : List Refusal) → first_match (setup_refusals setup ++ rs) ≡ 0
    → SetupWithin setup × (first_match rs ≡ 0)
unfolding setup_refusals
setup_none setup rs e =
    let p = none_match (refusal2 setup) (refusal3 setup ∷ refusal13 setup ∷ refusal14 setup ∷ rs) (omega arith) e in
    let q = none_match (refusal3 setup) (refusal13 setup ∷ refusal14 setup ∷ rs) (omega arith) p.1 in
    let u = none_match (refusal13 setup) (refusal14 setup ∷ rs) (omega arith) q.1 in
    let v = none_match (refusal14 setup) rs (omega arith) u.1 in
    let c = within_refused 1 most_clients setup.clients p.0 in
    let d = within_refused 1 most_period setup.period q.0 in
    let h = within_refused 1 most_per_hour setup.hour u.0 in
    let o = eqb-false (open_hours setup) 0 v.0 in (
      record {
        some_clients = c.0;
        most_clients_lem = c.1;
        some_period = d.0;
        most_period_lem = d.1;
        some_slots = h.0;
        most_slots = h.1;
        some_open = some (open_hours setup) o;
      },
      v.1,
    )
  where
    some : (n : ℕ) → n ≢ 0 → 1 ≤ n
    some zero n = absurd (n refl)
    some (suc n) _ = omega arith

-- where a setup is within its bounds, its refusals pass
pub setup_passes : (setup : Setup) (rs : List Refusal) → SetupWithin setup
    → first_match (setup_refusals setup ++ rs) ≡ first_match rs
unfolding setup_refusals first_match
setup_passes setup rs f =
    rw (
      within_test 1 most_clients setup.clients f.some_clients f.most_clients_lem,
      within_test 1 most_period setup.period f.some_period f.most_period_lem,
      within_test 1 most_per_hour setup.hour f.some_slots f.most_slots,
      ne_eqb (open_hours setup) 0 (λ e. omega (arith, f.some_open)),
    )

-- ---- the head
pub record HeadWithin (h : Head) : Type 0 where
  pub setup : SetupWithin h.setup
  pub clock : h.clock ≤ clock_end
  pub last : h.last ≤ number_end

pub head_facts : (h : Head) → is_head_within h ≡ true → HeadWithin h
unfolding is_head_within setup_refusals
head_facts h e =
    let p = simp and-eq-true_iff at e in
    record {
      setup = (setup_none h.setup [] (eqb-true (first_match (setup_refusals h.setup)) 0 p.0.0)).0;
      clock = leb-true h.clock clock_end p.0.1;
      last = leb-true h.last number_end p.1;
    }

pub head_test : (h : Head) → HeadWithin h → is_head_within h ≡ true
unfolding is_head_within setup_refusals first_match
head_test h f =
    rw (
      setup_passes h.setup [] f.setup,
      le-leb h.clock clock_end f.clock,
      le-leb h.last number_end f.last,
    )

-- ---- records that are zero
zero_facts : (r : Request) → is_zero_request r ≡ true → r ≡ zero_request
unfolding is_zero_request
zero_facts r e =
    let p = and_left (eqb r.deadline 0 && eqb r.number 0) (eqb r.client 0) e in
    λ i.
    record {
      deadline = eqb-true r.deadline 0 (and_left (eqb r.deadline 0) (eqb r.number 0) p) i;
      number = eqb-true r.number 0 (and_right (eqb r.deadline 0) (eqb r.number 0) p) i;
      client = eqb-true r.client 0 (and_right (eqb r.deadline 0 && eqb r.number 0) (eqb r.client 0) e) i;
    }

pub zeros_facts : (rs : List Request) → every is_zero_request rs ≡ true → rs ≡ replicate (length rs) zero_request
unfolding every
zeros_facts [] e = refl
zeros_facts (r ∷ rs) e =
    λ i.
    zero_facts r (and_left (is_zero_request r) (every is_zero_request rs) e) i
    ∷ zeros_facts rs (and_right (is_zero_request r) (every is_zero_request rs) e) i

pub zeros_test : (n : ℕ) → every is_zero_request (replicate n zero_request) ≡ true
unfolding every is_zero_request
zeros_test zero = refl
zeros_test (suc n) = zeros_test n

zeros_all : (rs : List Request) → rs ≡ replicate (length rs) zero_request → every is_zero_request rs ≡ true
zeros_all rs e = ap (every is_zero_request) e ∙ zeros_test (length rs)

-- ---- tables of the right lengths
pub record Shaped (s : State) : Type 0 where
  pub some_records : 1 ≤ length s.waiting_table
  pub most_records_lem : length s.waiting_table ≤ most_records
  pub numbers : length s.client_numbers ≡ client_width * s.head.setup.clients
  pub clients : length (client_table s) ≡ s.head.setup.clients
  pub waits : s.head.waiting ≤ length s.waiting_table

-- ---- sound tables
abbrev pub Ahead : ℕ → Request → Type 0
Ahead clock w = (suc clock ≤ w.deadline) × (w.deadline ≤ clock + most_ahead)

abbrev pub Given : ℕ → Request → Type 0
Given last w = (1 ≤ w.number) × (w.number ≤ last)

abbrev pub ClientExists : ℕ → Request → Type 0
ClientExists clients w = w.client < clients

abbrev pub Balanced : List Request → ℕ → Counts → Type 0
Balanced ws client k = (k.submitted ≡ k.served + k.dropped + waiting_of client ws) × (k.submitted ≤ most_counted)

pub record Sound (s : State) : Type 0 where
  pub headed : HeadWithin s.head
  pub ordered : InOrder (waiting s)
  pub ahead : All (Ahead s.head.clock) (waiting s)
  pub given : All (Given s.head.last) (waiting s)
  pub owned : All (ClientExists s.head.setup.clients) (waiting s)
  pub feasible : Feasible s.head (waiting s)
  pub zeros : behind s ≡ replicate (length (behind s)) zero_request
  pub balanced : (c : ℕ) → c < length (client_table s) → Balanced (waiting s) c (get_or (client_table s) c zero_counts)

balanced_facts : (ws : List Request) (client : ℕ) (k : Counts) → is_balanced ws client k ≡ true → Balanced ws client k
unfolding is_balanced
balanced_facts ws client k e =
    let p = simp and-eq-true_iff at e in (
      eqb-true k.submitted (k.served + k.dropped + waiting_of client ws) p.0,
      leb-true k.submitted most_counted p.1,
    )

balanced_test : (ws : List Request) (client : ℕ) (k : Counts) → Balanced ws client k → is_balanced ws client k ≡ true
unfolding is_balanced
balanced_test ws client k b =
    and_both (eqb k.submitted (k.served + k.dropped + waiting_of client ws)) (leb k.submitted most_counted)
    (eq-eqb k.submitted (k.served + k.dropped + waiting_of client ws) b.0) (le-leb k.submitted most_counted b.1)

pub sound_facts : (s : State) → is_sound s ≡ true → Sound s
unfolding is_sound
sound_facts s e =
    let p = simp and-eq-true_iff at e in
    record {
      headed = head_facts s.head p.0.0.0.0.0.0.0;
      ordered = order_facts (waiting s) p.0.0.0.0.0.0.1;
      ahead =
          all_imp (λ (w : Request). is_ahead s.head.clock w.deadline ≡ true) (Ahead s.head.clock) (waiting s)
          (λ w h. within_facts (suc s.head.clock) (s.head.clock + most_ahead) w.deadline h)
          (every_facts (λ w. is_ahead s.head.clock w.deadline) (waiting s) p.0.0.0.0.0.1);
      given =
          all_imp (λ (w : Request). is_given s.head.last w.number ≡ true) (Given s.head.last) (waiting s)
          (λ w h. within_facts 1 s.head.last w.number h)
          (every_facts (λ w. is_given s.head.last w.number) (waiting s) p.0.0.0.0.1);
      owned =
          all_imp (λ (w : Request). is_client s.head.setup.clients w.client ≡ true) (ClientExists s.head.setup.clients) (waiting s)
          (λ w h. ltb-true w.client s.head.setup.clients h)
          (every_facts (λ w. is_client s.head.setup.clients w.client) (waiting s) p.0.0.0.1);
      feasible = feasible_facts s.head (waiting s) p.0.0.1;
      zeros = zeros_facts (behind s) p.0.1;
      balanced =
          λ c h. balanced_facts (waiting s) c (get_or (client_table s) c zero_counts)
          (every_from_facts (is_balanced (waiting s)) (client_table s) p.1 c zero_counts h);
    }

pub sound_test : (s : State) → Sound s → is_sound s ≡ true
unfolding is_sound
sound_test s f =
    rw (
      head_test s.head f.headed,
      order_test (waiting s) f.ordered,
      every_test (λ w. is_ahead s.head.clock w.deadline) (waiting s)
          (all_imp (Ahead s.head.clock) (λ (w : Request). is_ahead s.head.clock w.deadline ≡ true) (waiting s)
          (λ w h. within_test (suc s.head.clock) (s.head.clock + most_ahead) w.deadline h.0 h.1) f.ahead),
      every_test (λ w. is_given s.head.last w.number) (waiting s)
          (all_imp (Given s.head.last) (λ (w : Request). is_given s.head.last w.number ≡ true) (waiting s)
          (λ w h. within_test 1 s.head.last w.number h.0 h.1) f.given),
      every_test (λ w. is_client s.head.setup.clients w.client) (waiting s)
          (all_imp (ClientExists s.head.setup.clients) (λ (w : Request). is_client s.head.setup.clients w.client ≡ true) (waiting s)
          (λ w h. lt-ltb w.client s.head.setup.clients h) f.owned),
      feasible_test s.head (waiting s) f.feasible,
      zeros_all (behind s) f.zeros,
      every_from_test (is_balanced (waiting s)) (client_table s) zero_counts
          (λ c h. balanced_test (waiting s) c (get_or (client_table s) c zero_counts) (f.balanced c h)),
    )
