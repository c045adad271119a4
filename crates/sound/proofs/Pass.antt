-- One pass, and the room by open slots, find what soundness asks of the waiting records: an overfull deadline shows at the last record
-- that has it.
-- Assumes nothing.
use Prim.Native.Nat.{ℕ, suc, ◌+◌, ◌≤◌, ◌<◌}
use mathlib.Core.Path.{◌≡◌, refl, sym, ◌∙◌}
use mathlib.Core.Bool.{Bool, true, ◌&&◌, and-eq-true_iff}
use mathlib.Core.List.{List, [], ◌∷◌}
use native.Mathlib.Omega.{arith}
use borrow.Author.Tests.{leb-true, ltb-true, le-leb, lt-ltb}
use lib.Dec.{leb, ltb}
use Rattle.spec.specs.declared.types.Head.{Head}
use Rattle.spec.specs.declared.types.Request.{Request}
use Rattle.spec.specs.Every.{every, every_from}
use Rattle.spec.specs.Tables.{most_ahead, zero_request, State, waiting, behind, client_table}
use Rattle.spec.specs.Order.{comes_before, is_in_order}
use Rattle.spec.specs.Chart.{room_to, has_no_overfull}
use Rattle.spec.specs.Sound.{is_head_within, is_ahead, is_given, is_client, is_zero_request, is_balanced, is_sound}
use Rattle.spec.proofs.Laws.Every.{and_both, same_test}
use Rattle.spec.proofs.Laws.Order.{before_facts, before_deadline, order_facts, before_test, earlier}
use Rattle.spec.proofs.Laws.Sound.{within_facts, within_test}
use Rattle.spec.proofs.Laws.Places.{Roomy, roomy_feasible, feasible_roomy}
use Rattle.hours.proofs.OpenSlots.{room_most}
use Rattle.sound.specs.Checks.{is_next, are_next, have_room}

every_cons : (p : Request → Bool) (w : Request) (ws : List Request) → every p (w ∷ ws) ≡ true
    → (p w ≡ true) × (every p ws ≡ true)
unfolding every
every_cons p w ws e = (and-eq-true_iff (p w) (every p ws)).0 e

-- ---- the pass
-- what it finds of the records from the place i on, behind the one before them
record PassFinds (head : Head) (i : ℕ) (before : Request) (ws : List Request) : Type 0 where
  pub near : before.deadline ≤ head.clock + most_ahead
  pub ordered : is_in_order (before ∷ ws) ≡ true
  pub ahead : every (λ w. is_ahead head.clock w.deadline) ws ≡ true
  pub given : every (λ w. is_given head.last w.number) ws ≡ true
  pub owned : every (λ w. is_client head.setup.clients w.client) ws ≡ true

next_facts : (head : Head) (i : ℕ) (before : Request) (ws : List Request) → are_next head i before ws ≡ true
    → PassFinds head i before ws
unfolding are_next is_next every is_in_order
next_facts head i before [] e =
    record {
      near = leb-true before.deadline (head.clock + most_ahead) e;
      ordered = refl;
      ahead = refl;
      given = refl;
      owned = refl;
    }
next_facts head i before (w ∷ ws) e =
    let p = (and-eq-true_iff (is_next head i before w) (are_next head (suc i) w ws)).0 e in
    let q = simp and-eq-true_iff at p.0 in
    let f = next_facts head (suc i) w ws p.1 in
    record {
      near = omega (arith, before_deadline before w (before_facts before w q.1), f.near);
      ordered = and_both (comes_before before w) (is_in_order (w ∷ ws)) q.1 f.ordered;
      ahead =
          and_both (is_ahead head.clock w.deadline) (every (λ v. is_ahead head.clock v.deadline) ws)
          (within_test (suc head.clock) (head.clock + most_ahead) w.deadline
          (omega (arith, ltb-true (head.clock + i) w.deadline q.0.1)) f.near) f.ahead;
      given =
          and_both (is_given head.last w.number) (every (λ v. is_given head.last v.number) ws)
          (and_both (leb 1 w.number) (leb w.number head.last) q.0.0.0.0 q.0.0.0.1) f.given;
      owned =
          and_both (is_client head.setup.clients w.client) (every (λ v. is_client head.setup.clients v.client) ws)
          q.0.0.1 f.owned;
    }

-- where each has room by open slots, it has room by all slots
next_test : (head : Head) (i : ℕ) (before : Request) (ws : List Request) → PassFinds head i before ws → Roomy head i ws
    → are_next head i before ws ≡ true
unfolding are_next is_next every is_in_order
next_test head i before [] f roomy = le-leb before.deadline (head.clock + most_ahead) f.near
next_test head i before (w ∷ ws) f roomy =
    let o = (and-eq-true_iff (comes_before before w) (is_in_order (w ∷ ws))).0 f.ordered in
    let a = every_cons (λ (v : Request). is_ahead head.clock v.deadline) w ws f.ahead in
    let g = every_cons (λ (v : Request). is_given head.last v.number) w ws f.given in
    let c = every_cons (λ (v : Request). is_client head.setup.clients v.client) w ws f.owned in
    let r = next_test head (suc i) w ws
    (record {
      near = (within_facts (suc head.clock) (head.clock + most_ahead) w.deadline a.0).1;
      ordered = o.1;
      ahead = a.1;
      given = g.1;
      owned = c.1;
    }) roomy.1 in
    let ahead : head.clock + i < w.deadline = omega (arith, roomy.0, room_most head.setup head.clock w.deadline) in
    rw (g.0, c.0, lt-ltb (head.clock + i) w.deadline ahead, o.0) r

-- ---- room by open slots: the test, and what it says of each record
room_facts : (head : Head) (i : ℕ) (ws : List Request) → have_room head i ws ≡ true → Roomy head i ws
unfolding have_room
room_facts head i [] e = tt
room_facts head i (w ∷ ws) e =
    let p = (and-eq-true_iff (ltb i (room_to head w.deadline)) (have_room head (suc i) ws)).0 e in
    (ltb-true i (room_to head w.deadline) p.0, room_facts head (suc i) ws p.1)

room_test : (head : Head) (i : ℕ) (ws : List Request) → Roomy head i ws → have_room head i ws ≡ true
unfolding have_room
room_test head i [] r = refl
room_test head i (w ∷ ws) r = rw (lt-ltb i (room_to head w.deadline) r.0) (room_test head (suc i) ws r.1)

-- a record that is zero stands before all that have their deadlines ahead
first_order : (clock : ℕ) (ws : List Request) → every (λ w. is_ahead clock w.deadline) ws ≡ true
    → is_in_order (zero_request ∷ ws) ≡ is_in_order ws
unfolding every is_in_order
first_order clock [] e = refl
first_order clock (w ∷ ws) e =
    let a = every_cons (λ (v : Request). is_ahead clock v.deadline) w ws e in
    let h = within_facts (suc clock) (clock + most_ahead) w.deadline a.0 in
    rw (before_test zero_request w (earlier (omega arith)))

-- the pass, and the clauses of soundness that it stands for
passed : (head : Head) (ws : List Request) → PassFinds head 0 zero_request ws → Roomy head 0 ws
    → (is_in_order ws ≡ true) × (has_no_overfull head ws ≡ true)
passed head ws f roomy =
    let o = sym (first_order head.clock ws f.ahead) ∙ f.ordered in
    (o, roomy_feasible head ws (order_facts ws o) roomy)

passes : (head : Head) (ws : List Request) → is_in_order ws ≡ true → every (λ w. is_ahead head.clock w.deadline) ws ≡ true
    → every (λ w. is_given head.last w.number) ws ≡ true → every (λ w. is_client head.setup.clients w.client) ws ≡ true
    → PassFinds head 0 zero_request ws
passes head ws o a g c =
    record {
      near = omega arith;
      ordered = first_order head.clock ws a ∙ o;
      ahead = a;
      given = g;
      owned = c;
    }

-- soundness as the pass over the records, their room by open slots, the records behind them and the pass over the clients find it
abbrev pub is_found_sound : State → Bool
is_found_sound s =
    is_head_within s.head
    && (are_next s.head 0 zero_request (waiting s) && have_room s.head 0 (waiting s))
    && every is_zero_request (behind s)
    && every_from (is_balanced (waiting s)) 0 (client_table s)

pub sound_pass : (s : State) → is_sound s ≡ is_found_sound s
unfolding is_sound
sound_pass s = same_test (is_sound s) (is_found_sound s) to from
  where
    to : is_sound s ≡ true → is_found_sound s ≡ true
    to e =
        let p = simp and-eq-true_iff at e in
        let q = p.0.0.0 in
        let f = passes s.head (waiting s) q.0.0.0.1 q.0.0.1 q.0.1 q.1 in
        let roomy = feasible_roomy s.head (waiting s) (order_facts (waiting s) q.0.0.0.1) p.0.0.1 in
        rw (
          q.0.0.0.0,
          next_test s.head 0 zero_request (waiting s) f roomy,
          room_test s.head 0 (waiting s) roomy,
          p.0.1,
          p.1,
        )

    from : is_found_sound s ≡ true → is_sound s ≡ true
    from e =
        let p = simp and-eq-true_iff at e in
        let f = next_facts s.head 0 zero_request (waiting s) p.0.0.1.0 in
        let g = passed s.head (waiting s) f (room_facts s.head 0 (waiting s) p.0.0.1.1) in
        rw (p.0.0.0, g.0, f.ahead, f.given, f.owned, g.1, p.0.1, p.1)
