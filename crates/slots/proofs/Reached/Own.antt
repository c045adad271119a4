-- What the steps keep of the log and the waiting list, so that both together are a plan. Assumes nothing.
use Prim.Native.Nat.{ℕ, suc, ◌+◌, ◌≤◌, ◌<◌}
use mathlib.Core.Path.{◌≡◌, refl, ap}
use mathlib.Core.Bool.{Bool, true, false}
use mathlib.Core.List.{List, [], ◌∷◌}
use native.Mathlib.Omega.{arith}
use lib.Dec.{eqb}
use lib.ListN.{length, take, drop, length-take}
use Rattle.slots.specs.Plan.{Window, at, is_at}
use Rattle.slots.proofs.Laws.Tests.{Same, same_yes, same_no, same, le, gt, order}
use Rattle.slots.proofs.Laws.Sums.{one_no, one_most, All, all_each, all_imp, all_take, all_drop, total, total_split}
use Rattle.slots.proofs.Laws.Sums.{total_zero, total_one}
use Rattle.slots.proofs.Queue.{Entry, Booking, Queue, empty, arrival, asking, serve, ticked, Joined, Swapped, Taken}
use Rattle.slots.proofs.Queue.{withdrawing, discarded}
use Rattle.slots.proofs.Laws.Count.{total_serve, is_at_yes, is_at_no}
use Rattle.slots.proofs.Laws.Sorted.{Sorted, sorted_low}
use Rattle.slots.proofs.Upper.{Inv}
use Rattle.slots.proofs.Reached.Book.{all_serve, who, whose, IsNumber, none_above, req, req_new, req_old, Good}
use Rattle.slots.proofs.Reached.Seat.{sits, Roomy}

-- a request that was served: in a slot that it can have, before the clock
pub record Served (t : ℕ) (R : List Window) (b : Booking) : Type 0 where
  pub good : Good R b
  pub known : IsNumber (length R) b.number
  pub past : b.slot < t

-- one that waits
pub record Waits (t : ℕ) (R : List Window) (w : Entry) : Type 0 where
  pub released : (req w.number R).release ≤ t
  pub limit : (req w.number R).deadline ≡ w.deadline
  pub known : IsNumber (length R) w.number

served_on : (t : ℕ) (r : Window) (R : List Window) (b : Booking) → Served t R b → Served t (r ∷ R) b
served_on t r R b s =
    record { good = rw (req_old b.number r R s.known.1) s.good; known = omega (arith, s.known); past = s.past }

served_later_lem : (t : ℕ) (R : List Window) (b : Booking) → Served t R b → Served (suc t) R b
served_later_lem t R b s = record { good = s.good; known = s.known; past = omega (arith, s.past) }

waits_on : (t : ℕ) (r : Window) (R : List Window) (w : Entry) → Waits t R w → Waits t (r ∷ R) w
waits_on t r R w h =
    record {
      released = rw (req_old w.number r R h.known.1) h.released;
      limit = rw (req_old w.number r R h.known.1) h.limit;
      known = omega (arith, h.known);
    }

waits_later : (t : ℕ) (R : List Window) (w : Entry) → Waits t R w → Waits (suc t) R w
waits_later t R w h = record { released = omega (arith, h.released); limit = h.limit; known = h.known }

waits_new : (t d : ℕ) (R : List Window)
    → Waits t (record { release = t; deadline = d } ∷ R) (record { deadline = d; number = suc (length R) })
waits_new t d R =
    record {
      released = rw (req_new (record { release = t; deadline = d }) R) (omega arith);
      limit = rw (req_new (record { release = t; deadline = d }) R) refl;
      known = omega arith;
    }

-- one that waits is due after the clock
abbrev Due : ℕ → List Window → Entry → Type 0
Due t R w = Waits t R w × (t < w.deadline)

all_due : (t lo : ℕ) (R : List Window) (ws : List Entry) → t < lo → Sorted lo ws → All (Waits t R) ws → All (Due t R) ws
all_due t lo R [] h s a = tt
all_due t lo R (w ∷ ws) h s a = ((a.0, omega (arith, s.0)), all_due t w.deadline R ws (omega (arith, s.0)) s.1 a.1)

serves : (t : ℕ) (R : List Window) (w : Entry) → Due t R w → Served (suc t) R (record { number = w.number; slot = t })
serves t R w h = record { good = (h.0.released, omega (arith, h.0.limit, h.1)); known = h.0.known; past = omega arith }

-- no slot from the clock on is in the log
pub log_none : (x t : ℕ) (R : List Window) (bs : List Booking) → All (Served t R) bs → t ≤ x → total (sits x) bs ≡ 0
log_none x t R bs a h =
    total_zero (sits x) bs
    (all_imp (Served t R) (λ (b : Booking). sits x b ≡ 0) bs (λ b g. is_at_no x b.slot (omega (arith, g.past))) a)

module _ (heads : ℕ → ℕ) where
  -- each number is in the log or waits at most once, and no slot served more than it can take
  pub record Own (q : Queue) : Type 0 where
    pub served : All (Served q.clock q.asked) q.log
    pub waits : All (Waits q.clock q.asked) q.waiting
    pub once : (i : ℕ) → total (who i) q.log + total (whose i) q.waiting ≤ 1
    pub spread : (x : ℕ) → total (sits x) q.log ≤ heads x

  pub own_empty : Own empty
  unfolding total
  own_empty = record { served = tt; waits = tt; once = λ i. omega arith; spread = λ x. omega arith }

  -- ---- those that wait are due after the clock, and there is room for them
  pub none_due : (q : Queue) → Inv heads q → Sorted (suc q.clock) q.waiting
  none_due q I = sorted_low q.clock 0 q.waiting I.sorted (omega (arith, I.feasible q.clock (omega arith)))

  pub roomy : (q : Queue) → Inv heads q → Roomy heads q.clock 0 (suc q.clock) q.waiting
  roomy q I x h = omega (arith, I.feasible x (omega arith))

  -- ---- a request comes
  module _ (d : ℕ) (q : Queue) (vs : List Entry) (O : Own q) where
    abbrev r : Window
    r = record { release = q.clock; deadline = d }

    abbrev R : List Window
    R = r ∷ q.asked

    abbrev n : ℕ
    n = length q.asked

    log_above : (i : ℕ) → n < i → total (who i) q.log ≡ 0
    log_above =
        none_above (λ (b : Booking). b.number) n q.log
        (all_imp (Served q.clock q.asked) (λ (b : Booking). IsNumber n b.number) q.log (λ b h. h.known) O.served)

    wait_above : (i : ℕ) → n < i → total (whose i) q.waiting ≡ 0
    wait_above =
        none_above (λ (w : Entry). w.number) n q.waiting
        (all_imp (Waits q.clock q.asked) (λ (w : Entry). IsNumber n w.number) q.waiting (λ w h. h.known) O.waits)

    once_more : (i : ℕ) → total (who i) q.log + (whose i (arrival d q) + total (whose i) q.waiting) ≤ 1
    once_more i =
        elim (order i n) [
          | le h ↦ omega (arith, O.once i, one_no i (suc n) (omega arith))
          | gt h ↦ omega (arith, log_above i h, wait_above i h, one_most i (suc n))
        ]

    own_asking : ((p : Entry → Type 0) → p (arrival d q) → All p q.waiting → All p vs)
        → ((i : ℕ) → total (whose i) vs ≤ whose i (arrival d q) + total (whose i) q.waiting) → Own (asking d vs q)
    own_asking lifts f =
        record {
          served = all_imp (Served q.clock q.asked) (Served q.clock R) q.log (served_on q.clock r q.asked) O.served;
          waits =
              lifts (Waits q.clock R) (waits_new q.clock d q.asked)
              (all_imp (Waits q.clock q.asked) (Waits q.clock R) q.waiting (waits_on q.clock r q.asked) O.waits);
          once = λ i. omega (arith, f i, once_more i);
          spread = O.spread;
        }

    pub own_kept : Joined (arrival d q) q.waiting vs → Own (asking d vs q)
    own_kept J = own_asking J.lifts (λ i. omega (arith, J.sums (whose i)))

    pub own_dropped : (victim : Entry) → Swapped (arrival d q) victim q.waiting vs → Own (asking d vs q)
    own_dropped victim S = own_asking S.lifts (λ i. omega (arith, S.sums (whose i)))

  -- ---- a tick
  spread_tick : (x t : ℕ) (R : List Window) (ws : List Entry) (bs : List Booking) → length ws ≤ heads t → All (Served t R) bs
      → ((x : ℕ) → total (sits x) bs ≤ heads x) → total (sits x) (serve t ws bs) ≤ heads x
  spread_tick x t R ws bs l a f = go (eqb x t) (same x t)
    where
      here : Entry → ℕ
      here w = is_at x (at t)

      go : (c : Bool) → Same x t c → total (sits x) (serve t ws bs) ≤ heads x
      go true (same_yes e) =
          omega (
            arith,
            total_serve (sits x) t ws bs,
            log_none x t R bs a (omega arith),
            total_one here ws (λ w. is_at_yes x t e),
            ap heads e,
          )
      go false (same_no n) =
          omega
          (arith, total_serve (sits x) t ws bs, f x, total_zero here ws (all_each (λ (w : Entry). here w ≡ 0) ws (λ w. is_at_no x t n)))

  -- it asks only that all that wait are due after the clock: they are where there is room for them (none-due), and also where the
  -- others were discarded first
  pub own_ticked : (q : Queue) → Sorted (suc q.clock) q.waiting → Own q → Own (ticked heads q)
  own_ticked q low O =
      record {
        served =
            all_serve (Due t R) (Served (suc t) R) t (take h ws) q.log (serves t R)
            (all_take (Due t R) h ws (all_due t (suc t) R ws (omega arith) low O.waits))
            (all_imp (Served t R) (Served (suc t) R) q.log (served_later_lem t R) O.served);
        waits = all_drop (Waits (suc t) R) h ws (all_imp (Waits t R) (Waits (suc t) R) ws (waits_later t R) O.waits);
        once = λ i. omega (arith, total_serve (who i) t (take h ws) q.log, total_split (whose i) h ws, O.once i);
        spread = λ x. spread_tick x t R (take h ws) q.log (omega (arith, length-take h ws)) O.served O.spread;
      }
    where
      t : ℕ
      t = q.clock

      R : List Window
      R = q.asked

      h : ℕ
      h = heads t

      ws : List Entry
      ws = q.waiting

  -- ---- some go and none comes
  -- how many were withdrawn does not matter to the log and those that wait, so that one law serves a withdrawal and a discard
  pub own_fewer : {n : ℕ} (q : Queue) (vs : List Entry) → ((p : Entry → Type 0) → All p q.waiting → All p vs)
      → ((f : Entry → ℕ) → total f vs ≤ total f q.waiting) → Own q
      → Own (record { clock = q.clock; log = q.log; waiting = vs; asked = q.asked; withdrawn = n })
  own_fewer q vs lifts f O =
      record {
        served = O.served;
        waits = lifts (Waits q.clock q.asked) O.waits;
        once = λ i. omega (arith, f (whose i), O.once i);
        spread = O.spread;
      }

  -- one is withdrawn, and nothing changes for the log and for those that still wait
  pub own_withdrawn : (e : Entry) (q : Queue) (vs : List Entry) → Taken e q.waiting vs → Own q → Own (withdrawing vs q)
  own_withdrawn e q vs T O = own_fewer q vs T.lifts (λ f. omega (arith, T.sums f)) O

  -- the first j are discarded, and here it does not matter whether their deadlines have come
  pub own_discarded : (j : ℕ) (q : Queue) → Own q → Own (discarded j q)
  own_discarded j q O =
      own_fewer q (drop j q.waiting) (λ p. all_drop p j q.waiting) (λ f. omega (arith, total_split f j q.waiting)) O
