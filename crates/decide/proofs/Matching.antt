-- The first refusal that matches, and when each does. Assumes nothing.
use Rattle.std.proofs.Common.{◌≡◌, ◌≢◌, ℕ, suc, ◌+◌, ◌≤◌, ◌<◌, Bool, true, false, cond, not, ltb, List, [], ◌∷◌, ◌++◌, refl, ap, arith}
use mathlib.Core.Bool.{and-false}
use borrow.Author.Tests.{le-ltb, lt-ltb, lt-leb, eq-eqb, ne_eqb, ltb-true, ltb-false}
use Rattle.spec.specs.declared.types.Reason.{Reason}
use Rattle.spec.specs.declared.types.Reason.TheVariants as reason
use Rattle.spec.specs.Reasons.{number_of}
use Rattle.spec.specs.Tables.{most_ahead, State}
use Rattle.spec.specs.Setup.{Refusal, first_match}
use Rattle.spec.specs.Chart.{room_to}
use Rattle.spec.specs.Calls.Refusals.{refusal4, refusal5, refusal6, refusal7, refusal15}
use Rattle.spec.proofs.Laws.Sound.{within_test}
use Rattle.sound.specs.Checks.{tables_refusal}

-- no reason has the number 0
pub number_some : (why : Reason) → number_of why ≢ 0
number_some reason.NoFrame = λ e. absurd (omega (arith, e))
number_some reason.Clients = λ e. absurd (omega (arith, e))
number_some reason.Period = λ e. absurd (omega (arith, e))
number_some reason.Lengths = λ e. absurd (omega (arith, e))
number_some reason.Unsound = λ e. absurd (omega (arith, e))
number_some reason.UnknownClient = λ e. absurd (omega (arith, e))
number_some reason.Deadline = λ e. absurd (omega (arith, e))
number_some reason.Submitted = λ e. absurd (omega (arith, e))
number_some reason.LastNumber = λ e. absurd (omega (arith, e))
number_some reason.TableFull = λ e. absurd (omega (arith, e))
number_some reason.ClockEnd = λ e. absurd (omega (arith, e))
number_some reason.ShortOutput = λ e. absurd (omega (arith, e))
number_some reason.SlotsPerHour = λ e. absurd (omega (arith, e))
number_some reason.AllClosed = λ e. absurd (omega (arith, e))
number_some reason.NoOpenSlot = λ e. absurd (omega (arith, e))

-- ---- one refusal of a list
pub match_here : (r : Refusal) (rs : List Refusal) → r.holds ≡ true → r.number ≡ first_match (r ∷ rs)
unfolding first_match
match_here r rs e = rw e

pub match_next : (r : Refusal) (rs : List Refusal) {n : ℕ} → r.holds ≡ false → n ≡ first_match rs → n ≡ first_match (r ∷ rs)
unfolding first_match
match_next r rs e f = rw e f

match_none : 0 ≡ first_match []
unfolding first_match
match_none = refl

-- a list of one
pub match_only : (r : Refusal) → r.holds ≡ false → 0 ≡ first_match (r ∷ [])
match_only r e = match_next r [] e match_none

-- ---- the first match of a list of refusals is that of the list with others behind
pub match_first : (rs qs : List Refusal) {n : ℕ} → n ≢ 0 → n ≡ first_match rs → n ≡ first_match (rs ++ qs)
unfolding first_match
match_first [] qs h e = absurd (h e)
match_first (r ∷ rs) qs {n} h e = go r.holds (match_first rs qs h) e
  where
    go : (x : Bool) → (n ≡ first_match rs → n ≡ first_match (rs ++ qs)) → n ≡ cond x r.number (first_match rs)
        → n ≡ cond x r.number (first_match (rs ++ qs))
    go true f e = e
    go false f e = f e

-- ---- what the tables call for, before a call's own
module _ (own : List Refusal) (s : State) where
  pub tables_match : (why : Reason) → number_of why ≡ tables_refusal s → number_of why ≡ first_match (refusal4 s ∷ refusal5 s ∷ own)
  unfolding tables_refusal
  tables_match why e = match_first (refusal4 s ∷ refusal5 s ∷ []) own (number_some why) e

  pub tables_pass : tables_refusal s ≡ 0 → {n : ℕ} → n ≡ first_match own → n ≡ first_match (refusal4 s ∷ refusal5 s ∷ own)
  unfolding tables_refusal first_match
  tables_pass e {n} f = go (refusal4 s).holds (refusal5 s).holds e
    where
      go : (x y : Bool) → ◌≡◌ {A = ℕ} (cond x 4 (cond y 5 0)) 0 → n ≡ cond x 4 (cond y 5 (first_match own))
      go true y e = absurd (omega arith)
      go false true e = absurd (omega arith)
      go false false e = f

-- ---- "6. Submit and report: the client does not exist."
pub holds6 : (client : ℕ) (s : State) → s.head.setup.clients ≤ client → (refusal6 client s).holds ≡ true
holds6 client s h = ap not (le-ltb client s.head.setup.clients h)

pub fails6 : (client : ℕ) (s : State) → client < s.head.setup.clients → (refusal6 client s).holds ≡ false
fails6 client s h = ap not (lt-ltb client s.head.setup.clients h)

-- ---- "7. Submit: the deadline is not after the clock, or more than 65,535 after it, all slots counted."
pub early7 : (deadline : ℕ) (s : State) → deadline ≤ s.head.clock → (refusal7 deadline s).holds ≡ true
early7 deadline s h = rw (lt-leb (suc s.head.clock) deadline (omega arith))

pub late7 : (deadline : ℕ) (s : State) → s.head.clock + most_ahead < deadline → (refusal7 deadline s).holds ≡ true
late7 deadline s h = rw (lt-leb deadline (s.head.clock + most_ahead) h, and-false)

pub fails7 : (deadline : ℕ) (s : State) → s.head.clock < deadline → deadline ≤ s.head.clock + most_ahead
    → (refusal7 deadline s).holds ≡ false
fails7 deadline s h g = ap not (within_test (suc s.head.clock) (s.head.clock + most_ahead) deadline h g)

-- ---- document 02, 2.2: "15, no open slot from the clock to the deadline, after 7"
pub holds15 : (deadline : ℕ) (s : State) → ltb 0 (room_to s.head deadline) ≡ false → (refusal15 deadline s).holds ≡ true
holds15 deadline s e =
    eq-eqb (room_to s.head deadline) 0 (omega (arith, ltb-false 0 (room_to s.head deadline) e))

pub fails15 : (deadline : ℕ) (s : State) → ltb 0 (room_to s.head deadline) ≡ true → (refusal15 deadline s).holds ≡ false
fails15 deadline s e =
    ne_eqb (room_to s.head deadline) 0 (λ z. omega (arith, z, ltb-true 0 (room_to s.head deadline) e))
