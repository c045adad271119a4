-- What a submit decides, refused or not, and what it is told to decide it. Assumes nothing.
use Rattle.std.proofs.Common.{◌≡◌, ◌≢◌, ℕ, ◌<◌, Bool, true, false, cond, eqb, Option, Some, Result, Ok, Err, List, ◌∷◌, get_or, take, drop, replicate, arith}
use borrow.Author.Tests.{eq-eqb, ne_eqb}
use Rattle.slots.proofs.Laws.Tests.{Same, same_yes, same_no, same}
use Rattle.spec.specs.declared.types.Reason.{Reason}
use Rattle.spec.specs.Reasons.{number_of}
use Rattle.spec.specs.Tables.{most_clients, zero_counts, State, waiting, deadlines_of, clients_of, client_table}
use Rattle.spec.specs.Setup.{first_match}
use Rattle.spec.specs.Order.{place_of}
use Rattle.spec.specs.Chart.{due_by, has_no_overfull}
use Rattle.spec.specs.Calls.Outcomes.{Outcome, refusing}
use Rattle.spec.specs.Calls.Submit.{submit_refusals, new_request, with_new, victim_place, kept, dropped_at, submit_accepted}
use Rattle.spec.specs.Calls.{submit, outcome_of}
use Rattle.spec.proofs.Laws.Accepted.{SubmitReady}
use Rattle.spec.proofs.Calls.Refused.{none_accepted}
use Rattle.table.specs.Widths.{largest32}
use Rattle.occupancy.specs.Scans.{overfull_from, if_any, latest_of, put_at}
use Rattle.decide.specs.declared.submit.Decision.{Decision}
use Rattle.decide.specs.declared.submit.Decision.TheVariants.{Keep, Drop}
use Rattle.decide.proofs.Matching.{number_some}
use Rattle.queue.specs.Decision.{submit_choice, submit_decision, decided_by}

-- what the searches find of an accepted submit in a state: the new request's place; the first overfull deadline, where there is one; and,
-- where there is, of each client the last candidate, the waiting requests that are due by it and the new one
pub record SearchResults (client deadline : ℕ) (latest : List ℕ) (place : ℕ) (found : Option ℕ) (s : State) : Type 0 where
  pub accepted : first_match (submit_refusals client deadline s) ≡ 0
  pub placed : place ≡ due_by deadline (waiting s)
  pub searched : found ≡ if_any (overfull_from s.head place (deadline ∷ drop place (deadlines_of (waiting s))))
  pub marked : (D : ℕ) → found ≡ Some D
      → latest
      ≡ latest_of 1 (put_at place client (take (due_by D (waiting s)) (clients_of (waiting s)))) (replicate most_clients 0)

-- ---- what a submit has to do by what its check finds, and back
module _ (client deadline : ℕ) (s : State) where
  abbrev t : ℕ
  t = first_match (submit_refusals client deadline s)

  pub submit_refused : (why : Reason) → number_of why ≡ t → decided_by (Err why) ≡ submit_decision client deadline s
  unfolding submit_decision
  submit_refused why e = rw (← e, ne_eqb (number_of why) 0 (number_some why))

  pub submit_goes : {d : Decision} → t ≡ 0 → d ≡ submit_choice client deadline s
      → decided_by (Ok d) ≡ submit_decision client deadline s
  unfolding submit_decision
  submit_goes z e = rw (e, eq-eqb t 0 z)

  -- refused: the reason's number is that of the first refusal that matches
  pub reason_first : (why : Reason) → decided_by (Err why) ≡ submit_decision client deadline s → number_of why ≡ t
  unfolding submit_decision
  reason_first why e = go (eqb t 0) e
    where
      go : (x : Bool) → ◌≡◌ {A = Result Decision ℕ} (Err (number_of why)) (cond x (Ok (submit_choice client deadline s)) (Err t))
          → number_of why ≡ t
      go false e = grind arith
      go true e = absurd (grind arith)

  -- not refused: what is decided is chosen
  pub choice_decided : {d : Decision} → decided_by (Ok d) ≡ submit_decision client deadline s → d ≡ submit_choice client deadline s
  unfolding submit_decision
  choice_decided {d} e = go (eqb t 0) e
    where
      go : (x : Bool) → ◌≡◌ {A = Result Decision ℕ} (Ok d) (cond x (Ok (submit_choice client deadline s)) (Err t))
          → d ≡ submit_choice client deadline s
      go true e = grind arith
      go false e = absurd (grind arith)

  -- .. and none matches
  pub none_first : {d : Decision} → decided_by (Ok d) ≡ submit_decision client deadline s → t ≡ 0
  unfolding submit_decision
  none_first {d} e = go (eqb t 0) (same t 0) e
    where
      go : (x : Bool) → Same t 0 x → ◌≡◌ {A = Result Decision ℕ} (Ok d) (cond x (Ok (submit_choice client deadline s)) (Err t)) → t ≡ 0
      go true (same_yes z) e = z
      go false (same_no n) e = absurd (grind arith)

-- ---- what an accepted submit says of the client's submitted: it has room for one more
pub small : {client deadline : ℕ} (s : State) → SubmitReady client deadline s
    → (get_or (client_table s) client zero_counts).submitted < largest32
small {client} s ready =
    omega (
      arith,
      (ready.ready.sound.balanced client (omega (arith, ready.exists, ready.ready.shape.clients))).1,
    )

-- ---- what is decided, and what it comes to
pub data Chosen (client deadline : ℕ) (s : State) : Decision → Outcome → Type 0 where
  keeps : Chosen client deadline s (Keep (place_of (new_request client deadline s) (waiting s))) (kept client deadline s)
  drops : Chosen client deadline s
      (Drop (place_of (new_request client deadline s) (waiting s)) (victim_place client deadline s))
      (dropped_at (victim_place client deadline s) client deadline s)

choice_made : (client deadline : ℕ) (s : State)
    → Chosen client deadline s (submit_choice client deadline s) (submit_accepted client deadline s)
unfolding submit_choice submit_accepted
choice_made client deadline s = go (has_no_overfull s.head (with_new client deadline s))
  where
    place : ℕ
    place = place_of (new_request client deadline s) (waiting s)

    go : (y : Bool)
        → Chosen client deadline s
        (cond y (Keep place) (Drop place (victim_place client deadline s)))
        (cond y (kept client deadline s) (dropped_at (victim_place client deadline s) client deadline s))
    go true = keeps
    go false = drops

-- of a submit that is not refused what is chosen is what the call does
pub submit_chosen : (client deadline : ℕ) (s : State) → first_match (submit_refusals client deadline s) ≡ 0
    → Chosen client deadline s (submit_choice client deadline s) (outcome_of (submit client deadline) s)
submit_chosen client deadline s z =
    rw (none_accepted (submit client deadline) s z) (choice_made client deadline s)

-- of every submit what is decided is what the call does, case by case
pub data Carried (client deadline : ℕ) (s : State) : Result Decision ℕ → Outcome → Type 0 where
  refuses : first_match (submit_refusals client deadline s) ≢ 0
      → Carried client deadline s (Err (first_match (submit_refusals client deadline s)))
      (refusing (first_match (submit_refusals client deadline s)) s)
  goes : {d : Decision} {o : Outcome} → first_match (submit_refusals client deadline s) ≡ 0 → Chosen client deadline s d o
      → Carried client deadline s (Ok d) o

pub submit_carried : (client deadline : ℕ) (s : State)
    → Carried client deadline s (submit_decision client deadline s) (outcome_of (submit client deadline) s)
unfolding submit_decision outcome_of
submit_carried client deadline s = go (eqb t 0) (same t 0)
  where
    t : ℕ
    t = first_match (submit_refusals client deadline s)

    go : (x : Bool) → Same t 0 x
        → Carried client deadline s
        (cond x (Ok (submit_choice client deadline s)) (Err t))
        (cond x (submit_accepted client deadline s) (refusing t s))
    go true (same_yes z) = goes z (choice_made client deadline s)
    go false (same_no n) = refuses n
