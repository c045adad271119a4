-- Laws of lending: which tables will do, the lengths that a frame names, and what a call hands back. Assumes nothing.
use Prim.Native.Nat.{ℕ, ◌≤◌, ◌*◌}
use mathlib.Core.Path.{◌≡◌, refl, ◌∙◌}
use mathlib.Core.Bool.{Bool, true, false, cond, ◌&&◌, and-false, and-eq-true_iff}
use mathlib.Core.List.{List}
use native.Mathlib.Omega.{arith}
use borrow.Author.Tests.{leb-true, le-leb}
use lib.Dec.{leb, eqb}
use lib.ListN.{length}
use Rattle.slots.proofs.Laws.Tests.{Same, same_yes, same_no, same}
use Rattle.spec.specs.declared.types.Frame.{Frame}
use Rattle.spec.specs.declared.types.Setup.{Setup}
use Rattle.spec.specs.Every.{is_within}
use Rattle.spec.specs.Tables.{most_records, most_clients, State, client_width}
use Rattle.spec.specs.Setup.{Refusal, first_match, setup_refusals}
use Rattle.spec.specs.Calls.Outcomes.{Outcome, unless_refused, refusing}
use Rattle.spec.specs.Calls.Open.{open_refusals}
use Rattle.spec.specs.Lines.Frames.{task}
use Rattle.spec.proofs.Laws.Every.{Value, is_true, is_false, value, cond_true}
use Rattle.session.specs.declared.types.Session.{Session}
use Rattle.session.specs.Standing.{do_fit, up_to, lengths_for, records_for, numbers_for}

-- ---- tables that will do, as facts
pub record TablesFit (s : Session) (waiting numbers starts : ℕ) : Type 0 where
  pub records : s.records ≤ most_records
  pub clients : s.head.setup.clients ≤ most_clients
  pub waiting_long : most_records ≤ waiting
  pub starts_long : most_records ≤ starts
  pub numbers_long : client_width * most_clients ≤ numbers

pub fit_facts : (s : Session) (waiting numbers starts : ℕ) → do_fit s waiting numbers starts ≡ true
    → TablesFit s waiting numbers starts
unfolding do_fit
fit_facts s waiting numbers starts e =
    let p = simp and-eq-true_iff at e in
    record {
      records = leb-true s.records most_records p.0.0;
      clients = leb-true s.head.setup.clients most_clients p.0.1;
      waiting_long = leb-true most_records waiting p.1.0.0;
      starts_long = leb-true most_records starts p.1.0.1;
      numbers_long = leb-true (client_width * most_clients) numbers p.1.1;
    }

-- ---- lengths that a frame names
pub up_same : (most n : ℕ) → n ≤ most → up_to most n ≡ n
up_same most n h = cond_true (leb n most) n 0 (le-leb n most h)

pub up_most : (most n : ℕ) → up_to most n ≤ most
up_most most n = go (leb n most) (leb-true n most)
  where
    go : (x : Bool) → (x ≡ true → n ≤ most) → cond x n 0 ≤ most
    go true h = h refl
    go false h = omega arith

-- none is as far outside as too many
up_within : (most n : ℕ) → is_within 1 most (up_to most n) ≡ is_within 1 most n
up_within most n = go (leb n most) refl
  where
    go : (x : Bool) → leb n most ≡ x → is_within 1 most (cond x n 0) ≡ (leb 1 n && x)
    go true e = rw e
    go false e = rw and-false

-- what a frame's call is lent is within tables that will do
pub lent_within : (frame : Frame) (s : Session) (waiting numbers starts : ℕ) → do_fit s waiting numbers starts ≡ true
    → (records_for frame s ≤ waiting) × (numbers_for frame s ≤ numbers)
unfolding records_for numbers_for
lent_within frame s waiting numbers starts e =
    let f = fit_facts s waiting numbers starts e in
    let n = up_most most_records (lengths_for (task frame).named s).records in
    let c = up_most most_clients (lengths_for (task frame).named s).clients in
    (omega (arith, f.waiting_long, n), omega (arith, f.numbers_long, c))

-- open is refused alike on tables as long as a frame names and on those that are lent
pub open_match_lem : (setup : Setup) (records : ℕ) (t u : State)
    → length t.waiting_table ≡ up_to most_records records → length t.client_numbers ≡ client_width * up_to most_clients setup.clients
    → length u.waiting_table ≡ records → length u.client_numbers ≡ client_width * setup.clients
    → first_match (open_refusals setup t) ≡ first_match (open_refusals setup u)
unfolding first_match setup_refusals open_refusals
open_match_lem setup records t u a b c d = go (value (leb setup.clients most_clients))
  where
    go : Value (leb setup.clients most_clients)
        → first_match (open_refusals setup t) ≡ first_match (open_refusals setup u)
    go (is_true e) = rw (a, b, c, d, up_within most_records records, cond_true (leb setup.clients most_clients) setup.clients 0 e)
    go (is_false e) = rw (e, and-false)

-- ---- two calls that are refused alike
-- what holds where both are accepted and where both are refused
pub alike : (P : Outcome → Outcome → Type 0) (rs rs' : List Refusal) (t t' : State) (o o' : Outcome)
    → first_match rs ≡ first_match rs' → (first_match rs ≡ 0 → first_match rs' ≡ 0 → P o o')
    → ((k : ℕ) → P (refusing k t) (refusing k t'))
    → P (unless_refused rs t o) (unless_refused rs' t' o')
alike P rs rs' t t' o o' e f g = rw e (go (eqb (first_match rs') 0) (same (first_match rs') 0))
  where
    go : (x : Bool) → Same (first_match rs') 0 x
        → P (cond x o (refusing (first_match rs') t))
        (cond x o' (refusing (first_match rs') t'))
    go true (same_yes z) = f (e ∙ z) z
    go false (same_no z) = g (first_match rs')
