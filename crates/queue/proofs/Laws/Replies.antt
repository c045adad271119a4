-- What a call hands back, and what it leaves of both tables: the parts that its contract is made of. Assumes nothing.
use Rattle.std.proofs.Common.{◌≡◌, ℕ, suc, ◌+◌, ◌<◌, Bool, true, false, cond, eqb, min, Err, Ok, List, get_or, refl, sym, ap, ◌∙◌, arith}
use borrow.Author.Tests.{ne_eqb}
use Rattle.slots.proofs.Laws.Tests.{Same, same_yes, same_no, same}
use Rattle.spec.specs.declared.types.Request.{Request}
use Rattle.spec.specs.declared.types.Counts.{Counts}
use Rattle.spec.specs.declared.types.Reason.{Reason}
use Rattle.spec.specs.declared.types.Answer.{Answer}
use Rattle.spec.specs.declared.types.Answer.TheVariants.{Refused}
use Rattle.spec.specs.Reasons.{number_of}
use Rattle.spec.specs.Tables.{zero_counts, State, state_of, client_table, numbers_of}
use Rattle.spec.specs.Setup.{Refusal, first_match}
use Rattle.spec.specs.Calls.Outcomes.{Outcome, saying, refusing, unless_refused}
use Rattle.spec.specs.Calls.{Call, outcome_of, refusals_of, accepted_of}
use Rattle.spec.proofs.Laws.Layout.{numbers_records}
use Rattle.spec.proofs.Laws.Sound.{Shaped}
use Rattle.spec.proofs.Calls.Keeps.{Tidy}
use Rattle.spec.proofs.Calls.Refused.{none_accepted}
use Rattle.table.specs.Widths.{largest32, largest64}
use Rattle.decide.specs.Reply.{refused_with}
use Rattle.decide.specs.Matches.{reply_unless}
use Rattle.decide.proofs.Matching.{number_some}
use Rattle.queue.specs.Gives.{Reply, said, Gives, ComesTo}

-- ---- the client table of a state whose lengths fit is all of its numbers
pub whole : (s : State) → Shaped s → s.client_numbers ≡ numbers_of (client_table s)
whole s f = sym (numbers_records s.client_numbers (omega (arith, f.numbers, f.clients)))

-- ---- "adds 1 to" a count of a client that exists
-- what a balanced client's counts leave room for
pub bounded : {clock last clients : ℕ} {ws : List Request} {cs : List Counts} → Tidy clock last clients ws cs → (client : ℕ)
    → client < clients
    → let k = get_or cs client zero_counts in (k.submitted < largest32) × (k.served < largest32) × (k.dropped < largest32)
bounded t client h =
    let b = t.balanced client (omega (arith, t.counted)) in (omega arith, omega arith, omega arith)

-- ---- a number that is not the largest rises by 1
pub next_fits : (n : ℕ) → n < largest64 → min (n + 1) largest64 ≡ suc n
next_fits n h = omega arith

-- ---- what a call hands back, and what it leaves of the client table, is what the outcome says
pub record ReplyMatches (o : Outcome) (r : Reply) (numbers : List ℕ) : Type 0 where
  pub answers_same : said r ≡ o.answers
  pub head_same : r.head ≡ o.after.head
  pub numbers_same : numbers ≡ o.after.client_numbers

-- the answer, the head and the numbers, each by itself
pub answers : {o : Outcome} {r : Reply} {xs : List ℕ} → said r ≡ o.answers → r.head ≡ o.after.head
    → xs ≡ o.after.client_numbers → ReplyMatches o r xs
answers a h c = record { answers_same = a; head_same = h; numbers_same = c }

-- ---- what a call comes to whose first match is t
-- refused or accepted: what it hands back, and the numbers that it leaves
module _ (rs : List Refusal) (s : State) (o : Outcome) {t : ℕ} (found : t ≡ first_match rs) where
  pub unless_answers : {r accepted : Reply} {xs ys : List ℕ}
      → (t ≡ 0 → ReplyMatches o accepted ys)
      → r ≡ reply_unless t s.head accepted
      → xs ≡ cond (eqb t 0) ys s.client_numbers
      → ReplyMatches (unless_refused rs s o) r xs
  unless_answers {accepted = accepted} {ys = ys} goes e h = rw (← found, e, h) (go (eqb t 0) (same t 0))
    where
      go : (b : Bool) → Same t 0 b
          → ReplyMatches (cond b o (refusing t s)) (cond b accepted (refused_with s.head t))
          (cond b ys s.client_numbers)
      go true (same_yes z) = goes z
      go false (same_no n) = answers refl refl refl

-- the waiting table, and what a reply and the client table answer
pub given : (c : Call) (s : State) {r : Reply} {ws : List Request} {xs : List ℕ} → ws ≡ (outcome_of c s).after.waiting_table
    → ReplyMatches (outcome_of c s) r xs → Gives c s r (state_of r.head ws xs)
given c s w a =
    record {
      answers_same = a.answers_same;
      head_kept = refl;
      after_same =
          λ i. record { head = a.head_same i; waiting_table = w i; client_numbers = a.numbers_same i };
    }

-- A call that changes nothing and answers a, where its first match is t: it hands back that answer or the refusal, and the head
pub read_gives : (c : Call) (s : State) (a : Answer) {t : ℕ} {r : Reply} → t ≡ first_match (refusals_of c s)
    → (t ≡ 0 → accepted_of c s ≡ saying a s)
    → r ≡ reply_unless t s.head (record { head = s.head; answer = a })
    → Gives c s r (state_of r.head s.waiting_table s.client_numbers)
unfolding outcome_of
read_gives c s a {t} {r} found goes e =
    let q = go (eqb t 0) (same t 0) in
    record {
      answers_same = rw (← found, e) q.0;
      head_kept = refl;
      after_same = rw (← found, e) q.1;
    }
  where
    go : (b : Bool) → Same t 0 b
        → let x = cond b (record { head = s.head; answer = a }) (refused_with s.head t) in
        let o = cond b (accepted_of c s) (refusing t s) in
        (said x ≡ o.answers) × (state_of x.head s.waiting_table s.client_numbers ≡ o.after)
    go true (same_yes z) = rw (goes z) (refl, refl)
    go false (same_no n) = (refl, refl)

module _ (c : Call) (s : State) where
  -- "Each answers with its number only; head, tables and output stay unchanged.": a call that is refused for this reason
  pub refused_gives : (why : Reason) → number_of why ≡ first_match (refusals_of c s)
      → ComesTo c s (Err why) s.waiting_table s.client_numbers
  refused_gives why e =
      read_gives c s (Refused (number_of why)) e (λ z. absurd (number_some why z))
      (rw (ne_eqb (number_of why) 0 (number_some why)))

  -- a call that is not refused: the waiting table, and what a reply and the client table answer
  pub accepted_gives : {r : Reply} {ws : List Request} {xs : List ℕ} → first_match (refusals_of c s) ≡ 0
      → ws ≡ (accepted_of c s).after.waiting_table → ReplyMatches (accepted_of c s) r xs → ComesTo c s (Ok r) ws xs
  unfolding outcome_of
  accepted_gives z w a =
      given c s (w ∙ ap (λ (o : Outcome). o.after.waiting_table) (sym (none_accepted c s z)))
      (unless_answers (refusals_of c s) s (accepted_of c s) (sym z) (λ _. a) refl refl)
