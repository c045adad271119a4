-- What the parts of a submit come to together. Assumes nothing.
use Rattle.std.proofs.Common.{◌≡◌, ℕ, suc, ◌+◌, ◌<◌, min, Ok, List, length, refl, sym, ap, ap₂, subst, ◌∙◌, arith}
use Rattle.spec.specs.declared.types.Head.{Head}
use Rattle.spec.specs.declared.types.Request.{Request}
use Rattle.spec.specs.Tables.{zero_request, numbers_of, State, client_table, waiting, next_state}
use Rattle.spec.specs.Setup.{first_match}
use Rattle.spec.specs.Order.{place_of, remove_at}
use Rattle.spec.specs.Calls.Outcomes.{Outcome}
use Rattle.spec.specs.Calls.Submit.{submit_refusals, new_request, new_shift, counted_in, with_new, kept, dropped_at, victim_place, request_at}
use Rattle.spec.specs.Calls.{outcome_of, accepted_of, submit}
use Rattle.spec.proofs.Laws.Every.{length_remove, all_at}
use Rattle.spec.proofs.Laws.Order.{length_put}
use Rattle.spec.proofs.Laws.Sound.{ClientExists}
use Rattle.spec.proofs.Laws.Accepted.{SubmitReady, submit_ready, waiting_length}
use Rattle.spec.proofs.Calls.Refused.{none_accepted}
use Rattle.spec.proofs.Calls.Victim.{victim_place_lem}
use Rattle.spec.proofs.Calls.Keeps.{Tidy, tidy, tidy_put}
use Rattle.table.specs.declared.clients.Count.TheVariants as count
use Rattle.table.specs.Widths.{largest64}
use Rattle.table.specs.Clients.{changed_at, one_more_unless_full}
use Rattle.table.proofs.ChangedCounts.{more_numbers}
use Rattle.decide.specs.declared.submit.Decision.{Decision}
use Rattle.decide.specs.declared.submit.Insertion.{Insertion}
use Rattle.decide.specs.Submit.{next_number, numbered_request, submit_numbers, head_after_submit, kept_with, dropped_with, submit_reply}
use Rattle.queue.specs.Placement.{table_after, insertion_by}
use Rattle.queue.specs.Decision.{submit_choice, submit_decision, decided_by}
use Rattle.queue.specs.Gives.{ComesTo}
use Rattle.queue.proofs.Laws.Replies.{whole, bounded, next_fits, ReplyMatches, answers, accepted_gives}
use Rattle.queue.proofs.Laws.Decision.{choice_decided, Chosen, keeps, drops, submit_chosen}
use Rattle.queue.proofs.Laws.Placement.{InsertionFor, submit_inserted, table_by, submit_table}

-- ---- a submit
-- the head with the next number
head_after : (ws : List Request) (head : Head) (waits : ℕ) → next_number head ≡ suc head.last → waits ≡ length ws
    → head_after_submit head waits
    ≡ record {
      setup = head.setup;
      clock = head.clock;
      last = suc head.last;
      waiting = length ws;
    }
head_after ws head waits n e = rw (n, e)

module _ (client deadline : ℕ) (s : State) (ready : SubmitReady client deadline s) where
  abbrev all : List Request
  all = with_new client deadline s

  given : next_number s.head ≡ suc s.head.last
  given = next_fits s.head.last (omega (arith, ready.ready.sound.headed.last))

  one_more : min (s.head.waiting + 1) largest64 ≡ length all
  one_more =
      next_fits s.head.waiting (omega (arith, ready.ready.shape.waits, ready.ready.shape.most_records_lem))
      ∙ omega (
        arith,
        length_put (new_request client deadline s) (waiting s),
        waiting_length s ready.ready.shape,
      )

  as_many : (k : ℕ) → k < length all → s.head.waiting ≡ length (remove_at k all)
  as_many k h =
      omega (
        arith,
        length_put (new_request client deadline s) (waiting s),
        length_remove k all h,
        waiting_length s ready.ready.shape,
      )

  counted : changed_at (one_more_unless_full count.Submitted) client s.client_numbers ≡ numbers_of (counted_in client s)
  counted =
      ap (changed_at (one_more_unless_full count.Submitted) client) (whole s ready.ready.shape)
      ∙ more_numbers count.Submitted client (client_table s) (bounded (tidy s ready.ready) client ready.exists).0

  kept_answers : ReplyMatches (kept client deadline s)
      (kept_with s.head (place_of (new_request client deadline s) (waiting s)) (new_shift client deadline s))
      (changed_at (one_more_unless_full count.Submitted) client s.client_numbers)
  unfolding kept next_state
  kept_answers = answers (rw given) (head_after all s.head _ given one_more) counted

  dropped_answers : (k : ℕ) → k < length all
      → ReplyMatches (dropped_at k client deadline s)
      (dropped_with s.head (request_at k client deadline s) (new_shift client deadline s))
      (changed_at (one_more_unless_full count.Dropped) (request_at k client deadline s).client
      (changed_at (one_more_unless_full count.Submitted) client s.client_numbers))
  unfolding dropped_at next_state
  dropped_answers k h =
      answers (rw given) (head_after (remove_at k all) s.head _ given (as_many k h))
      (ap (changed_at (one_more_unless_full count.Dropped) whose) counted
      ∙ more_numbers count.Dropped whose (counted_in client s) (bounded together whose exists).2)
    where
      whose : ℕ
      whose = (request_at k client deadline s).client

      together : Tidy s.head.clock (suc s.head.last) s.head.setup.clients all (counted_in client s)
      together = tidy_put client deadline s ready

      exists : whose < s.head.setup.clients
      exists = all_at (ClientExists s.head.setup.clients) all k zero_request h together.owned

-- ---- a submit that is not refused
module _ (client deadline : ℕ) (s : State) (z : first_match (submit_refusals client deadline s) ≡ 0) where
  ready : SubmitReady client deadline s
  ready = submit_ready client deadline s z

  -- by the decision and the insertion: what is handed back, and what becomes of the client table
  submit_answers : (insertion : Insertion) → InsertionFor client deadline s (submit_choice client deadline s) insertion
      → ReplyMatches (outcome_of (submit client deadline) s) (submit_reply s.head insertion)
      (submit_numbers client insertion.gone s.client_numbers)
  submit_answers insertion = go (submit_chosen client deadline s z)
    where
      go : {d : Decision} {o : Outcome} → Chosen client deadline s d o → InsertionFor client deadline s d insertion
          → ReplyMatches o (submit_reply s.head insertion) (submit_numbers client insertion.gone s.client_numbers)
      go keeps h = rw h (kept_answers client deadline s ready)
      go drops h = rw h (dropped_answers client deadline s ready (victim_place client deadline s) (victim_place_lem client deadline s ready).0)

  made : numbered_request s.head client deadline ≡ new_request client deadline s
  made = rw (given client deadline s ready) refl

  pub submitted : {decision : Decision} {new : Request} {insertion : Insertion} {ws : List Request} {xs : List ℕ}
      → decided_by (Ok decision) ≡ submit_decision client deadline s → new ≡ numbered_request s.head client deadline
      → insertion ≡ insertion_by s.head new decision s.waiting_table → ws ≡ table_after s.head new decision s.waiting_table
      → xs ≡ submit_numbers client insertion.gone s.client_numbers
      → ComesTo (submit client deadline) s (Ok (submit_reply s.head insertion)) ws xs
  submitted {decision} {new} {insertion} {ws} {xs} decides news inserted moved counted =
      accepted_gives (submit client deadline) s z
      (moved ∙ ap (table_by new s) decides ∙ rw none at (submit_table client deadline s new (λ _. news ∙ made)))
      (rw (counted, ← none) (submit_answers insertion
      (subst (InsertionFor client deadline s (submit_choice client deadline s)) (sym same) (submit_inserted client deadline s z))))
    where
      none : outcome_of (submit client deadline) s ≡ accepted_of (submit client deadline) s
      none = none_accepted (submit client deadline) s z

      same : insertion ≡ insertion_by s.head (new_request client deadline s) (submit_choice client deadline s) s.waiting_table
      same = inserted ∙ ap₂ (λ r d. insertion_by s.head r d s.waiting_table) (news ∙ made) (choice_decided client deadline s decides)
