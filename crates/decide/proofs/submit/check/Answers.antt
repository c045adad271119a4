-- `decide::submit::check` meets its contract. Assumes nothing.
use Rattle.std.proofs.Common.{◌≡◌, ◌≢◌, ℕ, ◌+◌, ◌≤◌, ◌<◌, true, ltb, [], ◌∷◌, get_or, sym, ap, ◌∙◌, arith}
use Rattle.std.proofs.lemmas.Result.{err_from_is_err_and}
use borrow.Author.Tests.{eq-eqb, ne_eqb}
use Rattle.spec.specs.declared.types.Counts.{Counts}
use Rattle.spec.specs.Tables.{most_ahead, most_counted, number_end, zero_counts, State, client_table, state_of}
use Rattle.spec.specs.Setup.{first_match}
use Rattle.spec.specs.Chart.{room_to}
use Rattle.spec.specs.Calls.Refusals.{refusal6, refusal7, refusal15, refusal8, refusal9, refusal10}
use Rattle.spec.specs.Calls.Submit.{submit_refusals}
use Rattle.sound.specs.Checks.{tables_refusal}
use Rattle.decide.proofs.Matching.{match_here, match_next, match_only, tables_match, tables_pass, holds6, fails6}
use Rattle.decide.proofs.Matching.{early7, late7, fails7, holds15, fails15}
use Rattle.decide.proofs.submit.check.Goals as goal

-- the refusals are gone through one after the other: past some of them, the first that matches is that of the others
module _ (client deadline : ℕ) (s : State) (none : tables_refusal s ≡ 0) where
  after5 : {n : ℕ}
      → n
      ≡ first_match (refusal6 client s ∷ refusal7 deadline s ∷ refusal15 deadline s ∷ refusal8 client s ∷ refusal9 s ∷ refusal10 s ∷ [])
      → n ≡ first_match (submit_refusals client deadline s)
  unfolding submit_refusals
  after5 e = tables_pass _ s none e

  module _ (exists : client < s.head.setup.clients) where
    after6 : {n : ℕ}
        → n ≡ first_match (refusal7 deadline s ∷ refusal15 deadline s ∷ refusal8 client s ∷ refusal9 s ∷ refusal10 s ∷ [])
        → n ≡ first_match (submit_refusals client deadline s)
    after6 e = after5 (match_next (refusal6 client s) _ (fails6 client s exists) e)

    module _ (late : s.head.clock < deadline) (near : deadline ≤ s.head.clock + most_ahead) where
      after7 : {n : ℕ} → n ≡ first_match (refusal15 deadline s ∷ refusal8 client s ∷ refusal9 s ∷ refusal10 s ∷ [])
          → n ≡ first_match (submit_refusals client deadline s)
      after7 e = after6 (match_next (refusal7 deadline s) _ (fails7 deadline s late near) e)

      module _ (some_open : ltb 0 (room_to s.head deadline) ≡ true) where
        after15 : {n : ℕ} → n ≡ first_match (refusal8 client s ∷ refusal9 s ∷ refusal10 s ∷ [])
            → n ≡ first_match (submit_refusals client deadline s)
        after15 e = after7 (match_next (refusal15 deadline s) _ (fails15 deadline s some_open) e)

        after8 : {k : Counts} → k ≡ get_or (client_table s) client zero_counts → k.submitted ≢ most_counted → {n : ℕ}
            → n ≡ first_match (refusal9 s ∷ refusal10 s ∷ []) → n ≡ first_match (submit_refusals client deadline s)
        after8 e countable f =
            after15 (match_next (refusal8 client s) _ (ne_eqb _ most_counted (rw e at countable)) f)

pub returns-in_err-check_tables : goal.returns-in_err-check_tables
unfolding submit_refusals
returns-in_err-check_tables c =
    let p = err_from_is_err_and c.from_residual.result c.from_residual.ensures.1 in
    rw (p.1, p.2) (tables_match _ _ _ c.in_err-check_tables.ensures)

pub returns-then-head-client : goal.returns-then-head-client
returns-then-head-client c =
    let a = c.args in
    let s = state_of a.head a.waiting.now a.clients.now in
    after5 a.client a.deadline s (sym c.in_ok-check_tables.ensures)
    (match_here _ _ (holds6 a.client s c.if-head-client.true))

pub returns-then-deadline-head : goal.returns-then-deadline-head
returns-then-deadline-head c =
    let a = c.args in
    let s = state_of a.head a.waiting.now a.clients.now in
    after6 a.client a.deadline s (sym c.in_ok-check_tables.ensures) c.if-head-client.false
    (match_here _ _ (early7 a.deadline s c.if-deadline-head.true))

pub returns-then-slots_ahead-gt-MOST_AHEAD : goal.returns-then-slots_ahead-gt-MOST_AHEAD
returns-then-slots_ahead-gt-MOST_AHEAD c =
    let a = c.args in
    let s = state_of a.head a.waiting.now a.clients.now in
    after6 a.client a.deadline s (sym c.in_ok-check_tables.ensures) c.if-head-client.false
    (match_here _ _ (late7 a.deadline s (omega arith)))

pub returns-then-not-is_any_open : goal.returns-then-not-is_any_open
returns-then-not-is_any_open c =
    let a = c.args in
    let s = state_of a.head a.waiting.now a.clients.now in
    after7 a.client a.deadline s (sym c.in_ok-check_tables.ensures) c.if-head-client.false c.if-deadline-head.false (omega arith)
    (match_here _ _ (holds15 a.deadline s (sym c.is_any_open.ensures ∙ c.if-not-is_any_open.true)))

pub returns-then-counts_at-eq-MOST_COUNTED : goal.returns-then-counts_at-eq-MOST_COUNTED
returns-then-counts_at-eq-MOST_COUNTED c =
    let a = c.args in
    let s = state_of a.head a.waiting.now a.clients.now in
    after15 a.client a.deadline s (sym c.in_ok-check_tables.ensures) c.if-head-client.false c.if-deadline-head.false (omega arith)
    (sym c.is_any_open.ensures ∙ c.if-not-is_any_open.false)
    (match_here _ _
    (eq-eqb _ most_counted
    (ap (λ (k : Counts). k.submitted) (sym c.counts_at.ensures) ∙ c.if-counts_at-eq-MOST_COUNTED.true)))

pub returns-then-head-eq-NUMBER_END : goal.returns-then-head-eq-NUMBER_END
returns-then-head-eq-NUMBER_END c =
    let a = c.args in
    let s = state_of a.head a.waiting.now a.clients.now in
    after8 a.client a.deadline s (sym c.in_ok-check_tables.ensures) c.if-head-client.false c.if-deadline-head.false (omega arith)
    (sym c.is_any_open.ensures ∙ c.if-not-is_any_open.false) c.counts_at.ensures c.if-counts_at-eq-MOST_COUNTED.false
    (match_here _ _ (eq-eqb _ number_end c.if-head-eq-NUMBER_END.true))

pub returns-then-head-waiting : goal.returns-then-head-waiting
returns-then-head-waiting c =
    let a = c.args in
    let s = state_of a.head a.waiting.now a.clients.now in
    let more : a.head.last ≢ number_end = λ e. omega (arith, e) in
    after8 a.client a.deadline s (sym c.in_ok-check_tables.ensures) c.if-head-client.false c.if-deadline-head.false (omega arith)
    (sym c.is_any_open.ensures ∙ c.if-not-is_any_open.false) c.counts_at.ensures c.if-counts_at-eq-MOST_COUNTED.false
    (match_next _ _ (ne_eqb _ number_end more)
    (match_here _ _ (eq-eqb _ _ c.if-head-waiting.true)))

pub returns : goal.returns
returns c =
    let a = c.args in
    let s = state_of a.head a.waiting.now a.clients.now in
    after8 a.client a.deadline s (sym c.in_ok-check_tables.ensures) c.if-head-client.false c.if-deadline-head.false (omega arith)
    (sym c.is_any_open.ensures ∙ c.if-not-is_any_open.false) c.counts_at.ensures c.if-counts_at-eq-MOST_COUNTED.false
    (match_next _ _ (ne_eqb _ number_end c.if-head-eq-NUMBER_END.false)
    (match_only _ (ne_eqb _ _ c.if-head-waiting.false)))
