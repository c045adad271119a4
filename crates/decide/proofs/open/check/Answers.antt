-- `decide::open::check` meets its contract. Assumes nothing.
use Rattle.std.proofs.Common.{◌≡◌, ℕ, ◌*◌, Bool, true, not, eqb, [], ◌∷◌, length, ap, sym, ◌∙◌}
use Rattle.std.proofs.lemmas.Result.{err_from_is_err_and}
use Rattle.spec.specs.declared.types.Setup.{Setup}
use Rattle.spec.specs.Every.{is_within}
use Rattle.spec.specs.Tables.{most_records, client_width, State, state_of}
use Rattle.spec.specs.Setup.{first_match, setup_refusals}
use Rattle.spec.specs.Calls.Refusals.{refusal4_open}
use Rattle.spec.specs.Calls.Open.{open_refusals}
use Rattle.spec.proofs.Laws.Sound.{setup_none, setup_passes}
use Rattle.decide.proofs.Matching.{match_here, match_only, match_first, number_some}
use Rattle.decide.proofs.open.check.Goals as goal

-- past the setup's refusals the last is left
after_setup : (setup : Setup) (s : State) {n : ℕ} → first_match (setup_refusals setup) ≡ 0
    → n ≡ first_match (refusal4_open setup.clients s ∷ []) → n ≡ first_match (open_refusals setup s)
unfolding open_refusals setup_refusals
after_setup setup s none e = e ∙ sym (setup_passes setup _ (setup_none setup [] none).0)

-- "4. .. the waiting table has no records or more than 2,048": or else the client table decides
by_clients : (clients : ℕ) (s : State) (met : Bool) → is_within 1 most_records (length s.waiting_table) ≡ true
    → met ≡ eqb (length s.client_numbers) (client_width * clients) → (refusal4_open clients s).holds ≡ not met
by_clients clients s met within e = rw (within, e)

pub returns-in_err-check_setup : goal.returns-in_err-check_setup
unfolding open_refusals
returns-in_err-check_setup c head =
    let p = err_from_is_err_and c.from_residual.result c.from_residual.ensures.1 in
    rw (p.1, p.2) (match_first _ _ (number_some c.in_err-check_setup.field-0.0) c.in_err-check_setup.ensures)

pub returns-then-not-waiting : goal.returns-then-not-waiting
returns-then-not-waiting c head =
    let a = c.args in
    after_setup a.setup (state_of head a.waiting.now a.clients.now) (sym c.in_ok-check_setup.ensures)
    (match_here _ [] (rw c.if-not-waiting.true))

pub returns-then-not-are_records : goal.returns-then-not-are_records
returns-then-not-are_records c head =
    let a = c.args in
    let s = state_of head a.waiting.now a.clients.now in
    after_setup a.setup s (sym c.in_ok-check_setup.ensures)
    (match_here _ []
    (by_clients a.setup.clients s c.are_records.result c.if-not-waiting.false c.are_records.ensures
    ∙ ap not c.if-not-are_records.true))

pub returns : goal.returns
returns c head =
    let a = c.args in
    let s = state_of head a.waiting.now a.clients.now in
    after_setup a.setup s (sym c.in_ok-check_setup.ensures)
    (match_only _
    (by_clients a.setup.clients s c.are_records.result c.if-not-waiting.false c.are_records.ensures
    ∙ ap not c.if-not-are_records.false))
