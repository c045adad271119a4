-- `queue::submission::accepted_decision` meets its contract: what an accepted submit says of its tables is all that the searches ask, and
-- what they find is what the choice is told (`Laws/Searches.antt` and `Laws/Victim.antt`).
use Rattle.std.proofs.Common.{◌-◌, refl, sym, ap, ◌∙◌, arith}
use Rattle.std.proofs.lemmas.List.{length-take, length-take-le}
use Rattle.spec.specs.Tables.{client_table, state_of}
use Rattle.occupancy.specs.Scans.{counts_with}
use Rattle.decide.specs.declared.submit.Decision.TheVariants.{Drop}
use Rattle.queue.proofs.Laws.Victim.{choice_found}
use Rattle.queue.proofs.Laws.Searches.{waits, clock, some_slots, ascending_behind, clients, rises, within, all_due, behind, found_none, found_all}
use Rattle.queue.proofs.Laws.Searches.{victim_of_first}
use Rattle.queue.proofs.submission.accepted_decision.Goals as goal

pub slice_bounds-all-end : goal.slice_bounds-all-end
slice_bounds-all-end c =
    let a = c.args in
    let s = state_of a.head a.waiting.now a.clients.now in
    sym (length-take-le a.head.waiting a.waiting.now (waits a.client a.deadline s c.requires))

pub split_at-requires : goal.split_at-requires
split_at-requires c =
    let a = c.args in
    (within a.client a.deadline (state_of a.head a.waiting.now a.clients.now) c.requires a.deadline _ c.due_by-place.ensures).0

pub first_overfull-requires : goal.first_overfull-requires
first_overfull-requires c =
    let a = c.args in
    let s = state_of a.head a.waiting.now a.clients.now in
    let small = (within a.client a.deadline s c.requires a.deadline _ c.due_by-place.ensures).1 in (
      omega (arith, c.split_at.ensures.back_len, small),
      clock a.client a.deadline s c.requires,
      some_slots a.client a.deadline s c.requires,
      rw c.split_at.ensures.back (ascending_behind a.client a.deadline s c.requires c.due_by-place.result),
    )

pub returns-in_default : goal.returns-in_default
returns-in_default c =
    let a = c.args in
    let s = state_of a.head a.waiting.now a.clients.now in
    let searched = rw c.split_at.ensures.back at c.first_overfull.ensures in
    rw c.in_default.is at
    (choice_found
    (found_none a.client a.deadline s c.requires c.due_by-place.result c.due_by-place.ensures searched c.in_default.is))

pub note_last_of_each-requires : goal.note_last_of_each-requires
note_last_of_each-requires c =
    let a = c.args in
    let placed = within a.client a.deadline (state_of a.head a.waiting.now a.clients.now) c.requires a.deadline _ c.due_by-place.ensures in
    (refl, omega (arith, c.split_at.ensures.front_len, placed.0, placed.1))

pub note-requires : goal.note-requires
note-requires c =
    let a = c.args in
    let placed = within a.client a.deadline (state_of a.head a.waiting.now a.clients.now) c.requires a.deadline _ c.due_by-place.ensures in
    (c.note_last_of_each.auto.latest, omega (arith, placed.0, placed.1))

pub slice_bounds-note_last_of_each-count : goal.slice_bounds-note_last_of_each-count
slice_bounds-note_last_of_each-count c =
    let a = c.args in
    let s = state_of a.head a.waiting.now a.clients.now in
    let searched = rw c.split_at.ensures.back at c.first_overfull.ensures in
    behind a.client a.deadline s c.requires c.due_by-place.result c.due_by-place.ensures searched c.in-Some.found
    c.candidates-last.result c.in-Some.is
    (all_due a.client a.deadline s c.requires c.due_by-place.result c.due_by-place.ensures searched c.in-Some.found
    c.due_by-due.result c.candidates-last.result c.in-Some.is c.due_by-due.ensures c.candidates-last.ensures)

pub slice_bounds-note_last_of_each-length : goal.slice_bounds-note_last_of_each-length
slice_bounds-note_last_of_each-length c =
    let a = c.args in
    let s = state_of a.head a.waiting.now a.clients.now in
    let searched = rw c.split_at.ensures.back at c.first_overfull.ensures in
    let ended = within a.client a.deadline s c.requires c.in-Some.found _
    (all_due a.client a.deadline s c.requires c.due_by-place.result c.due_by-place.ensures searched c.in-Some.found
    c.due_by-due.result c.candidates-last.result c.in-Some.is c.due_by-due.ensures c.candidates-last.ensures) in
    sym (length-take-le _ _ (omega (arith, c.split_at.ensures.back_len, ended.0)))

pub note_last_of_each-requires-2 : goal.note_last_of_each-requires-2
note_last_of_each-requires-2 c =
    let a = c.args in
    let s = state_of a.head a.waiting.now a.clients.now in
    let placed = within a.client a.deadline s c.requires a.deadline _ c.due_by-place.ensures in
    let searched = rw c.split_at.ensures.back at c.first_overfull.ensures in
    let ended = within a.client a.deadline s c.requires c.in-Some.found _
    (all_due a.client a.deadline s c.requires c.due_by-place.result c.due_by-place.ensures searched c.in-Some.found
    c.due_by-due.result c.candidates-last.result c.in-Some.is c.due_by-due.ensures c.candidates-last.ensures) in (
      c.note.auto.latest ∙ c.note_last_of_each.auto.latest,
      omega (
        arith,
        length-take (c.candidates-last.result - c.due_by-place.result) c.split_at.result.1.now,
        placed.0,
        placed.1,
        ended.0,
      ),
    )

pub slice_bounds-latest-end : goal.slice_bounds-latest-end
slice_bounds-latest-end c =
    let a = c.args in
    clients a.client a.deadline (state_of a.head a.waiting.now a.clients.now) c.requires _ _ c.note_last_of_each-2.new.latest
    c.note_last_of_each.auto.latest c.note.auto.latest c.note_last_of_each-2.auto.latest

pub slice_bounds-theirs-end : goal.slice_bounds-theirs-end
slice_bounds-theirs-end c =
    let a = c.args in
    let many =
    clients a.client a.deadline (state_of a.head a.waiting.now a.clients.now) c.requires _ _ c.note_last_of_each-2.new.latest
    c.note_last_of_each.auto.latest c.note.auto.latest c.note_last_of_each-2.auto.latest in
    sym (length-take-le a.head.setup.clients c.note_last_of_each-2.new.latest many)

pub smallest_ratio_place-victim-requires : goal.smallest_ratio_place-victim-requires
smallest_ratio_place-victim-requires c =
    let a = c.args in
    rises a.client a.deadline (state_of a.head a.waiting.now a.clients.now) c.requires

pub returns : goal.returns
returns c =
    let a = c.args in
    let s = state_of a.head a.waiting.now a.clients.now in
    let latest = c.note_last_of_each-2.new.latest in
    let searched = rw c.split_at.ensures.back at c.first_overfull.ensures in
    let many =
    clients a.client a.deadline s c.requires _ _ latest c.note_last_of_each.auto.latest c.note.auto.latest
    c.note_last_of_each-2.auto.latest in
    let same = victim_of_first (counts_with a.client (client_table s)) latest a.head.setup.clients many in
    ap (Drop c.due_by-place.result) (c.smallest_ratio_place-victim.ensures ∙ same)
    ∙ rw c.in-Some.is at
    (choice_found
    (found_all a.client a.deadline s c.requires c.due_by-place.result c.due_by-place.ensures searched c.in-Some.found
    c.candidates-last.result c.in-Some.is
    (all_due a.client a.deadline s c.requires c.due_by-place.result c.due_by-place.ensures searched c.in-Some.found
    c.due_by-due.result c.candidates-last.result c.in-Some.is c.due_by-due.ensures c.candidates-last.ensures) _ _ _
    (rw c.split_at.ensures.front at c.note_last_of_each.ensures) c.note.ensures
    (rw c.split_at.ensures.back at c.note_last_of_each-2.ensures)))
