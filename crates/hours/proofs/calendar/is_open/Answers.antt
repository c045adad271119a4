-- `hours::calendar::is_open` meets its contract: a slot is open where the mark of its hour is 1. Assumes nothing.
use Rattle.std.proofs.Common.{ℕ, ◌%◌, ap, sym, ◌∙◌, arith}
use borrow.Author.Tests.{lt-ltb}
use Rattle.spec.specs.Tables.{hours}
use Rattle.spec.specs.Hours.{mark_of, capacity_of}
use Rattle.hours.proofs.OpenSlots.{all_open_capacity, takes_one, div_or_0}
use Rattle.hours.proofs.calendar.is_open.Goals as goal

pub returns-then-are_all_open : goal.returns-then-are_all_open
returns-then-are_all_open c =
    let a = c.args in
    let all = sym c.are_all_open.ensures ∙ c.if-are_all_open.true in
    sym (lt-ltb 0 (capacity_of a.setup a.slot) (omega (arith, all_open_capacity a.setup all a.slot)))

pub returns : goal.returns
unfolding capacity_of
returns c =
    let a = c.args in
    let hour = c.unwrap_or-hour.ensures ∙ div_or_0 c.checked_div.result a.slot a.setup.hour c.checked_div.ensures in
    let number = c.of_week.ensures ∙ ap (λ (h : ℕ). h % hours) hour in
    takes_one a.setup a.slot c.mark_of.result (c.mark_of.ensures ∙ ap (mark_of a.setup) number)
