-- `sound::tally::Tally::are_balanced` meets its contract: the clients in fours, and those left over.
use Rattle.std.proofs.Common.{◌/◌, ◌*◌, ◌-◌, refl, ◌∙◌, arith, rules}
use borrow.Author.Tests.{tests}
use Rattle.std.proofs.lemmas.Iterator.{YieldsList-from_range}
use Rattle.std.proofs.lemmas.Iterator.Search.{all_from_yields_List}
use Rattle.sound.specs.Checks.{balances_at}
use Rattle.sound.proofs.Fours.{balanced_in_fours, four_at}
use Rattle.sound.proofs.tally.Tally.are_balanced.Goals as goal

pub returns-then-all : goal.returns-then-all
returns-then-all c =
    let a = c.args in
    let tally = a.self.now.counts in
    let numbers = a.numbers.now in
    let m = a.n / 4 in
    let fours =
    all_from_yields_List (four_at tally numbers) _ _ _ c.all.ensures.ran (YieldsList-from_range 0 m m refl (omega arith))
    (λ x b q k. search (rules, tests)) in
    let left =
    all_from_yields_List (balances_at tally numbers) _ _ _ c.all-then-all.ensures.ran
    (YieldsList-from_range (m * 4) a.n (a.n - m * 4) refl refl) (λ x b q k. search (rules, tests)) in
    rw c.if-all.true at (balanced_in_fours tally numbers a.n c.requires.0 fours left)

pub returns-else-all : goal.returns-else-all
returns-else-all c =
    let a = c.args in
    let tally = a.self.now.counts in
    let numbers = a.numbers.now in
    let m = a.n / 4 in
    let fours =
    all_from_yields_List (four_at tally numbers) _ _ _ c.all.ensures.ran (YieldsList-from_range 0 m m refl (omega arith))
    (λ x b q k. search (rules, tests)) in
    c.if-all.false ∙ rw c.if-all.false at (balanced_in_fours tally numbers a.n c.requires.0 fours refl)
