-- `sound::records::are_zero` meets its contract: the records in fours, and those left over.
use Rattle.std.proofs.Common.{◌/◌, length, refl, ◌∙◌, rules}
use borrow.Author.Tests.{tests}
use Rattle.std.proofs.lemmas.Iterator.{YieldsList-from_slice}
use Rattle.std.proofs.lemmas.Iterator.Search.{all_from_yields_List}
use Rattle.spec.specs.Every.{every}
use Rattle.spec.specs.Sound.{is_zero_request}
use Rattle.sound.proofs.Fours.{every_in_fours}
use Rattle.sound.proofs.records.are_zero.Goals as goal

pub returns-then-all : goal.returns-then-all
returns-then-all c =
    let ws = c.args.records.now in
    let chunks = c.as_chunks.ensures in
    let fours =
    all_from_yields_List (every is_zero_request) _ _ _ c.all.ensures.ran (YieldsList-from_slice _ c.iter.ensures.rest)
    (λ x b q k. search (rules, tests)) in
    let left =
    all_from_yields_List is_zero_request _ _ _ c.all-then-all.ensures.ran (YieldsList-from_slice _ c.iter-then-all.ensures.rest)
    (λ x b q k. search (rules, tests)) in
    rw c.if-all.true at (every_in_fours is_zero_request (length ws / 4) ws chunks.front chunks.back fours left)

pub returns-else-all : goal.returns-else-all
returns-else-all c =
    let ws = c.args.records.now in
    let chunks = c.as_chunks.ensures in
    let fours =
    all_from_yields_List (every is_zero_request) _ _ _ c.all.ensures.ran (YieldsList-from_slice _ c.iter.ensures.rest)
    (λ x b q k. search (rules, tests)) in
    c.if-all.false ∙ rw c.if-all.false at (every_in_fours is_zero_request (length ws / 4) ws chunks.front chunks.back fours refl)
