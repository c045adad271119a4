-- `sound::check::check_contents` meets its contract: what each pass asks holds, and together they tell what the contents call for.
use Rattle.std.proofs.Common.{ap, refl, ◌∙◌}
use Rattle.std.proofs.lemmas.Result.{err_from_is_err_and}
use Rattle.spec.specs.Reasons.{number_of, refused_by}
use Rattle.sound.proofs.Contents.{all_there, taken, next_asked, balanced_asked, contents_told, held, not_held}
use Rattle.sound.proofs.check.check_contents.Goals as goal

pub slice_bounds-are_next-end : goal.slice_bounds-are_next-end
slice_bounds-are_next-end c = let a = c.args in taken a.head a.waiting.now a.numbers.now c.requires

pub are_next-requires : goal.are_next-requires
are_next-requires c =
    let a = c.args in
    rw c.new-tally.ensures (next_asked a.head a.waiting.now a.numbers.now c.requires)

pub are_zero_behind-requires : goal.are_zero_behind-requires
are_zero_behind-requires c = let a = c.args in all_there a.head a.waiting.now a.numbers.now c.requires

pub are_balanced-requires : goal.are_balanced-requires
are_balanced-requires c = let a = c.args in balanced_asked a.head a.waiting.now a.numbers.now c.requires

-- whatever the other passes find, once one does not hold
pub returns-in_err-sound_if : goal.returns-in_err-sound_if
returns-in_err-sound_if c =
    let a = c.args in
    let p = err_from_is_err_and c.from_residual.result c.from_residual.ensures.1 in
    let refusal = c.in_err-sound_if.ensures in
    let next = rw c.new-tally.ensures at c.are_next.ensures in
    let told = contents_told a.head a.waiting.now a.numbers.now c.requires c.are_next.new.tally.counts c.are_next.result _ _ next refl refl in
    let e = not_held c.are_next.result _ refusal in
    ap refused_by p.1 ∙ ap number_of p.2 ∙ rw e at refusal ∙ rw e at told

pub returns-in_err-sound_if-2 : goal.returns-in_err-sound_if-2
returns-in_err-sound_if-2 c =
    let a = c.args in
    let p = err_from_is_err_and c.from_residual-in_err-sound_if-2.result c.from_residual-in_err-sound_if-2.ensures.1 in
    let refusal = c.in_err-sound_if-2.ensures in
    let next = rw c.new-tally.ensures at c.are_next.ensures in
    let told =
    contents_told a.head a.waiting.now a.numbers.now c.requires c.are_next.new.tally.counts c.are_next.result c.are_zero_behind.result _ next
    c.are_zero_behind.ensures refl in
    let d = held c.are_next.result c.in_ok-sound_if.ensures in
    let e = not_held c.are_zero_behind.result _ refusal in
    ap refused_by p.1 ∙ ap number_of p.2 ∙ rw e at refusal ∙ rw (d, e) at told

pub returns : goal.returns
returns c =
    let a = c.args in
    let next = rw c.new-tally.ensures at c.are_next.ensures in
    let told =
    contents_told a.head a.waiting.now a.numbers.now c.requires c.are_next.new.tally.counts c.are_next.result c.are_zero_behind.result
    c.are_balanced.result next c.are_zero_behind.ensures c.are_balanced.ensures in
    let d = held c.are_next.result c.in_ok-sound_if.ensures in
    let e = held c.are_zero_behind.result c.in_ok-sound_if-2.ensures in
    c.sound_if-3.ensures ∙ rw (d, e) at told
