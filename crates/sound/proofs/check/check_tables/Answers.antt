-- `sound::check::check_tables` meets its contract: lengths and head are asked first, then the contents, and the room last.
use Rattle.std.proofs.Common.{sym, ap, ◌∙◌}
use Rattle.std.proofs.lemmas.Result.{err_from_is_err_and}
use Rattle.spec.specs.Reasons.{number_of, refused_by}
use Rattle.sound.proofs.Contents.{is_refused, refused, refused_by_contents, room_asked, room_told, taken}
use Rattle.sound.proofs.check.check_tables.Goals as goal

pub returns-in_err-check_head : goal.returns-in_err-check_head
returns-in_err-check_head c =
    let a = c.args in
    let p = err_from_is_err_and c.from_residual.result c.from_residual.ensures.1 in
    let told = c.in_err-check_head.ensures in
    ap refused_by p.1 ∙ ap number_of p.2 ∙ told ∙ refused a.head a.waiting.now a.numbers.now (is_refused _ told)

pub returns-in_err-check_contents : goal.returns-in_err-check_contents
returns-in_err-check_contents c =
    let a = c.args in
    let p = err_from_is_err_and c.from_residual-in_err-check_contents.result c.from_residual-in_err-check_contents.ensures.1 in
    let told = c.in_err-check_contents.ensures in
    ap refused_by p.1 ∙ ap number_of p.2 ∙ told
    ∙ refused_by_contents a.head a.waiting.now a.numbers.now (sym c.in_ok-check_head.ensures) (is_refused _ told)

pub slice_bounds-have_room-end : goal.slice_bounds-have_room-end
slice_bounds-have_room-end c = let a = c.args in taken a.head a.waiting.now a.numbers.now (sym c.in_ok-check_head.ensures)

pub have_room-requires : goal.have_room-requires
have_room-requires c =
    let a = c.args in
    room_asked a.head a.waiting.now a.numbers.now (sym c.in_ok-check_head.ensures) (sym c.in_ok-check_contents.ensures)

pub returns : goal.returns
returns c =
    let a = c.args in
    c.sound_if.ensures
    ∙ room_told a.head a.waiting.now a.numbers.now (sym c.in_ok-check_head.ensures) (sym c.in_ok-check_contents.ensures) c.have_room.ensures
