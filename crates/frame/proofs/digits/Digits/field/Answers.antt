-- `frame::digits::Digits::field` meets its contract: one more digit reads it from the number, and makes the number fit. Assumes nothing.
use Rattle.std.proofs.Common.{◌-◌, ◌*◌, ◌+◌, ◌<◌, ◌≡◌, take, drop, sym, ◌∙◌, arith}
use Rattle.frame.proofs.FieldDigits.{digit_below, part_length, number_more, number_whole, number_below, number_fits}
use Rattle.frame.proofs.digits.Digits.field.Goals as goal

pub overflow_mul-number : goal.overflow_mul-number
overflow_mul-number c =
    let a = c.args in
    let l = c.loop-character in
    let short : l.character-index < 16 = omega (arith, part_length a.self.line.now a.from a.width c.requires.0) in
    omega (arith, number_fits l.character-index l.number short l.invariant.0)

-- the digit that was read
below : (c : goal.After-from) → c.from.result < 16
below c =
    let a = c.args in
    rw (c.from.ensures, c.value_of.ensures)
    (digit_below a.self.line.now (2 * (a.from + a.width) - 2 * a.from) (2 * a.from) c.loop-character.character-index
    a.self.are_digits c.loop-character-test.true)

pub overflow_add-number : goal.overflow_add-number
overflow_add-number c =
    let a = c.args in
    let l = c.loop-character in
    let short : l.character-index < 16 = omega (arith, part_length a.self.line.now a.from a.width c.requires.0) in
    omega (arith, below c, number_fits l.character-index l.number short l.invariant.0)

pub loop-character-preserved : goal.loop-character-preserved
loop-character-preserved c =
    let a = c.args in
    let l = c.loop-character in
    let s = take (2 * (a.from + a.width) - 2 * a.from) (drop (2 * a.from) a.self.line.now) in (
      number_below l.character-index l.number c.from.result l.invariant.0 (below c),
      rw (c.from.ensures, c.value_of.ensures)
          (sym (number_more s l.character-index l.number c.loop-character-test.true) ∙ l.invariant.1),
    )

pub returns : goal.returns
returns c =
    let a = c.args in
    let l = c.loop-character in
    let s = take (2 * (a.from + a.width) - 2 * a.from) (drop (2 * a.from) a.self.line.now) in
    let whole : 2 * (a.from + a.width) - 2 * a.from ≡ 2 * a.width = omega arith in
    let all : l.character-index ≡ 2 * a.width = omega (arith, part_length a.self.line.now a.from a.width c.requires.0) in (
      rw whole at (sym (number_whole s l.character-index l.number c.loop-character-test.false) ∙ l.invariant.1),
      rw all at l.invariant.0,
    )
