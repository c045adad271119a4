-- `session::feed` meets its contract: what each turn's reader hands back is a line of the input, so that its answer leads on, and there are
-- no more lines than characters.
use Rattle.std.proofs.Common.{rules, arith, sym, ap, ◌∙◌}
use Rattle.session.proofs.Laws.LineEnds.{HandsBack, whole}
use Rattle.session.proofs.TurnsTogether.{fed_begins, fed_none, fed_steps, fed_stops}
use Rattle.session.proofs.feed.Goals as goal
use Rattle.session.proofs.feed.Goals.{After-digits-line}

-- the line and the reader behind it are what a reader hands back that stands at what is used
hands : (c : After-digits-line) → HandsBack c.args.input.now c.loop-lent.fed.used c.digits-line.result.now c.next-behind.result.at
hands c =
    let at_used = c.loop-lent.invariant.at_used in
    record {
      within = c.loop-lent.invariant.fed_so.within;
      behind_so = rw (c.loop-lent.invariant.buffer_is, at_used) at c.next-behind.ensures.1;
      line_so = rw (c.loop-lent.invariant.buffer_is, at_used) at c.digits-line.ensures;
    }

pub returns-then-not-fits : goal.returns-then-not-fits
returns-then-not-fits c = fed_none (sym c.if-not-fits.ensures)

pub loop-lent-init : goal.loop-lent-init
loop-lent-init c = record {
  buffer_is = ap (λ b. b.now) c.new-reader.ensures.0;
  at_used = c.new-reader.ensures.1;
  same_tables = search rules;
  fed_so = fed_begins (sym c.if-not-fits.ensures);
}

pub returns-then-behind-reader : goal.returns-then-behind-reader
returns-then-behind-reader c =
    let behind = rw (c.loop-lent.invariant.buffer_is, c.loop-lent.invariant.at_used) at c.next-behind.ensures.1 in
    let p = fed_stops c.loop-lent.invariant.fed_so (c.begun.ensures (behind.begun (omega arith))) in
    record {
      within = p.within;
      room = p.room;
      long = search rules;
      fits = p.fits;
      leads = search rules;
      left = p.left;
    }

pub loop-lent-preserved : goal.loop-lent-preserved
loop-lent-preserved c =
    let h = hands (goal.at.loop-lent-preserved c).After-digits-line in
    record {
      buffer_is = ap (λ b. b.now) c.next-behind.ensures.0 ∙ c.loop-lent.invariant.buffer_is;
      at_used = sym c.answer_line-fed.ensures.steps.used_so;
      same_tables = search rules;
      fed_so =
          fed_steps c.loop-lent.invariant.fed_so c.loop-lent.invariant.same_tables.starts_long c.answer_line-fed.ensures.steps.full_so
          (c.answer_line-fed.ensures.steps.stepped c.args.input.now (rw c.whole-frame.ensures (whole _ _ _ _ (omega arith) h _)))
          c.answer_line-fed.ensures.same_tables.long;
    }
