-- `frame::answers::write_line` meets its contract: the fields stand one behind the other, and a line feed behind them. Assumes nothing.
use Rattle.std.proofs.Common.{arith, ◌∙◌, take}
use Rattle.std.proofs.lemmas.List.{take_more_set}
use Rattle.frame.proofs.LinesPut.{written_behind, field_first, field_more, field_length, fields_end, none_left}
use Rattle.frame.proofs.answers.write_line.Goals as goal

pub loop-field-init : goal.loop-field-init
loop-field-init g c =
    let put = rw c.wide.ensures at c.write_field-end.ensures in
    (omega (arith, put.0), field_first _ _ _ put.1)

pub loop-field-preserved : goal.loop-field-preserved
loop-field-preserved g c =
    let l = c.loop-field in
    let put = c.write_field-end-in-loop-field in
    let fields = c.args.fields in
    let long = field_length fields l.field-index _ put.result (omega arith) put.ensures.0 in (
      omega (arith, long),
      field_more _ _ fields l.field-index _ (omega arith)
          (written_behind l.end put.result l.out put.new.out _ (omega (arith, long)) put.auto.out put.ensures.1)
          ∙ l.invariant.1,
    )

pub returns : goal.returns
returns g c =
    let l = c.loop-field in (
      omega (arith, none_left c.args.fields l.field-index (omega arith)),
      take_more_set l.out l.end 10 (omega arith) ∙ fields_end (take l.end l.out) c.args.kind c.args.fields l.field-index (omega arith) l.invariant.1,
    )
