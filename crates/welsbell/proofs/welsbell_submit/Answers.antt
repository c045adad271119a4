-- `welsbell::welsbell_submit` meets its contract. Assumes nothing.
use mathlib.Core.Path.{refl}
use Rattle.spec.specs.Calls.{submit}
use Rattle.welsbell.proofs.ExportLaws.{exports_written}
use Rattle.welsbell.proofs.welsbell_submit.Goals as goal

pub returns : goal.returns
returns c =
    exports_written (submit c.args.client c.args.deadline) c.args.head.now c.args.hours.now c.args.values.now c.head_of.ensures
    c.submit-reply.ensures c.write_answer.ensures refl c.write_head.new.numbers c.write_head.ensures
