-- `welsbell::welsbell_report` meets its contract. Assumes nothing.
use mathlib.Core.Path.{refl}
use Rattle.spec.specs.Calls.Report.{report_accepted}
use Rattle.spec.specs.Calls.{report}
use Rattle.welsbell.proofs.ExportLaws.{exports_read}
use Rattle.welsbell.proofs.welsbell_report.Goals as goal

pub returns : goal.returns
unfolding report_accepted
returns c =
    exports_read (report c.args.client) c.args.head.now c.args.hours.now c.args.values.now c.head_of.ensures
    c.report-reply.ensures c.write_answer.ensures (λ t. refl)
