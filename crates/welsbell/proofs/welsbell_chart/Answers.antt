-- `welsbell::welsbell_chart` meets its contract. Assumes nothing.
use mathlib.Core.Path.{refl, ap, ◌∙◌}
use Rattle.spec.specs.declared.types.Head.{Head}
use Rattle.spec.specs.Tables.{state_of}
use Rattle.spec.specs.Calls.Chart.{chart_accepted, chart_output}
use Rattle.spec.specs.Calls.{chart}
use Rattle.welsbell.proofs.ExportLaws.{exports_read}
use Rattle.welsbell.proofs.welsbell_chart.Goals as goal

pub returns : goal.returns
unfolding chart_accepted
returns c =
    let a = c.args in (
      exports_read (chart a.output.now) a.head.now a.hours.now a.values.now c.head_of.ensures
          c.chart-reply.ensures.0 c.write_answer.ensures (λ t. refl),
      c.chart-reply.ensures.1 ∙ ap (λ (x : Head). chart_output a.output.now (state_of x a.waiting.now a.clients.now)) c.head_of.ensures,
    )
