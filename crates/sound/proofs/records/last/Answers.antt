-- `sound::records::last` meets its contract.
use Rattle.std.proofs.Common.{◌∙◌, rules}
use Rattle.sound.proofs.Turns.{last_or_zero}
use Rattle.sound.proofs.records.last.Goals as goal

pub returns : goal.returns
returns c =
    last_or_zero c.copied.result c.args.records.now (c.copied.ensures ∙ c.last.ensures.value) (λ v h. search rules) c.unwrap_or_default.ensures
