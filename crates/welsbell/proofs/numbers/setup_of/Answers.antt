-- `welsbell::numbers::setup_of` meets its contract: each number of the marks is read from its bytes. Assumes nothing.
use Rattle.std.proofs.Common.{ap, ◌∙◌, get_or}
use Rattle.std.specs.Int.{w32, w64, from_be_bytes}
use Rattle.welsbell.proofs.Marks.{eight_bytes, four_bytes}
use Rattle.welsbell.proofs.numbers.setup_of.Goals as goal

pub returns : goal.returns
returns c =
    let xs = c.args.numbers in
    let marks = c.args.marks.now in
    let first = c.from_be_bytes.ensures ∙ ap (from_be_bytes w64) c.bytes_at.ensures ∙ eight_bytes marks 0 in
    let second = c.from_be_bytes-2.ensures ∙ ap (from_be_bytes w64) c.bytes_at-2.ensures ∙ eight_bytes marks 8 in
    let third = c.from_be_bytes-3.ensures ∙ ap (from_be_bytes w32) c.bytes_at-3.ensures ∙ four_bytes marks 16 in
    λ i. record {
      clients = get_or xs 0 0;
      period = get_or xs 1 0;
      hour = get_or xs 2 0;
      marks0 = first i;
      marks64 = second i;
      marks128 = third i;
      marks160 = get_or marks 20 0;
    }
