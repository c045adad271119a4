-- `table::clients::records` meets its contract: whole records are the numbers by threes.
-- Assumes nothing.
use Rattle.std.proofs.Common.{arith, ◌≡◌, ◌/◌, length, ◌∙◌}
use Rattle.spec.specs.Tables.{records_of}
use Rattle.spec.proofs.Laws.Layout.{length_records}
use Rattle.table.proofs.ChangedCounts.{chunks_records}
use Rattle.table.proofs.clients.records.Goals as goal

pub returns : goal.returns
returns c =
    let xs = c.args.numbers.now in
    let l = length_records xs in
    let n : length xs / 3 ≡ length (records_of xs) = omega (arith, l.0, l.1) in
    (rw c.as_chunks.ensures.front (chunks_records xs (length xs / 3) n), c.as_chunks.ensures.front_len ∙ n)
