-- `sound::records::are_zero_four` meets its contract: the bits of the four records' fields.
use Rattle.sound.proofs.RecordTests.{bits_zero_four}
use Rattle.sound.proofs.records.are_zero_four.Goals as goal

pub returns : goal.returns
returns c =
    rw (c.bits.ensures, c.bits-2.ensures, c.bits-3.ensures, c.bits-4.ensures) (bits_zero_four c.args.four.now c.told-four)
