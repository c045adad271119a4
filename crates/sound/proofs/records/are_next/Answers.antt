-- `sound::records::are_next` meets its contract: the records in fours, those left over, and whether the last is near.
use Rattle.std.proofs.Common.{◌*◌, length, sym, ap, ◌∙◌, arith}
use mathlib.Core.Bool.{false≢true}
use Rattle.spec.specs.Tables.{zero_request}
use Rattle.sound.specs.Checks.{last_of}
use Rattle.sound.proofs.Fours.{chunks_told}
use Rattle.sound.proofs.Turns.{more_countable, fewer_bounded, counted_on, stopped_on, all_passed, some_stopped}
use Rattle.sound.proofs.records.are_next.Goals as goal
use Rattle.sound.proofs.records.are_next.Goals.{then-check_fours, else-check_fours}

pub check_run-requires : goal.check_run-requires
check_run-requires c =
    let chunks = c.as_chunks.ensures in
    let told = chunks_told c.args.waiting.now chunks.front chunks.front_len chunks.back in (
      fewer_bounded _ c.requires.0 (omega (arith, chunks.front_len, chunks.back_len)),
      more_countable _ (rw c.if-check_fours.true at c.check_fours.ensures) c.requires.1
          (omega (arith, told.2, chunks.front_len, chunks.back_len)),
    )

pub returns-then-check_run : goal.returns-then-check_run
returns-then-check_run c =
    let chunks = c.as_chunks.ensures in
    let told = chunks_told c.args.waiting.now chunks.front chunks.front_len chunks.back in
    elim c.if-check_fours.branch [
      | then-check_fours w ↦
          all_passed
          (counted_on told.0 (rw w.if-check_fours.true at c.check_fours.ensures) (4 * length c.as_chunks.result.0.now) (omega (arith, told.2))
          (w.last.ensures ∙ ap (last_of zero_request) (sym told.1))
          (rw w.tally-is (rw (sym w.value-is ∙ c.if-check_run.true) at w.check_run.ensures)))
          (rw c.last-then-check_run.ensures at c.is_near.ensures)
      | else-check_fours w ↦ absurd (false≢true (sym w.if-check_fours.false ∙ sym w.value-is ∙ c.if-check_run.true))
    ]

pub returns-else-check_run : goal.returns-else-check_run
returns-else-check_run c =
    let chunks = c.as_chunks.ensures in
    let told = chunks_told c.args.waiting.now chunks.front chunks.front_len chunks.back in
    elim c.if-check_fours.branch [
      | then-check_fours w ↦
          rw (c.if-check_run.false, w.tally-is)
          (some_stopped
          (counted_on told.0 (rw w.if-check_fours.true at c.check_fours.ensures) (4 * length c.as_chunks.result.0.now) (omega (arith, told.2))
          (w.last.ensures ∙ ap (last_of zero_request) (sym told.1))
          (rw (sym w.value-is ∙ c.if-check_run.false) at w.check_run.ensures)))
      | else-check_fours w ↦
          rw (c.if-check_run.false, w.tally-is)
          (some_stopped (stopped_on _ told.0 (rw w.if-check_fours.false at c.check_fours.ensures)))
    ]
