-- `session_main::serve` meets its contract: each turn reads on, feeds the front of the buffer and goes on, and what was fed are parts of
-- one input.
use Rattle.std.proofs.Common.{sym, ap, ◌∙◌, arith}
use Rattle.std.proofs.lemmas.Bool.{false≢true}
use Rattle.session_main.specs.Program.{is_over}
use Rattle.session_main.proofs.Loop.{loop_begins, turn_made, loop_ends}
use Rattle.session_main.proofs.serve.Goals as goal

pub loop-turn-init : goal.loop-turn-init
loop-turn-init c =
    let memory = c.args.memory.now in
    record {
      so = loop_begins memory.waiting memory.clients c.start-progress.ensures (omega arith) (omega arith);
      going = ap is_over c.start-progress.ensures;
    }

pub loop-turn-preserved : goal.loop-turn-preserved
loop-turn-preserved c =
    let turn = c.loop-turn.invariant in
    let read = c.read_on-read in
    let next = c.go_on-progress in
    record {
      so =
          turn_made turn.so turn.going read.ensures read.array_long (omega arith) c.feed-fed.ensures (omega arith) next.ensures
          next.array_long;
      going = sym c.is_over.ensures ∙ c.if-is_over.false;
    }

pub returns-then-is_over : goal.returns-then-is_over
returns-then-is_over c =
    let turn = c.loop-turn.invariant in
    let read = c.read_on-read in
    let next = c.go_on-progress in
    loop_ends
    (turn_made turn.so turn.going read.ensures read.array_long (omega arith) c.feed-fed.ensures (omega arith) next.ensures next.array_long)
    (λ going. absurd (false≢true (sym going ∙ sym c.is_over.ensures ∙ c.if-is_over.true)))
