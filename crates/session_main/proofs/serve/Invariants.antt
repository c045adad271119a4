-- Between two turns of `session_main::serve` what was fed are parts of one input (`AfterTurns`), and nothing has stopped the program.
use Rattle.std.proofs.Common.{◌≡◌, false}
use Rattle.session.specs.Standing.{reserved_of}
use Rattle.session_main.specs.Program.{first, is_over}
use Rattle.session_main.proofs.Loop.{AfterTurns}
use Rattle.session_main.proofs.serve.Given as goal

abbrev pub invariant-loop-turn : goal.invariant-loop-turn
invariant-loop-turn l =
    record {
      so :
          AfterTurns (first (reserved_of l.initial.memory.waiting l.initial.memory.clients)) 2048 l._turn l.progress l.buffer
          (reserved_of l.memory.waiting l.memory.clients);
      going : is_over l.progress ≡ false;
    }
