-- What the loop of `session::feed` keeps: what is used so far leads on from the state at entry, and the reader stands there too.
use Rattle.std.proofs.Common.{◌≡◌, ◌-◌, length}
use Rattle.session.specs.Lent.{tables_of, SameTables}
use Rattle.session.specs.Standing.{reserved_of}
use Rattle.session.proofs.TurnsTogether.{Feeding}
use Rattle.session.proofs.feed.Given as goal

abbrev pub invariant-loop-lent : goal.invariant-loop-lent
invariant-loop-lent l = record {
  buffer_is : l.reader.buffer.now ≡ l.fn.input;
  at_used : l.reader.at ≡ l.fed.used;
  same_tables : SameTables l.initial.lent l.lent;
  fed_so : Feeding l.fn.session l.fn.input (reserved_of l.fn.waiting l.fn.clients) l.fn.starts l.fn.out l.fed (tables_of l.lent) l.lent.out.now;
}

abbrev pub decreases-loop-lent : goal.decreases-loop-lent
decreases-loop-lent l = length l.fn.input - l.fed.used
