-- Report, by values. Assumes nothing.
use Rattle.std.specs.Prelude.{ℕ}
use Rattle.spec.specs.declared.types.Head.{Head}
use Rattle.spec.specs.declared.types.Counts.{Counts}
use Rattle.spec.specs.declared.types.Answer.TheVariants.{Reported}
use Rattle.spec.specs.declared.types.Reply.{Reply}
use Rattle.table.specs.Clients.{waiting_count}

-- "Report gives a client's three counts and its waiting count.": of a client with these counts
abbrev pub report_reply : Head → ℕ → Counts → Reply
report_reply head client k =
    record {
      head = head;
      answer = Reported client k.submitted k.served k.dropped (waiting_count k);
    }
