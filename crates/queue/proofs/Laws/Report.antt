-- What the parts of a report come to together. Assumes nothing.
use Rattle.std.proofs.Common.{◌≡◌, ℕ, Ok, get_or, refl, sym, arith}
use Rattle.spec.specs.Tables.{zero_counts, State, waiting, client_table}
use Rattle.spec.specs.Setup.{first_match}
use Rattle.spec.specs.Sound.{waiting_of}
use Rattle.spec.specs.Calls.Report.{report_refusals, report_accepted}
use Rattle.spec.specs.Calls.{report}
use Rattle.spec.proofs.Laws.Accepted.{report_ready}
use Rattle.table.specs.Clients.{waiting_count}
use Rattle.decide.specs.Report.{report_reply}
use Rattle.queue.specs.Gives.{ComesTo}
use Rattle.queue.proofs.Laws.Replies.{read_gives}

-- the counts of a client balance, so that what is neither served nor dropped waits
balance : (client : ℕ) (s : State) → first_match (report_refusals client s) ≡ 0
    → waiting_count (get_or (client_table s) client zero_counts) ≡ waiting_of client (waiting s)
balance client s z =
    let r = report_ready client s z in
    let b = r.ready.sound.balanced client (omega (arith, r.exists, r.ready.shape.clients)) in
    omega (arith, b)

pub reported : (client : ℕ) (s : State) → first_match (report_refusals client s) ≡ 0
    → ComesTo (report client) s (Ok (report_reply s.head client (get_or (client_table s) client zero_counts))) s.waiting_table s.client_numbers
unfolding report_accepted
reported client s z = read_gives (report client) s _ (sym z) (λ _. rw (balance client s z)) refl
