-- What the parts of an open come to together. Assumes nothing.
use Rattle.std.proofs.Common.{◌≡◌, ℕ, ◌*◌, Ok, List, length, replicate, refl, arith}
use Rattle.spec.specs.declared.types.Setup.{Setup}
use Rattle.spec.specs.declared.types.Request.{Request}
use Rattle.spec.specs.Tables.{zero_request, zero_counts, State, client_table, numbers_of, client_width}
use Rattle.spec.specs.Setup.{first_match}
use Rattle.spec.specs.Calls.Open.{open_refusals, open_accepted}
use Rattle.spec.specs.Calls.{opening}
use Rattle.spec.proofs.Laws.Layout.{numbers_zero}
use Rattle.spec.proofs.Laws.Accepted.{open_ready}
use Rattle.decide.specs.Open.{open_reply}
use Rattle.queue.specs.Gives.{ComesTo}
use Rattle.queue.proofs.Laws.Replies.{answers, accepted_gives}

-- a record that has every field zero
pub zeroed : {w : Request} → (w.deadline ≡ 0) × ((w.number ≡ 0) × (w.client ≡ 0)) → w ≡ zero_request
zeroed e = λ i. record { deadline = e.0 i; number = e.1.0 i; client = e.1.1 i }

-- ".. and every record to zero.": both tables are
pub opened : (setup : Setup) (s : State) {ws : List Request} {xs : List ℕ} → first_match (open_refusals setup s) ≡ 0
    → ws ≡ replicate (length s.waiting_table) zero_request → xs ≡ replicate (length s.client_numbers) 0
    → ComesTo (opening setup) s (Ok (open_reply setup)) ws xs
unfolding open_accepted
opened setup s {ws} {xs} z w x = accepted_gives (opening setup) s z w (answers refl refl (rw x zeros))
  where
    zeros : replicate (length s.client_numbers) 0 ≡ numbers_of (replicate (length (client_table s)) zero_counts)
    zeros =
        let l = (open_ready setup s z).lengths in
        let e : length s.client_numbers ≡ client_width * length (client_table s) = omega (arith, l.numbers_length, l.clients_length) in
        rw e (numbers_zero (length (client_table s)))
