-- A client's waiting requests, and the client table with one client's counts changed. Assumes nothing.
use Prim.Native.Nat.{ℕ, ◌+◌, ◌≤◌, ◌<◌}
use mathlib.Core.Path.{◌≡◌, refl, sym}
use mathlib.Core.Logic.{◌≢◌}
use mathlib.Core.Bool.{Bool, true, false, cond}
use mathlib.Core.List.{List, [], ◌∷◌}
use native.Mathlib.Omega.{arith}
use borrow.Author.Tests.{eq-eqb, ne_eqb}
use lib.Dec.{eqb}
use lib.ListN.{length, get_or, set, length-set}
use lib.Seq.{get_or-set_same, get_or-set_other}
use Rattle.slots.proofs.Laws.Tests.{Same, same_yes, same_no, same}
use Rattle.slots.proofs.Laws.Sums.{All, all_imp}
use Rattle.spec.specs.declared.types.Request.{Request}
use Rattle.spec.specs.declared.types.Counts.{Counts}
use Rattle.spec.specs.Every.{to_number, count_if}
use Rattle.spec.specs.Tables.{zero_counts, change}
use Rattle.spec.specs.Order.{put_in_order, remove_at}
use Rattle.spec.specs.Sound.{waiting_of}
use Rattle.spec.proofs.Laws.Every.{number_yes, number_no}
use Rattle.spec.proofs.Laws.Order.{count_put, count_remove}

-- ---- one request of a client, counted
unfoldable pub of : ℕ → Request → ℕ
of client w = to_number (eqb w.client client)

pub of_yes : (client : ℕ) (w : Request) → client ≡ w.client → of client w ≡ 1
unfolding of
of_yes client w h = number_yes (eqb w.client client) (eq-eqb w.client client (sym h))

pub of_no : (client : ℕ) (w : Request) → client ≢ w.client → of client w ≡ 0
unfolding of
of_no client w h = number_no (eqb w.client client) (ne_eqb w.client client (λ e. h (sym e)))

pub waiting_of_none : (client : ℕ) → waiting_of client [] ≡ 0
unfolding waiting_of count_if
waiting_of_none client = refl

pub waiting_of_cons : (client : ℕ) (w : Request) (ws : List Request)
    → waiting_of client (w ∷ ws) ≡ of client w + waiting_of client ws
unfolding waiting_of of count_if
waiting_of_cons client w ws = refl

pub waiting_of_put : (client : ℕ) (r : Request) (ws : List Request)
    → waiting_of client (put_in_order r ws) ≡ of client r + waiting_of client ws
unfolding waiting_of of
waiting_of_put client r ws = count_put (λ w. eqb w.client client) r ws

pub waiting_of_remove : (client k : ℕ) (z : Request) (ws : List Request) → k < length ws
    → waiting_of client ws ≡ of client (get_or ws k z) + waiting_of client (remove_at k ws)
unfolding waiting_of of
waiting_of_remove client k z ws h = count_remove (λ w. eqb w.client client) k z ws h

-- each request is one of its client's
pub waiting_self : (ws : List Request) → All (λ (w : Request). 1 ≤ waiting_of w.client ws) ws
waiting_self [] = tt
waiting_self (w ∷ ws) = (
  omega (arith, waiting_of_cons w.client w ws, of_yes w.client w refl),
  all_imp (λ (v : Request). 1 ≤ waiting_of v.client ws) (λ (v : Request). 1 ≤ waiting_of v.client (w ∷ ws)) ws
      (λ v h. omega (arith, waiting_of_cons v.client w ws)) (waiting_self ws),
)

-- ---- a client's counts after a change of one client's
pub data Changed (f : Counts → Counts) (client : ℕ) (cs : List Counts) (c : ℕ) : Counts → Type 0 where
  changes : c ≡ client → Changed f client cs c (f (get_or cs c zero_counts))
  stays : c ≢ client → Changed f client cs c (get_or cs c zero_counts)

pub changed : (f : Counts → Counts) (client : ℕ) (cs : List Counts) (c : ℕ) → c < length cs
    → Changed f client cs c (get_or (change f client cs) c zero_counts)
unfolding change
changed f client cs c h = go (eqb c client) (same c client)
  where
    go : (x : Bool) → Same c client x → Changed f client cs c (get_or (set cs client (f (get_or cs client zero_counts))) c zero_counts)
    go true (same_yes e) =
        rw (← e, get_or-set_same cs c (f (get_or cs c zero_counts)) zero_counts h) (changes refl)
    go false (same_no e) = rw (get_or-set_other cs client c (f (get_or cs client zero_counts)) zero_counts e) (stays e)

pub length_change : (f : Counts → Counts) (client : ℕ) (cs : List Counts) → length (change f client cs) ≡ length cs
unfolding change
length_change f client cs = length-set cs client (f (get_or cs client zero_counts))

-- the same as an equation
pub get_d_change : (f : Counts → Counts) (client : ℕ) (cs : List Counts) (c : ℕ) → c < length cs
    → get_or (change f client cs) c zero_counts ≡ cond (eqb c client) (f (get_or cs c zero_counts)) (get_or cs c zero_counts)
get_d_change f client cs c h = go (changed f client cs c h)
  where
    go : {k : Counts} → Changed f client cs c k → k ≡ cond (eqb c client) (f (get_or cs c zero_counts)) (get_or cs c zero_counts)
    go (changes e) = rw (eq-eqb c client e)
    go (stays n) = rw (ne_eqb c client n)

-- counts are the same where their parts are
pub counts_path : (a b : Counts) → a.submitted ≡ b.submitted → a.served ≡ b.served → a.dropped ≡ b.dropped → a ≡ b
counts_path a b p q r = λ i. record { submitted = p i; served = q i; dropped = r i }
