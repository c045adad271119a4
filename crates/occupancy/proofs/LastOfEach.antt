-- Laws of each client's last request: what stands in an entry, and parts one after the other. Assumes nothing.
use Prim.Native.Nat.{ℕ, zero, suc, ◌+◌, ◌%◌, ◌≤◌, ◌<◌}
use mathlib.Core.Path.{◌≡◌, sym, ap, subst, ◌∙◌}
use mathlib.Core.Logic.{◌≢◌}
use mathlib.Core.Bool.{Bool, true, false}
use mathlib.Core.List.{List, [], ◌∷◌, ◌++◌}
use native.Mathlib.Omega.{arith}
use lib.Dec.{eqb}
use lib.ListN.{length, get_or, set, length-set}
use lib.Seq.{get_or-set_same, get_or-set_other}
use Rattle.slots.proofs.Laws.Tests.{Same, same_yes, same_no, same}
use Rattle.spec.specs.Tables.{most_clients}
use Rattle.occupancy.specs.Scans.{latest_of}

-- one part, then the next
pub latest_append : (p : ℕ) (xs ys known : List ℕ)
    → latest_of p (xs ++ ys) known ≡ latest_of (p + length xs) ys (latest_of p xs known)
unfolding latest_of
latest_append p [] ys known = let e : p + 0 ≡ p = omega arith in rw e
latest_append p (x ∷ xs) ys known =
    let e : p + suc (length xs) ≡ suc p + length xs = omega arith in
    rw e (latest_append (suc p) xs ys (set known (x % most_clients) p))

-- the requests before a new one, the new one, and those behind it
pub latest_parts : (xs ys : List ℕ) (x : ℕ) (known : List ℕ) (k : ℕ) → length xs ≡ k
    → latest_of (k + 2) ys (set (latest_of 1 xs known) (x % most_clients) (k + 1)) ≡ latest_of 1 (xs ++ x ∷ ys) known
unfolding latest_of
latest_parts xs ys x known k e =
    let f : k + 2 ≡ suc (1 + length xs) = omega arith in
    let g : k + 1 ≡ 1 + length xs = omega arith in
    rw (f, g) (sym (latest_append 1 xs (x ∷ ys) known))

-- an entry written: the one that is looked at, or another
data EntryWritten (known : List ℕ) (i p c : ℕ) : ℕ → Type 0 where
  here : c ≡ i → EntryWritten known i p c p
  there : c ≢ i → EntryWritten known i p c (get_or known c 0)

written : (known : List ℕ) (i p c : ℕ) → i < length known → EntryWritten known i p c (get_or (set known i p) c 0)
written known i p c inside = go (eqb c i) (same c i)
  where
    go : (x : Bool) → Same c i x → EntryWritten known i p c (get_or (set known i p) c 0)
    go true (same_yes e) =
        subst (EntryWritten known i p c) (sym (ap (λ (k : ℕ). get_or (set known i p) k 0) e ∙ get_or-set_same known i p 0 inside)) (here e)
    go false (same_no n) = subst (EntryWritten known i p c) (sym (get_or-set_other known i c p 0 n)) (there n)

-- where a number in an entry comes from: it stood there before, or it is the place of one of these requests, the client's
pub data Source (p : ℕ) (cs known : List ℕ) (c : ℕ) : ℕ → Type 0 where
  before : Source p cs known c (get_or known c 0)
  placed : (k : ℕ) → k < length cs → get_or cs k 0 % most_clients ≡ c → Source p cs known c (p + k)

-- one request more in front
source_cons : {p x : ℕ} {cs known : List ℕ} {c v : ℕ} → length known ≡ most_clients
    → Source (suc p) cs (set known (x % most_clients) p) c v → Source p (x ∷ cs) known c v
source_cons {p} {x} {cs} {known} {c} size before = go (written known (x % most_clients) p c (omega arith))
  where
    go : {v : ℕ} → EntryWritten known (x % most_clients) p c v → Source p (x ∷ cs) known c v
    go (here e) = subst (Source p (x ∷ cs) known c) (omega arith) (placed 0 (omega arith) (sym e))
    go (there n) = before
source_cons {p} {x} {cs} {known} {c} size (placed k l e) =
    subst (Source p (x ∷ cs) known c) (omega arith) (placed (suc k) (omega arith) e)

pub source : (p : ℕ) (cs known : List ℕ) (c : ℕ) → length known ≡ most_clients
    → Source p cs known c (get_or (latest_of p cs known) c 0)
unfolding latest_of
source p [] known c size = before
source p (x ∷ cs) known c size =
    source_cons size
    (source (suc p) cs (set known (x % most_clients) p) c (length-set known (x % most_clients) p ∙ size))

-- numbers only rise, where those that stand there are smaller than p
rises : (p : ℕ) (cs known : List ℕ) (c : ℕ) → length known ≡ most_clients → ((j : ℕ) → get_or known j 0 < p)
    → get_or known c 0 ≤ get_or (latest_of p cs known) c 0
rises p cs known c size small = go (source p cs known c size)
  where
    go : {v : ℕ} → Source p cs known c v → get_or known c 0 ≤ v
    go before = omega arith
    go (placed k l e) = omega (arith, small c)

-- a request's client has this place or a later one
pub latest_least : (p : ℕ) (cs known : List ℕ) → length known ≡ most_clients → ((j : ℕ) → get_or known j 0 < p)
    → (k : ℕ) → k < length cs → p + k ≤ get_or (latest_of p cs known) (get_or cs k 0 % most_clients) 0
unfolding latest_of
latest_least p [] known size small k l = absurd (omega arith)
latest_least p (x ∷ cs) known size small k l = go (λ j h. latest_least (suc p) cs after long below j h) k l
  where
    i : ℕ
    i = x % most_clients

    after : List ℕ
    after = set known i p

    long : length after ≡ most_clients
    long = length-set known i p ∙ size

    below : (j : ℕ) → get_or after j 0 < suc p
    below j = bound (written known i p j (omega arith))
      where
        bound : {v : ℕ} → EntryWritten known i p j v → v < suc p
        bound (here e) = omega arith
        bound (there n) = omega (arith, small j)

    go : ((j : ℕ) → j < length cs → suc p + j ≤ get_or (latest_of (suc p) cs after) (get_or cs j 0 % most_clients) 0)
        → (k : ℕ) → k < suc (length cs) → p + k ≤ get_or (latest_of (suc p) cs after) (get_or (x ∷ cs) k 0 % most_clients) 0
    go f zero l =
        omega (
          arith,
          rises (suc p) cs after i long below,
          get_or-set_same known i p 0 (omega arith),
        )
    go f (suc k) l = omega (arith, f k (omega arith))
