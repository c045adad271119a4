-- The queue as deadlines alone, and its steps, for any `heads`: how many requests the slot s can take is `heads s`, 0 where it is
-- closed. The steps are relations between waiting lists, so that a list of any records can follow them. No call makes the last
-- two of them yet, a withdrawal and a discard. Assumes nothing.
use Prim.Native.Nat.{ℕ, zero, suc, ◌+◌}
use mathlib.Core.Path.{◌≡◌}
use mathlib.Core.List.{List, [], ◌∷◌}
use lib.ListN.{length, take, drop}
use Rattle.slots.specs.Plan.{Window}
use Rattle.slots.proofs.Laws.Sums.{All, total}

-- how many requests the slots before D can take
unfoldable pub opens : (ℕ → ℕ) → ℕ → ℕ
opens heads zero = 0
opens heads (suc D) = opens heads D + heads D

-- ---- the queue
pub record Entry : Type 0 where
  pub deadline : ℕ
  pub number : ℕ

pub record Booking : Type 0 where
  pub number : ℕ
  pub slot : ℕ

-- `asked` has the requests that were accepted, the last first; a request's number is one more than those asked before it.
-- `log` has those that were served, and the slot of each; `waiting` is in the order in which they are served.
-- `withdrawn` is how many were withdrawn, 0 as long as no call withdraws. Such a request was accepted and is no longer waiting;
-- it stays in `asked`, so that a plan may still hold it
pub record Queue : Type 0 where
  pub clock : ℕ
  pub log : List Booking
  pub waiting : List Entry
  pub asked : List Window
  pub withdrawn : ℕ

abbrev pub empty : Queue
empty = record { clock = 0; log = []; waiting = []; asked = []; withdrawn = 0 }

-- the entry of a request with the deadline d that comes now
abbrev pub arrival : ℕ → Queue → Entry
arrival d q = record { deadline = d; number = suc (length q.asked) }

-- a request with the deadline d came, and vs waits
abbrev pub asking : ℕ → List Entry → Queue → Queue
asking d vs q =
    record {
      clock = q.clock;
      log = q.log;
      waiting = vs;
      asked = record { release = q.clock; deadline = d } ∷ q.asked;
      withdrawn = q.withdrawn;
    }

abbrev pub serve : ℕ → List Entry → List Booking → List Booking
serve t [] bs = bs
serve t (w ∷ ws) bs = record { number = w.number; slot = t } ∷ serve t ws bs

-- the first ones are served, as many as the slot can take
abbrev pub ticked : (ℕ → ℕ) → Queue → Queue
ticked heads q =
    record {
      clock = suc q.clock;
      log = serve q.clock (take (heads q.clock) q.waiting) q.log;
      waiting = drop (heads q.clock) q.waiting;
      asked = q.asked;
      withdrawn = q.withdrawn;
    }

-- vs is ws with e put in somewhere
pub record Joined (e : Entry) (ws vs : List Entry) : Type 1 where
  pub sums : (f : Entry → ℕ) → total f vs ≡ f e + total f ws
  pub lifts : (p : Entry → Type 0) → p e → All p ws → All p vs

-- vs is ws with e put in and the victim taken out
pub record Swapped (e victim : Entry) (ws vs : List Entry) : Type 1 where
  pub sums : (f : Entry → ℕ) → f victim + total f vs ≡ f e + total f ws
  pub lifts : (p : Entry → Type 0) → p e → All p ws → All p vs

-- vs is ws with e taken out, and nothing comes in its place: what a withdrawal does to those that wait
pub record Taken (e : Entry) (ws vs : List Entry) : Type 1 where
  pub sums : (f : Entry → ℕ) → f e + total f vs ≡ total f ws
  pub lifts : (p : Entry → Type 0) → All p ws → All p vs

-- one that waited is withdrawn, and vs waits. It is counted, since what was dropped before does not come back for it, and a plan
-- may have that much more than were served and wait
abbrev pub withdrawing : List Entry → Queue → Queue
withdrawing vs q = record { clock = q.clock; log = q.log; waiting = vs; asked = q.asked; withdrawn = suc q.withdrawn }

-- the first j are discarded: a queue that keeps every request does so with those whose deadlines have come. Nobody withdrew them,
-- so that they are not counted as withdrawn
abbrev pub discarded : ℕ → Queue → Queue
discarded j q =
    record { clock = q.clock; log = q.log; waiting = drop j q.waiting; asked = q.asked; withdrawn = q.withdrawn }
