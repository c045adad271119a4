-- Small queues, computed: the definitions say what is meant with one head, with two, where a slot is closed, and where a request
-- is withdrawn or discarded. Assumes nothing.
use Prim.Native.Nat.{ℕ, zero, suc, ◌+◌, ◌≤◌}
use mathlib.Core.Path.{◌≡◌, refl}
use mathlib.Core.List.{[], ◌∷◌}
use native.Mathlib.Omega.{arith}
use lib.ListN.{length}
use Rattle.slots.proofs.Room.{room}
use Rattle.slots.specs.Plan.{none, at, uses, Plan, size}
use Rattle.slots.proofs.Laws.Sums.{total}
use Rattle.slots.proofs.Queue.{opens, Queue, empty, arrival, asking, ticked, Taken, withdrawing, discarded}
use Rattle.slots.proofs.Laws.Count.{is_at_no}
use Rattle.slots.proofs.Reached.Chart.{plan}

-- ---- one head, two heads, and one head that is closed from the slot 2 on
abbrev single : ℕ → ℕ
single s = 1

abbrev two : ℕ → ℕ
two s = 2

abbrev closed : ℕ → ℕ
closed zero = 1
closed (suc zero) = 1
closed (suc (suc s)) = 0

-- ---- room
room_single : room single 2 5 ≡ 3
unfolding room opens
room_single = refl

room_two : room two 2 5 ≡ 6
unfolding room opens
room_two = refl

room_closed : room closed 1 5 ≡ 1
unfolding room opens
room_closed = refl

uses_two : uses 2 (at 2 ∷ none ∷ at 0 ∷ at 2 ∷ []) ≡ 2
unfolding uses
uses_two = refl

-- ---- plans
-- requests 1, 2 and 3, where request 1 was dropped for request 2
abbrev first : Queue
first = asking 1 (arrival 1 empty ∷ []) empty

abbrev second : Queue
second = asking 1 (arrival 1 first ∷ []) first

abbrev third : Queue
third = asking 3 (record { deadline = 1; number = 2 } ∷ arrival 3 second ∷ []) second

-- the last request first
third_own : plan single third ≡ at 2 ∷ at 0 ∷ none ∷ []
unfolding opens
third_own = refl

-- the second is served, and has its slot
served_own : plan single (ticked single third) ≡ at 2 ∷ at 0 ∷ none ∷ []
unfolding opens
served_own = refl

-- two heads: both of the slot 2 are free
third_two : plan two (asking 3 (record { deadline = 3; number = 3 } ∷ arrival 3 third ∷ []) third) ≡ at 2 ∷ at 2 ∷ none ∷ none ∷ []
unfolding opens
third_two = refl

third_closed : plan closed third ≡ at 1 ∷ at 0 ∷ none ∷ []
unfolding opens
third_closed = refl

-- ---- a withdrawal
-- request 2 is withdrawn, and none waits
abbrev gone : Queue
gone = withdrawing [] second

-- it was the only one that waited
gone_taken : Taken (arrival 1 first) second.waiting gone.waiting
unfolding total
gone_taken = record { sums = λ f. refl; lifts = λ p a. tt }

-- request 1, which was dropped for it, does not come back
gone_own : plan single gone ≡ none ∷ none ∷ []
gone_own = refl

-- a plan may still hold request 2
gone_plan : Plan single gone.asked (at 0 ∷ none ∷ [])
unfolding uses
gone_plan = record { fits = (omega arith, omega arith, tt); shared = most }
  where
    most : (s : ℕ) → uses s (at 0 ∷ none ∷ []) ≤ 1
    most zero = omega arith
    most (suc s) = omega (arith, is_at_no (suc s) 0 (λ e. omega arith))

-- that plan has one more than were served and wait: as many as were withdrawn
gone_bound : size (at 0 ∷ none ∷ []) ≡ length gone.log + gone.withdrawn + length gone.waiting
unfolding size
gone_bound = refl

-- ---- a discard
-- requests 1 and 2 are both kept, the slot 0 serves one, and the other is discarded
abbrev late : Queue
late = discarded 1 (ticked single (asking 1 (arrival 1 empty ∷ arrival 1 first ∷ []) first))

-- that is no withdrawal, so that the bound is the one that was served
late_bound : length late.log + late.withdrawn + length late.waiting ≡ 1
late_bound = refl
