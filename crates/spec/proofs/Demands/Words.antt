-- The words of the statements that document 01 does not define. Two more, `All` (of each element) and `total` (the sum over a list),
-- are those of crate slots, proofs/Laws/Sums. Assumes nothing.
use Prim.Native.Nat.{ℕ, zero, suc, ◌-◌, ◌≤◌, ◌<◌, ◌^◌, min}
use mathlib.Core.Path.{◌≡◌}
use mathlib.Core.Bool.{Bool, true, false, ◌&&◌}
use mathlib.Core.List.{List, [], ◌∷◌, ◌++◌}
use lib.Dec.{leb, ltb}
use lib.ListN.{length}
use Rattle.slots.specs.Plan.{EndedBy, CanAllFinish}
use Rattle.slots.proofs.Laws.Sums.{All}
use Rattle.spec.specs.declared.types.Setup.{Setup}
use Rattle.spec.specs.declared.types.Head.{Head}
use Rattle.spec.specs.declared.types.Request.{Request}
use Rattle.spec.specs.Every.{exists, first_or}
use Rattle.spec.specs.Tables.{hours, State, deadlines_of}
use Rattle.spec.specs.Setup.{Refusal}
use Rattle.spec.specs.Chart.{Segment, taken}
use Rattle.spec.specs.Hours.{mark_of, capacity_of, is_open, room}
use Rattle.spec.specs.Calls.Readings.{Field, is_refused}
use Rattle.spec.specs.Calls.{Call, opening, outcome_of}
use Rattle.spec.specs.Lists.{Asked, run, Event, history, is_opened}
use Rattle.spec.specs.Lines.Printed.{AsPrinted}

-- ---- refusals
-- "first match wins": n is the number of one whose condition holds, and no earlier condition does
pub data FirstHolds : List Refusal → ℕ → Type 0 where
  here : {r : Refusal} {rs : List Refusal} → r.holds ≡ true → FirstHolds (r ∷ rs) r.number
  further : {r : Refusal} {rs : List Refusal} {n : ℕ} → r.holds ≡ false → FirstHolds rs n → FirstHolds (r ∷ rs) n

-- ---- lists
-- what holds of each element and all behind it
abbrev pub Ordered : {A : Type 0} → (A → A → Type 0) → List A → Type 0
Ordered p [] = Unit {0}
Ordered p (x ∷ xs) = All (p x) xs × Ordered p xs

-- each number is smaller than all behind it
abbrev pub Ascending : List ℕ → Type 0
Ascending xs = Ordered (λ (x : ℕ) (y : ℕ). x < y) xs

-- no number is larger than one behind it
abbrev pub NotDescending : List ℕ → Type 0
NotDescending xs = Ordered (λ (x : ℕ) (y : ℕ). x ≤ y) xs

-- what holds of each element and the next
abbrev pub Neighbours : {A : Type 0} → (A → A → Type 0) → List A → Type 0
Neighbours p [] = Unit {0}
Neighbours p (x ∷ []) = Unit {0}
Neighbours p (x ∷ y ∷ ys) = p x y × Neighbours p (y ∷ ys)

-- the elements of several lists, one list after the other
abbrev pub together : {A : Type 0} → List (List A) → List A
together [] = []
together (xs ∷ lists) = xs ++ together lists

-- the last element, or what is given where there is none
abbrev pub last_or : {A : Type 0} → A → List A → A
last_or none [] = none
last_or none (x ∷ xs) = last_or x xs

-- what holds of each element of one list and the element of another at the same place; the lists are of one length
abbrev pub Pairs : {A B : Type 0} → (A → B → Type 0) → List A → List B → Type 0
Pairs p [] [] = Unit {0}
Pairs p [] (y ∷ ys) = ⊥
Pairs p (x ∷ xs) [] = ⊥
Pairs p (x ∷ xs) (y ∷ ys) = p x y × Pairs p xs ys

-- "every request can still finish": these requests, all from the head's clock on
abbrev pub CanFinish : Head → List Request → Type 0
CanFinish head ws = CanAllFinish (capacity_of head.setup) head.clock (deadlines_of ws)

-- ---- the chart
-- a slot for each of these requests, ended by its deadline
abbrev pub Finish : List Request → List ℕ → Type 0
Finish ws slots = Pairs (λ w s. EndedBy w.deadline s) ws slots

-- one of these start slots is x
abbrev pub IsStart : ℕ → List ℕ → Type 0
IsStart x starts = 1 ≤ taken x starts

-- no slot is given to more requests than it can take
abbrev pub WithinCapacity : Setup → List ℕ → Type 0
WithinCapacity setup slots = (x : ℕ) → taken x slots ≤ capacity_of setup x

-- open slots from the clock on that do not descend, one for each request and ended by its deadline, none given to more than it can take
pub record ChartFits (setup : Setup) (clock : ℕ) (ws : List Request) (slots : List ℕ) : Type 0 where
  pub ended : Finish ws slots
  pub ahead : All (λ (s : ℕ). clock ≤ s) slots
  pub not_descending : NotDescending slots
  pub shared : WithinCapacity setup slots
  pub all_open_lem : All (λ (s : ℕ). is_open setup s ≡ true) slots

-- ---- segments
-- a segment that is not empty
abbrev pub Proper : Segment → Type 0
Proper g = g.left < g.right

-- document 02, 2.2: "two of them touch if no open slot lies between"
abbrev pub Touch : Setup → ℕ → ℕ → Type 0
Touch setup s next = room setup (suc s) next ≡ 0

-- slots of which each touches the next, and their segment: its left is the first of them, and its right is "one after its own slot" of the
-- last, document 02, 2.2
pub record RunOf (setup : Setup) (run : List ℕ) (g : Segment) : Type 0 where
  pub some : 1 ≤ length run
  pub touching : Neighbours (Touch setup) run
  pub starts : first_or 0 run ≡ g.left
  pub ends : suc (last_or 0 run) ≡ g.right

-- whether a slot lies in a segment
abbrev pub lies_in : ℕ → Segment → Bool
lies_in x g = leb g.left x && ltb x g.right

-- no two segments touch: between a segment and the next lies an open slot
abbrev pub Apart : Setup → List Segment → Type 0
Apart setup gs = Neighbours (λ (g : Segment) (h : Segment). 1 ≤ room setup g.right h.left) gs

-- "the longest runs of touching intervals": these start slots are runs of touching slots, one run after the other, these are their
-- segments, and no two of them touch
pub record LongestRuns (setup : Setup) (starts : List ℕ) (gs : List Segment) : Type 0 where
  pub runs : List (List ℕ)
  pub slots : together runs ≡ starts
  pub each : Pairs (RunOf setup) runs gs
  pub apart : Apart setup gs

-- ---- hours
-- document 02, 2.2: "In document 01's cases and session all hours are open": each of the 168 hours is marked as open
abbrev pub AllOpen : Setup → Type 0
AllOpen setup = (h : ℕ) → h < hours → mark_of setup h ≡ 1

-- document 01: "a request ends at the smaller of its deadline and the start of the record behind it"
abbrev pub end_of : Request → List ℕ → ℕ
end_of w [] = w.deadline
end_of w (start ∷ later) = min w.deadline start

-- n slots from s on
abbrev pub from : ℕ → ℕ → List ℕ
from s zero = []
from s (suc n) = s ∷ from (suc s) n

-- all slots of these segments: the first of a segment is at its left, and the last ends at its right
abbrev pub slots_of_all : List Segment → List ℕ
slots_of_all [] = []
slots_of_all (g ∷ gs) = from g.left (g.right - g.left) ++ slots_of_all gs

-- ---- lists of calls
-- the requests of a list, the newest first, are numbered from their count down to 1
abbrev pub Numbered : List Asked → Type 0
Numbered [] = Unit {0}
Numbered (a ∷ rs) = (a.request.number ≡ suc (length rs)) × Numbered rs

-- from an accepted open on, calls that are lent the queue's tables lead to the state s; es is the list of them as a session prints it
pub record FromOpen (setup : Setup) (es : List Event) (s : State) : Type 0 where
  pub before : State
  pub calls : List Call
  pub accepted : is_refused (outcome_of (opening setup) before).answers ≡ false
  pub printed : AsPrinted (history (outcome_of (opening setup) before).after calls) es
  pub none_opened : exists is_opened es ≡ false
  pub state : run (outcome_of (opening setup) before).after calls ≡ s

-- ---- lines
-- a value has no more bytes than its field
abbrev pub FitsField : Field → Type 0
FitsField f = f.value < 256 ^ f.width
