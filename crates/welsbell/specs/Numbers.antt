-- Head and answer as numbers in lent arrays: what an exported call reads, and what it hands back and leaves. Assumes nothing.
use Rattle.std.specs.Prelude.{ℕ, zero, suc, ◌+◌, ◌*◌, ◌≡◌, cond, List, [], ◌∷◌, ◌++◌, map, eqb, length, get_or, drop}
use Rattle.spec.specs.declared.types.Setup.{Setup}
use Rattle.spec.specs.declared.types.Head.{Head}
use Rattle.spec.specs.declared.types.Answer.{Answer}
use Rattle.spec.specs.declared.types.Answer.TheVariants.{Opened}
use Rattle.spec.specs.Tables.{setup_of, State}
use Rattle.spec.specs.Calls.Readings.{kind_of, values_of}
use Rattle.spec.specs.Calls.{Call, outcome_of}

-- the version that archive and header share: it rises with each change of a signature, a layout or a number of theirs
abbrev pub version : ℕ
version = 4

-- document 02, 2.2: "168 open-or-closed marks .. as .. 21 bytes"
abbrev pub mark_bytes : ℕ
mark_bytes = 21

-- "Numbers are big-endian": the number of so many bytes from a place on
unfoldable pub number_at : List ℕ → ℕ → ℕ → ℕ
number_at bytes from zero = 0
number_at bytes from (suc width) = number_at bytes from width * 256 + get_or bytes (from + width) 0

-- the four numbers of the marks, of 8, 8, 4 and 1 bytes, as in a frame
abbrev pub marks_of : List ℕ → List ℕ
marks_of bytes = number_at bytes 0 8 ∷ number_at bytes 8 8 ∷ number_at bytes 16 4 ∷ get_or bytes 20 0 ∷ []

-- the setup whose clients, period and slots per hour the first numbers are, with these marks
abbrev pub setup_with : List ℕ → List ℕ → Setup
setup_with xs marks = setup_of (get_or xs 0 0 ∷ get_or xs 1 0 ∷ get_or xs 2 0 ∷ marks_of marks)

-- how many numbers of a head are its setup's
abbrev pub setup_width : ℕ
setup_width = 3

-- "The head, passed and handed back: clients, period, clock, last request number, waiting count.": the head whose numbers and marks
-- two arrays hold, its setup's numbers first
abbrev pub head_of : List ℕ → List ℕ → Head
head_of xs marks =
    record {
      setup = setup_with xs marks;
      clock = get_or xs setup_width 0;
      last = get_or xs (setup_width + 1) 0;
      waiting = get_or xs (setup_width + 2) 0;
    }

-- a head's numbers
abbrev pub head_numbers : Head → List ℕ
head_numbers h =
    h.setup.clients ∷ h.setup.period ∷ h.setup.hour ∷ h.clock ∷ h.last ∷ h.waiting ∷ []

-- the marks that an open leaves, by the kind of its answer
abbrev pub marks_after : ℕ → List ℕ → List ℕ → List ℕ
marks_after kind given held = cond (eqb kind (kind_of Opened)) given held

-- an answer's values, in the paper's order
unfoldable pub value_numbers : Answer → List ℕ
value_numbers a = map (λ f. f.value) (values_of a)

-- numbers over the front of an array; those behind them stay
unfoldable pub written : List ℕ → List ℕ → List ℕ
written xs ys = xs ++ drop (length xs) ys

-- what an exported call does, one contract for every call: from what a caller lends, the array of values among it, to what it then has.
-- The definition gives one answer; the result is its kind, and its values and all that head and tables hold are what the definition
-- says
pub record Exported (c : Call) (before : State) (values₀ : List ℕ) (r : ℕ) (values : List ℕ) (after : State) : Type 0 where
  pub answer : Answer
  pub answers_same : answer ∷ [] ≡ (outcome_of c before).answers
  pub kind_same : r ≡ kind_of answer
  pub values_same : values ≡ written (value_numbers answer) values₀
  pub after_same : after ≡ (outcome_of c before).after
