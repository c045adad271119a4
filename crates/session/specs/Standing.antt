-- Where a session stands between two lines: the state that it holds in the lent tables, and how a line that has no line feed yet
-- is remembered. Assumes nothing.
use Rattle.std.specs.Prelude.{ℕ, ◌*◌, ◌<◌, Bool, true, false, cond, ◌&&◌, List, [], ◌∷◌, ◌++◌, ◌≡◌, leb, length, take}
use Rattle.spec.specs.declared.types.Frame.{Frame}
use Rattle.spec.specs.declared.types.Answer.{Answer}
use Rattle.spec.specs.declared.types.Request.{Request}
use Rattle.spec.specs.Every.{first_or}
use Rattle.spec.specs.Tables.{most_records, most_clients, client_width, State, state_of}
use Rattle.spec.specs.Calls.Readings.{reading}
use Rattle.spec.specs.Lines.Frames.{longest_frame, Lengths, task}
use Rattle.spec.specs.Lines.Session.{text_of, replies}
unfoldable pub use Rattle.spec.specs.Lines.Session.{state_after}
use Rattle.session.specs.declared.types.Session.{Session}

-- "reserves 2,048 waiting records once": the tables that a session is lent, as long as any open can name
pub record Reserved : Type 0 where
  pub waiting_table : List Request
  pub client_numbers : List ℕ

abbrev pub reserved_of : List Request → List ℕ → Reserved
reserved_of ws numbers = record { waiting_table = ws; client_numbers = numbers }

-- the state that a session holds in them: "lends the first part that open names, and of 256 client records as many as open names
-- clients"
abbrev pub held_in : Session → Reserved → State
held_in s t =
    state_of s.head (take s.records t.waiting_table) (take (client_width * s.head.setup.clients) t.client_numbers)

-- whether tables of these lengths will do for the session and for every later open
unfoldable pub do_fit : Session → ℕ → ℕ → ℕ → Bool
do_fit s waiting numbers starts =
    (leb s.records most_records && leb s.head.setup.clients most_clients)
    && ((leb most_records waiting && leb most_records starts) && leb (client_width * most_clients) numbers)

abbrev pub fits_in : Session → Reserved → List ℕ → Bool
fits_in s t starts = do_fit s (length t.waiting_table) (length t.client_numbers) (length starts)

-- a length that a frame names, or none where it is more than there can be: open is refused by either
abbrev pub up_to : ℕ → ℕ → ℕ
up_to most n = cond (leb n most) n 0

-- the lengths that an open names, or else those in use
abbrev pub lengths_for : List Lengths → Session → Lengths
lengths_for named s = first_or (record { records = s.records; clients = s.head.setup.clients }) named

-- how many waiting records, and how many numbers of client records, are lent to the call that a frame asks for
unfoldable pub records_for : Frame → Session → ℕ
records_for frame s = up_to most_records (lengths_for (task frame).named s).records

unfoldable pub numbers_for : Frame → Session → ℕ
numbers_for frame s = client_width * up_to most_clients (lengths_for (task frame).named s).clients

-- how many waiting records are in use after a frame got its answer: those that an accepted open names
abbrev pub records_named : List Lengths → Answer → ℕ → ℕ
records_named [] a before = before
records_named (l ∷ ls) a before = cond (reading a).refuses before l.records

unfoldable pub records_after : Frame → Answer → ℕ → ℕ
records_after frame a before = records_named (task frame).named a before

-- what is remembered of the characters behind the last line feed: there are none, or more than any frame has
abbrev pub Begun : Bool → List ℕ → Type 0
Begun false p = p ≡ []
Begun true p = (longest_frame < length p) × (text_of p ≡ record { lines = []; rest = p })

-- from a state, with the line p begun, the characters i lead to a state, a line begun as skip says, and the answers o
pub record Reached (s₀ : State) (p i : List ℕ) (s : State) (skip : Bool) (o : List ℕ) : Type 0 where
  pub state : state_after s₀ (text_of (p ++ i)).lines ≡ s
  pub begun : Begun skip (text_of (p ++ i)).rest
  pub answers : replies s₀ (text_of (p ++ i)).lines ≡ o

-- the same whatever line was begun, of which only skip₀ is remembered
abbrev pub Leads : State → Bool → List ℕ → State → Bool → List ℕ → Type 0
Leads s₀ skip₀ i s skip o = (p : List ℕ) → Begun skip₀ p → Reached s₀ p i s skip o
