-- What an answer says: document 01, "Session lines" and "Lists and plans", and document 02, 2.1 and 2.2. `reading` goes by cases on answers,
-- `shown` lists those that a printed line shows, and whatever else is asked of an answer is read off the two. Assumes nothing.
use Rattle.std.specs.Prelude.{ℕ, Bool, true, false, List, [], ◌∷◌, get_or}
use Rattle.spec.specs.declared.types.Answer.{Answer}
use Rattle.spec.specs.declared.types.Answer.TheVariants.{Opened, Kept, Dropped, Served, Idle, Reported, Charted, Closed, Refused}
use Rattle.spec.specs.Every.{gather, first_or}

-- "widths in bytes in brackets": a number and its width in bytes
pub record Field : Type 0 where
  pub width : ℕ
  pub value : ℕ

abbrev pub field : ℕ → ℕ → Field
field width value = record { width = width; value = value }

-- ---- the requests that an answer names
-- a request that has a slot
pub record Booking : Type 0 where
  pub number : ℕ
  pub slot : ℕ
  pub client : ℕ

-- a request that is dropped
pub record Victim : Type 0 where
  pub number : ℕ
  pub client : ℕ

-- the number given to a new request, the requests named as served, and those named as victims
pub record Names : Type 0 where
  pub given : List ℕ
  pub served : List Booking
  pub victims : List Victim

abbrev pub nobody : Names
nobody = record { given = []; served = []; victims = [] }

abbrev pub new_one : ℕ → Names
new_one number = record { given = number ∷ []; served = []; victims = [] }

abbrev pub new_and_victim : ℕ → ℕ → ℕ → Names
new_and_victim number victim client =
    record { given = number ∷ []; served = []; victims = record { number = victim; client = client } ∷ [] }

abbrev pub served_one : ℕ → ℕ → ℕ → Names
served_one slot number client =
    record { given = []; served = record { number = number; slot = slot; client = client } ∷ []; victims = [] }

-- ---- all that an answer says
pub record Reading : Type 0 where
  -- the paper's number of its kind, and its values
  pub kind : ℕ
  pub fields : List Field
  -- whether the call is refused
  pub refuses : Bool
  pub names : Names
  -- of a chart, how many start slots it wrote
  pub charted : List ℕ

abbrev pub says : ℕ → List Field → Names → Reading
says kind fields names = record { kind = kind; fields = fields; refuses = false; names = names; charted = [] }

-- "Kinds out: 81 opened; 82 kept, number (8), place (2); 83 dropped, new number (8), victim (8), victim's client (2); 84 served, slot
-- (8), number (8), client (2); 85 idle, slot (8); 86 report, client (2), submitted (4), served (4), dropped (4), waiting (2); ..; 88,
-- segment count (2); FF refusal, number (1)." A chart's value is its count of start slots; where a session prints 88, it puts the
-- segment count there. Document 02, 2.1: "Frames 82 and 83 end with it, in 2 bytes": with the shift; 2.2: "tick answers 89 with the slot
-- (8)"
abbrev pub reading : Answer → Reading
reading Opened = says 0x81 [] nobody
reading (Kept number place shift) =
    says 0x82 (field 8 number ∷ field 2 place ∷ field 2 shift ∷ []) (new_one number)
reading (Dropped number victim client shift) =
    says 0x83 (field 8 number ∷ field 8 victim ∷ field 2 client ∷ field 2 shift ∷ []) (new_and_victim number victim client)
reading (Served slot number client) =
    says 0x84 (field 8 slot ∷ field 8 number ∷ field 2 client ∷ []) (served_one slot number client)
reading (Idle slot) = says 0x85 (field 8 slot ∷ []) nobody
reading (Reported client submitted served dropped waiting) =
    says 0x86 (field 2 client ∷ field 4 submitted ∷ field 4 served ∷ field 4 dropped ∷ field 2 waiting ∷ []) nobody
reading (Charted count) =
    record { kind = 0x88; fields = field 2 count ∷ []; refuses = false; names = nobody; charted = count ∷ [] }
reading (Closed slot) = says 0x89 (field 8 slot ∷ []) nobody
reading (Refused number) =
    record { kind = 0xFF; fields = field 1 number ∷ []; refuses = true; names = nobody; charted = [] }

-- "Kinds out: 81 opened; 82 kept, number (8), place (2); ..": each answer that a printed line shows, made of its values. Its kind and
-- the widths of its fields are those of `reading`
abbrev pub shown : List (List ℕ → Answer)
shown =
    (λ values. Opened)
    ∷ (λ values. Kept (get_or values 0 0) (get_or values 1 0) (get_or values 2 0))
    ∷ (λ values. Dropped (get_or values 0 0) (get_or values 1 0) (get_or values 2 0) (get_or values 3 0))
    ∷ (λ values. Served (get_or values 0 0) (get_or values 1 0) (get_or values 2 0))
    ∷ (λ values. Idle (get_or values 0 0))
    ∷ (λ values. Reported (get_or values 0 0) (get_or values 1 0) (get_or values 2 0) (get_or values 3 0) (get_or values 4 0))
    ∷ (λ values. Charted (get_or values 0 0))
    ∷ (λ values. Closed (get_or values 0 0))
    ∷ []

abbrev pub kind_of : Answer → ℕ
kind_of a = (reading a).kind

abbrev pub values_of : Answer → List Field
values_of a = (reading a).fields

-- ---- what the answers to a call say together
-- "Each answers with its number only": whether they are a refusal
abbrev pub is_refused : List Answer → Bool
is_refused [] = false
is_refused (a ∷ []) = (reading a).refuses
is_refused (a ∷ b ∷ more) = false

-- "It gives the next request number": the number that they give to a new request
abbrev pub new_number : List Answer → ℕ
new_number answers = first_or 0 (gather (λ a. (reading a).names.given) answers)

-- the requests that they name as served, and those that they name as victims
abbrev pub served_by : List Answer → List Booking
served_by answers = gather (λ a. (reading a).names.served) answers

abbrev pub victims_by : List Answer → List Victim
victims_by answers = gather (λ a. (reading a).names.victims) answers
