-- What the program does between two parts of the input, and what it has then read, fed and handed to the write.
--
-- What no contract says of the program, since none says what a system call does:
--     in src/system.rt     what the calls of `read` and of `write_all` do, and that what they answer is what is handed on
--     in src/progress.rt   that `read_behind` and `write_front` are called once, where they stand, and that `say_why` says the failure
--     in src/main.rt       that `main` calls `serve` and `say_why`, and that the streams that it hands them are the standard ones
-- So `ProgramRan` speaks of some reads and some writes; that they are the ones made is shown by test, in tests/src/bin/session.rs. Each
-- session of `CASES` fails where other characters are read or written than those, or some of them not or twice, or where a good read or
-- write is taken for a failed one; `try_unread_answers` and `try_nonblocking_output` fail where a failed write is taken for a good one,
-- `try_unreadable_inputs` and `try_nonblocking_input` where a failed read is taken for the input's end, and these four where another line
-- is said, or none.
-- Assumes nothing.
use Rattle.std.specs.Prelude.{ℕ, ◌+◌, ◌-◌, ◌≤◌, ◌<◌, Bool, true, false, ◌||◌, List, [], ◌∷◌, ◌++◌, ◌≡◌, eqb, Option, Some, None, is_some, Result, Ok, Err, is_ok, is_err, IfErr, length, take, drop}
use Rattle.std.specs.Option.{option_or}
use Rattle.std.specs.Result.{result_unwrap_or, result_err}
use Rattle.session.specs.declared.types.Fed.{Fed}
use Rattle.spec.specs.Lines.Session.{session as session_of}
use Rattle.table.specs.Widths.{largest64}
use Rattle.session.specs.Standing.{Reserved}
use Rattle.session.specs.Feeding.{owed}
use Rattle.session.specs.Parts.{session_start, SessionTables, Through}
use Rattle.session_main.specs.declared.failure.Failure.{Failure}
use Rattle.session_main.specs.declared.failure.Failure.TheVariants.{Unreadable, Unwritten}
use Rattle.session_main.specs.declared.progress.Progress.{Progress}
use Rattle.session_main.specs.declared.system.Got.{Got}
use Rattle.session_main.specs.declared.system.Receipt.{Receipt}

-- ---- a read
-- the characters that the buffer has room for
abbrev pub buffer_length : ℕ
buffer_length = 65536

-- how many characters a read put in the buffer: none where it failed
abbrev pub delivered_by : Got → ℕ
delivered_by got = result_unwrap_or got.answer 0

abbrev pub is_failed : Got → Bool
is_failed got = is_err got.answer

-- what a read that is handed n characters of room may answer: how many it moved, at most n, or that it failed
abbrev pub Moved : ℕ → Result ℕ Failure → Type 0
Moved n (Ok k) = k ≤ n
Moved n (Err failure) = failure ≡ Unreadable

-- a read changes only what stands behind the first `have` characters, and delivers no more than there is room for
abbrev pub ReadBehind : ℕ → List ℕ → List ℕ → Got → Type 0
ReadBehind have buffer buffer' got = (take have buffer' ≡ take have buffer) × Moved (buffer_length - have) got.answer

-- ---- a write
abbrev pub is_written : Receipt → Bool
is_written receipt = is_ok receipt.answer

-- what a write of n characters may answer
abbrev pub Asked : ℕ → Receipt → Type 0
Asked n receipt = (receipt.asked ≡ n) × IfErr receipt.answer (λ failure. failure ≡ Unwritten)

-- ---- the steps of a turn
abbrev pub at_first : Progress
at_first = record { session = session_start; have = 0; full = false; ended = false; failure = None }

-- a read that delivers nothing is the input's end, or failed
abbrev pub after_read : Progress → Got → Progress
after_read progress got =
    record progress { have = progress.have + delivered_by got; ended = eqb (delivered_by got) 0; failure = result_err got.answer }

abbrev pub after_feed : Progress → Fed → Progress
after_feed progress fed =
    record progress { session = fed.session; have = progress.have - fed.used; full = fed.full }

-- a write that failed is said before a read that did
abbrev pub after_write : Progress → Receipt → Progress
after_write progress receipt = record progress { failure = option_or (result_err receipt.answer) progress.failure }

-- the program goes on unless the input is at its end, or a read or a write failed
abbrev pub is_over : Progress → Bool
is_over progress = progress.ended || is_some progress.failure

-- ---- reading on
-- unless lines are left, there is room behind what is still to be fed
abbrev pub CanRead : Bool → Progress → Type 0
CanRead true progress = Unit {0}
CanRead false progress = progress.have < buffer_length

pub record Reads (progress : Progress) (buffer buffer' : List ℕ) (r : Progress) : Type 0 where
  pub got : Got
  pub behind : ReadBehind progress.have buffer buffer' got
  pub is : r ≡ after_read progress got

-- where lines are left nothing is read
abbrev pub ReadsOn : Bool → Progress → List ℕ → List ℕ → Progress → Type 0
ReadsOn true progress buffer buffer' r = (r ≡ progress) × (buffer' ≡ buffer)
ReadsOn false progress buffer buffer' r = Reads progress buffer buffer' r

-- ---- going on
-- what is written next: the answers, or what is owed at the end of the input
abbrev pub to_write : Bool → Progress → Fed → List ℕ → List ℕ
to_write true progress fed out = owed progress.session.skip progress.have
to_write false progress fed out = take fed.put out

abbrev pub Puts : Bool → Progress → Fed → List ℕ → List ℕ → ℕ → Type 0
Puts ended progress fed out out' n = (n ≤ length out) × (take n out' ≡ to_write ended progress fed out)

-- that is handed to the write, and what was not used of the buffer stands in front of what is read next
pub record GoesOn (progress : Progress) (fed : Fed) (buffer out buffer' out' : List ℕ) (r : Progress) : Type 0 where
  pub receipt : Receipt
  pub handed : take receipt.asked out' ≡ to_write progress.ended progress fed out
  pub fails : IfErr receipt.answer (λ failure. failure ≡ Unwritten)
  pub is : r ≡ after_write (after_feed progress fed) receipt
  pub unused : take (progress.have - fed.used) buffer' ≡ take (progress.have - fed.used) (drop fed.used buffer)

-- ---- the program
-- the tables that the program begins with, and where the session then stands
abbrev pub first : Reserved → SessionTables
first t = record { session = session_start; tables = t }

-- the reads, the last one first: how much they delivered, and that each delivered something, but for the last where the input ends
abbrev pub amount : List Got → ℕ
amount [] = 0
amount (got ∷ reads) = amount reads + delivered_by got

abbrev pub AllDeliver : List Got → Type 0
AllDeliver [] = Unit {0}
AllDeliver (got ∷ reads) = (0 < delivered_by got) × AllDeliver reads

abbrev pub Delivers : Bool → Bool → List Got → Type 0
Delivers false unreadable reads = (unreadable ≡ false) × AllDeliver reads
Delivers true unreadable [] = ⊥
Delivers true unreadable (got ∷ reads) = (delivered_by got ≡ 0) × (is_failed got ≡ unreadable) × AllDeliver reads

-- the writes, the last one first: what was handed to them, one behind the other, and that each is said to be done, but for the last
-- where the program stops for it
pub record Write : Type 0 where
  pub out : List ℕ
  pub receipt : Receipt

abbrev pub handed_to : List Write → List ℕ
handed_to [] = []
handed_to (w ∷ writes) = handed_to writes ++ take w.receipt.asked w.out

abbrev pub AllWritten : List Write → Type 0
AllWritten [] = Unit {0}
AllWritten (w ∷ writes) = (is_written w.receipt ≡ true) × AllWritten writes

abbrev pub Writes : Bool → List Write → Type 0
Writes false writes = AllWritten writes
Writes true [] = ⊥
Writes true (w ∷ writes) = (is_written w.receipt ≡ false) × AllWritten writes

-- what was handed to the write: the answers so far, and at the input's end the whole session's, with the last line's
abbrev pub Handed : Bool → List ℕ → List ℕ → List ℕ → Type 0
Handed true input answers handed = handed ≡ session_of input
Handed false input answers handed = handed ≡ answers

-- why the program stops before the input's end, by whether the last read and the last write failed
abbrev pub failure_of : Bool → Bool → Option Failure
failure_of unreadable true = Some Unwritten
failure_of true false = Some Unreadable
failure_of false false = None

-- from the tables t₀ the program came to t by feeding a session one input from its start, part behind part, nothing left out and nothing
-- twice, and it handed the answers to the write, in order; which input that is, no contract says
pub record ProgramRan (t₀ t : Reserved) (r : Progress) : Type 0 where
  pub input : List ℕ
  pub used : ℕ
  pub answers : List ℕ
  pub reads : List Got
  pub writes : List Write
  pub through :
      Through (first t₀) input used answers (record { session = r.session; tables = t })
  pub long : amount reads ≡ length input
  -- whether the last read failed, and the last write
  pub unreadable : Bool
  pub unwritten : Bool
  pub delivers : Delivers r.ended unreadable reads
  pub handed : Handed r.ended input answers (handed_to writes)
  pub written : Writes unwritten writes
  pub failed : r.failure ≡ failure_of unreadable unwritten
  -- it stops at the input's end, where a read or a write is said to have failed, and otherwise not before the input has 2⁶³ characters
  pub stops : is_over r ≡ false → largest64 ≤ length input + length input
