-- What feeding a session a part of its input comes to. Assumes nothing.
use Rattle.std.specs.Prelude.{ℕ, zero, suc, ◌+◌, ◌≤◌, ◌<◌, Bool, true, false, cond, ◌&&◌, List, [], ◌∷◌, ◌++◌, ◌≡◌, leb, length, take}
use Rattle.spec.specs.declared.types.Answer.TheVariants.{Refused}
use Rattle.spec.specs.declared.types.Frame.{Frame}
use Rattle.spec.specs.declared.types.Frame.TheVariants.{Bad}
use Rattle.spec.specs.Tables.{State}
use Rattle.spec.specs.Lines.Frames.{frame_of, answer_line, longest_frame}
use Rattle.spec.specs.Lines.Session.{text_of}
use Rattle.frame.specs.Lines.{NoFeed, slice}
use Rattle.frame.specs.LineLengths.{longest_line, most_bytes}
use Rattle.queue.specs.Gives.{Reply}
use Rattle.session.specs.declared.types.Session.{Session}
use Rattle.session.specs.declared.types.Fed.{Fed}
use Rattle.session.specs.Standing.{Reserved, held_in, do_fit, fits_in, records_after, Begun, Leads}

-- ---- what stands next in the input, from `used` on
-- what a line is: one that was read past so far is no frame
abbrev pub frame_behind : Bool → List ℕ → Frame
frame_behind skip line = cond skip Bad (frame_of line)

-- a whole line, with its line feed all that stands before behind, which is this frame
pub record Whole (input : List ℕ) (used : ℕ) (skip : Bool) (behind : ℕ) (frame : Frame) : Type 0 where
  pub onward : used < behind
  pub within : behind ≤ length input
  pub line : List ℕ → List ℕ
  pub reads : (p : List ℕ) → Begun skip p → text_of (p ++ slice used behind input) ≡ record { lines = line p ∷ []; rest = [] }
  pub frame_so : (p : List ℕ) → Begun skip p → frame_of (line p) ≡ frame

-- no whole line: all is used, or a beginning that a frame can still come of is left
pub record None (input : List ℕ) (used : ℕ) (skip : Bool) (r : Fed) : Type 0 where
  pub onward : used ≤ r.used
  pub within : r.used ≤ length input
  pub left : length input ≤ r.used + longest_frame
  pub no_feed : NoFeed input r.used (length input)
  pub reads : (p : List ℕ) → Begun skip p → text_of (p ++ slice used r.used input) ≡ record { lines = []; rest = p ++ slice used r.used input }
  pub begun : (p : List ℕ) → Begun skip p → Begun r.session.skip (p ++ slice used r.used input)

-- ---- a part of the input
-- whether an answer has room in an output of this length, and the tables fit
abbrev pub can_answer : Bool → ℕ → ℕ → Bool
can_answer fits put out = fits && leb (put + most_bytes) out

-- what is left of a part of the input once no more of it is answered
abbrev pub LeftOver : Bool → List ℕ → ℕ → Bool → Type 0
LeftOver true input used can = can ≡ false
LeftOver false input used can = (length input ≤ used + longest_frame) × NoFeed input used (length input)

abbrev pub can : Fed → ℕ → ℕ → ℕ → ℕ → Bool
can fed waiting numbers starts out = can_answer (do_fit fed.session waiting numbers starts) fed.put out

abbrev pub can_with : Fed → Reserved → List ℕ → List ℕ → Bool
can_with fed t starts out = can fed (length t.waiting_table) (length t.client_numbers) (length starts) (length out)

-- where no whole line stands next, the session stands where it stood, but for what is read past
pub record Stops (input : List ℕ) (fed r : Fed) : Type 0 where
  pub same : r ≡ record fed { session = record fed.session { skip = r.session.skip }; used = r.used }
  pub none : None input fed.used fed.session.skip r

-- where the session stands after a line that was this frame and got this reply, up to the index put of the output
abbrev pub answered : Frame → ℕ → Fed → Reply → ℕ → Fed
answered frame behind fed reply put =
    record {
      session =
          record {
            head = reply.head;
            records = records_after frame reply.answer fed.session.records;
            skip = false;
          };
      used = behind;
      put = put;
      full = false;
    }

-- one line: what led up to where it began leads on to where it ends
pub record Stepped (input : List ℕ) (fed : Fed) (t : Reserved) (starts out : List ℕ)
    (r : Fed) (t' : Reserved) (out' : List ℕ) : Type 0 where
  pub onward : fed.used < r.used
  pub within : r.used ≤ length input
  pub room : r.put ≤ length out
  pub fits :
      fits_in fed.session t starts ≡ true
      → fits_in r.session t starts ≡ true
  pub leads : (s₀ : State) (skip₀ : Bool)
      → Leads s₀ skip₀ (take fed.used input) (held_in fed.session t) fed.session.skip (take fed.put out)
      → Leads s₀ skip₀ (take r.used input) (held_in r.session t') r.session.skip (take r.put out')

-- the same of any input in which it stands next, and the session goes on where the reader then stands
pub record Steps (frame : Frame) (behind : ℕ) (fed : Fed) (t : Reserved) (starts out : List ℕ)
    (r : Fed) (t' : Reserved) (out' : List ℕ) : Type 0 where
  pub used_so : r.used ≡ behind
  pub full_so : r.full ≡ false
  pub stepped : (input : List ℕ) → Whole input fed.used fed.session.skip behind frame
      → Stepped input fed t starts out r t' out'

-- tables keep their lengths
pub record SameLengths (t : Reserved) (out : List ℕ) (t' : Reserved) (out' : List ℕ) : Type 0 where
  pub waiting_long : length t'.waiting_table ≡ length t.waiting_table
  pub numbers_long : length t'.client_numbers ≡ length t.client_numbers
  pub out_long : length out' ≡ length out

-- a part of the input: what of it is used leads from the state at entry to the state at exit and to what is written. The start
-- slots at exit, the output behind what is written, and table entries that no session uses are any
pub record FedBy (session : Session) (input : List ℕ) (t : Reserved) (starts out : List ℕ)
    (r : Fed) (t' : Reserved) (out' : List ℕ) : Type 0 where
  pub within : r.used ≤ length input
  pub room : r.put ≤ length out
  pub long : SameLengths t out t' out'
  pub fits :
      fits_in session t starts ≡ true
      → fits_in r.session t starts ≡ true
  pub leads :
      Leads (held_in session t) session.skip (take r.used input)
      (held_in r.session t') r.session.skip (take r.put out')
  pub left :
      LeftOver r.full input r.used
      (can_with r t starts out)

-- ---- the end of the input
-- what is owed where so many characters are left and a line is begun as skip says: "a last line without its line feed gets
-- refusal 1"
abbrev pub owed : Bool → ℕ → List ℕ
owed true n = answer_line (Refused 1)
owed false zero = []
owed false (suc n) = answer_line (Refused 1)

-- what of it is put in an output that has so much room: all, or nothing where some answer's line would have no room
abbrev pub owed_in : ℕ → Bool → ℕ → List ℕ
owed_in room skip left = cond (leb longest_line room) (owed skip left) []
