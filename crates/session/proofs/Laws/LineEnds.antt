-- Laws of turns: what is read where a line ends and where none does, and what stays the same but for an open.
-- Assumes nothing.
use Prim.Native.Nat.{ℕ, ◌+◌, ◌-◌, ◌≤◌, ◌<◌, ◌*◌}
use mathlib.Core.Bool.{Bool, true, false, ◌||◌}
use mathlib.Core.List.{List, [], ◌++◌, append-nil}
use mathlib.Core.Path.{◌≡◌, refl, ap, ◌∙◌, subst}
use native.Mathlib.Omega.{arith}
use borrow.Author.Tests.{ltb-true, ltb-false, lt-ltb}
use lib.Dec.{ltb}
use lib.ListN.{length, drop, length-append, length-take, length-drop}
use Rattle.spec.specs.declared.types.Answer.{Answer}
use Rattle.spec.specs.declared.types.Frame.{Frame}
use Rattle.spec.specs.declared.types.Frame.TheVariants.{Open}
use Rattle.spec.specs.declared.types.Setup.{Setup}
use Rattle.spec.specs.Tables.{most_records, most_clients, client_width}
use Rattle.spec.specs.Lines.Frames.{frame_of, longest_frame, Task, task}
use Rattle.spec.specs.Lines.Session.{text_of}
use Rattle.spec.proofs.Calls.CallKinds.{Asks, asks_open, asks_chart, asks_nothing, asks_call, asks}
use Rattle.spec.proofs.Laws.Every.{or_none}
use Rattle.frame.specs.Lines.{NoFeed, FirstFeed, Behind, slice, line_at}
use Rattle.frame.proofs.FrameKinds.{frame_length}
use Rattle.frame.proofs.LineParts.{part_is}
use Rattle.session.specs.declared.types.Session.{Session}
use Rattle.session.specs.declared.types.Fed.{Fed}
use Rattle.session.specs.Standing.{up_to, records_for, numbers_for, records_after, Begun}
use Rattle.session.specs.Feeding.{frame_behind, Whole, Stops}
use Rattle.session.proofs.Laws.Texts.{begun, ended, slice_goes_on, slice_ends}
use Rattle.session.proofs.Laws.Leads.{begun_text}

-- ---- a whole line
-- what a reader of the input that stands at used hands back: a line, and where the reader then stands
pub record HandsBack (input : List ℕ) (used : ℕ) (line : List ℕ) (behind : ℕ) : Type 0 where
  pub within : used ≤ length input
  pub behind_so : Behind input used behind
  pub line_so : line ≡ line_at input used behind

module _ (input : List ℕ) (used : ℕ) (line : List ℕ) (behind : ℕ) (onward : used < behind) (h : HandsBack input used line behind) where
  ends : FirstFeed input used (behind - 1)
  ends = h.behind_so.whole onward

  line_is : line ≡ slice used (behind - 1) input
  line_is =
      h.line_so
      ∙ rw (lt-ltb used behind onward) (part_is input used (behind - 1) ends.from (omega (arith, ends.within)))

  -- one that was read past so far has more digits than any frame, and before any other nothing is begun
  frame_is : (skip : Bool) (p : List ℕ) → Begun skip p → frame_of (p ++ line) ≡ frame_behind skip line
  frame_is true p b = frame_length (p ++ line) (λ _ most. omega (arith, b.0, length-append p line))
  frame_is false p b = rw b

  pub whole : (skip : Bool) → Whole input used skip behind (frame_behind skip line)
  whole skip =
      let all : behind - 1 + 1 ≡ behind = omega (arith, onward) in
      record {
        onward = onward;
        within = omega (arith, ends.within, onward);
        line = λ p. p ++ line;
        reads =
            λ p b. rw line_is
            (subst (λ (k : ℕ). text_of (p ++ slice used k input) ≡ ended (p ++ slice used (behind - 1) input)) all
            (slice_ends input used (behind - 1) p (begun_text skip p b) ends));
        frame_so = frame_is skip;
      }

-- ---- no line feed
module _ (input : List ℕ) (fed : Fed) (within : fed.used ≤ length input)
    (clean : NoFeed input fed.used (length input)) where
  goes_on : (end : ℕ) → NoFeed input fed.used end → (p : List ℕ) → Begun fed.session.skip p
      → text_of (p ++ slice fed.used end input) ≡ begun (p ++ slice fed.used end input)
  goes_on end h p b = slice_goes_on input fed.used end p (begun_text fed.session.skip p b) h

  -- whether there are more digits than any frame has
  abbrev pub over : Bool → Bool
  over skip = skip || ltb longest_frame (length input - fed.used)

  over_long : (skip : Bool) → over skip ≡ true → (p : List ℕ) → Begun skip p
      → longest_frame < length (p ++ slice fed.used (length input) input)
  over_long true e p b = omega (arith, b.0, length-append p (slice fed.used (length input) input))
  over_long false e p b =
      omega (
        arith,
        ltb-true longest_frame (length input - fed.used) e,
        length-append p (slice fed.used (length input) input),
        length-take (length input - fed.used) (drop fed.used input),
        length-drop fed.used input,
      )

  -- these are read past
  pub past : over fed.session.skip ≡ true → Stops input fed (record fed { session = record fed.session { skip = true }; used = length input })
  past e =
      record {
        same = refl;
        none =
            record {
              onward = within;
              within = omega arith;
              left = omega arith;
              no_feed = λ k f l _. omega arith;
              reads = goes_on (length input) clean;
              begun = λ p b. (over_long fed.session.skip e p b, goes_on (length input) clean p b);
            };
      }

  -- the beginning of a frame is left
  pub left : over fed.session.skip ≡ false → Stops input fed fed
  left e =
      let short = ltb-false longest_frame (length input - fed.used) (or_none fed.session.skip (ltb longest_frame (length input - fed.used)) e).1 in
      let none : fed.used - fed.used ≡ 0 = omega arith in
      record {
        same = refl;
        none =
            record {
              onward = omega arith;
              within = within;
              left = omega arith;
              no_feed = clean;
              reads = goes_on fed.used (λ k f l _. omega arith);
              begun = λ p b. rw (none, append-nil p) b;
            };
      }

-- ---- a frame that is no open
module _ (f : Frame) (other : (setup : Setup) (records : ℕ) → f ≡ Open setup records → ⊥) where
  names_none : (task f).named ≡ []
  names_none = by_case (asks f) other
    where
      by_case : {f : Frame} → Asks f → ((setup : Setup) (records : ℕ) → f ≡ Open setup records → ⊥) → (task f).named ≡ []
      by_case (asks_open setup records) other = absurd (other setup records refl)
      by_case asks_chart other = refl
      by_case asks_nothing other = refl
      by_case (asks_call frame c e no-open none) other = ap (λ (t : Task). t.named) e

  -- it is lent what is in use
  pub records_in_use : (s : Session) → records_for f s ≡ up_to most_records s.records
  unfolding records_for
  records_in_use s = rw names_none

  pub numbers_in_use : (s : Session) → numbers_for f s ≡ client_width * up_to most_clients s.head.setup.clients
  unfolding numbers_for
  numbers_in_use s = rw names_none

  -- and as many records are in use after it
  pub records_kept : (a : Answer) (before : ℕ) → records_after f a before ≡ before
  unfolding records_after
  records_kept a before = rw names_none
