-- The program's loop: where it stands after so many turns, and before a feed. Assumes nothing.
use Rattle.std.proofs.Common.{ℕ, zero, suc, ◌+◌, ◌-◌, ◌≤◌, ◌<◌, Bool, true, false, ◌||◌, List, [], ◌∷◌, ◌++◌, append-nil, ◌≡◌, refl, sym, ap, ◌∙◌, subst, arith, eqb, eqb-true, length, take, drop, length-append, length-take, length-drop, length-take-le, take-add, drop-drop, Some, is_some, Result, Ok, Err, is_ok, is_err, IfErr}
use Rattle.std.proofs.lemmas.Bool.{false≢true}
use Rattle.std.proofs.lemmas.List.{take-append-le, drop-append-le, drop-take}
use Rattle.std.proofs.Math.Seq.{take-length}
use Rattle.std.specs.Option.{option_or}
use Rattle.std.specs.Result.{result_unwrap_or, result_err}
use borrow.Author.Tests.{eqb-false}
use Rattle.spec.specs.declared.types.Request.{Request}
use Rattle.table.specs.Widths.{largest64}
use Rattle.session.specs.declared.types.Fed.{Fed}
use Rattle.frame.specs.Lines.{NoFeed}
use Rattle.frame.specs.LineLengths.{most_bytes}
use Rattle.session.specs.Standing.{Reserved, reserved_of, fits_in, do_fit}
use Rattle.session.specs.Feeding.{FedBy, LeftOver, can_with, owed}
use Rattle.session.proofs.Parts.{parts_together, no_feed_left, feeds_on}
use Rattle.session.specs.Parts.{SessionTables, Through, begins, goes}
use Rattle.session_main.specs.declared.failure.Failure.{Failure}
use Rattle.session_main.specs.declared.failure.Failure.TheVariants.{Unwritten}
use Rattle.session_main.specs.declared.progress.Progress.{Progress}
use Rattle.session_main.specs.declared.system.Got.{Got}
use Rattle.session_main.specs.Program.{buffer_length, ReadBehind, delivered_by, is_failed, Moved, at_first, after_read, is_over, CanRead, ReadsOn, to_write, GoesOn, first, amount, AllDeliver, Delivers, Write, handed_to, AllWritten, Writes, Handed, failure_of, ProgramRan}
use Rattle.spec.specs.Lines.Frames.{longest_frame}

-- ---- an input of which more is read
-- what was cut from it can still be cut from it
slice_more : (n used : ℕ) (input more : List ℕ) → n ≤ length (drop used input)
    → take n (drop used (input ++ more)) ≡ take n (drop used input)
slice_more n zero input more h = take-append-le n input more h
slice_more zero (suc used) [] more h = refl
slice_more (suc n) (suc used) [] more h = absurd (omega arith)
slice_more n (suc used) (x ∷ input) more h = slice_more n used input more h

part_more : (part : List ℕ) (used : ℕ) (input more : List ℕ) → part ≡ take (length part) (drop used input)
    → part ≡ take (length part) (drop used (input ++ more))
part_more part used input more cut =
    cut ∙ sym (slice_more (length part) used input more
    (omega (arith, ap length cut, length-take (length part) (drop used input))))

-- so the calls on it are calls on the longer one
through_more : (input more : List ℕ) {begun l : SessionTables} {used : ℕ} {answers : List ℕ} → Through begun input used answers l
    → Through begun (input ++ more) used answers l
through_more input more (begins e) = begins e
through_more input more (goes {used} part r out calls cut made) =
    goes part r out (through_more input more calls) (part_more part used input more cut) made

-- ---- what was read and written so far
-- what is still to be fed stands at the front of the buffer: all that is read and not used. The tables, with so many start slots,
-- do for the session
pub record SoFar (begun : SessionTables) (slots : ℕ) (progress : Progress) (buffer : List ℕ) (t : Reserved) : Type 0 where
  pub input : List ℕ
  pub used : ℕ
  pub answers : List ℕ
  pub reads : List Got
  pub writes : List Write
  pub through :
      Through begun input used answers
      (record { session = progress.session; tables = t })
  pub read : used ≤ length input
  pub front : take progress.have buffer ≡ drop used input
  pub within : progress.have ≤ length buffer
  pub fits : do_fit progress.session (length t.waiting_table) (length t.client_numbers) slots ≡ true
  pub long : amount reads ≡ length input
  pub unreadable : Bool
  pub unwritten : Bool
  pub delivers : Delivers progress.ended unreadable reads
  pub written : Writes unwritten writes
  pub failed : progress.failure ≡ failure_of unreadable unwritten

-- one, where lines may be left that the turn before had no room to answer: that turn used some of the buffer
abbrev spare : Bool → ℕ
spare true = 1
spare false = 0

-- so many turns are made: where no lines are left, the beginning of a frame at most is still to be fed
pub record AfterTurns (begun : SessionTables) (slots turns : ℕ) (progress : Progress) (buffer : List ℕ) (t : Reserved) : Type 0 where
  pub stands : SoFar begun slots progress buffer t
  pub handed : Handed progress.ended stands.input stands.answers (handed_to stands.writes)
  pub begun_left : progress.full ≡ false → (progress.have ≤ longest_frame) × NoFeed stands.input stands.used (length stands.input)
  pub spent : progress.ended ≡ false → turns + spare progress.full ≤ stands.used + length stands.input

-- before a feed: more was read, or lines were left, or the input is at its end
pub record BeforeFeed (begun : SessionTables) (slots turns : ℕ) (progress : Progress) (buffer : List ℕ) (t : Reserved) : Type 0 where
  pub stands : SoFar begun slots progress buffer t
  pub handed : handed_to stands.writes ≡ stands.answers
  pub whole : progress.ended ≡ true → NoFeed stands.input stands.used (length stands.input)
  pub good : stands.unwritten ≡ false
  pub spent : progress.ended ≡ false → turns + 1 ≤ stands.used + length stands.input

pub loop_begins : {progress : Progress} {buffer : List ℕ} (ws : List Request) (xs : List ℕ) → progress ≡ at_first → length ws ≡ 2048
    → length xs ≡ 768 → AfterTurns (first (reserved_of ws xs)) 2048 0 progress buffer (reserved_of ws xs)
unfolding do_fit
loop_begins {buffer = buffer} ws xs e ws-long xs-long =
    subst (λ (progress : Progress). AfterTurns (first (reserved_of ws xs)) 2048 0 progress buffer (reserved_of ws xs)) (sym e)
    (record {
      stands =
          record {
            input = [];
            used = 0;
            answers = [];
            reads = [];
            writes = [];
            through = begins refl;
            read = omega arith;
            front = refl;
            within = omega arith;
            fits = rw (ws-long, xs-long);
            long = refl;
            unreadable = false;
            unwritten = false;
            delivers = (refl, tt);
            written = tt;
            failed = refl;
          };
      handed = refl;
      begun_left = λ _. (omega arith, λ k h l g. absurd (omega arith));
      spent = λ _. omega arith;
    })

-- a turn is made only where neither the input's end nor a failure stopped the program
not_ended : (progress : Progress) → is_over progress ≡ false → progress.ended ≡ false
not_ended progress going = go progress.ended going
  where
    go : (ended : Bool) → (ended || is_some progress.failure) ≡ false → ended ≡ false
    go true e = e
    go false e = refl

none_failed : (progress : Progress) (unreadable unwritten : Bool) → is_over progress ≡ false → progress.failure ≡ failure_of unreadable unwritten
    → (unreadable ≡ false) × (unwritten ≡ false)
none_failed progress unreadable unwritten going e = go unreadable unwritten (rw (not_ended progress going, e) at going)
  where
    go : (unreadable unwritten : Bool) → is_some (failure_of unreadable unwritten) ≡ false → (unreadable ≡ false) × (unwritten ≡ false)
    go unreadable true f = absurd (false≢true (sym f))
    go true false f = absurd (false≢true (sym f))
    go false false f = (refl, refl)

-- a read delivers no more than it is handed room for, and nothing where it failed
at_most : (n : ℕ) (answer : Result ℕ Failure) → Moved n answer → result_unwrap_or answer 0 ≤ n
at_most n (Ok k) h = h
at_most n (Err failure) h = omega arith

failed_none : (answer : Result ℕ Failure) → is_err answer ≡ true → result_unwrap_or answer 0 ≡ 0
failed_none (Ok k) e = absurd (false≢true e)
failed_none (Err failure) e = refl

-- what a read and a write say of a failure
read_failure : (n : ℕ) (answer : Result ℕ Failure) → Moved n answer → result_err answer ≡ failure_of (is_err answer) false
read_failure n (Ok k) h = refl
read_failure n (Err failure) h = ap Some h

some : (n : ℕ) → eqb n 0 ≡ false → 0 < n
some zero e = absurd (eqb-false 0 0 e refl)
some (suc n) e = omega arith

-- ---- a read
module _ {begun : SessionTables} {slots turns : ℕ} {progress : Progress} {buffer : List ℕ} {t : Reserved}
    (before : AfterTurns begun slots turns progress buffer t) (going : is_over progress ≡ false) where
  -- what `read_on` asks
  pub can_read : CanRead progress.full progress
  can_read = go progress.full before.begun_left
    where
      go : (full : Bool) → (full ≡ false → (progress.have ≤ longest_frame) × NoFeed before.stands.input before.stands.used (length before.stands.input))
          → CanRead full progress
      go true left = tt
      go false left = omega (arith, (left refl).0)

  open_input : progress.ended ≡ false
  open_input = not_ended progress going

  good : (before.stands.unreadable ≡ false) × (before.stands.unwritten ≡ false)
  good = none_failed progress before.stands.unreadable before.stands.unwritten going before.stands.failed

  handed_all : handed_to before.stands.writes ≡ before.stands.answers
  handed_all = rw open_input at before.handed

  all_deliver : AllDeliver before.stands.reads
  all_deliver =
      (subst (λ (ended : Bool). Delivers ended before.stands.unreadable before.stands.reads) open_input before.stands.delivers).1

  -- lines are left
  reads_none : progress.full ≡ true → BeforeFeed begun slots turns progress buffer t
  reads_none full =
      record {
        stands = before.stands;
        handed = handed_all;
        whole = λ e. absurd (false≢true (sym open_input ∙ e));
        good = good.1;
        spent =
            λ e.
            subst (λ (full : Bool). turns + spare full ≤ before.stands.used + length before.stands.input) full (before.spent e);
      }

  -- none are left, and this was read
  module _ (none : progress.full ≡ false) (buffer' : List ℕ) (got : Got)
      (behind : ReadBehind progress.have buffer buffer' got) (room : progress.have + delivered_by got ≤ length buffer') where
    abbrev more : List ℕ
    more = take (delivered_by got) (drop progress.have buffer')

    more_long : length more ≡ delivered_by got
    more_long = length-take-le (delivered_by got) (drop progress.have buffer') (omega (arith, room, length-drop progress.have buffer'))

    read_delivers : (ended : Bool) → eqb (delivered_by got) 0 ≡ ended → Delivers ended (is_failed got) (got ∷ before.stands.reads)
    read_delivers true e = (eqb-true (delivered_by got) 0 e, refl, all_deliver)
    read_delivers false e = (no_failure (is_failed got) refl, (some (delivered_by got) e, all_deliver))
      where
        no_failure : (failed : Bool) → is_failed got ≡ failed → failed ≡ false
        no_failure true f = absurd (eqb-false (delivered_by got) 0 e (failed_none got.answer f))
        no_failure false f = refl

    reads_some : BeforeFeed begun slots turns (after_read progress got) buffer' t
    reads_some =
        let stands = before.stands in
        let input : List ℕ = stands.input in
        record {
          stands =
              record {
                input = input ++ more;
                used = stands.used;
                answers = stands.answers;
                reads = got ∷ stands.reads;
                writes = stands.writes;
                through = through_more input more stands.through;
                read = omega (arith, stands.read, length-append input more);
                front =
                    take-add progress.have (delivered_by got) buffer'
                    ∙ ap (λ (l : List ℕ). l ++ more) (behind.0 ∙ stands.front)
                    ∙ sym (drop-append-le stands.used input more stands.read);
                within = room;
                fits = stands.fits;
                long = omega (arith, stands.long, more_long, length-append input more);
                unreadable = is_failed got;
                unwritten = stands.unwritten;
                delivers = read_delivers (eqb (delivered_by got) 0) refl;
                written = stands.written;
                failed = rw good.1 (read_failure (buffer_length - progress.have) got.answer behind.1);
              };
          handed = handed_all;
          whole =
              λ e.
              let nothing : more ≡ [] = ap (λ (n : ℕ). take n (drop progress.have buffer')) (eqb-true (delivered_by got) 0 e) in
              rw (nothing, append-nil input) (before.begun_left none).1;
          good = good.1;
          spent =
              λ e.
              omega (arith, some (delivered_by got) e, more_long, length-append input more, before.spent open_input);
        }

  pub reads_on : (buffer' : List ℕ) (r : Progress) → ReadsOn progress.full progress buffer buffer' r → length buffer' ≡ buffer_length
      → BeforeFeed begun slots turns r buffer' t
  reads_on buffer' r reads long' = go progress.full refl reads
    where
      go : (full : Bool) → progress.full ≡ full → ReadsOn full progress buffer buffer' r → BeforeFeed begun slots turns r buffer' t
      go true full same = rw (same.0, same.1) (reads_none full)
      go false full read =
          let room : progress.have < buffer_length = subst (λ (full : Bool). CanRead full progress) full can_read in
          subst (λ (r : Progress). BeforeFeed begun slots turns r buffer' t) (sym read.is)
          (reads_some full buffer' read.got read.behind
          (omega (arith, room, long', at_most (buffer_length - progress.have) read.got.answer read.behind.1)))

-- ---- a feed, and the write of its answers
module _ {begun : SessionTables} {slots turns : ℕ} {progress : Progress} {fed : Fed} {buffer : List ℕ} {t t' : Reserved}
    {starts out out' : List ℕ}
    (feeds : BeforeFeed begun slots turns progress buffer t) (slots-are : length starts ≡ slots)
    (f : FedBy progress.session (take progress.have buffer) t starts out
    fed t' out') where
  do_fit_lem : fits_in progress.session t starts ≡ true
  do_fit_lem = rw slots-are feeds.stands.fits

  pub fed_within : fed.used ≤ progress.have
  fed_within = omega (arith, f.within, length-take-le progress.have buffer feeds.stands.within)

  abbrev stands : SoFar begun slots progress buffer t
  stands = feeds.stands

  abbrev input : List ℕ
  input = stands.input

  have_is : progress.have ≡ length input - stands.used
  have_is =
      omega (arith, ap length stands.front, stands.within, length-take progress.have buffer, length-drop stands.used input)

  module _ (answer_fits : most_bytes ≤ length out) {r : Progress} {buffer' out'' : List ℕ} (on : GoesOn progress fed buffer out' buffer' out'' r)
      (buffer_long : length buffer' ≡ length buffer) where
    abbrev w : Write
    w = record { out = out''; receipt = on.receipt }

    all_written : AllWritten stands.writes
    all_written = subst (λ (unwritten : Bool). Writes unwritten stands.writes) feeds.good stands.written

    writes_on : (answer : Result Unit Failure) → on.receipt.answer ≡ answer → Writes (is_err answer) (w ∷ stands.writes)
    writes_on (Ok done) e = (ap is_ok e, all_written)
    writes_on (Err failure) e = (ap is_ok e, all_written)

    failed_on : (answer : Result Unit Failure) → IfErr answer (λ failure. failure ≡ Unwritten)
        → option_or (result_err answer) progress.failure ≡ failure_of stands.unreadable (is_err answer)
    failed_on (Ok done) h = stands.failed ∙ ap (failure_of stands.unreadable) feeds.good
    failed_on (Err failure) h = ap Some h

    handed_on : (ended : Bool) → progress.ended ≡ ended → take on.receipt.asked out'' ≡ to_write ended progress fed out'
        → Handed ended input (stands.answers ++ take fed.put out') (handed_to (w ∷ stands.writes))
    handed_on true e h =
        rw (h, feeds.handed)
        (ap (λ (n : ℕ). stands.answers ++ owed progress.session.skip n) have_is
        ∙ parts_together input stands.through (feeds.whole e))
    handed_on false e h = rw (h, feeds.handed)

    left_on : fed.full ≡ false → (progress.have - fed.used ≤ longest_frame) × NoFeed input (stands.used + fed.used) (length input)
    left_on e =
        let left =
        subst
        (λ (full : Bool). LeftOver full (take progress.have buffer) fed.used
        (can_with fed t starts out)) e f.left
        in (
          omega (arith, left.0, length-take-le progress.have buffer stands.within),
          no_feed_left input stands.used stands.front f e,
        )

    -- a turn that leaves lines used some of the buffer
    spare_used : (full : Bool) → fed.full ≡ full → spare full ≤ fed.used
    spare_used true e = omega (arith, feeds_on f do_fit_lem answer_fits e)
    spare_used false e = omega arith

    pub feeds_through : AfterTurns begun slots (turns + 1) r buffer' t'
    feeds_through =
        let part : List ℕ = take progress.have buffer in
        let used_first : fed.used + (progress.have - fed.used) ≡ progress.have = omega (arith, fed_within) in
        subst (λ (r : Progress). AfterTurns begun slots (turns + 1) r buffer' t') (sym on.is)
        (record {
          stands =
              record {
                input = input;
                used = stands.used + fed.used;
                answers = stands.answers ++ take fed.put out';
                reads = stands.reads;
                writes = w ∷ stands.writes;
                through =
                    goes part fed out' stands.through (sym (take-length part) ∙ ap (take (length part)) stands.front)
                    (record { session_kept = refl; starts = starts; out₀ = out; fed = f });
                read = omega (arith, stands.read, fed_within, have_is);
                front =
                    on.unused ∙ sym (rw used_first at (drop-take fed.used (progress.have - fed.used) buffer))
                    ∙ ap (drop fed.used) stands.front ∙ drop-drop fed.used stands.used input;
                within = omega (arith, buffer_long, stands.within);
                fits =
                    rw (f.long.waiting_long, f.long.numbers_long, sym slots-are)
                    (f.fits do_fit_lem);
                long = stands.long;
                unreadable = stands.unreadable;
                unwritten = is_err on.receipt.answer;
                delivers = stands.delivers;
                written = writes_on on.receipt.answer refl;
                failed = failed_on on.receipt.answer on.fails;
              };
          handed = handed_on progress.ended refl on.handed;
          begun_left = left_on;
          spent = λ e. omega (arith, feeds.spent e, spare_used fed.full refl);
        })

-- ---- a turn
pub turn_made : {begun : SessionTables} {slots turns : ℕ} {progress read r : Progress} {fed : Fed} {buffer buffer' buffer'' : List ℕ}
    {t t' : Reserved} {starts out out' out'' : List ℕ} → AfterTurns begun slots turns progress buffer t → is_over progress ≡ false
    → ReadsOn progress.full progress buffer buffer' read → length buffer' ≡ buffer_length
    → length starts ≡ slots → FedBy read.session (take read.have buffer') t starts out fed t' out' → most_bytes ≤ length out
    → GoesOn read fed buffer' out' buffer'' out'' r → length buffer'' ≡ buffer_length → AfterTurns begun slots (turns + 1) r buffer'' t'
turn_made {read = read} {buffer' = buffer'} after going reads long' slots-are f answer_fits on long'' =
    feeds_through (reads_on after going buffer' read reads long') slots-are f answer_fits on (long'' ∙ sym long')

-- ---- the end
pub loop_ends : {progress : Progress} {slots turns : ℕ} {buffer : List ℕ} {t₀ t : Reserved} → AfterTurns (first t₀) slots turns progress buffer t
    → (is_over progress ≡ false → turns ≡ largest64) → ProgramRan t₀ t progress
loop_ends {progress} after over =
    let stands = after.stands in
    record {
      input = stands.input;
      used = stands.used;
      answers = stands.answers;
      reads = stands.reads;
      writes = stands.writes;
      through = stands.through;
      long = stands.long;
      unreadable = stands.unreadable;
      unwritten = stands.unwritten;
      delivers = stands.delivers;
      handed = after.handed;
      written = stands.written;
      failed = stands.failed;
      stops = λ going. omega (arith, over going, after.spent (not_ended progress going), stands.read);
    }
