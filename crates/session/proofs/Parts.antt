-- The theorem of the crate: an input that is fed in parts gets the answers of the session definition. Assumes nothing.
use Prim.Native.Nat.{ℕ, ◌+◌, ◌-◌, ◌≤◌, ◌<◌}
use mathlib.Core.Bool.{Bool, true, false, false≢true}
use mathlib.Core.List.{List, [], ◌∷◌, ◌++◌, append-nil}
use mathlib.Core.Path.{◌≡◌, refl, sym, ap, ◌∙◌}
use native.Mathlib.Omega.{arith}
use borrow.Author.Tests.{le-leb}
use lib.Dec.{leb}
use lib.ListN.{length, get_or, take, drop, replicate, length-take, length-drop}
use lib.Seq.{take-length, take-take, take-add, get_or-drop}
use Rattle.slots.proofs.Laws.Tests.{le, gt, order}
use Rattle.spec.specs.Tables.{State}
use Rattle.spec.specs.Lines.Frames.{longest_frame}
use Rattle.spec.specs.Lines.Session.{Text, text_of, replies, at_end, session, at_start as state_at_start}
use Rattle.spec.proofs.Laws.Every.{and_both}
use Rattle.frame.specs.Lines.{NoFeed, slice}
use Rattle.frame.specs.LineLengths.{most_bytes}
use Rattle.session.specs.declared.types.Session.{Session}
use Rattle.session.specs.declared.types.Fed.{Fed}
use Rattle.session.specs.Standing.{Reserved, held_in, fits_in, Begun, Reached, Leads}
use Rattle.session.specs.Feeding.{FedBy, LeftOver, can_with, owed}
use Rattle.session.specs.Parts.{session_start, SessionTables, Made, Through, begins, goes}
use Rattle.session.proofs.Laws.Texts.{begun, text_append, slice_goes_on, take_slice}
use Rattle.session.proofs.Laws.Leads.{begun_text, leads_none, leads_then}

-- ---- the calls one after the other
abbrev held : SessionTables → State
held l = held_in l.session l.tables

-- what is used of the input leads to what is written, whatever calls used it
record LedBy (input : List ℕ) (used : ℕ) (answers : List ℕ) (l : SessionTables) : Type 0 where
  within : used ≤ length input
  leads : Leads state_at_start false (take used input) (held l) l.session.skip answers

-- before the first call, where no table is in use
led_at_start : (input : List ℕ) (l : SessionTables) → l.session ≡ session_start → LedBy input 0 [] l
unfolding state_at_start
led_at_start input l e =
    record {
      within = omega arith;
      leads = rw e (leads_none state_at_start false);
    }

-- after another call
module _ (input : List ℕ) (used : ℕ) (answers : List ℕ) (before after : SessionTables) (part : List ℕ) (r : Fed) (out : List ℕ) where
  -- what the call used is the next of the input
  used_next : part ≡ take (length part) (drop used input) → r.used ≤ length part
      → take (used + r.used) input ≡ take used input ++ take r.used part
  used_next cut within =
      rw (ap (take r.used) cut ∙ take-take r.used (length part) (drop used input) within) (take-add used r.used input)

  led_on : part ≡ take (length part) (drop used input) → Made part before r out after → LedBy input used answers before
      → LedBy input (used + r.used) (answers ++ take r.put out) after
  led_on cut made led =
      let long = ap length cut ∙ length-take (length part) (drop used input) in
      record {
        within = omega (arith, led.within, made.fed.within, length-drop used input);
        leads =
            rw (made.session_kept, used_next cut made.fed.within)
            (leads_then state_at_start false (take used input) (held before) before.session.skip answers (take r.used part)
            (held_in r.session after.tables) r.session.skip
            (take r.put out) led.leads made.fed.leads);
      }

led_by : (input : List ℕ) {first l : SessionTables} {used : ℕ} {answers : List ℕ} → Through first input used answers l
    → LedBy input used answers l
led_by input {first} (begins e) = led_at_start input first e
led_by input (goes {used} {answers} {before} {after} part r out calls cut made) =
    led_on input used answers before after part r out cut made (led_by input calls)

-- ---- the end of the input
-- the last line's answer, by what is remembered of it
end_owed : (skip : Bool) (p l : List ℕ) → Begun skip p → at_end (p ++ l) ≡ owed skip (length l)
end_owed false p [] b = rw b
end_owed false p (x ∷ l) b = rw b
end_owed true [] l b = absurd (omega arith)
end_owed true (x ∷ p) l b = refl

-- where the rest has no line feed
module _ (input : List ℕ) (used : ℕ) (within : used ≤ length input) (no_feed : NoFeed input used (length input)) where
  last : List ℕ
  last = slice used (length input) input

  length_last : length last ≡ length input - used
  unfolding last
  length_last = omega (arith, length-take (length input - used) (drop used input), length-drop used input)

  text_last : (skip : Bool) → Begun skip (text_of (take used input)).rest
      → text_of input ≡ record { lines = (text_of (take used input)).lines; rest = (text_of (take used input)).rest ++ last }
  unfolding last
  text_last skip b =
      let t : Text = text_of (take used input) in
      ap text_of (sym (take-length input) ∙ take_slice input used (length input) within)
      ∙ text_append (take used input) last
      ∙ rw (slice_goes_on input used (length input) t.rest (begun_text skip t.rest b) no_feed, append-nil t.lines)

  session_is : (s : State) (skip : Bool) (o : List ℕ) → Leads state_at_start false (take used input) s skip o
      → session input ≡ o ++ owed skip (length input - used)
  unfolding session
  session_is s skip o leads =
      let t : Text = text_of (take used input) in
      let x : Reached state_at_start [] (take used input) s skip o = leads [] refl in
      rw (text_last skip x.begun, x.answers, end_owed skip t.rest last x.begun, length_last)

-- "whatever way the input is cut into parts, the answers together are those of the session definition"
pub parts_together : (input : List ℕ) {first l : SessionTables} {used : ℕ} {answers : List ℕ} → Through first input used answers l
    → NoFeed input used (length input) → answers ++ owed l.session.skip (length input - used) ≡ session input
parts_together input {l = l} {used = used} {answers = answers} calls no_feed =
    let led = led_by input calls in
    sym (session_is input used led.within no_feed (held l) l.session.skip answers led.leads)

-- so after a call that got all that was left and does not say that lines may be left
module _ (input : List ℕ) (used : ℕ) {part : List ℕ} {session : Session} {t : Reserved} {st out₀ : List ℕ} {r : Fed}
    {t' : Reserved} {out : List ℕ} (all : part ≡ drop used input)
    (f : FedBy session part t st out₀ r t' out) where
  pub no_feed_left : r.full ≡ false → NoFeed input (used + r.used) (length input)
  no_feed_left e = go r.full e f.left
    where
      go : (full : Bool) → full ≡ false → LeftOver full part r.used (can_with r t st out₀)
          → NoFeed input (used + r.used) (length input)
      go true e left k h l g = absurd (false≢true (sym e))
      go false e left k h l g =
          let at : used + (k - used) ≡ k = omega arith in
          let same : get_or part (k - used) 0 ≡ get_or input k 0 = rw (all, get_or-drop used input (k - used) 0, at) in
          left.1 (k - used) (omega arith) (omega (arith, ap length all, length-drop used input)) (same ∙ g)

pub all_fed : (input : List ℕ) {first before after : SessionTables} {used : ℕ} {answers part out : List ℕ} {r : Fed}
    → Through first input used answers before → part ≡ drop used input → Made part before r out after → r.full ≡ false
    → (answers ++ take r.put out) ++ owed after.session.skip (length input - (used + r.used)) ≡ session input
all_fed input {used = used} {part = part} {out = out} {r = r} calls all made e =
    parts_together input (goes part r out calls (sym (take-length part) ∙ ap (take (length part)) all) made)
    (no_feed_left input used all made.fed e)

-- ---- a call that can answer, and says that lines may be left, has used some of its part
-- of each kind some line can be begun
some_begun : (skip : Bool) → (p : List ℕ) × Begun skip p
unfolding text_of
some_begun false = ([], refl)
some_begun true = (replicate (longest_frame + 1) 0, (omega arith, refl))

-- no characters lead to no answer
leads_nothing : (s₀ : State) (skip₀ : Bool) (s : State) (skip : Bool) (o : List ℕ) → Leads s₀ skip₀ [] s skip o → o ≡ []
unfolding replies
leads_nothing s₀ skip₀ s skip o leads =
    let (p, b) = some_begun skip₀ in
    let e : text_of (p ++ []) ≡ begun p = rw (append-nil p) (begun_text skip₀ p b) in
    sym (leads p b).answers ∙ rw e

module _ {session : Session} {part : List ℕ} {t : Reserved} {starts out : List ℕ} {r : Fed}
    {t' : Reserved} {out' : List ℕ}
    (f : FedBy session part t starts out r t' out')
    (fits : fits_in session t starts ≡ true)
    (room : most_bytes ≤ length out) where
  put_none : r.used ≡ 0 → r.put ≡ 0
  put_none none =
      let nothing : take r.put out' ≡ [] =
      leads_nothing (held_in session t) session.skip
      (held_in r.session t') r.session.skip (take r.put out') (rw none at f.leads)
      in
      omega (arith, f.room, f.long.out_long, length-take r.put out', ap length nothing)

  can_still : r.used ≡ 0 → can_with r t starts out ≡ true
  can_still none =
      and_both (fits_in r.session t starts)
      (leb (r.put + most_bytes) (length out)) (f.fits fits)
      (le-leb (r.put + most_bytes) (length out) (omega (arith, put_none none)))

  pub feeds_on : r.full ≡ true → 0 < r.used
  feeds_on e =
      let cannot : can_with r t starts out ≡ false = rw e at f.left in
      elim (order r.used 0) [
        | le h ↦ absurd (false≢true (sym cannot ∙ can_still (omega arith)))
        | gt h ↦ h
      ]
