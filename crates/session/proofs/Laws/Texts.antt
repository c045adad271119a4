-- Laws of texts: characters read behind others, with and without a line feed, and the lines that are read one after the other.
-- Assumes nothing.
use Prim.Native.Nat.{ℕ, zero, suc, ◌+◌, ◌-◌, ◌≤◌, ◌<◌}
use mathlib.Core.Bool.{Bool, true, false, cond}
use mathlib.Core.List.{List, [], ◌∷◌, ◌++◌, append_assoc}
use mathlib.Core.Path.{◌≡◌, refl, sym, ap, ◌∙◌}
use native.Mathlib.Omega.{arith}
use borrow.Author.Tests.{eqb-false, ne_eqb}
use lib.Dec.{eqb}
use lib.ListN.{length, take, drop, length-take, length-drop}
use lib.Seq.{take-add, take-suc, get_or-take, get_or-drop}
use Rattle.spec.specs.Tables.{State}
use Rattle.spec.specs.Lines.Frames.{line_feed, frame_of}
use Rattle.spec.specs.Lines.Session.{Text, in_front, read, text_of, line_outcome, replies}
use Rattle.spec.proofs.Laws.Digits.{Clean}
use Rattle.spec.proofs.Lists.Printed.{text_first}
use Rattle.frame.specs.Lines.{NoFeed, FirstFeed, slice}
use Rattle.session.specs.Standing.{state_after}

-- ---- texts
-- the text that has begun a line only, and the one that has ended a line only
abbrev pub begun : List ℕ → Text
begun p = record { lines = []; rest = p }

abbrev pub ended : List ℕ → Text
ended line = record { lines = line ∷ []; rest = [] }

-- a text, and characters read behind it
abbrev pub read_on : Text → List ℕ → Text
read_on t ys = record { lines = t.lines ++ (text_of (t.rest ++ ys)).lines; rest = (text_of (t.rest ++ ys)).rest }

read_on_lem : (b : ℕ) (ls : List (List ℕ)) (r ys : List ℕ)
    → read b (read_on (record { lines = ls; rest = r }) ys) ≡ read_on (read b (record { lines = ls; rest = r })) ys
unfolding text_of
read_on_lem b ls r ys = go (eqb b line_feed) refl ls
  where
    go : (c : Bool) → eqb b line_feed ≡ c → (ls : List (List ℕ))
        → read b (read_on (record { lines = ls; rest = r }) ys) ≡ read_on (read b (record { lines = ls; rest = r })) ys
    go true e ls = rw e
    go false e [] = simp e
    go false e (l ∷ ls) = rw e

pub text_append : (xs ys : List ℕ) → text_of (xs ++ ys) ≡ read_on (text_of xs) ys
unfolding text_of
text_append [] ys = refl
text_append (b ∷ xs) ys = ap (read b) (text_append xs ys) ∙ read_on_lem b (text_of xs).lines (text_of xs).rest ys

-- ---- characters without a line feed
pub text_none : text_of [] ≡ begun []
unfolding text_of
text_none = refl

front_clean : (b : ℕ) (xs : List ℕ) → NoFeed (b ∷ xs) 0 (length (b ∷ xs)) → eqb b line_feed ≡ false
front_clean b xs h = ne_eqb b line_feed (h 0 (omega arith) (omega arith))

behind_clean : (b : ℕ) (xs : List ℕ) → NoFeed (b ∷ xs) 0 (length (b ∷ xs)) → NoFeed xs 0 (length xs)
behind_clean b xs h = λ k f l e. h (suc k) (omega arith) (omega arith) e

-- they begin a line
pub text_clean : (xs : List ℕ) → NoFeed xs 0 (length xs) → text_of xs ≡ begun xs
unfolding text_of
text_clean [] h = refl
text_clean (b ∷ xs) h = rw (front_clean b xs h, text_clean xs (behind_clean b xs h))

-- and with a line feed behind them they are a line
clean : (xs : List ℕ) → NoFeed xs 0 (length xs) → Clean xs
clean [] h = tt
clean (b ∷ xs) h = (front_clean b xs h, clean xs (behind_clean b xs h))

pub text_line : (xs : List ℕ) → NoFeed xs 0 (length xs) → text_of (xs ++ (line_feed ∷ [])) ≡ ended xs
unfolding text_of
text_line xs h = text_first xs [] (clean xs h)

-- a line that is begun has none
begun_front : (b : ℕ) (t : Text) (p : List ℕ) → read b t ≡ begun (b ∷ p) → (eqb b line_feed ≡ false) × (t ≡ begun p)
begun_front b t p = go (eqb b line_feed) t.lines t.rest
  where
    no_line : (l : List ℕ) (ls : List (List ℕ)) (r : List ℕ) → record { lines = l ∷ ls; rest = r } ≡ begun (b ∷ p) → ⊥
    no_line l ls r e = let n : suc (length ls) ≡ 0 = ap (λ (t : Text). length t.lines) e in omega arith

    go : (c : Bool) (ls : List (List ℕ)) (r : List ℕ)
        → cond c (record { lines = [] ∷ ls; rest = r }) (in_front b ls r) ≡ begun (b ∷ p)
        → (c ≡ false) × (record { lines = ls; rest = r } ≡ begun p)
    go true ls r e = absurd (no_line [] ls r e)
    go false [] r e = (refl, ap (λ (t : Text). begun (drop 1 t.rest)) e)
    go false (l ∷ ls) r e = absurd (no_line (b ∷ l) ls r e)

begun_clean : (p : List ℕ) → text_of p ≡ begun p → NoFeed p 0 (length p)
unfolding text_of
begun_clean [] e k f l g = absurd (omega arith)
begun_clean (b ∷ p) e zero f l g = absurd (eqb-false b line_feed (begun_front b (text_of p) p e).0 g)
begun_clean (b ∷ p) e (suc k) f l g = begun_clean p (begun_front b (text_of p) p e).1 k (omega arith) (omega arith) g

-- so characters without one go on with it, and a line feed behind them ends it
append_clean : (p xs : List ℕ) → text_of p ≡ begun p → NoFeed xs 0 (length xs) → NoFeed (p ++ xs) 0 (length (p ++ xs))
append_clean p xs b h = go p (begun_clean p b)
  where
    go : (p : List ℕ) → NoFeed p 0 (length p) → NoFeed (p ++ xs) 0 (length (p ++ xs))
    go [] g k f l e = h k f l e
    go (x ∷ p) g zero f l e = g 0 (omega arith) (omega arith) e
    go (x ∷ p) g (suc k) f l e = go p (behind_clean x p g) k (omega arith) (omega arith) e

pub text_goes_on : (p xs : List ℕ) → text_of p ≡ begun p → NoFeed xs 0 (length xs) → text_of (p ++ xs) ≡ begun (p ++ xs)
text_goes_on p xs b h = text_clean (p ++ xs) (append_clean p xs b h)

pub text_ends : (p xs : List ℕ) → text_of p ≡ begun p → NoFeed xs 0 (length xs)
    → text_of (p ++ (xs ++ (line_feed ∷ []))) ≡ ended (p ++ xs)
text_ends p xs b h =
    rw (← append_assoc p xs (line_feed ∷ [])) (text_line (p ++ xs) (append_clean p xs b h))

-- ---- the characters of an input from an index up to another
module _ (input : List ℕ) (used end : ℕ) where
  pub take_slice : used ≤ end → take end input ≡ take used input ++ slice used end input
  take_slice h = let s : used + (end - used) ≡ end = omega arith in rw s at (take-add used (end - used) input)

  slice_clean : NoFeed input used end → NoFeed (slice used end input) 0 (length (slice used end input))
  slice_clean h k f l e =
      let m : k < end - used = omega (arith, length-take (end - used) (drop used input)) in
      h (used + k) (omega arith) (omega arith)
      (sym (get_or-take (end - used) (drop used input) k 0 m ∙ get_or-drop used input k 0) ∙ e)

  slice_line : FirstFeed input used end → slice used (end + 1) input ≡ slice used end input ++ (line_feed ∷ [])
  slice_line h =
      let long : end + 1 - used ≡ suc (end - used) = omega (arith, h.from) in
      let at : used + (end - used) ≡ end = omega (arith, h.from) in
      let within : end - used < length (drop used input) = omega (arith, h.from, h.within, length-drop used input) in
      rw (long, take-suc (drop used input) (end - used) 0 within, get_or-drop used input (end - used) 0, at, h.feed)

  -- behind the line p
  pub slice_goes_on : (p : List ℕ) → text_of p ≡ begun p → NoFeed input used end
      → text_of (p ++ slice used end input) ≡ begun (p ++ slice used end input)
  slice_goes_on p b h = text_goes_on p (slice used end input) b (slice_clean h)

  pub slice_ends : (p : List ℕ) → text_of p ≡ begun p → FirstFeed input used end
      → text_of (p ++ slice used (end + 1) input) ≡ ended (p ++ slice used end input)
  slice_ends p b h = rw (slice_line h) (text_ends p (slice used end input) b (slice_clean h.before))

-- ---- lines
pub state_append : (s : State) (ls ms : List (List ℕ)) → state_after s (ls ++ ms) ≡ state_after (state_after s ls) ms
unfolding state_after
state_append s [] ms = refl
state_append s (l ∷ ls) ms = state_append (line_outcome (frame_of l) s).after ls ms

pub replies_append : (s : State) (ls ms : List (List ℕ)) → replies s (ls ++ ms) ≡ replies s ls ++ replies (state_after s ls) ms
unfolding replies state_after
replies_append s [] ms = refl
replies_append s (l ∷ ls) ms =
    let t : State = (line_outcome (frame_of l) s).after in
    rw (replies_append t ls ms) (sym (append_assoc (line_outcome (frame_of l) s).bytes (replies t ls) (replies (state_after t ls) ms)))
