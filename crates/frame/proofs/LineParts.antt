-- The characters of a line, and where it is read up to: one index alone, as `Lines.Behind` says it of a buffer and an index. Assumes
-- nothing.
use Prim.Native.Nat.{ℕ, ◌+◌, ◌-◌, ◌≤◌, ◌<◌}
use mathlib.Core.Bool.{Bool, true, false, cond}
use mathlib.Core.List.{List, []}
use mathlib.Core.Path.{◌≡◌, ◌∙◌, ap}
use native.Mathlib.Omega.{arith}
use lib.Dec.{leb}
use lib.ListN.{length, take, drop, drop_of_length-le, length-take, length-drop}
use lib.Seq.{take-length, get_or-drop}
use borrow.Author.Tests.{le-leb, lt-leb}
use Rattle.slots.proofs.Laws.Tests.{le, gt, order}
use Rattle.frame.specs.Lines.{NoFeed, FirstFeed, Behind, slice, part}

-- where they are a part of s
pub part_is : (s : List ℕ) (from end : ℕ) → from ≤ end → end ≤ length s → part s from end ≡ take (end - from) (drop from s)
part_is s from end p q = simp (le-leb _ _ p, le-leb _ _ q)

-- a part ends within s
pub part_long : (s : List ℕ) (from end : ℕ) → from ≤ length s → from + length (part s from end) ≤ length s
part_long s from end p = go (leb from end) (leb end (length s))
  where
    go : (x y : Bool) → from + length (cond x (cond y (slice from end s) []) []) ≤ length s
    go true true = omega (arith, p, length-take (end - from) (drop from s), length-drop from s)
    go true false = omega (arith, p)
    go false y = omega (arith, p)

-- all that is left
left_is : (s : List ℕ) (at : ℕ) → part s at (length s) ≡ drop at s
left_is s at =
    elim (order at (length s)) [
      | le k ↦ rw (part_is s at (length s) k (omega arith), ← length-drop at s, take-length)
      | gt k ↦ rw (lt-leb _ _ k, drop_of_length-le s {i = at} (omega arith))
    ]

-- ---- where it is read up to
-- behind the line feed of what is left, or nowhere
module _ (s left : List ℕ) (at : ℕ) (rest : left ≡ part s at (length s)) where
  same : left ≡ drop at s
  same = rest ∙ left_is s at

  pub behind_feed : (n : ℕ) → FirstFeed left 0 n → Behind s at (at + n + 1)
  behind_feed n f =
      let within : at + n < length s = omega (arith, ap length same, length-drop at s, f.within) in
      let e : at + n + 1 - 1 ≡ at + n = omega arith in
      record {
        onward = omega arith;
        whole = λ _. rw e (record {
          from = omega arith;
          within = within;
          feed = rw (same, get_or-drop at s n 0) at f.feed;
          before = λ k p q x.
              let there : at + (k - at) ≡ k = omega arith in
              f.before (k - at) (omega arith) (omega arith) (rw (same, get_or-drop at s (k - at) 0, there) x);
        });
        begun = λ e. absurd (omega arith);
      }

  pub behind_none : NoFeed left 0 (length left) → Behind s at at
  behind_none none =
      record {
        onward = omega arith;
        whole = λ h. absurd (omega arith);
        begun = λ _ k p q x.
            let there : at + (k - at) ≡ k = omega arith in
            none (k - at) (omega arith) (omega (arith, ap length same, length-drop at s))
            (rw (same, get_or-drop at s (k - at) 0, there) x);
      }

-- the first line feed does not stand behind another
no_later : {s : List ℕ} {at e f : ℕ} → FirstFeed s at e → FirstFeed s at f → f ≤ e
no_later {e = e} {f} a b =
    elim (order f e) [
      | le k ↦ k
      | gt k ↦ absurd (b.before e a.from (omega arith) a.feed)
    ]

no_further : (s : List ℕ) (at a b : ℕ) → Behind s at a → Behind s at b → b ≤ a
no_further s at a b p q =
    elim (order b a) [
      | le k ↦ k
      | gt k ↦ elim (order a at) [
        | le j ↦ let e = q.whole (omega (arith, p.onward)) in absurd (p.begun (omega (arith, p.onward)) (b - 1) e.from e.within e.feed)
        | gt j ↦ omega (arith, no_later (p.whole j) (q.whole (omega arith)))
      ]
    ]

pub behind_one : (s : List ℕ) (at a b : ℕ) → Behind s at a → Behind s at b → a ≡ b
behind_one s at a b p q = omega (arith, no_further s at a b p q, no_further s at b a q p)
