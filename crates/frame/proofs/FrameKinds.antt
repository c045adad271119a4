-- Laws of frames: a line of digits is what its kind byte and its length make it, and which lines are none. Assumes nothing.
use Prim.Native.Nat.{ℕ, ◌≤◌}
use mathlib.Core.Path.{◌≡◌, refl, ◌∙◌}
use mathlib.Core.Bool.{true, false, cond, and-false}
use mathlib.Core.List.{List, [], ◌∷◌, map}
use native.Mathlib.Omega.{arith}
use borrow.Author.Tests.{ne_eqb, eq-eqb}
use lib.Dec.{eqb}
use lib.ListN.{length}
use Rattle.slots.proofs.Laws.Sums.{All}
use Rattle.spec.specs.declared.types.Frame.TheVariants.{Bad}
use Rattle.spec.specs.Every.{every, largest}
use Rattle.spec.specs.Lines.Frames.{is_digit, field_at, FrameKind, digits_for, frame_kinds, frame_among, frame_with, frame_in, frame_of}
use Rattle.frame.specs.declared.frames.Kind.{Kind}
use Rattle.frame.specs.declared.frames.Kind.TheVariants.{Open, Submit, Tick, Report, Chart}
use Rattle.frame.specs.Kinds.{named}
use Rattle.spec.specs.Lines.Frames.{longest_frame}
use Rattle.spec.proofs.Laws.Every.{is_true, is_false, value}

-- a line of digits is the frame of a kind of the list, and any other line is none
pub frame_digits : (line : List ℕ) → every is_digit line ≡ true
    → frame_of line ≡ frame_among frame_kinds (field_at 0 1 line) (length line) line
unfolding frame_of frame_with
frame_digits line e = rw e

pub frame_other : (line : List ℕ) → every is_digit line ≡ false → frame_of line ≡ Bad
unfolding frame_of
frame_other line e = rw e

-- what is no frame of a list of kinds
module _ (byte count : ℕ) (line : List ℕ) where
  -- "an unknown kind"
  pub unknown_kind : (kinds : List FrameKind) → All (λ (kind : FrameKind). byte ≡ kind.kind → ⊥) kinds
      → frame_among kinds byte count line ≡ Bad
  unknown_kind [] none = refl
  unknown_kind (kind ∷ kinds) none = rw (ne_eqb byte kind.kind none.0) (unknown_kind kinds none.1)

  -- "a wrong length": fewer digits than a kind byte has, or more than the longest of them
  no_length : (kinds : List FrameKind)
      → (2 ≤ count → count ≤ largest (map (λ (kind : FrameKind). digits_for kind.widths) kinds) → ⊥)
      → frame_among kinds byte count line ≡ Bad
  no_length [] none = refl
  no_length (kind ∷ kinds) none =
      rw (ne_eqb count (digits_for kind.widths) (λ e. none (omega arith) (omega arith)), and-false)
      (no_length kinds (λ p q. none p (omega arith)))

pub frame_length : (line : List ℕ) → (2 ≤ length line → length line ≤ longest_frame → ⊥) → frame_of line ≡ Bad
frame_length line none =
    elim (value (every is_digit line)) [
      | is_true e ↦ frame_digits line e ∙ no_length (field_at 0 1 line) (length line) line frame_kinds none
      | is_false e ↦ frame_other line e
    ]

-- a line of digits whose kind byte is read
module _ (line digits : List ℕ) (byte : ℕ) (same : digits ≡ line) (all : every is_digit digits ≡ true) (read : byte ≡ field_at 0 1 digits) where
  with_byte : frame_of line ≡ frame_among frame_kinds byte (length line) line
  with_byte = rw (read, ← same) (frame_digits digits all)

  pub frame_unknown : ((kind : Kind) → byte ≡ (named kind).kind → ⊥) → frame_of line ≡ Bad
  frame_unknown none =
      with_byte ∙ unknown_kind byte (length line) line frame_kinds (none Open, (none Submit, (none Tick, (none Report, (none Chart, tt)))))

  -- of a kind that the code names, by its length
  of_kind : (kind : Kind) → byte ≡ (named kind).kind
      → frame_among frame_kinds byte (length line) line
      ≡ cond (eqb (length line) (digits_for (named kind).widths)) (frame_in (named kind) line) Bad
  of_kind Open e = rw e
  of_kind Submit e = rw e
  of_kind Tick e = rw e
  of_kind Report e = rw e
  of_kind Chart e = rw e

  pub frame_short : (kind : Kind) → byte ≡ (named kind).kind → (length line ≡ digits_for (named kind).widths → ⊥)
      → frame_of line ≡ Bad
  frame_short kind e other = with_byte ∙ rw (of_kind kind e, ne_eqb (length line) (digits_for (named kind).widths) other)

  pub frame_known : (kind : Kind) → byte ≡ (named kind).kind → length line ≡ digits_for (named kind).widths
      → frame_of line ≡ frame_in (named kind) digits
  frame_known kind e long = with_byte ∙ rw (of_kind kind e, eq-eqb (length line) (digits_for (named kind).widths) long, same)
