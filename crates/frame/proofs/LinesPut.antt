-- Laws of what is written one part behind the other: fields, lines, and the segments' lines. Assumes nothing.
use Prim.Native.Nat.{ℕ, suc, ◌+◌, ◌-◌, ◌*◌, ◌≤◌, ◌<◌}
use mathlib.Core.Bool.{Bool, true, false, cond}
use mathlib.Core.List.{List, [], ◌∷◌, ◌++◌, map, append_assoc, append-nil}
use mathlib.Core.Path.{◌≡◌, ap}
use native.Mathlib.Numerals.{add-one}
use native.Mathlib.Omega.{arith}
use borrow.Rule.Slice.PartMut.{put_mid, take_put, post_of}
use lib.ListN.{length, get_or, take, drop, drop_of_length-le, length-take, length-drop}
use lib.Seq.{take-add, drop_at, drop-cons, length-take-le}
use Rattle.std.proofs.lemmas.List.{take-append-le}
use Rattle.spec.specs.declared.types.Setup.{Setup}
use Rattle.spec.specs.Chart.{Segment, do_touch, join_left, segments_of}
use Rattle.spec.specs.Calls.Readings.{Field, field}
use Rattle.spec.specs.Lines.Frames.{line_feed, digits, field_digits, line_of, segment_lines}
use Rattle.occupancy.specs.Charted.{segment}
use Rattle.frame.specs.declared.answers.Field.{Field as WrittenField}
use Rattle.frame.specs.Written.{written}
use Rattle.frame.specs.LineLengths.{line_length}

-- ---- parts
-- what is written at the front of the part from a on stands behind the first a
pub written_behind : (a r : ℕ) (xs ys bytes : List ℕ) → a + r ≤ length xs → length ys ≡ length (take (length xs - a) (drop a xs))
    → take r ys ≡ bytes → take (a + r) (put_mid a (length xs - a) xs ys) ≡ take a xs ++ bytes
written_behind a r xs ys bytes h l e =
    let k = length xs - a in
    let m : a ≤ length xs = omega arith in
    let n : r ≤ length ys = omega (arith, l, length-take k (drop a xs), length-drop a xs) in
    rw (
      take-add a r (put_mid a k xs ys),
      take_put a k xs ys m,
      drop_at (take a xs) (ys ++ post_of a k xs) a (length-take-le a xs m),
      take-append-le r ys (post_of a k xs) n,
      e,
    )

-- where it ends
pub written_ends : (r most : ℕ) (xs bytes : List ℕ) → r ≤ length xs → r ≤ most → take r xs ≡ bytes
    → (r ≡ length bytes) × (r ≤ most) × (take r xs ≡ bytes)
written_ends r most xs bytes h m e = (omega (arith, length-take-le r xs h, ap length e), m, e)

-- ---- fields
pub field_first : (a : List ℕ) (kind : ℕ) (fs : List Field) → a ≡ digits 2 kind
    → a ++ field_digits fs ≡ field_digits (field 1 kind ∷ fs)
unfolding field_digits
field_first a kind fs e = rw e

pub field_more : (a b : List ℕ) (fs : List WrittenField) (i : ℕ) (d : WrittenField) → i < length fs
    → b ≡ a ++ digits (2 * (get_or fs i d).width) (get_or fs i d).value
    → b ++ field_digits (map written (drop (i + 1) fs)) ≡ a ++ field_digits (map written (drop i fs))
unfolding field_digits
field_more a b fs i d h e =
    rw (
      add-one,
      drop-cons fs i d h,
      e,
      append_assoc a (digits (2 * (get_or fs i d).width) (get_or fs i d).value) (field_digits (map written (drop (suc i) fs))),
    )

-- .. and how long what is left is
pub field_length : (fs : List WrittenField) (i : ℕ) (d : WrittenField) (count : ℕ) → i < length fs → count ≡ 2 * (get_or fs i d).width
    → count + line_length (map written (drop (i + 1) fs)) ≡ line_length (map written (drop i fs))
field_length fs i d count h e = rw (add-one, drop-cons fs i d h) (omega arith)

-- behind the last field the line feed
pub fields_end : (a : List ℕ) (kind : ℕ) (fs : List WrittenField) (i : ℕ) → length fs ≤ i
    → a ++ field_digits (map written (drop i fs)) ≡ field_digits (field 1 kind ∷ map written fs)
    → a ++ (line_feed ∷ []) ≡ line_of kind (map written fs)
unfolding line_of field_digits
fields_end a kind fs i h e =
    let all = rw (drop_of_length-le fs {i = i} h, append-nil) at e in
    rw all (append_assoc (digits 2 kind) (field_digits (map written fs)) (line_feed ∷ []))

pub none_left : (fs : List WrittenField) (i : ℕ) → length fs ≤ i → line_length (map written (drop i fs)) ≡ 3
none_left fs i h = rw (drop_of_length-le fs {i = i} h)

-- ---- segments
-- a segment's line, and the lines of those on its right
pub segment_put : (a : List ℕ) (left right : ℕ) (gs : List Segment) {b : List ℕ}
    → b ≡ a ++ line_of 0x87 (field 8 left ∷ field 8 right ∷ [])
    → b ++ segment_lines gs ≡ a ++ segment_lines (segment left right ∷ gs)
unfolding segment_lines
segment_put a left right gs e = rw e (append_assoc a (line_of 0x87 (field 8 left ∷ field 8 right ∷ [])) (segment_lines gs))

-- there are at most as many as start slots
join_most : (setup : Setup) (s : ℕ) (gs : List Segment) → length (join_left setup s gs) ≤ suc (length gs)
join_most setup s [] = omega arith
join_most setup s (g ∷ gs) = go (do_touch setup (suc s) g.left)
  where
    go : (b : Bool)
        → length (cond b (segment s g.right ∷ gs) (segment s (suc s) ∷ g ∷ gs)) ≤ suc (suc (length gs))
    go true = omega arith
    go false = omega arith

pub segments_most : (setup : Setup) (starts : List ℕ) → length (segments_of setup starts) ≤ length starts
unfolding segments_of
segments_most setup [] = omega arith
segments_most setup (s ∷ starts) =
    omega (arith, join_most setup s (segments_of setup starts), segments_most setup starts)
