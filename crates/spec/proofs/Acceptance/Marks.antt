-- The marks of an open's frame, document 02, 2.2: "21 bytes, first hour in the highest bit, 1 meaning open": one frame for each of the 168
-- hours, in which its bit alone is 1, and the hours that are then open, computed by one theorem. Assumes nothing.
use Prim.Native.Nat.{ℕ, zero, suc, ◌-◌, ◌/◌, ◌%◌, ◌^◌}
use mathlib.Core.Path.{◌≡◌, refl}
use mathlib.Core.List.{List, [], ◌∷◌, ◌++◌, map}
use lib.Dec.{eqb}
use lib.ListN.{replicate}
use Rattle.spec.specs.declared.types.Frame.{Frame}
use Rattle.spec.specs.declared.types.Frame.TheVariants.{Open, Submit, Tick, Report, Chart, Bad}
use Rattle.spec.specs.Every.{every, select}
use Rattle.spec.specs.Tables.{hours}
use Rattle.spec.specs.Hours.{mark_of}
use Rattle.spec.specs.Calls.Readings.{field}
use Rattle.spec.specs.Lines.Frames.{digit_of, character_of, number_from, digits, frame_with, frame_of, field_digits}

-- n numbers from a on
abbrev count : ℕ → ℕ → List ℕ
count a zero = []
count a (suc n) = a ∷ count (suc a) n

-- hour h's bit is bit 7 - h % 8 of byte h / 8, bit 7 being the highest
abbrev bytes_with : ℕ → List ℕ
bytes_with h = replicate (h / 8) 0 ++ (2 ^ (7 - h % 8) ∷ replicate (20 - h / 8) 0)

-- the open of one client and one record, one slot an hour, in which it alone is 1
abbrev line_with : ℕ → List ℕ
line_with h =
    digits 2 0x01
    ++ field_digits (field 2 1 ∷ field 4 1 ∷ field 2 1 ∷ field 4 1 ∷ map (field 1) (bytes_with h))

-- the hours that an open's frame marks as open; another frame marks none
abbrev opened : Frame → List ℕ
opened (Open setup records) = select (λ h. eqb (mark_of setup h) 1) (count 0 hours)
opened (Submit client deadline) = []
opened Tick = []
opened (Report client) = []
opened Chart = []
opened Bad = []

pub marks_in_order : map (λ h. opened (frame_of (line_with h))) (count 0 hours) ≡ map (λ h. h ∷ []) (count 0 hours)
unfolding every select digits character_of digit_of number_from frame_with frame_of field_digits mark_of
marks_in_order = refl
