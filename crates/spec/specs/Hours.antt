-- Inspection hours: which slots are open, and how many requests the slots between two can take. Document 02, 2.2. Assumes nothing.
use Rattle.std.specs.Prelude.{ℕ, zero, suc, ◌+◌, ◌-◌, ◌/◌, ◌%◌, ◌^◌, Bool, cond, ltb}
use Rattle.spec.specs.declared.types.Setup.{Setup}
use Rattle.spec.specs.Tables.{hours}

-- a bit of a number, the lowest being bit 0
abbrev pub bit : ℕ → ℕ → ℕ
bit x k = x / 2 ^ k % 2

-- "168 open-or-closed marks .. first hour in the highest bit, 1 meaning open": an hour's mark. Hours 0 to 63 have theirs in the first of
-- the four numbers, and so on
unfoldable pub mark_of : Setup → ℕ → ℕ
mark_of setup hour =
    cond (ltb hour 64) (bit setup.marks0 (63 - hour))
    (cond (ltb hour 128) (bit setup.marks64 (127 - hour))
    (cond (ltb hour 160) (bit setup.marks128 (159 - hour)) (bit setup.marks160 (167 - hour))))

-- "hour 0 beginning at clock 0 and the marks repeating after hour 167": the hour whose mark a slot has
abbrev pub hour_of : Setup → ℕ → ℕ
hour_of setup slot = slot / setup.hour % hours

-- document 01: "serves one in each slot", and "A closed slot serves nobody": how many requests a slot can take
unfoldable pub capacity_of : Setup → ℕ → ℕ
capacity_of setup slot = mark_of setup (hour_of setup slot)

-- whether a slot is open
abbrev pub is_open : Setup → ℕ → Bool
is_open setup slot = ltb 0 (capacity_of setup slot)

-- f of each of n numbers from a on, added up
unfoldable pub sum_from : (ℕ → ℕ) → ℕ → ℕ → ℕ
sum_from f a zero = 0
sum_from f a (suc n) = f a + sum_from f (suc a) n

-- "only open ones count": how many requests the slots a, a + 1, .. b - 1 can take
unfoldable pub room : Setup → ℕ → ℕ → ℕ
room setup a b = sum_from (capacity_of setup) a (b - a)

-- how many hours are marked as open
abbrev pub open_hours : Setup → ℕ
open_hours setup = sum_from (mark_of setup) 0 hours
