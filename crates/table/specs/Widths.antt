-- The largest numbers of 16, of 32 and of 64 bits, and one more up to one of them. Assumes nothing.
use Rattle.std.specs.Prelude.{ℕ, suc, cond, ltb}

abbrev pub largest16 : ℕ
largest16 = 65535

abbrev pub largest32 : ℕ
largest32 = 4294967295

abbrev pub largest64 : ℕ
largest64 = 18446744073709551615

-- the number one larger; the largest stays
abbrev pub saturating_next : ℕ → ℕ → ℕ
saturating_next most n = cond (ltb n most) (suc n) n
