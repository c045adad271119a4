-- A number of the marks, as the library reads its bytes, is the definition's. Assumes nothing.
use Rattle.std.proofs.Common.{ℕ, ◌+◌, ◌<◌, ◌≡◌, ◌∙◌, List, take, drop, get_or, get_or-take, get_or-drop, arith}
use Rattle.std.specs.Int.{w32, w64, from_be_bytes}
use Rattle.welsbell.specs.Numbers.{number_at}

module _ (bytes : List ℕ) (from : ℕ) where
  byte : (n i : ℕ) → i < n → get_or (take n (drop from bytes)) i 0 ≡ get_or bytes (from + i) 0
  byte n i h = get_or-take n (drop from bytes) i 0 h ∙ get_or-drop from bytes i 0

  pub eight_bytes : from_be_bytes w64 (take 8 (drop from bytes)) ≡ number_at bytes from 8
  unfolding number_at
  eight_bytes =
      omega (
        arith,
        byte 8 0 (omega arith),
        byte 8 1 (omega arith),
        byte 8 2 (omega arith),
        byte 8 3 (omega arith),
        byte 8 4 (omega arith),
        byte 8 5 (omega arith),
        byte 8 6 (omega arith),
        byte 8 7 (omega arith),
      )

  pub four_bytes : from_be_bytes w32 (take 4 (drop from bytes)) ≡ number_at bytes from 4
  unfolding number_at
  four_bytes = omega (arith, byte 4 0 (omega arith), byte 4 1 (omega arith), byte 4 2 (omega arith), byte 4 3 (omega arith))
