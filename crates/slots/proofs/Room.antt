-- Room and its laws, for every `heads`, the capacity of each slot. What uses room uses these laws alone. Assumes nothing.
use Prim.Native.Nat.{ℕ, zero, suc, ◌+◌, ◌-◌, ◌≤◌, ◌<◌}
use mathlib.Core.Path.{◌≡◌, refl}
use native.Mathlib.Omega.{arith}
use Rattle.slots.proofs.Queue.{opens}
use Rattle.slots.proofs.Laws.Count.{opens_suc, opens_mono}

-- how many requests the slots a, a + 1, .. b - 1 can take
unfoldable pub room : (ℕ → ℕ) → ℕ → ℕ → ℕ
room heads a b = opens heads b - opens heads a

module _ (heads : ℕ → ℕ) where
  pub room_opens : (a b : ℕ) → room heads a b ≡ opens heads b - opens heads a
  unfolding room
  room_opens a b = refl

  -- no room lies behind
  pub room_back : (a b : ℕ) → b ≤ a → room heads a b ≡ 0
  room_back a b h = omega (arith, room_opens a b, opens_mono heads b a h)

  pub room_step : (t : ℕ) → room heads t (suc t) ≡ heads t
  room_step t = omega (arith, room_opens t (suc t), opens_suc heads t)

  pub room_split : (a b c : ℕ) → a ≤ b → b ≤ c → room heads a b + room heads b c ≡ room heads a c
  room_split a b c h g =
      omega (arith, room_opens a b, room_opens b c, room_opens a c, opens_mono heads a b h, opens_mono heads b c g)

  -- a later end has no less room, a later start no more
  pub room_mono : (t a b : ℕ) → a ≤ b → room heads t a ≤ room heads t b
  room_mono t a b h = omega (arith, room_opens t a, room_opens t b, opens_mono heads a b h)

  -- ---- n requests have room from a to b, or not, as the queue's steps say it
  pub fits_opens : (n a b : ℕ) → a ≤ b → n ≤ room heads a b → n + opens heads a ≤ opens heads b
  fits_opens n a b h g = omega (arith, room_opens a b, opens_mono heads a b h)

  pub opens_fits : (n a b : ℕ) → n + opens heads a ≤ opens heads b → n ≤ room heads a b
  opens_fits n a b h = omega (arith, room_opens a b)

  pub over_opens : (n a b : ℕ) → room heads a b < n → opens heads b < n + opens heads a
  over_opens n a b h = omega (arith, room_opens a b)

  -- ---- one block in each slot: the room is "D minus the clock"
  module _ (one : (s : ℕ) → heads s ≡ 1) where
    pub opens_one : (D : ℕ) → opens heads D ≡ D
    unfolding opens
    opens_one zero = refl
    opens_one (suc D) = omega (arith, opens_one D, one D)

    pub room_one : (a b : ℕ) → room heads a b ≡ b - a
    room_one a b = omega (arith, room_opens a b, opens_one a, opens_one b)
