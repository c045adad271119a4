-- Open slots by the hour: how many come before a slot, without counting them. Assumes nothing.
use Prim.Native.Nat.{ℕ, zero, suc, ◌+◌, ◌-◌, ◌*◌, ◌/◌, ◌%◌, ◌≤◌, ◌<◌}
use mathlib.Core.Path.{◌≡◌, refl, ap, sym, ◌∙◌}
use native.Mathlib.Omega.{arith}
use native.Mathlib.Nat.{mul_comm, mul-add-div_right, div-eq_of_lt, div-add-mod', mod-lt, mul-add-mod_self_right, mod-eq_of_lt}
use Rattle.slots.proofs.Queue.{opens}
use Rattle.slots.proofs.Laws.Count.{opens_suc}
use Rattle.slots.proofs.Laws.Tests.{le, gt, order}
use Rattle.slots.proofs.Room.{room, room_opens, room_back}

module _ (mark : ℕ → ℕ) (n : ℕ) (pos : 0 < n) where
  -- what a slot can take is the mark of its hour; an hour has n slots
  abbrev pub each : ℕ → ℕ
  each s = mark (s / n)

  hour_of_lem : (h x : ℕ) → x < n → (h * n + x) / n ≡ h
  hour_of_lem h x l = omega (arith, mul-add-div_right pos h x, div-eq_of_lt l)

  -- inside an hour
  within : (h x : ℕ) → x ≤ n → opens each (h * n + x) ≡ opens each (h * n) + mark h * x
  within h zero l = let e : h * n + 0 ≡ h * n = omega arith in rw e (omega arith)
  within h (suc x) l =
      let e : h * n + suc x ≡ suc (h * n + x) = omega arith in
      rw e (omega (
        arith,
        opens_suc each (h * n + x),
        within h x (omega arith),
        ap mark (hour_of_lem h x l),
        mul_comm (mark h) (suc x),
        mul_comm (mark h) x,
      ))

  -- whole hours
  whole : (h : ℕ) → opens each (h * n) ≡ opens mark h * n
  unfolding opens
  whole zero = let e : 0 * n ≡ 0 = omega arith in rw e (omega arith)
  whole (suc h) =
      let e : suc h * n ≡ h * n + n = omega arith in
      rw e (omega (arith, within h n (omega arith), whole h))

  pub by_hours : (D : ℕ) → opens each D ≡ opens mark (D / n) * n + mark (D / n) * (D % n)
  by_hours D =
      let e = div-add-mod' D n in
      let l = mod-lt D pos in
      ap (opens each) (sym e) ∙ within (D / n) (D % n) (omega arith) ∙ ap (λ (x : ℕ). x + mark (D / n) * (D % n)) (whole (D / n))

-- marks that come again after n hours
module _ (f : ℕ → ℕ) (n : ℕ) (pos : 0 < n) where
  abbrev pub again : ℕ → ℕ
  again h = f (h % n)

  day_of : (k x : ℕ) → x < n → (k * n + x) % n ≡ x
  day_of k x l = mul-add-mod_self_right k n x ∙ mod-eq_of_lt l

  week_within : (k x : ℕ) → x ≤ n → opens again (k * n + x) ≡ opens again (k * n) + opens f x
  unfolding opens
  week_within k zero l = let e : k * n + 0 ≡ k * n = omega arith in rw e (omega arith)
  week_within k (suc x) l =
      let e : k * n + suc x ≡ suc (k * n + x) = omega arith in
      rw e (omega (arith, week_within k x (omega arith), ap f (day_of k x l)))

  week_whole : (k : ℕ) → opens again (k * n) ≡ k * opens f n
  unfolding opens
  week_whole zero = let e : 0 * n ≡ 0 = omega arith in rw e (omega arith)
  week_whole (suc k) =
      let e : suc k * n ≡ k * n + n = omega arith in
      rw e (omega (arith, week_within k n (omega arith), week_whole k))

  pub by_weeks : (h : ℕ) → opens again h ≡ h / n * opens f n + opens f (h % n)
  by_weeks h =
      let e = div-add-mod' h n in
      let l = mod-lt h pos in
      ap (opens again) (sym e) ∙ week_within (h / n) (h % n) (omega arith)
      ∙ ap (λ (x : ℕ). x + opens f (h % n)) (week_whole (h / n))

-- room as a count that begins at its first slot, so that it computes at any clock
module _ (cap : ℕ → ℕ) where
  unfoldable pub count_from : ℕ → ℕ → ℕ
  count_from a zero = 0
  count_from a (suc n) = cap a + count_from (suc a) n

  count_opens : (a n : ℕ) → count_from a n + opens cap a ≡ opens cap (a + n)
  unfolding count_from
  count_opens a zero = let e : a + 0 ≡ a = omega arith in rw e (omega arith)
  count_opens a (suc n) =
      let e : a + suc n ≡ suc a + n = omega arith in
      rw e (omega (arith, opens_suc cap a, count_opens (suc a) n))

  count_none : (a : ℕ) → count_from a 0 ≡ 0
  unfolding count_from
  count_none a = refl

  pub room_count : (a b : ℕ) → room cap a b ≡ count_from a (b - a)
  room_count a b =
      elim (order a b) [
        | le h ↦
            let e : a + (b - a) ≡ b = omega arith in
            omega (arith, room_opens cap a b, count_opens a (b - a), ap (opens cap) e)
        | gt h ↦ let e : b - a ≡ 0 = omega arith in rw e (omega (arith, room_back cap a b (omega arith), count_none a))
      ]
