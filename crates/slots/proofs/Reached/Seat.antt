-- The places of the chart: each waiting request has a slot from the clock to its deadline, and no slot has more than it can take.
-- Assumes nothing.
use Prim.Native.Nat.{ℕ, zero, suc, ◌+◌, ◌-◌, ◌≤◌, ◌<◌, max}
use mathlib.Core.Path.{◌≡◌, refl, ap}
use mathlib.Core.Bool.{Bool, true, false, cond}
use mathlib.Core.List.{List, [], ◌∷◌, map}
use native.Mathlib.Omega.{arith}
use lib.Dec.{leb, eqb}
use lib.ListN.{length}
use Rattle.slots.specs.Plan.{since, Slot, at, Fits, is_at}
use Rattle.slots.proofs.Laws.Tests.{Test, holds, fails, test, Same, same_yes, same_no, same, le, gt, order}
use Rattle.slots.proofs.Laws.Sums.{All, total}
use Rattle.slots.proofs.Queue.{opens, Entry, Booking}
use Rattle.slots.proofs.Laws.Count.{opens_suc, opens_mono}
use Rattle.slots.proofs.Laws.Sorted.{Sorted, due_yes, upto}
use Rattle.slots.proofs.Reached.Chart.{slot_of, ends, place, chart}
use Rattle.slots.proofs.Reached.Book.{who, whose}

abbrev pub slotted : Booking → Slot
slotted b = at b.slot

-- 1 where the booking is in the slot x
abbrev pub sits : ℕ → Booking → ℕ
sits x b = is_at x (slotted b)

module _ (heads : ℕ → ℕ) where
  -- the place x, before those of D, is one of the slot s
  pub record SeatOf (D x s : ℕ) : Type 0 where
    pub early : s < D
    pub from : opens heads s ≤ x
    pub to : x < opens heads (suc s)

  none_yet : (x : ℕ) → x < opens heads zero → ⊥
  unfolding opens
  none_yet x h = omega arith

  pub slot_of_lem : (D x : ℕ) → x < opens heads D → SeatOf D x (slot_of heads D x)
  slot_of_lem zero x h = absurd (none_yet x h)
  slot_of_lem (suc D) x h = go (leb (opens heads D) x) (test (opens heads D) x) (slot_of_lem D x)
    where
      go : (c : Bool) → Test (opens heads D) x c → (x < opens heads D → SeatOf D x (slot_of heads D x))
          → SeatOf (suc D) x (cond c D (slot_of heads D x))
      go true (holds g) r = record { early = omega arith; from = g; to = h }
      go false (fails g) r = let o = r g in record { early = omega arith; from = o.from; to = o.to }

  pub ends_high : (D : ℕ) (ws : List Entry) → ends heads D ws ≤ opens heads D
  ends_high D [] = omega arith
  ends_high D (w ∷ ws) = omega arith

  pub chart_length : (ws : List Entry) → length (chart heads ws) ≡ length ws
  chart_length [] = refl
  chart_length (w ∷ ws) = ap suc (chart_length ws)

  pub chart_who : (i : ℕ) (ws : List Entry) → total (who i) (chart heads ws) ≡ total (whose i) ws
  unfolding total
  chart_who i [] = refl
  chart_who i (w ∷ ws) = omega (arith, chart_who i ws)

  module _ (t : ℕ) where
    -- there is room from t for n more and for those up to any time from lo
    abbrev pub Roomy : ℕ → ℕ → List Entry → Type 0
    Roomy n lo ws = (x : ℕ) → lo ≤ x → n + upto x ws + opens heads t ≤ opens heads x

    pub roomy_next : (n lo : ℕ) (w : Entry) (ws : List Entry) → Sorted lo (w ∷ ws) → Roomy n lo (w ∷ ws)
        → Roomy (suc n) w.deadline ws
    unfolding total
    roomy_next n lo w ws s f x h = omega (arith, s.0, f x (omega (arith, s.0)), due_yes x w h)

    pub ends_low : (n lo D : ℕ) (ws : List Entry) → Sorted lo ws → lo ≤ D → Roomy n lo ws → n + opens heads t ≤ ends heads D ws
    unfolding total
    ends_low n lo D [] s h f = omega (arith, f D h)
    ends_low n lo D (w ∷ ws) s h f =
        omega (arith, f D h, ends_low (suc n) w.deadline w.deadline ws s.1 (omega arith) (roomy_next n lo w ws s f))

    -- ---- the place of the first
    pub record Seat (n D E x s : ℕ) : Type 0 where
      pub some : suc n + opens heads t ≤ E
      pub mark : suc x ≡ E
      pub spot : SeatOf D x s

    pub seat : (n lo : ℕ) (w : Entry) (ws : List Entry) → Sorted lo (w ∷ ws) → Roomy n lo (w ∷ ws)
        → Seat n w.deadline (ends heads w.deadline ws) (place heads w ws) (slot_of heads w.deadline (place heads w ws))
    seat n lo w ws s f =
        record {
          some = low;
          mark = omega (arith, low);
          spot = slot_of_lem w.deadline (place heads w ws) (omega (arith, low, ends_high w.deadline ws));
        }
      where
        low : suc n + opens heads t ≤ ends heads w.deadline ws
        low = ends_low (suc n) w.deadline w.deadline ws s.1 (omega arith) (roomy_next n lo w ws s f)

    not_before : (x s : ℕ) → opens heads t ≤ x → x < opens heads (suc s) → t ≤ s
    not_before x s h g = elim (order t s) [ le l ↦ l | gt l ↦ absurd (omega (arith, opens_mono heads (suc s) t l)) ]

    -- its slot lies from t to its deadline
    seat_in : (n lo : ℕ) (w : Entry) (ws : List Entry) → Sorted lo (w ∷ ws) → Roomy n lo (w ∷ ws)
        → (t ≤ slot_of heads w.deadline (place heads w ws)) × (slot_of heads w.deadline (place heads w ws) < w.deadline)
    seat_in n lo w ws s f = (not_before (place heads w ws) u (omega (arith, o.some, o.mark)) o.spot.to, o.spot.early)
      where
        u : ℕ
        u = slot_of heads w.deadline (place heads w ws)

        o : Seat n w.deadline (ends heads w.deadline ws) (place heads w ws) u
        o = seat n lo w ws s f

    -- what follows for each booking of the chart
    pub seated : (p : Entry → Type 0) (q : Booking → Type 0)
        → ((w : Entry) (s : ℕ) → p w → t ≤ s → s < w.deadline → q (record { number = w.number; slot = s }))
        → (n lo : ℕ) (ws : List Entry) → Sorted lo ws → Roomy n lo ws → All p ws → All q (chart heads ws)
    seated p q g n lo [] s f a = tt
    seated p q g n lo (w ∷ ws) s f a =
        let o = seat_in n lo w ws s f in (
          g w (slot_of heads w.deadline (place heads w ws)) a.0 o.0 o.1,
          seated p q g (suc n) w.deadline ws s.1 (roomy_next n lo w ws s f) a.1,
        )

    -- the chart's slots fit requests that are all released at t
    pub chart_fits : (n lo : ℕ) (ws : List Entry) → Sorted lo ws → Roomy n lo ws
        → Fits (map (since t) (map (λ (w : Entry). w.deadline) ws)) (map slotted (chart heads ws))
    chart_fits n lo [] s f = tt
    chart_fits n lo (w ∷ ws) s f =
        let o = seat_in n lo w ws s f in (omega arith, omega arith, chart_fits (suc n) w.deadline ws s.1 (roomy_next n lo w ws s f))

    -- ---- how many have the slot x: they have places from the end of those before them, and below the end of x
    rank_in : (a b m p E C : ℕ) → m ≤ p → suc p ≡ E → a ≤ p → p < b → C ≤ b - max a E → 1 + C ≤ b - max a m
    rank_in a b m p E C h e l u c = omega arith

    rank_out : (a b m p E C : ℕ) → m ≤ p → suc p ≡ E → C ≤ b - max a E → 0 + C ≤ b - max a m
    rank_out a b m p E C h e c = omega arith

    pub rank : (x n lo D : ℕ) (ws : List Entry) → Sorted lo ws → lo ≤ D → Roomy n lo ws
        → total (sits x) (chart heads ws) ≤ opens heads (suc x) - max (opens heads x) (ends heads D ws)
    unfolding total
    rank x n lo D [] s h f = omega arith
    rank x n lo D (w ∷ ws) s h f =
        go (eqb x u) (same x u) (seat n lo w ws s f)
        (rank x (suc n) w.deadline w.deadline ws s.1 (omega arith) (roomy_next n lo w ws s f))
      where
        p : ℕ
        p = place heads w ws

        u : ℕ
        u = slot_of heads w.deadline p

        E : ℕ
        E = ends heads w.deadline ws

        C : ℕ
        C = total (sits x) (chart heads ws)

        a : ℕ
        a = opens heads x

        b : ℕ
        b = opens heads (suc x)

        m : ℕ
        m = ends heads D (w ∷ ws)

        go : (c : Bool) → Same x u c → Seat n w.deadline E p u → C ≤ b - max a E → cond c 1 0 + C ≤ b - max a m
        go true (same_yes e) o r =
            rank_in a b m p E C (omega arith) o.mark (omega (arith, o.spot.from, ap (opens heads) e))
            (omega (arith, o.spot.to, ap (λ (y : ℕ). opens heads (suc y)) e)) r
        go false (same_no e) o r = rank_out a b m p E C (omega arith) o.mark r

    pub rank_heads : (x lo : ℕ) (ws : List Entry) → Sorted lo ws → Roomy 0 lo ws → total (sits x) (chart heads ws) ≤ heads x
    rank_heads x lo ws s f = omega (arith, rank x 0 lo lo ws s (omega arith) f, opens_suc heads x)

    -- none sits before t
    pub rank_none : (x lo : ℕ) (ws : List Entry) → Sorted lo ws → Roomy 0 lo ws → x < t → total (sits x) (chart heads ws) ≡ 0
    rank_none x lo ws s f h =
        omega (arith, rank x 0 lo lo ws s (omega arith) f, ends_low 0 lo lo ws s (omega arith) f, opens_mono heads (suc x) t h)
