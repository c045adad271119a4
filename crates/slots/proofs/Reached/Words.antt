-- The chart in the words of the papers, "the latest open slot before its deadline and not after that of the record behind it, that
-- still has a free head", is the chart by places. Assumes nothing.
use Prim.Native.Nat.{ℕ, zero, suc, ◌+◌, ◌≤◌, ◌<◌, min}
use mathlib.Core.Path.{◌≡◌, refl, ap, ◌∙◌}
use mathlib.Core.Bool.{Bool, true, false, cond}
use mathlib.Core.List.{List, [], ◌∷◌, map}
use native.Mathlib.Omega.{arith}
use lib.Dec.{leb}
use Rattle.slots.proofs.Laws.Tests.{Test, holds, fails, test, le, gt, order}
use Rattle.slots.proofs.Laws.Sums.{one, one_yes, one_no, total}
use Rattle.slots.proofs.Queue.{opens, Entry, Booking}
use Rattle.slots.proofs.Laws.Count.{opens_suc, opens_mono}
use Rattle.slots.proofs.Laws.Sorted.{Sorted}
use Rattle.slots.proofs.Reached.Chart.{slot_of, place, chart}
use Rattle.slots.proofs.Reached.Seat.{Roomy, roomy_next, seat}

-- how many of these start at s
abbrev pub taken : ℕ → List ℕ → ℕ
taken s later = total (one s) later

pub taken_here : (s : ℕ) (later : List ℕ) → taken s (s ∷ later) ≡ suc (taken s later)
unfolding total
taken_here s later = omega (arith, one_yes s s refl)

taken_other : (x s : ℕ) (later : List ℕ) → x < s → taken x (s ∷ later) ≡ taken x later
unfolding total
taken_other x s later h = omega (arith, one_no x s (λ e. omega arith))

pub taken_none : (x : ℕ) → taken x [] ≡ 0
unfolding total
taken_none x = refl

-- a request starts before its deadline and not after the one behind it
abbrev pub limit : ℕ → List ℕ → ℕ
limit D [] = D
limit D (s ∷ later) = min D (suc s)

module _ (heads : ℕ → ℕ) where
  -- the latest slot before e that has a free head
  unfoldable pub latest_free : List ℕ → ℕ → ℕ
  latest_free later zero = 0
  latest_free later (suc e) = cond (leb (suc (taken e later)) (heads e)) e (latest_free later e)

  abbrev pub starts : List Entry → List ℕ
  starts [] = []
  starts (w ∷ ws) = latest_free (starts ws) (limit w.deadline (starts ws)) ∷ starts ws

  pub latest_free_lem : (later : List ℕ) (e s : ℕ) → s < e → taken s later < heads s
      → ((x : ℕ) → s < x → x < e → heads x ≤ taken x later) → latest_free later e ≡ s
  unfolding latest_free
  latest_free_lem later zero s l f g = absurd (omega arith)
  latest_free_lem later (suc e) s l f g =
      go (leb (suc (taken e later)) (heads e)) (test (suc (taken e later)) (heads e))
      (λ k. latest_free_lem later e s k f (λ x a b. g x a (omega arith)))
    where
      go : (c : Bool) → Test (suc (taken e later)) (heads e) c → (s < e → latest_free later e ≡ s) → cond c e (latest_free later e) ≡ s
      go true (holds h) r = elim (order e s) [ le k ↦ omega arith | gt k ↦ absurd (omega (arith, g e k (omega arith))) ]
      go false (fails h) r =
          elim (order e s) [
            | le k ↦
                let q : s ≡ e = omega arith in
                absurd (omega (arith, f, ap heads q, ap (λ (x : ℕ). taken x later) q))
            | gt k ↦ r k
          ]

  -- a slot with no free head is passed over
  pub latest_skip : (later : List ℕ) (e : ℕ) → heads e ≤ taken e later → latest_free later (suc e) ≡ latest_free later e
  unfolding latest_free
  latest_skip later e h = go (leb (suc (taken e later)) (heads e)) (test (suc (taken e later)) (heads e))
    where
      go : (c : Bool) → Test (suc (taken e later)) (heads e) c → cond c e (latest_free later e) ≡ latest_free later e
      go true (holds k) = absurd (omega arith)
      go false (fails k) = refl

  -- the place p is one of the slot s, which is filled from its last place on; none of the later ones stands before it
  pub record Fill (p s : ℕ) (later : List ℕ) : Type 0 where
    pub from : opens heads s ≤ p
    pub to : p < opens heads (suc s)
    pub top : p + suc (taken s later) ≡ opens heads (suc s)
    pub low : (x : ℕ) → x < s → taken x later ≡ 0

  -- the last place before e, where nothing is taken
  alone : (later : List ℕ) (e p s : ℕ) → suc p ≡ opens heads e → opens heads s ≤ p → p < opens heads (suc s)
      → ((x : ℕ) → x < e → taken x later ≡ 0) → Fill p s later × (latest_free later e ≡ s)
  alone later e p s m f u z = (
    record {
      from = f;
      to = u;
      top = omega (arith, z s early, opens_mono heads (suc s) e early);
      low = λ x h. z x (omega (arith, early));
    },
    latest_free_lem later e s early (omega (arith, z s early, opens_suc heads s))
        (λ x a b. omega (arith, opens_mono heads (suc s) x a, opens_mono heads (suc x) e b, opens_suc heads x)),
  )
    where
      early : s < e
      early = elim (order e s) [ le h ↦ absurd (omega (arith, opens_mono heads e s h)) | gt h ↦ h ]

  -- one more in front of those that begin with the slot u
  module _ (D p s q u : ℕ) (later : List ℕ) (F : Fill q u later) (m : suc p ≡ min (opens heads D) q) (from : opens heads s ≤ p)
      (to : p < opens heads (suc s)) where
    before : (x : ℕ) → x < u → taken x (u ∷ later) ≡ 0
    before x h = taken_other x u later h ∙ F.low x h

    next : Fill p s (u ∷ later) × (latest_free (u ∷ later) (min D (suc u)) ≡ s)
    next =
        elim (order D u) [
          | le h ↦
              let e : min D (suc u) ≡ D = omega arith in
              rw e (alone (u ∷ later) D p s (omega (arith, opens_mono heads D u h, F.from)) from to (λ x l. before x (omega arith)))
          | gt h ↦
              let e : min D (suc u) ≡ suc u = omega arith in
              let r : suc p ≡ q = omega (arith, opens_mono heads (suc u) D h, F.to) in
              rw e (elim (order q (opens heads u)) [
                | le k ↦
                    let full : heads u ≤ taken u (u ∷ later) =
                    omega (arith, taken_here u later, F.top, opens_suc heads u) in
                    rw (latest_skip (u ∷ later) u full)
                    (alone (u ∷ later) u p s (omega (arith, F.from)) from to before)
                | gt k ↦
                    let same : s ≡ u = inside k r in (
                      record {
                        from = from;
                        to = to;
                        top = rw same (omega (arith, F.top, taken_here u later));
                        low = λ x l. before x (omega arith);
                      },
                      rw same (latest_free_lem (u ∷ later) (suc u) u (omega arith)
                          (omega (arith, taken_here u later, F.top, opens_suc heads u)) (λ x a b. absurd (omega arith))),
                    )
              ])
        ]
      where
        inside : opens heads u < q → suc p ≡ q → s ≡ u
        inside k r =
            elim (order s u) [
              | le a ↦ elim (order u s) [
                | le b ↦ omega arith
                | gt b ↦ absurd (omega (arith, opens_mono heads (suc s) u b))
              ]
              | gt a ↦ absurd (omega (arith, opens_mono heads (suc u) s a, F.to))
            ]

  module _ (t : ℕ) where
    filled : (n lo : ℕ) (w : Entry) (ws : List Entry) → Sorted lo (w ∷ ws) → Roomy heads t n lo (w ∷ ws)
        → Fill (place heads w ws) (slot_of heads w.deadline (place heads w ws)) (starts ws)
        × (latest_free (starts ws) (limit w.deadline (starts ws)) ≡ slot_of heads w.deadline (place heads w ws))
    filled n lo w [] s f =
        let o = seat heads t n lo w [] s f in
        alone [] w.deadline (place heads w []) (slot_of heads w.deadline (place heads w [])) o.mark o.spot.from o.spot.to
        (λ x h. taken_none x)
    filled n lo w (v ∷ vs) s f =
        let o = seat heads t n lo w (v ∷ vs) s f in
        let F = filled (suc n) w.deadline v vs s.1 (roomy_next heads t n lo w (v ∷ vs) s f) in
        let u = slot_of heads v.deadline (place heads v vs) in
        rw F.1
        (next w.deadline (place heads w (v ∷ vs)) (slot_of heads w.deadline (place heads w (v ∷ vs))) (place heads v vs) u (starts vs)
        F.0 o.mark o.spot.from o.spot.to)

    pub starts_chart : (n lo : ℕ) (ws : List Entry) → Sorted lo ws → Roomy heads t n lo ws
        → starts ws ≡ map (λ (b : Booking). b.slot) (chart heads ws)
    starts_chart n lo [] s f = refl
    starts_chart n lo (w ∷ ws) s f =
        λ i. (filled n lo w ws s f).1 i ∷ starts_chart (suc n) w.deadline ws s.1 (roomy_next heads t n lo w ws s f) i
