-- Segments, "runs of touching slots in use", for every `heads`: two slots touch if no slot between them can take a request.
-- Assumes nothing.
use Prim.Native.Nat.{ℕ, suc, ◌+◌, ◌-◌, ◌≤◌, ◌<◌, min}
use mathlib.Core.Path.{◌≡◌, refl}
use mathlib.Core.Bool.{Bool, true, false, cond}
use mathlib.Core.List.{List, [], ◌∷◌}
use mathlib.Core.Logic.{◌≢◌}
use native.Mathlib.Omega.{arith}
use lib.Dec.{eqb}
use Rattle.slots.proofs.Laws.Tests.{Same, same_yes, same_no, same, le, gt, order}
use Rattle.slots.proofs.Laws.Sums.{total, one, one_yes, one_no}
use Rattle.slots.proofs.Laws.Count.{opens_suc, opens_mono}
use Rattle.slots.proofs.Room.{room, room_opens, room_back}
use Rattle.slots.proofs.Reached.Words.{taken}
use Rattle.slots.proofs.Reached.Rivals.{First}

pub record Segment : Type 0 where
  pub left : ℕ
  pub right : ℕ

abbrev pub segment : ℕ → ℕ → Segment
segment left right = record { left = left; right = right }

-- 1 where the slot x lies in the segment
unfoldable pub inside : ℕ → Segment → ℕ
inside x g = min (min 1 (suc x - g.left)) (g.right - x)

pub inside_yes : (x : ℕ) (g : Segment) → g.left ≤ x → x < g.right → inside x g ≡ 1
unfolding inside
inside_yes x g a b = omega arith

pub inside_before : (x : ℕ) (g : Segment) → x < g.left → inside x g ≡ 0
unfolding inside
inside_before x g a = omega arith

pub inside_after : (x : ℕ) (g : Segment) → g.right ≤ x → inside x g ≡ 0
unfolding inside
inside_after x g a = omega arith

-- left ends before x do not matter
inside_left : (x s : ℕ) (g : Segment) → s ≤ x → g.left ≤ x → inside x (segment s g.right) ≡ inside x g
inside_left x s g a b =
    elim (order g.right x) [
      | le h ↦ omega (arith, inside_after x g h, inside_after x (segment s g.right) h)
      | gt h ↦ omega (arith, inside_yes x g b h, inside_yes x (segment s g.right) a h)
    ]

-- slots that do not descend
abbrev pub Ascend : List ℕ → Type 0
Ascend [] = Unit {0}
Ascend (x ∷ xs) = First x xs × Ascend xs

taken_before : (x y : ℕ) (ys : List ℕ) → x < y → Ascend (y ∷ ys) → taken x (y ∷ ys) ≡ 0
unfolding total
taken_before x y [] h a = omega (arith, one_no x y (λ e. omega arith))
taken_before x y (z ∷ zs) h a = omega (arith, one_no x y (λ e. omega arith), taken_before x z zs (omega (arith, a.0)) a.1)

module _ (heads : ℕ → ℕ) where
  abbrev pub join_left : ℕ → List Segment → List Segment
  join_left s [] = segment s (suc s) ∷ []
  join_left s (g ∷ gs) =
      cond (eqb (room heads (suc s) g.left) 0) (segment s g.right ∷ gs) (segment s (suc s) ∷ g ∷ gs)

  unfoldable pub segments : List ℕ → List Segment
  segments [] = []
  segments (s ∷ starts) = join_left s (segments starts)

  -- between a segment and the next a slot can take a request
  abbrev pub Apart : List Segment → Type 0
  Apart [] = Unit {0}
  Apart (g ∷ []) = Unit {0}
  Apart (g ∷ h ∷ gs) = (1 ≤ room heads g.right h.left) × Apart (h ∷ gs)

  -- the segments of starts that begin with y
  pub data Runs (y : ℕ) (starts : List ℕ) : List Segment → Type 0 where
    runs :
        (g : Segment) (gs : List Segment) → g.left ≡ y → y < g.right → Apart (g ∷ gs)
        → ((x : ℕ) → 0 < heads x → total (inside x) (g ∷ gs) ≡ min 1 (taken x starts)) → Runs y starts (g ∷ gs)

  -- no slot that can take a request lies between
  shut : (s l x : ℕ) → room heads (suc s) l ≡ 0 → s < x → x < l → heads x ≡ 0
  shut s l x e a b =
      omega (arith, room_opens heads (suc s) l, opens_mono heads (suc s) x a, opens_mono heads (suc x) l b, opens_suc heads x)

  wide : (s l : ℕ) → room heads (suc s) l ≢ 0 → suc s < l
  wide s l n = elim (order l (suc s)) [ le h ↦ absurd (n (room_back heads (suc s) l h)) | gt h ↦ h ]

  -- what one more start on the left adds
  module _ (s y : ℕ) (ys : List ℕ) (low : s ≤ y) (a : Ascend (y ∷ ys)) where
    more : (x : ℕ) → taken x (s ∷ y ∷ ys) ≡ one x s + taken x (y ∷ ys)
    unfolding total
    more x = refl

    joined : (g : Segment) (gs : List Segment) → g.left ≡ y → y < g.right → room heads (suc s) g.left ≡ 0
        → ((x : ℕ) → 0 < heads x → total (inside x) (g ∷ gs) ≡ min 1 (taken x (y ∷ ys)))
        → (x : ℕ) → 0 < heads x → total (inside x) (segment s g.right ∷ gs) ≡ min 1 (taken x (s ∷ y ∷ ys))
    unfolding total
    joined g gs e r z c x p =
        let n = segment s g.right in
        elim (order x s) [
          | le h ↦
              elim (order s x) [
                | le k ↦
                    let q : x ≡ s = omega arith in
                    let i = inside_yes x n k (omega arith) in
                    elim (order y x) [
                      | le m ↦ omega (arith, i, c x p, more x, one_yes x s q, inside_yes x g (omega arith) (omega arith))
                      | gt m ↦ omega (arith, i, c x p, more x, one_yes x s q, taken_before x y ys m a)
                    ]
                | gt k ↦
                    omega (arith, c x p, more x, one_no x s (λ q. omega arith), inside_before x n k, inside_before x g (omega arith))
              ]
          | gt h ↦
              elim (order y x) [
                | le m ↦ omega (arith, c x p, more x, one_no x s (λ q. omega arith), inside_left x s g (omega arith) (omega arith))
                | gt m ↦ absurd (omega (arith, shut s g.left x z h (omega arith)))
              ]
        ]

    alone : (g : Segment) (gs : List Segment) → g.left ≡ y → suc s < g.left
        → ((x : ℕ) → 0 < heads x → total (inside x) (g ∷ gs) ≡ min 1 (taken x (y ∷ ys)))
        → (x : ℕ) → 0 < heads x → total (inside x) (segment s (suc s) ∷ g ∷ gs) ≡ min 1 (taken x (s ∷ y ∷ ys))
    unfolding total
    alone g gs e w c x p =
        let n = segment s (suc s) in
        elim (order x s) [
          | le h ↦
              elim (order s x) [
                | le k ↦
                    let q : x ≡ s = omega arith in
                    let i = inside_yes x n k (omega arith) in
                    omega (arith, i, c x p, more x, one_yes x s q, taken_before x y ys (omega arith) a)
                | gt k ↦ omega (arith, c x p, more x, one_no x s (λ q. omega arith), inside_before x n k)
              ]
          | gt h ↦ omega (arith, c x p, more x, one_no x s (λ q. omega arith), inside_after x n h)
        ]

    pub join : {gs : List Segment} → Runs y (y ∷ ys) gs → Runs s (s ∷ y ∷ ys) (join_left s gs)
    join (runs g gs e r t c) = go (eqb (room heads (suc s) g.left) 0) (same (room heads (suc s) g.left) 0)
      where
        kept : (hs : List Segment) → Apart (g ∷ hs) → Apart (segment s g.right ∷ hs)
        kept [] t = tt
        kept (h ∷ hs) t = t

        go : (b : Bool) → Same (room heads (suc s) g.left) 0 b
            → Runs s (s ∷ y ∷ ys) (cond b (segment s g.right ∷ gs) (segment s (suc s) ∷ g ∷ gs))
        go true (same_yes z) = runs (segment s g.right) gs refl (omega arith) (kept gs t) (joined g gs e r z c)
        go false (same_no n) =
            let w = wide s g.left n in
            runs (segment s (suc s)) (g ∷ gs) refl (omega arith) (omega arith, t) (alone g gs e w c)

  one_run : (s x : ℕ) → total (inside x) (segment s (suc s) ∷ []) ≡ min 1 (taken x (s ∷ []))
  unfolding total inside
  one_run s x =
      elim (order x s) [
        | le h ↦
            elim (order s x) [
              | le k ↦ omega (arith, one_yes x s (omega arith))
              | gt k ↦ omega (arith, one_no x s (λ q. omega arith))
            ]
        | gt h ↦ omega (arith, one_no x s (λ q. omega arith))
      ]

  pub segments_runs : (y : ℕ) (ys : List ℕ) → Ascend (y ∷ ys) → Runs y (y ∷ ys) (segments (y ∷ ys))
  unfolding segments
  segments_runs y [] a = runs (segment y (suc y)) [] refl (omega arith) tt (λ x p. one_run y x)
  segments_runs y (z ∷ zs) a = join y z zs a.0 a.1 (segments_runs z zs a.1)
