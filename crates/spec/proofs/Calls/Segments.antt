-- The segments of a chart are the longest runs of touching intervals: document 01, "Chart and victim", and document 02, 2.2. Assumes
-- nothing.
use Prim.Native.Nat.{ℕ, zero, suc, ◌-◌, ◌≤◌, ◌<◌, min}
use mathlib.Core.Path.{◌≡◌, refl, sym, ap, ◌∙◌, subst}
use mathlib.Core.Bool.{Bool, true, false, cond}
use mathlib.Core.List.{List, [], ◌∷◌, ◌++◌, map}
use mathlib.Core.Logic.{◌↔◌}
use native.Mathlib.Omega.{arith}
use borrow.Author.Tests.{ltb-true, le-ltb, lt-ltb, le-leb, lt-leb, eq-eqb, ne_eqb}
use lib.Dec.{eqb}
use Rattle.slots.proofs.Laws.Tests.{Same, same_yes, same_no, same, le, gt, order}
use Rattle.slots.proofs.Laws.Sums.{All, total, total_map}
use Rattle.slots.proofs.Reached.Runs.{Segment as Part, inside, inside_yes, inside_before, inside_after, Ascend, join_left as join_of}
use Rattle.slots.proofs.Reached.Runs.{segment, segments, Runs, runs, segments_runs}
use Rattle.slots.proofs.Reached.Words.{taken as taken_of}
use Rattle.slots.proofs.Room.{room as room_of}
use Rattle.spec.specs.declared.types.Setup.{Setup}
use Rattle.spec.specs.Every.{to_number, count_if}
use Rattle.spec.specs.Chart.{taken, Segment, join_left, segments_of}
use Rattle.spec.specs.Hours.{capacity_of, is_open, room}
use Rattle.spec.proofs.Demands.Words.{NotDescending, Neighbours, Pairs, together, last_or, Proper, Touch, RunOf, lies_in, Apart}
use Rattle.spec.proofs.Demands.Words.{LongestRuns, IsStart}
use Rattle.spec.proofs.Laws.Every.{count_total, total_same}
use Rattle.spec.proofs.Laws.Room.{room_capacity, room_back, room_step, room_split, capacity_closed}
use Rattle.spec.proofs.Calls.LatestSlots.{taken_same, all_taken}

-- the segment of one start slot
abbrev single : ℕ → Segment
single s = record { left = s; right = suc s }

-- a segment that begins at s instead
abbrev left_at : ℕ → Segment → Segment
left_at s g = record { left = s; right = g.right }

-- a start slot in front of the segment g, whether they touch or not
abbrev beside_if : Bool → ℕ → Segment → List Segment → List Segment
beside_if x s g gs = cond x (left_at s g ∷ gs) (single s ∷ g ∷ gs)

module _ (setup : Setup) where
  -- ---- "two of them touch if no open slot lies between"
  touch_closed : (a b : ℕ) → room setup a b ≡ 0 → (x : ℕ) → a ≤ x → x < b → is_open setup x ≡ false
  touch_closed a b e x h g =
      le-ltb 0 (capacity_of setup x)
      (omega (
        arith,
        room_split setup a x b h (omega arith),
        room_split setup x (suc x) b (omega arith) g,
        room_step setup x,
      ))

  closed_touch : (a b : ℕ) → ((x : ℕ) → a ≤ x → x < b → is_open setup x ≡ false) → room setup a b ≡ 0
  closed_touch a zero f = room_back setup a 0 (omega arith)
  closed_touch a (suc b) f =
      elim (order a b) [
        | le h ↦
            omega (
              arith,
              room_split setup a b (suc b) h (omega arith),
              room_step setup b,
              capacity_closed setup b (f b h (omega arith)),
              closed_touch a b (λ x k l. f x k (omega arith)),
            )
        | gt h ↦ room_back setup a (suc b) (omega arith)
      ]

  pub touch_none : (s next : ℕ) → Touch setup s next ↔ ((x : ℕ) → s < x → x < next → is_open setup x ≡ false)
  touch_none s next = (touch_closed (suc s) next, closed_touch (suc s) next)

  -- ---- what holds of one start's interval, and of a segment that begins at an earlier start instead, holds of all segments
  pub segments_all : (r : ℕ → Type 0) (p : Segment → Type 0) → ((s : ℕ) → r s → p (single s))
      → ((s : ℕ) (g : Segment) → r s → p g → p (left_at s g))
      → (starts : List ℕ) → All r starts → All p (segments_of setup starts)
  unfolding segments_of
  segments_all r p one more [] a = tt
  segments_all r p one more (s ∷ starts) a = join (segments_of setup starts) (segments_all r p one more starts a.1)
    where
      join : (gs : List Segment) → All p gs → All p (join_left setup s gs)
      join [] b = (one s a.0, tt)
      join (g ∷ gs) b = go (eqb (room setup (suc s) g.left) 0)
        where
          go : (x : Bool) → All p (beside_if x s g gs)
          go true = (more s g a.0 b.0, b.1)
          go false = (one s a.0, b)

  -- a segment's left, and its right less 1, are start slots
  pub segments_ends : (starts : List ℕ)
      → All (λ (g : Segment). IsStart g.left starts × IsStart (g.right - 1) starts) (segments_of setup starts)
  segments_ends starts =
      segments_all (λ (s : ℕ). IsStart s starts) (λ (g : Segment). IsStart g.left starts × IsStart (g.right - 1) starts)
      (λ s h. (h, rw (last s) h)) (λ s g h k. (h, k.1)) starts (all_taken starts)
    where
      last : (s : ℕ) → suc s - 1 ≡ s
      last s = omega arith

  -- ---- no segment is empty
  join_proper : (s : ℕ) (gs : List Segment) → All (λ (g : Segment). s ≤ g.left) gs → All Proper gs → All Proper (join_left setup s gs)
  join_proper s [] l a = (omega arith, tt)
  join_proper s (g ∷ gs) l a = go (eqb (room setup (suc s) g.left) 0)
    where
      go : (x : Bool) → All Proper (beside_if x s g gs)
      go true = (omega (arith, l.0, a.0), a.1)
      go false = (omega arith, a)

  pub segments_proper : (starts : List ℕ) → NotDescending starts → All Proper (segments_of setup starts)
  unfolding segments_of
  segments_proper [] o = tt
  segments_proper (s ∷ starts) o =
      join_proper s (segments_of setup starts)
      (segments_all (λ (x : ℕ). s ≤ x) (λ (g : Segment). s ≤ g.left) (λ x h. h) (λ x g h k. h) starts o.0)
      (segments_proper starts o.1)

  -- ---- they are the longest runs
  run_single : (s : ℕ) → RunOf setup (s ∷ []) (single s)
  run_single s = record { some = omega arith; touching = tt; starts = refl; ends = refl }

  run_longer : (s : ℕ) (run : List ℕ) (g : Segment) → room setup (suc s) g.left ≡ 0 → RunOf setup run g
      → RunOf setup (s ∷ run) (left_at s g)
  run_longer s [] g e r = absurd (omega (arith, r.some))
  run_longer s (x ∷ xs) g e r =
      record { some = omega arith; touching = (rw r.starts e, r.touching); starts = refl; ends = r.ends }

  apart_left : (s : ℕ) (g : Segment) (gs : List Segment) → Apart setup (g ∷ gs) → Apart setup (left_at s g ∷ gs)
  apart_left s g [] a = tt
  apart_left s g (h ∷ gs) a = a

  apart_behind : (g : Segment) (gs : List Segment) → Apart setup (g ∷ gs) → Apart setup gs
  apart_behind g [] a = tt
  apart_behind g (h ∷ gs) a = a.1

  join_runs : (s : ℕ) (starts : List ℕ) (gs : List Segment) (rs : List (List ℕ)) → together rs ≡ starts → Pairs (RunOf setup) rs gs
      → Apart setup gs → LongestRuns setup (s ∷ starts) (join_left setup s gs)
  join_runs s starts [] [] e p a =
      record { runs = (s ∷ []) ∷ []; slots = ap (λ (l : List ℕ). s ∷ l) e; each = (run_single s, tt); apart = tt }
  join_runs s starts [] (r ∷ rs) e p a = absurd p
  join_runs s starts (g ∷ gs) [] e p a = absurd p
  join_runs s starts (g ∷ gs) (r ∷ rs) e p a =
      go (eqb (room setup (suc s) g.left) 0) (same (room setup (suc s) g.left) 0)
    where
      go : (x : Bool) → Same (room setup (suc s) g.left) 0 x → LongestRuns setup (s ∷ starts) (beside_if x s g gs)
      go true (same_yes z) =
          record {
            runs = (s ∷ r) ∷ rs;
            slots = ap (λ (l : List ℕ). s ∷ l) e;
            each = (run_longer s r g z p.0, p.1);
            apart = apart_left s g gs a;
          }
      go false (same_no n) =
          record {
            runs = (s ∷ []) ∷ r ∷ rs;
            slots = ap (λ (l : List ℕ). s ∷ l) e;
            each = (run_single s, p);
            apart = (omega (arith, n), a);
          }

  segments_runs_of : (starts : List ℕ) → LongestRuns setup starts (segments_of setup starts)
  unfolding segments_of
  segments_runs_of [] = record { runs = []; slots = refl; each = tt; apart = tt }
  segments_runs_of (s ∷ starts) =
      let L = segments_runs_of starts in join_runs s starts (segments_of setup starts) L.runs L.slots L.each L.apart

  -- ---- and no other list of segments has the longest runs
  -- a start slot in front of segments that it does not touch
  join_far : (s : ℕ) (gs : List Segment) → Apart setup (single s ∷ gs) → join_left setup s gs ≡ single s ∷ gs
  join_far s [] a = refl
  join_far s (g ∷ gs) a = rw (ne_eqb (room setup (suc s) g.left) 0 (λ e. omega (arith, a.0)))

  -- a run in front of segments that it does not touch is one segment
  run_joined : (s : ℕ) (run : List ℕ) (right : ℕ) (starts : List ℕ) (gs : List Segment) → Neighbours (Touch setup) (s ∷ run)
      → suc (last_or s run) ≡ right → Apart setup (record { left = s; right = right } ∷ gs) → segments_of setup starts ≡ gs
      → segments_of setup (s ∷ run ++ starts) ≡ record { left = s; right = right } ∷ gs
  unfolding segments_of
  run_joined s [] right starts gs n e a h = rw (← e, h) (join_far s gs (subst (λ (r : ℕ). Apart setup (record { left = s; right = r } ∷ gs)) (sym e) a))
  run_joined s (x ∷ run) right starts gs n e a h =
      ap (join_left setup s) (run_joined x run right starts gs n.1 e (apart_left x (record { left = s; right = right }) gs a) h)
      ∙ rw (eq-eqb (room setup (suc s) x) 0 n.0)

  segments_only : (rs : List (List ℕ)) (gs : List Segment) → Pairs (RunOf setup) rs gs → Apart setup gs
      → segments_of setup (together rs) ≡ gs
  unfolding segments_of
  segments_only [] [] p a = refl
  segments_only [] (g ∷ gs) p a = absurd p
  segments_only (r ∷ rs) [] p a = absurd p
  segments_only ([] ∷ rs) (g ∷ gs) p a = absurd (omega (arith, p.0.some))
  segments_only ((s ∷ run) ∷ rs) (g ∷ gs) p a =
      run_joined s run g.right (together rs) gs p.0.touching p.0.ends (apart_left s g gs a)
      (segments_only rs gs p.1 (apart_behind g gs a))
      ∙ (λ i. record { left = p.0.starts i; right = g.right } ∷ gs)

  -- "Segments are the longest runs of touching intervals, given as [left, right]."
  pub longest_runs : (starts : List ℕ) (gs : List Segment) → LongestRuns setup starts gs ↔ (gs ≡ segments_of setup starts)
  longest_runs starts gs = (only, are)
    where
      only : LongestRuns setup starts gs → gs ≡ segments_of setup starts
      only L = sym (rw L.slots at (segments_only L.runs gs L.each L.apart))

      are : gs ≡ segments_of setup starts → LongestRuns setup starts gs
      are e = rw e (segments_runs_of starts)

  -- ---- how many segments a slot lies in: counted in crate slots
  abbrev segment_of : Part → Segment
  segment_of g = record { left = g.left; right = g.right }

  join_same : (s : ℕ) (gs : List Part) → join_left setup s (map segment_of gs) ≡ map segment_of (join_of (capacity_of setup) s gs)
  join_same s [] = refl
  join_same s (g ∷ gs) = rw (room_capacity setup (suc s) g.left) (go (eqb (room_of (capacity_of setup) (suc s) g.left) 0))
    where
      go : (x : Bool)
          → beside_if x s (segment_of g) (map segment_of gs)
          ≡ map segment_of (cond x (segment s g.right ∷ gs) (segment s (suc s) ∷ g ∷ gs))
      go true = refl
      go false = refl

  segments_same : (starts : List ℕ) → segments_of setup starts ≡ map segment_of (segments (capacity_of setup) starts)
  unfolding segments_of segments
  segments_same [] = refl
  segments_same (s ∷ starts) = ap (join_left setup s) (segments_same starts) ∙ join_same s (segments (capacity_of setup) starts)

  lies_same : (x : ℕ) (g : Part) → to_number (lies_in x (segment_of g)) ≡ inside x g
  lies_same x g =
      elim (order g.left x) [
        | le h ↦ elim (order g.right x) [
          | le k ↦ rw (le-leb g.left x h, le-ltb x g.right k) (sym (inside_after x g k))
          | gt k ↦ rw (le-leb g.left x h, lt-ltb x g.right k) (sym (inside_yes x g h k))
        ]
        | gt h ↦ rw (lt-leb g.left x h) (sym (inside_before x g h))
      ]

  lies_count : (x : ℕ) (gs : List Part) → count_if (lies_in x) (map segment_of gs) ≡ total (inside x) gs
  lies_count x gs =
      count_total (lies_in x) (map segment_of gs)
      ∙ total_map (λ (g : Segment). to_number (lies_in x g)) segment_of gs
      ∙ total_same (λ (g : Part). to_number (lies_in x (segment_of g))) (inside x) gs (lies_same x)

  ascend : (starts : List ℕ) → NotDescending starts → Ascend starts
  ascend [] o = tt
  ascend (s ∷ []) o = (tt, tt)
  ascend (s ∷ x ∷ starts) o = (o.0.0, ascend (x ∷ starts) o.1)

  runs_count : (x : ℕ) (y : ℕ) (starts : List ℕ) (gs : List Part) → 0 < capacity_of setup x → Runs (capacity_of setup) y starts gs
      → total (inside x) gs ≡ min 1 (taken_of x starts)
  runs_count x y starts gs p (runs g hs e l a c) = c x p

  none_cover : (x : ℕ) → count_if (lies_in x) (segments_of setup []) ≡ min 1 (taken x [])
  unfolding segments_of count_if
  none_cover x = refl

  -- an open slot lies in one segment where it is in use, else in none
  pub segments_cover : (starts : List ℕ) → NotDescending starts → (x : ℕ) → is_open setup x ≡ true
      → count_if (lies_in x) (segments_of setup starts) ≡ min 1 (taken x starts)
  segments_cover [] o x p = none_cover x
  segments_cover (y ∷ starts) o x p =
      ap (count_if (lies_in x)) (segments_same (y ∷ starts))
      ∙ lies_count x (segments (capacity_of setup) (y ∷ starts))
      ∙ runs_count x y (y ∷ starts) (segments (capacity_of setup) (y ∷ starts)) (ltb-true 0 (capacity_of setup x) p)
      (segments_runs (capacity_of setup) y starts (ascend (y ∷ starts) o))
      ∙ ap (min 1) (sym (taken_same x (y ∷ starts)))
