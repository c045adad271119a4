-- Laws of the start slots and the segments, one for each turn of a loop over them. Assumes nothing.
use Prim.Native.Nat.{ℕ, zero, suc, ◌+◌, ◌-◌, ◌≤◌, ◌<◌, min}
use mathlib.Core.Path.{◌≡◌, refl, ◌∙◌}
use mathlib.Core.Bool.{Bool, true, false, cond}
use mathlib.Core.List.{List, [], ◌∷◌, ◌++◌}
use native.Mathlib.Numerals.{add-one}
use native.Mathlib.Omega.{arith}
use borrow.Author.Tests.{lt-ltb, le-ltb, eq-eqb, ne_eqb}
use lib.Dec.{ltb, eqb}
use lib.ListN.{length, get_or, take, drop, set}
use lib.Seq.{take-suc, append_snoc, set_at, length-take-le}
use Rattle.spec.specs.declared.types.Setup.{Setup}
use Rattle.spec.specs.declared.types.Request.{Request}
use Rattle.spec.specs.Tables.{zero_request, deadlines_of}
use Rattle.slots.proofs.Laws.Sums.{All, all_imp}
use Rattle.slots.proofs.Laws.Tests.{le, gt, order}
use Rattle.spec.specs.Every.{count_if}
use Rattle.spec.specs.Hours.{capacity_of, is_open}
use Rattle.spec.specs.Chart.{Segment, taken, latest_free, do_touch, join_left, segments_of, starts_of}
use Rattle.spec.proofs.Laws.Every.{cond_true, number_no}
use Rattle.spec.proofs.Laws.Room.{capacity_most}
use Rattle.hours.specs.declared.calendar.Stretch.{Stretch}
use Rattle.hours.specs.Week.{are_all_open, latest_open, stretch_to, OpenFrom}
use Rattle.hours.proofs.OpenSlots.{all_open_capacity}
use Rattle.hours.proofs.Stretches.{first_hour}
use Rattle.occupancy.specs.Charted.{start_slot, start_slots, segment}
use Rattle.table.specs.Widths.{largest64}
use Rattle.std.proofs.Math.Seq.{drop-length, drop-cons}

-- ---- the latest open slot
-- an open slot is the latest before the next one
latest_last : (setup : Setup) (e : ℕ) → 0 < e → is_open setup (e - 1) ≡ true → latest_open setup e ≡ e - 1
unfolding latest_open
latest_last setup zero h o = absurd (omega arith)
latest_last setup (suc e) h o =
    let q : suc e - 1 ≡ e = omega arith in
    rw q (cond_true (is_open setup e) e (latest_open setup e) (rw q at o))

-- .. so one before a slot that lies among open ones, or at their end, is known with these
pub latest_held : (setup : Setup) (held : Stretch) (e : ℕ) → OpenFrom setup held → held.hour.start < e → e ≤ held.end
    → latest_open setup e ≡ e - 1
latest_held setup held e o h k = latest_last setup e (omega arith) (o.all_open_lem (e - 1) (omega arith) (omega arith))

-- .. and the last of them, where there is one, is the latest before their end
pub latest_found : (setup : Setup) (found : Stretch) → OpenFrom setup found → latest_open setup found.end ≡ found.end - 1
unfolding latest_open
latest_found setup found o =
    elim (order found.end found.hour.start) [
      | le k ↦ let none : found.end ≡ 0 = o.some (λ h. omega arith) in rw none
      | gt k ↦ latest_held setup found found.end o k (omega arith)
    ]

-- where all hours are open, all slots are
pub all_slots : (setup : Setup) (end : ℕ) → are_all_open setup ≡ true → 0 < end → OpenFrom setup (stretch_to end)
all_slots setup end all h = record {
  hour = first_hour setup;
  all_open_lem = λ x l b. lt-ltb 0 (capacity_of setup x) (omega (arith, all_open_capacity setup all x));
  some = λ n. absurd (n h);
}

-- ---- start slots
-- the latest slot that can take one more lies before the end, or is 0
free_below : (setup : Setup) (later : List ℕ) (e : ℕ) → latest_free setup later e ≤ e - 1
unfolding latest_free
free_below setup later zero = omega arith
free_below setup later (suc e) = go (ltb (taken e later) (capacity_of setup e)) (free_below setup later e)
  where
    go : (b : Bool) → latest_free setup later e ≤ e - 1 → cond b e (latest_free setup later e) ≤ suc e - 1
    go true h = omega arith
    go false h = omega arith

-- no slot before the later ones is taken
none_taken : (e : ℕ) (later : List ℕ) → All (λ (s : ℕ). suc e ≤ s) later → taken e later ≡ 0
unfolding count_if
none_taken e [] behind = refl
none_taken e (s ∷ later) behind = omega (arith, number_no (eqb e s) (ne_eqb e s (λ q. omega (arith, behind.0))), none_taken e later behind.1)

-- .. so there each open slot can take one
free_open : (setup : Setup) (later : List ℕ) (e : ℕ) → All (λ (s : ℕ). e ≤ s) later → latest_free setup later e ≡ latest_open setup e
unfolding latest_free latest_open
free_open setup later zero behind = refl
free_open setup later (suc e) behind =
    rw (
      none_taken e later behind,
      free_open setup later e (all_imp (λ (s : ℕ). suc e ≤ s) (λ (s : ℕ). e ≤ s) later (λ s h. omega arith) behind),
    )

-- the first later one's own slot is taken, and no slot takes two
free_behind : (setup : Setup) (s : ℕ) (later : List ℕ) → latest_free setup (s ∷ later) (suc s) ≡ latest_free setup (s ∷ later) s
unfolding latest_free count_if
free_behind setup s later =
    let full : ltb (taken s (s ∷ later)) (capacity_of setup s) ≡ false =
    rw (eq-eqb s s refl) (le-ltb (1 + taken s later) (capacity_of setup s) (omega (arith, capacity_most setup s)))
    in rw full

-- the first of these start slots is the earliest
abbrev FromFirst : List ℕ → Type 0
FromFirst starts = All (λ (s : ℕ). get_or starts 0 0 ≤ s) starts

starts_ascend : (setup : Setup) (ds : List ℕ) → FromFirst (start_slots setup ds)
unfolding start_slots
starts_ascend setup [] = tt
starts_ascend setup (d ∷ ds) = (omega arith, go (start_slots setup ds) (starts_ascend setup ds))
  where
    go : (later : List ℕ) → FromFirst later → All (λ (s : ℕ). start_slot setup d later ≤ s) later
    go [] behind = tt
    go (s ∷ later) behind =
        all_imp (λ (x : ℕ). s ≤ x) (λ (x : ℕ). start_slot setup d (s ∷ later) ≤ x) (s ∷ later)
        (λ x h. omega (arith, free_below setup (s ∷ later) (min d (suc s)))) behind

-- a start slot is the latest open slot before the deadline and the first later start; with nothing behind, the largest number stands for
-- that: no deadline is larger
start_behind : (setup : Setup) (d : ℕ) (later : List ℕ) → d ≤ largest64 → FromFirst later
    → start_slot setup d later ≡ latest_open setup (min d (get_or later 0 largest64))
start_behind setup d [] h behind = let p : min d largest64 ≡ d = omega arith in rw p (free_open setup [] d tt)
start_behind setup d (s ∷ later) h behind =
    elim (order d s) [
      | le k ↦ let p : min d (suc s) ≡ d = omega arith in
          let q : min d s ≡ d = omega arith in
          rw (p, q) (free_open setup (s ∷ later) d (all_imp (λ (x : ℕ). s ≤ x) (λ (x : ℕ). d ≤ x) (s ∷ later) (λ x j. omega arith) behind))
      | gt k ↦ let p : min d (suc s) ≡ suc s = omega arith in
          let q : min d s ≡ s = omega arith in
          rw (p, q) (free_behind setup s later ∙ free_open setup (s ∷ later) s behind)
    ]

-- the start slots of the records from an index on
abbrev pub starts_from : Setup → List Request → ℕ → List ℕ
starts_from setup ws i = start_slots setup (deadlines_of (drop i ws))

-- behind the last record there is none
pub starts_none : (setup : Setup) (ws : List Request) → starts_from setup ws (length ws) ≡ []
unfolding start_slots
starts_none setup ws = rw (drop-length ws)

-- one turn towards the front: one start more
pub starts_more : (setup : Setup) (ws : List Request) (i next : ℕ) → i < length ws
    → (get_or ws i zero_request).deadline ≤ largest64 → next ≡ get_or (starts_from setup ws (i + 1)) 0 largest64
    → starts_from setup ws i ≡ latest_open setup (min (get_or ws i zero_request).deadline next) ∷ starts_from setup ws (i + 1)
unfolding start_slots
starts_more setup ws i next l b e =
    let behind : next ≡ get_or (starts_from setup ws (suc i)) 0 largest64 = rw add-one at e in
    let due : ℕ = (get_or ws i zero_request).deadline in
    rw (
      add-one,
      drop-cons ws i zero_request l,
      behind,
      start_behind setup due (starts_from setup ws (suc i)) b (starts_ascend setup (deadlines_of (drop (suc i) ws))),
    )

-- .. and it is written in front of those that stand already
pub set_last : (o t : List ℕ) (i v : ℕ) → 0 < i → i ≤ length o → set (take i o ++ t) (i - 1) v ≡ take (i - 1) o ++ (v ∷ t)
set_last o t zero v p h = absurd (omega arith)
set_last o t (suc j) v p h =
    let q : suc j - 1 ≡ j = omega arith in
    rw (q, take-suc o j 0 h, append_snoc, set_at (take j o) (get_or o j 0) t v j (length-take-le j o (omega arith)))

-- ---- segments
-- the segments with a run from l to r on their left, which goes on into the first of them where they touch
unfoldable pub glue : Setup → ℕ → ℕ → List Segment → List Segment
glue setup l r [] = segment l r ∷ []
glue setup l r (g ∷ gs) = cond (do_touch setup r g.left) (segment l g.right ∷ gs) (segment l r ∷ g ∷ gs)

join_glue : (setup : Setup) (s : ℕ) (gs : List Segment) → join_left setup s gs ≡ glue setup s (s + 1) gs
unfolding glue
join_glue setup s [] = rw add-one
join_glue setup s (g ∷ gs) = rw add-one

module _ (setup : Setup) (l r s : ℕ) where
  glue_more : (gs : List Segment) → do_touch setup r s ≡ true → glue setup l r (join_left setup s gs) ≡ glue setup l (s + 1) gs
  unfolding glue
  glue_more [] e = rw (add-one, e)
  glue_more (g ∷ gs) e = rw add-one (go (do_touch setup (suc s) g.left))
    where
      go : (b : Bool) → glue setup l r (cond b (segment s g.right ∷ gs) (segment s (suc s) ∷ g ∷ gs))
          ≡ cond b (segment l g.right ∷ gs) (segment l (suc s) ∷ g ∷ gs)
      go true = rw e
      go false = rw e

  glue_ends : (gs : List Segment) → do_touch setup r s ≡ false → glue setup l r (join_left setup s gs) ≡ segment l r ∷ join_left setup s gs
  unfolding glue
  glue_ends [] e = rw e
  glue_ends (g ∷ gs) e = go (do_touch setup (suc s) g.left)
    where
      go : (b : Bool) → glue setup l r (cond b (segment s g.right ∷ gs) (segment s (suc s) ∷ g ∷ gs))
          ≡ segment l r ∷ cond b (segment s g.right ∷ gs) (segment s (suc s) ∷ g ∷ gs)
      go true = rw e
      go false = rw e

-- a run begins with an interval, goes on with one that it touches, and ends before any other, or at the end
module _ (setup : Setup) (s : ℕ) (starts : List ℕ) where
  pub run_begins : segments_of setup (s ∷ starts) ≡ glue setup s (s + 1) (segments_of setup starts)
  unfolding segments_of
  run_begins = join_glue setup s (segments_of setup starts)

  module _ (left right : ℕ) where
    pub run_more : do_touch setup right s ≡ true
        → glue setup left right (segments_of setup (s ∷ starts)) ≡ glue setup left (s + 1) (segments_of setup starts)
    unfolding segments_of
    run_more e = glue_more setup left right s (segments_of setup starts) e

    pub run_ends : do_touch setup right s ≡ false
        → glue setup left right (segments_of setup (s ∷ starts)) ≡ segment left right ∷ segments_of setup (s ∷ starts)
    unfolding segments_of
    run_ends e = glue_ends setup left right s (segments_of setup starts) e

pub run_last : (setup : Setup) (left right : ℕ) → glue setup left right (segments_of setup []) ≡ segment left right ∷ segments_of setup []
unfolding segments_of glue
run_last setup left right = refl

-- ---- start slots of deadlines are those of requests
pub starts_column : (setup : Setup) (ws : List Request) → start_slots setup (deadlines_of ws) ≡ starts_of setup ws
unfolding start_slots starts_of
starts_column setup [] = refl
starts_column setup (w ∷ ws) = rw (starts_column setup ws)

-- no start slot is the largest number, as `Segments` asks
pub starts_below : (setup : Setup) (ds : List ℕ) (k : ℕ) → k < length ds → ((j : ℕ) → j < length ds → get_or ds j 0 ≤ largest64)
    → get_or (start_slots setup ds) k 0 < largest64
unfolding start_slots
starts_below setup [] k h b = absurd (omega arith)
starts_below setup (d ∷ ds) zero h b = go (start_slots setup ds)
  where
    go : (later : List ℕ) → start_slot setup d later < largest64
    go [] = omega (arith, free_below setup [] d, b 0 (omega arith))
    go (s ∷ later) = omega (arith, free_below setup (s ∷ later) (min d (suc s)), b 0 (omega arith))
starts_below setup (d ∷ ds) (suc k) h b = starts_below setup ds k (omega arith) (λ j i. b (suc j) (omega arith))
