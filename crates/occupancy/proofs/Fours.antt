-- Deadlines looked at by fours and by eights: what a line tells of them, and what the search comes to where none of them is full.
-- Assumes nothing.
use Prim.Native.Nat.{ℕ, zero, suc, ◌+◌, ◌≤◌, ◌<◌}
use mathlib.Core.Path.{◌≡◌, refl, ap, sym, ◌∙◌}
use mathlib.Core.Bool.{Bool, true, false, ◌&&◌, ◌||◌, and-eq-true_iff}
use mathlib.Core.List.{List, [], ◌∷◌}
use native.Mathlib.Omega.{arith}
use borrow.Author.Tests.{ltb-true, lt-ltb, le-ltb, lt-leb, leb-true, leb-false}
use lib.Dec.{ltb, leb}
use lib.ListN.{length, get_or, take, drop, length-map, get_or-map}
use lib.Seq.{get_or-take}
use Rattle.std.proofs.lemmas.List.{drop-map, get_or-drop, length-drop}
use Rattle.spec.specs.declared.types.Setup.{Setup}
use Rattle.spec.specs.declared.types.Head.{Head}
use Rattle.spec.specs.declared.types.Request.{Request}
use Rattle.spec.specs.Tables.{zero_request, deadlines_of}
use Rattle.spec.specs.Hours.{room}
use Rattle.spec.specs.Chart.{room_to}
use Rattle.spec.proofs.Laws.Every.{and_left, and_right, or_none, Value, is_true, is_false, value}
use Rattle.hours.specs.declared.calendar.Line.{Line}
use Rattle.hours.specs.declared.calendar.Week.{Week}
use denote.Bor.{Bor}
use Rattle.hours.specs.Week.{Below}
use Rattle.occupancy.specs.Fours.{is_full, is_one_full, first_full, are_above, are_eight_above}
use Rattle.occupancy.specs.Scans.{Sorted, overfull_from}
use Rattle.occupancy.proofs.Searches.{room_difference, first_behind, first_overfull}

-- ---- the four of an array
pub four : (ds : List ℕ) → length ds ≡ 4 → ds ≡ get_or ds 0 0 ∷ get_or ds 1 0 ∷ get_or ds 2 0 ∷ get_or ds 3 0 ∷ []
four [] e = absurd (omega arith)
four (a ∷ []) e = absurd (omega arith)
four (a ∷ b ∷ []) e = absurd (omega arith)
four (a ∷ b ∷ c ∷ []) e = absurd (omega arith)
four (a ∷ b ∷ c ∷ d ∷ []) e = refl
four (a ∷ b ∷ c ∷ d ∷ x ∷ ds) e = absurd (omega arith)

-- ---- the first ones of the requests, and their deadlines
abbrev pub due : List Request → ℕ → ℕ
due ws k = (get_or ws k zero_request).deadline

pub chunk_due : (chunk ws : List Request) (m k : ℕ) → chunk ≡ take m ws → k < m → get_or (deadlines_of ws) k 0 ≡ due chunk k
chunk_due chunk ws m k is l =
    let same : get_or chunk k zero_request ≡ get_or ws k zero_request = rw is (get_or-take m ws k zero_request l) in
    get_or-map (λ w. w.deadline) ws k zero_request ∙ ap (λ (w : Request). w.deadline) (sym same)

four_due : (chunk ws : List Request) → chunk ≡ take 4 ws
    → (k : ℕ) → k < 4 → get_or (due chunk 0 ∷ due chunk 1 ∷ due chunk 2 ∷ due chunk 3 ∷ []) k 0 ≡ get_or (deadlines_of ws) k 0
four_due chunk ws is zero l = sym (chunk_due chunk ws 4 0 is l)
four_due chunk ws is (suc zero) l = sym (chunk_due chunk ws 4 1 is l)
four_due chunk ws is (suc (suc zero)) l = sym (chunk_due chunk ws 4 2 is l)
four_due chunk ws is (suc (suc (suc zero))) l = sym (chunk_due chunk ws 4 3 is l)
four_due chunk ws is (suc (suc (suc (suc k)))) l = absurd (omega arith)

-- ---- a line and four deadlines behind one another
each_of_five : (p a b c d : Bool) → p && (a && b) && (c && d) ≡ true → (p ≡ true) × (a ≡ true) × (b ≡ true) × (c ≡ true) × (d ≡ true)
each_of_five p a b c d e =
    let first = and_left (p && (a && b)) (c && d) e in
    let second = and_right (p && (a && b)) (c && d) e in
    let both = and_right p (a && b) first in
    (and_left p (a && b) first, and_left a b both, and_right a b both, and_left c d second, and_right c d second)

by_pairs : (p q r s : Bool) → (p || q) || (r || s) ≡ p || (q || (r || (s || false)))
by_pairs true q r s = refl
by_pairs false true r s = refl
by_pairs false false true s = refl
by_pairs false false false true = refl
by_pairs false false false false = refl

module _ (setup : Setup) where
  -- one of four is full where it is by pairs
  pub one_of_four : (n : ℕ) (ds : List ℕ) → length ds ≡ 4
      → (is_full setup n (get_or ds 0 0) || is_full setup (n + 1) (get_or ds 1 0))
      || (is_full setup (n + 2) (get_or ds 2 0) || is_full setup (n + 3) (get_or ds 3 0))
      ≡ is_one_full setup n ds
  one_of_four n ds size =
      let full : ℕ → ℕ → Bool = λ m k. is_full setup m (get_or ds k 0) in
      let third : n + 1 + 1 ≡ n + 2 = omega arith in
      let fourth : n + 2 + 1 ≡ n + 3 = omega arith in
      by_pairs (full n 0) (full (n + 1) 1) (full (n + 2) 2) (full (n + 3) 3)
      ∙ rw (← fourth, ← third) (ap (is_one_full setup n) (sym (four ds size)))

  -- deadlines that the line tells of are not full
  pub none_full : (line : Line) (n : ℕ) (ds : List ℕ) → length ds ≡ 4 → Below setup line → are_above line n ds ≡ true
      → is_one_full setup n ds ≡ false
  none_full line n ds size below e =
      let base : ℕ = line.floor + n in
      let due : ℕ → ℕ = λ k. get_or ds k 0 in
      let told =
      each_of_five (ltb (n + 3) line.reach) (ltb base (due 0)) (ltb (base + 1) (due 1)) (ltb (base + 2) (due 2)) (ltb (base + 3) (due 3)) e
      in
      let reach = ltb-true (n + 3) line.reach told.0 in
      let first = below.more n (due 0) (ltb-true base (due 0) told.1) (omega arith) in
      let second = below.more (n + 1) (due 1) (omega (arith, ltb-true (base + 1) (due 1) told.2)) (omega arith) in
      let third = below.more (n + 2) (due 2) (omega (arith, ltb-true (base + 2) (due 2) told.3)) (omega arith) in
      let fourth = below.more (n + 3) (due 3) (omega (arith, ltb-true (base + 3) (due 3) told.4)) reach in
      sym (one_of_four n ds size)
      ∙ rw (
        lt-leb (room setup 0 (due 0)) n first,
        lt-leb (room setup 0 (due 1)) (n + 1) second,
        lt-leb (room setup 0 (due 2)) (n + 2) third,
        lt-leb (room setup 0 (due 3)) (n + 3) fourth,
      )

  -- where none is full, each is not
  each_not_full : (n : ℕ) (ds : List ℕ) → is_one_full setup n ds ≡ false
      → (k : ℕ) → k < length ds → is_full setup (n + k) (get_or ds k 0) ≡ false
  each_not_full n [] e k l = absurd (omega arith)
  each_not_full n (d ∷ ds) e zero l =
      let here : n + 0 ≡ n = omega arith in
      rw here (or_none (is_full setup n d) (is_one_full setup (n + 1) ds) e).0
  each_not_full n (d ∷ ds) e (suc k) l =
      let there : n + suc k ≡ n + 1 + k = omega arith in
      rw there (each_not_full (n + 1) ds (or_none (is_full setup n d) (is_one_full setup (n + 1) ds) e).1 k (omega arith))

  -- where the line tells of eight by the first, a deadline that is not before it is not full with up to seven more taken
  eighth_not_full : (line : Line) (n first : ℕ) → Below setup line → are_eight_above line n first ≡ true
      → (k d : ℕ) → k < 8 → first ≤ d → is_full setup (n + k) d ≡ false
  eighth_not_full line n first below e k d few late =
      let told = simp and-eq-true_iff at e in
      let floor = ltb-true _ first told.1 in
      let reach = ltb-true _ line.reach told.0 in
      lt-leb (room setup 0 d) (n + k) (below.more (n + k) d (omega (arith, floor)) (omega (arith, reach)))

  -- ---- the search behind records that have room
  module _ (n : ℕ) (ws : List Request) where
    behind : (m : ℕ) → m ≤ length ws → ((k : ℕ) → k < m → is_full setup (n + k) (get_or (deadlines_of ws) k 0) ≡ false)
        → first_full setup (n + m) (drop m ws) ≡ first_full setup n ws
    behind m fits none =
        rw (← drop-map (λ (w : Request). w.deadline) m ws)
        (first_behind (is_full setup) n m (deadlines_of ws) (omega (arith, length-map ws (λ (w : Request). w.deadline))) none)

    -- four of which none is full
    pub four_on : (chunk : List Request) → 4 ≤ length ws → chunk ≡ take 4 ws
        → is_one_full setup n (due chunk 0 ∷ due chunk 1 ∷ due chunk 2 ∷ due chunk 3 ∷ []) ≡ false
        → first_full setup (n + 4) (drop 4 ws) ≡ first_full setup n ws
    four_on chunk fits is none =
        behind 4 fits
        (λ k l. rw (sym (four_due chunk ws is k l))
        (each_not_full n (due chunk 0 ∷ due chunk 1 ∷ due chunk 2 ∷ due chunk 3 ∷ []) none k l))

    -- eight that a line tells of by the first of them, where deadlines ascend
    pub eight_on : (line : Line) → Below setup line → Sorted (deadlines_of ws) → 8 ≤ length ws
        → are_eight_above line n (get_or (deadlines_of ws) 0 0) ≡ true → first_full setup (n + 8) (drop 8 ws) ≡ first_full setup n ws
    eight_on line below sorted fits e =
        behind 8 fits
        (λ k few. eighth_not_full line n (get_or (deadlines_of ws) 0 0) below e k (get_or (deadlines_of ws) k 0) few
        (sorted 0 k (omega arith) (omega (arith, length-map ws (λ (w : Request). w.deadline)))))

-- what a search finds is told by its week, by what is taken and by what is left
pub same_search : (p q : Bor Week) (n m : ℕ) (ws vs : List Request) → p ≡ q → n ≡ m → ws ≡ vs
    → first_full p.now.setup n ws ≡ first_full q.now.setup m vs
same_search p q n m ws vs e f g = rw (e, f, g)

-- deadlines ascend behind the first ones too
pub ascends_behind : (n : ℕ) (ws : List Request) → Sorted (deadlines_of ws) → Sorted (deadlines_of (drop n ws))
ascends_behind n ws sorted =
    rw (← drop-map (λ (w : Request). w.deadline) n ws)
    (λ j k before inside.
    let ds : List ℕ = deadlines_of ws in
    rw (get_or-drop n ds j 0, get_or-drop n ds k 0)
    (sorted (n + j) (n + k) (omega arith) (omega (arith, length-drop n ds))))

-- ---- open slots before the clock and requests together: what is taken before a deadline
module _ (head : Head) (before : ℕ) (counted : before ≡ room head.setup 0 head.clock) where
  full_by_room : (rank d : ℕ) → is_full head.setup (before + rank) d ≡ ltb (room_to head d) (suc rank)
  full_by_room rank d = go (value (leb (room head.setup 0 d) (before + rank)))
    where
      go : Value (leb (room head.setup 0 d) (before + rank)) → is_full head.setup (before + rank) d ≡ ltb (room_to head d) (suc rank)
      go (is_true e) =
          rw (
            e,
            lt-ltb (room_to head d) (suc rank)
                (omega (arith, counted, leb-true (room head.setup 0 d) (before + rank) e, room_difference head.setup head.clock d)),
          )
      go (is_false e) =
          rw (
            e,
            le-ltb (room_to head d) (suc rank)
                (omega (arith, counted, leb-false (room head.setup 0 d) (before + rank) e, room_difference head.setup head.clock d)),
          )

  -- the first full deadline is the first overfull one
  pub full_overfull : (rank : ℕ) (ws : List Request)
      → first_full head.setup (before + rank) ws ≡ overfull_from head rank (deadlines_of ws)
  full_overfull rank ws =
      first_overfull head (is_full head.setup) (before + rank) rank (deadlines_of ws)
      (λ k l.
      let together : before + rank + k ≡ before + (rank + k) = omega arith in
      rw together (full_by_room (rank + k) (get_or (deadlines_of ws) k 0)))
