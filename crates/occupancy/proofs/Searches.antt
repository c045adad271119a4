-- Laws of the searches in the waiting records: one turn of each, and what they come to. Assumes nothing.
use Prim.Native.Nat.{ℕ, zero, suc, ◌+◌, ◌-◌, ◌%◌, ◌≤◌, ◌<◌}
use mathlib.Core.Path.{◌≡◌, refl, sym, ap, subst, ◌∙◌}
use mathlib.Core.Bool.{Bool, true, false, not, cond}
use mathlib.Core.List.{List, [], ◌∷◌}
use native.Mathlib.Numerals.{add-one}
use native.Mathlib.Omega.{arith}
use borrow.Author.Tests.{ltb-true, ltb-false, lt-ltb, le-ltb, le-leb, lt-leb}
use lib.Dec.{leb, ltb}
use lib.ListN.{length, get_or, set, take, drop, length-map, get_or-map}
use lib.Seq.{length-take-le, get_or-take, drop-cons, drop-length}
use Rattle.std.proofs.lemmas.List.{drop_all}
use Rattle.slots.proofs.Laws.Tests.{Test, holds, fails, test, le, gt, order}
use Rattle.spec.specs.declared.types.Setup.{Setup}
use Rattle.spec.specs.declared.types.Head.{Head}
use Rattle.spec.specs.declared.types.Request.{Request}
use Rattle.spec.specs.Every.{count_if}
use Rattle.spec.specs.Tables.{most_clients, zero_request, clients_of}
use Rattle.spec.specs.Hours.{room}
use Rattle.spec.specs.Chart.{room_to}
use Rattle.spec.proofs.Laws.Every.{number_yes, number_no, Value, is_true, is_false, value}
use Rattle.spec.proofs.Laws.Room.{room_mono, room_back, room_split}
use Rattle.hours.specs.Week.{are_all_open}
use Rattle.hours.proofs.OpenSlots.{all_open_room}
use Rattle.occupancy.specs.Scans.{Sorted, middle, halved, place_by, first_by, overfull_from, latest_of}

-- ---- the binary search: the entries before `low` are at most d, and those from `high` on are larger
record Between (d low high : ℕ) (xs : List ℕ) : Type 0 where
  pub small : (j : ℕ) → j < low → get_or xs j 0 ≤ d
  pub large : (j : ℕ) → high ≤ j → j < length xs → d < get_or xs j 0

-- a cut in one place counts the small entries
count_cut : (d m : ℕ) (xs : List ℕ) → m ≤ length xs → Between d m m xs → m ≡ count_if (λ x. leb x d) xs
unfolding count_if
count_cut d zero [] h c = refl
count_cut d (suc m) [] h c = absurd (omega arith)
count_cut d zero (x ∷ xs) h c =
    omega (
      arith,
      number_no (leb x d) (lt-leb x d (c.large 0 (omega arith) (omega arith))),
      count_cut d zero xs (omega arith)
          (record { small = λ j l. absurd (omega arith); large = λ j l k. c.large (suc j) (omega arith) (omega arith) }),
    )
count_cut d (suc m) (x ∷ xs) h c =
    omega (
      arith,
      number_yes (leb x d) (le-leb x d (c.small 0 (omega arith))),
      count_cut d m xs (omega arith)
          (record {
            small = λ j l. c.small (suc j) (omega arith);
            large = λ j l k. c.large (suc j) (omega arith) (omega arith);
          }),
    )

-- what the search knows of the first n entries between two looks
record Narrowed (ds : List ℕ) (n d low high : ℕ) : Type 0 where
  pub ordered : low ≤ high
  pub within : high ≤ n
  pub cut : Sorted (take n ds) → Between d low high (take n ds)

narrow_start : (ds : List ℕ) (n d : ℕ) → n ≤ length ds → Narrowed ds n d 0 n
narrow_start ds n d fits =
    record {
      ordered = omega arith;
      within = omega arith;
      cut = λ sorted.
          record {
            small = λ j l. absurd (omega arith);
            large = λ j l k. absurd (omega (arith, length-take-le n ds fits));
          };
    }

-- a look into the middle
module _ {ds : List ℕ} {n d low high : ℕ} (known : Narrowed ds n d low high) (fits : n ≤ length ds) where
  narrow_low : low < high → get_or ds (middle low high) 0 ≤ d → Narrowed ds n d (middle low high + 1) high
  narrow_low some h =
      record {
        ordered = omega arith;
        within = known.within;
        cut = λ sorted.
            record {
              small = λ j l.
                  omega (
                    arith,
                    sorted j (middle low high) (omega arith) (omega (arith, length-take-le n ds fits)),
                    get_or-take n ds (middle low high) 0 (omega arith),
                  );
              large = (known.cut sorted).large;
            };
      }

  narrow_high : low < high → d < get_or ds (middle low high) 0 → Narrowed ds n d low (middle low high)
  narrow_high some h =
      record {
        ordered = omega arith;
        within = omega arith;
        cut = λ sorted.
            record {
              small = (known.cut sorted).small;
              large = λ j l k.
                  omega (arith, sorted (middle low high) j l k, get_or-take n ds (middle low high) 0 (omega arith));
            };
      }

  narrow_end : high ≤ low → Sorted (take n ds) → low ≡ count_if (λ x. leb x d) (take n ds)
  narrow_end done sorted =
      let e : high ≡ low = omega arith in
      count_cut d low (take n ds) (omega (arith, length-take-le n ds fits)) (rw e at (known.cut sorted))

-- ---- the search by halves: looks that are left, and what it comes to
module _ (ds : List ℕ) (d : ℕ) where
  -- with none between the places nothing is left
  halved_none : (k low high : ℕ) → high ≤ low → halved k ds d low high ≡ low
  unfolding halved
  halved_none zero low high h = refl
  halved_none (suc k) low high h = rw (le-ltb low high h)

  -- more looks than there are places change nothing
  halved_enough : (j k low high : ℕ) → high - low ≤ j → high - low ≤ k → halved j ds d low high ≡ halved k ds d low high
  unfolding halved
  halved_enough zero k low high h l = sym (halved_none k low high (omega arith))
  halved_enough (suc j) zero low high h l = halved_none (suc j) low high (omega arith)
  halved_enough (suc j) (suc k) low high h l =
      go (ltb low high) (test (suc low) high)
      (λ some. halved_enough j k (middle low high + 1) high (omega arith) (omega arith))
      (λ some. halved_enough j k low (middle low high) (omega arith) (omega arith))
    where
      go : (b : Bool) → Test (suc low) high b
          → (low < high → halved j ds d (middle low high + 1) high ≡ halved k ds d (middle low high + 1) high)
          → (low < high → halved j ds d low (middle low high) ≡ halved k ds d low (middle low high))
          → cond b
          (cond (leb (get_or ds (middle low high) 0) d) (halved j ds d (middle low high + 1) high) (halved j ds d low (middle low high)))
          low
          ≡ cond b
          (cond (leb (get_or ds (middle low high) 0) d) (halved k ds d (middle low high + 1) high) (halved k ds d low (middle low high)))
          low
      go true (holds some) upper lower = rw (upper some, lower some)
      go false (fails none) upper lower = refl

  -- what is left to look at between two places
  abbrev pub left_between : ℕ → ℕ → ℕ
  left_between low high = halved (high - low) ds d low high

  module _ (low high : ℕ) where
    one_look : low < high
        → left_between low high
        ≡ cond (leb (get_or ds (middle low high) 0) d) (left_between (middle low high + 1) high) (left_between low (middle low high))
    unfolding halved
    one_look some =
        let k : ℕ = high - low - 1 in
        let e : high - low ≡ suc k = omega arith in
        ap (λ (x : ℕ). halved x ds d low high) e
        ∙ rw (lt-ltb low high some)
        (ap
        (λ (r : ℕ). cond (leb (get_or ds (middle low high) 0) d) r (halved k ds d low (middle low high)))
        (halved_enough k (high - (middle low high + 1)) (middle low high + 1) high (omega arith) (omega arith))
        ∙ ap
        (λ (r : ℕ). cond (leb (get_or ds (middle low high) 0) d) (left_between (middle low high + 1) high) r)
        (halved_enough k (middle low high - low) low (middle low high) (omega arith) (omega arith)))

    pub halves_low : low < high → get_or ds (middle low high) 0 ≤ d → left_between (middle low high + 1) high ≡ left_between low high
    halves_low some h = sym (one_look some ∙ rw (le-leb (get_or ds (middle low high) 0) d h))

    pub halves_high : low < high → d < get_or ds (middle low high) 0 → left_between low (middle low high) ≡ left_between low high
    halves_high some h = sym (one_look some ∙ rw (lt-leb (get_or ds (middle low high) 0) d h))

    pub halves_end : high ≤ low → low ≡ left_between low high
    halves_end done = sym (halved_none (high - low) low high done)

  module _ (n : ℕ) (fits : n ≤ length ds) where
    -- it narrows to one place
    narrowed : (k low high : ℕ) → high - low ≤ k → Narrowed ds n d low high
        → Narrowed ds n d (halved k ds d low high) (halved k ds d low high)
    unfolding halved
    narrowed zero low high h known =
        let e : high ≡ low = omega (arith, known.ordered) in
        subst (λ (x : ℕ). Narrowed ds n d low x) e known
    narrowed (suc k) low high h known =
        go (ltb low high) (test (suc low) high)
        (λ some s. narrowed k (middle low high + 1) high (omega arith) (narrow_low known fits some s))
        (λ some l. narrowed k low (middle low high) (omega arith) (narrow_high known fits some l))
      where
        look : (b : Bool) → Test (get_or ds (middle low high) 0) d b → {r s : ℕ}
            → (get_or ds (middle low high) 0 ≤ d → Narrowed ds n d r r) → (d < get_or ds (middle low high) 0 → Narrowed ds n d s s)
            → Narrowed ds n d (cond b r s) (cond b r s)
        look true (holds h) upper lower = upper h
        look false (fails h) upper lower = lower (omega arith)

        go : (b : Bool) → Test (suc low) high b → {r s : ℕ}
            → (low < high → get_or ds (middle low high) 0 ≤ d → Narrowed ds n d r r)
            → (low < high → d < get_or ds (middle low high) 0 → Narrowed ds n d s s)
            → let x = cond b (cond (leb (get_or ds (middle low high) 0) d) r s) low in Narrowed ds n d x x
        go true (holds some) upper lower =
            look (leb (get_or ds (middle low high) 0) d) (test (get_or ds (middle low high) 0) d) (upper some) (lower some)
        go false (fails none) upper lower =
            let e : high ≡ low = omega (arith, known.ordered) in
            subst (λ (x : ℕ). Narrowed ds n d low x) e known

    found : Narrowed ds n d (place_by ds n d) (place_by ds n d)
    found = narrowed n 0 n (omega arith) (narrow_start ds n d fits)

    pub place_within : place_by ds n d ≤ n
    place_within = found.within

    pub place_counts : Sorted (take n ds) → place_by ds n d ≡ count_if (λ x. leb x d) (take n ds)
    place_counts sorted = narrow_end found fits (omega arith) sorted

-- ---- the search by a test: behind deadlines for which it says no, and at one for which it says yes
module _ (test : ℕ → ℕ → Bool) where
  first_here : (i d : ℕ) (ds : List ℕ) → test i d ≡ true → d ≡ first_by test i (d ∷ ds)
  unfolding first_by
  first_here i d ds e = rw e

  pub first_behind : (i m : ℕ) (ds : List ℕ) → m ≤ length ds → ((k : ℕ) → k < m → test (i + k) (get_or ds k 0) ≡ false)
      → first_by test (i + m) (drop m ds) ≡ first_by test i ds
  unfolding first_by
  first_behind i zero ds fits none = let e : i + 0 ≡ i = omega arith in rw e
  first_behind i (suc m) [] fits none = absurd (omega arith)
  first_behind i (suc m) (d ∷ ds) fits none =
      let e : i + suc m ≡ suc i + m = omega arith in
      let here : i + 0 ≡ i = omega arith in
      let no = none 0 (omega arith) in
      rw (e, (rw here at no))
      (first_behind (suc i) m ds (omega arith)
      (λ k l. let f : suc i + k ≡ i + suc k = omega arith in rw f (none (suc k) (omega arith))))

  module _ (i m : ℕ) (ds : List ℕ) (none : (k : ℕ) → k < m → test (i + k) (get_or ds k 0) ≡ false) where
    pub first_at : m < length ds → test (i + m) (get_or ds m 0) ≡ true → get_or ds m 0 ≡ first_by test i ds
    first_at inside e =
        first_here (i + m) (get_or ds m 0) (drop (suc m) ds) e
        ∙ ap (first_by test (i + m)) (sym (drop-cons ds m 0 inside))
        ∙ first_behind i m ds (omega arith) none

    pub first_none : m ≡ length ds → 0 ≡ first_by test i ds
    unfolding first_by
    first_none all =
        let over : drop m ds ≡ [] = rw all (drop-length ds) in
        let left = first_behind i m ds (omega arith) none in
        rw over at left

-- ---- the search for an overfull deadline
module _ (head : Head) where
  -- it is one by a test that says, of each of the deadlines, whether there is no room
  pub first_overfull : (test : ℕ → ℕ → Bool) (j i : ℕ) (ds : List ℕ)
      → ((k : ℕ) → k < length ds → test (j + k) (get_or ds k 0) ≡ ltb (room_to head (get_or ds k 0)) (suc (i + k)))
      → first_by test j ds ≡ overfull_from head i ds
  unfolding first_by overfull_from
  first_overfull test j i [] same = refl
  first_overfull test j i (d ∷ ds) same =
      let p : j + 0 ≡ j = omega arith in
      let q : i + 0 ≡ i = omega arith in
      let here = same 0 (omega arith) in
      let first : test j d ≡ ltb (room_to head d) (suc i) = rw (p, q) at here in
      rw first
      (ap (cond (ltb (room_to head d) (suc i)) d)
      (first_overfull test (suc j) (suc i) ds
      (λ k l.
      let f : suc j + k ≡ j + suc k = omega arith in
      let g : suc i + k ≡ i + suc k = omega arith in
      rw (f, g) (same (suc k) (omega arith)))))

  -- d stands at the place i, and the others behind it
  module _ (i d : ℕ) (ds : List ℕ) where
    pub overfull_first : room_to head d ≤ i → d ≡ overfull_from head i (d ∷ ds)
    unfolding overfull_from
    overfull_first h =
        let full : room_to head d < suc i = omega arith in
        rw lt-ltb

    -- where d has room, what is found is among those behind it
    pub overfull_behind : i < room_to head d → overfull_from head (i + 1) ds ≡ overfull_from head i (d ∷ ds)
    unfolding overfull_from
    overfull_behind h = rw (add-one i, le-ltb)

-- ---- each client's last request: the record at i is noted, and those behind it are left
module _ (ws : List Request) (first i : ℕ) (known : List ℕ) where
  pub latest_next : i < length ws
      → latest_of (first + (i + 1)) (drop (i + 1) (clients_of ws)) (set known ((get_or ws i zero_request).client % most_clients) (first + i))
      ≡ latest_of (first + i) (drop i (clients_of ws)) known
  unfolding latest_of
  latest_next inside =
      let client : get_or (clients_of ws) i 0 ≡ (get_or ws i zero_request).client = get_or-map (λ w. w.client) ws i zero_request in
      let e : first + (i + 1) ≡ suc (first + i) = omega arith in
      rw (e, add-one, drop-cons (clients_of ws) i 0 (omega (arith, length-map ws (λ (w : Request). w.client))), client)

  pub latest_all : i ≡ length ws → known ≡ latest_of (first + i) (drop i (clients_of ws)) known
  unfolding latest_of
  latest_all all = rw (drop_all i (clients_of ws) (omega (arith, length-map ws (λ (w : Request). w.client))))

-- ---- a test of a difference as one of a sum
pub less_by_sum : (a i b : ℕ) → ltb (a + i) b ≡ ltb i (b - a)
less_by_sum a i b = go (value (ltb (a + i) b))
  where
    go : Value (ltb (a + i) b) → ltb (a + i) b ≡ ltb i (b - a)
    go (is_true e) = rw (e, lt-ltb i (b - a) (omega (arith, ltb-true (a + i) b e)))
    go (is_false e) = rw (e, le-ltb i (b - a) (omega (arith, ltb-false (a + i) b e)))

-- ---- the room between two slots by the open slots before each
pub room_difference : (setup : Setup) (a b : ℕ) → room setup 0 b - room setup 0 a ≡ room setup a b
room_difference setup a b =
    elim (order a b) [
      | le h ↦ omega (arith, room_split setup 0 a b (omega arith) h)
      | gt h ↦ omega (arith, room_back setup a b (omega arith), room_mono setup 0 b a (omega arith))
    ]

-- ---- where all slots are open, a deadline is overfull where no more slots lie before it than are taken
pub ahead_overfull : (head : Head) (rank : ℕ) (ds : List ℕ) → are_all_open head.setup ≡ true
    → first_by (λ i d. not (ltb (head.clock + i) d)) rank ds ≡ overfull_from head rank ds
ahead_overfull head rank ds all =
    first_overfull head (λ i d. not (ltb (head.clock + i) d)) rank rank ds (λ k l. full (rank + k) (get_or ds k 0))
  where
    full : (i d : ℕ) → not (ltb (head.clock + i) d) ≡ ltb (room_to head d) (suc i)
    full i d = go (value (ltb (head.clock + i) d))
      where
        go : Value (ltb (head.clock + i) d) → not (ltb (head.clock + i) d) ≡ ltb (room_to head d) (suc i)
        go (is_true e) =
            rw (e, le-ltb (room_to head d) (suc i) (omega (arith, ltb-true (head.clock + i) d e, all_open_room head.setup all head.clock d)))
        go (is_false e) =
            rw (e, lt-ltb (room_to head d) (suc i) (omega (arith, ltb-false (head.clock + i) d e, all_open_room head.setup all head.clock d)))
