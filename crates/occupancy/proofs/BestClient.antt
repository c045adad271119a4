-- The choice among the clients' last candidates, one after the other: what is held after so many clients. Assumes nothing.
use Prim.Native.Nat.{ℕ, zero, suc, ◌+◌, ◌≤◌, ◌<◌}
use mathlib.Core.Path.{◌≡◌, refl, sym, subst}
use mathlib.Core.Logic.{◌≢◌}
use mathlib.Core.Bool.{Bool, true, false, cond}
use mathlib.Core.List.{List}
use native.Mathlib.Numerals.{add-one}
use native.Mathlib.Omega.{arith}
use borrow.Author.Tests.{eq-eqb, ne_eqb}
use lib.Dec.{ltb, eqb}
use lib.ListN.{get_or}
use Rattle.slots.proofs.Laws.Tests.{Test, holds, fails, test, Same, same_yes, same_no, same, le, gt, order}
use Rattle.spec.specs.declared.types.Counts.{Counts}
use Rattle.spec.specs.Chart.{has_smaller_ratio}
use Rattle.spec.proofs.Calls.Victim.{AtMost, at_most_trans, at_most_facts, at_most_test, Rated, smaller, not_smaller, rated}
use Rattle.occupancy.specs.declared.overfull.LastCandidate.{LastCandidate}
use Rattle.std.specs.Prelude.{Option, None, Some}
use Rattle.occupancy.specs.Scans.{better_candidate, better_of, best_of, place_of, smallest_ratio_place, HaveRatios, Wins}

-- which of the two is the better, and why
pub data Better (best next : LastCandidate) : LastCandidate → Type 0 where
  stays : AtMost best.counts next.counts → (AtMost next.counts best.counts → next.at ≤ best.at) → Better best next best
  changes : AtMost next.counts best.counts → (AtMost best.counts next.counts → best.at ≤ next.at) → Better best next next

pub better : (best next : LastCandidate) → Better best next (better_candidate best next)
unfolding better_candidate
better best next = first (has_smaller_ratio best.counts next.counts) (rated best.counts next.counts)
  where
    later : (x : Bool) → Test (suc next.at) best.at x → AtMost best.counts next.counts → AtMost next.counts best.counts
        → Better best next (cond x best next)
    later true (holds h) a b = stays a (λ _. omega arith)
    later false (fails h) a b = changes b (λ _. omega arith)

    second : (x : Bool) → Rated next.counts best.counts x → AtMost next.counts best.counts
        → Better best next (cond x next (cond (ltb next.at best.at) best next))
    second true (smaller h) a = changes a (λ b. absurd (omega arith))
    second false (not_smaller h) a = later (ltb next.at best.at) (test (suc next.at) best.at) h a

    first : (x : Bool) → Rated best.counts next.counts x
        → Better best next (cond x best (cond (has_smaller_ratio next.counts best.counts) next
        (cond (ltb next.at best.at) best next)))
    first true (smaller h) = stays (omega arith) (λ b. absurd (omega arith))
    first false (not_smaller h) = second (has_smaller_ratio next.counts best.counts) (rated next.counts best.counts) h

-- a place that neither of the two has is not the better one's either
pub better_some : (best next : LastCandidate) → 0 < best.at → 0 < next.at → 0 < (better_candidate best next).at
better_some best next some own = go (better best next)
  where
    go : {r : LastCandidate} → Better best next r → 0 < r.at
    go (stays a last) = some
    go (changes a last) = own

-- what holds of the first m and of the next holds of the first m + 1
each : (p : ℕ → Type 0) (m : ℕ) → ((j : ℕ) → j < m → p j) → p m → (j : ℕ) → j < m + 1 → p j
each p m f h j l =
    elim (order (suc j) m) [
      | le k ↦ f j k
      | gt k ↦ let e : m ≡ j = omega arith in subst p e h
    ]

-- client j has a candidate, and it is not the better one
abbrev pub Beaten : (ℕ → Counts) → List ℕ → LastCandidate → ℕ → Type 0
Beaten counts latest best j =
    0 < get_or latest j 0 → AtMost best.counts (counts j) × (AtMost (counts j) best.counts → get_or latest j 0 ≤ best.at)

-- of the first m clients, those that have a candidate: there is none, or the best is one of them and no other is better
pub data BestSoFar (counts : ℕ → Counts) (latest : List ℕ) (m : ℕ) : Option LastCandidate → Type 0 where
  nobody : ((j : ℕ) → j < m → get_or latest j 0 ≡ 0) → BestSoFar counts latest m None
  owned : (best : LastCandidate) (owner : ℕ) → owner < m → 0 < best.at → best.at ≡ get_or latest owner 0 → best.counts ≡ counts owner
      → ((j : ℕ) → j < m → Beaten counts latest best j) → BestSoFar counts latest m (Some best)

module _ (counts : ℕ → Counts) (latest : List ℕ) (n : ℕ) (pos : HaveRatios counts latest n) where
  -- one client more
  module _ (m : ℕ) (inside : m < n) where
    -- its last candidate
    abbrev next : LastCandidate
    next = record { at = get_or latest m 0; counts = counts m }

    -- it has none
    without : (best : Option LastCandidate) → get_or latest m 0 ≡ 0 → BestSoFar counts latest m best → BestSoFar counts latest (m + 1) best
    without _ none (nobody all) = nobody (each (λ (j : ℕ). get_or latest j 0 ≡ 0) m all none)
    without _ none (owned best owner o some here e all) =
        owned best owner (omega arith) some here e (each (Beaten counts latest best) m all (λ k. absurd (omega arith)))

    -- a client that is the best beats itself
    itself : Beaten counts latest next m
    itself some = (omega arith, λ _. omega arith)

    -- the best so far, and the next, of which one is the better
    among : (best : LastCandidate) (owner : ℕ) → owner < m → 0 < best.at → best.at ≡ get_or latest owner 0 → best.counts ≡ counts owner
        → ((j : ℕ) → j < m → Beaten counts latest best j) → 0 < get_or latest m 0
        → (r : LastCandidate) → Better best next r → BestSoFar counts latest (m + 1) (Some r)
    among best owner o some here e all own _ (stays a last) =
        owned best owner (omega arith) some here e (each (Beaten counts latest best) m all (λ k. (a, last)))
    among best owner o some here e all own _ (changes a last) =
        owned next m (omega arith) own refl refl (each (Beaten counts latest next) m beaten itself)
      where
        divisor : 1 ≤ best.counts.submitted
        divisor = subst (λ (x : Counts). 1 ≤ x.submitted) (sym e) (pos owner (omega arith) (omega arith))

        divides : 1 ≤ (counts m).submitted
        divides = pos m inside own

        beaten : (j : ℕ) → j < m → Beaten counts latest next j
        beaten j l k = (
          at_most_trans (counts m) best.counts (counts j) divisor a (all j l k).0,
          (λ b.
              omega (
                arith,
                (all j l k).1 (at_most_trans (counts j) (counts m) best.counts divides b a),
                last (at_most_trans best.counts (counts j) (counts m) (pos j (omega arith) k) (all j l k).0 b),
              )),
        )

    with_next : (best : Option LastCandidate) → 0 < get_or latest m 0 → BestSoFar counts latest m best
        → BestSoFar counts latest (m + 1) (Some (better_of best next))
    with_next _ own (nobody all) =
        owned next m (omega arith) own refl refl (each (Beaten counts latest next) m (λ j l h. absurd (omega (arith, all j l))) itself)
    with_next _ own (owned best owner o some here e all) = among best owner o some here e all own _ (better best next)

  -- after all clients: where one has a candidate, the best wins
  all_wins : (best : Option LastCandidate) → BestSoFar counts latest n best → (c : ℕ) → c < n → 0 < get_or latest c 0
      → Wins counts latest n (place_of best)
  all_wins _ (nobody all) c l some = absurd (omega (arith, all c l))
  all_wins _ (owned best owner o some here e all) c l h =
      record {
        owner = owner;
        exists = o;
        here = omega arith;
        least = λ j k q. at_most_test (counts owner) (counts j) (subst (λ (x : Counts). AtMost x (counts j)) e (all j k q).0);
        last = λ j k q f.
            let b = at_most_facts (counts j) (counts owner) f in
            omega (arith, (all j k q).1 (subst (AtMost (counts j)) (sym e) b));
      }

-- ---- the best of so many clients: where none has a candidate, of one more that has none or one, and of the first that has one
module _ (counts : ℕ → Counts) (latest : List ℕ) where
  pub best_nobody : (m : ℕ) → ((j : ℕ) → j < m → get_or latest j 0 ≡ 0) → None ≡ best_of counts latest m
  unfolding best_of
  best_nobody zero all = refl
  best_nobody (suc m) all =
      rw (eq-eqb (get_or latest m 0) 0 (all m (omega arith))) (best_nobody m (λ j l. all j (omega arith)))

  pub best_without : (m : ℕ) (best : Option LastCandidate) → get_or latest m 0 ≡ 0 → best ≡ best_of counts latest m → best ≡ best_of counts latest (m + 1)
  unfolding best_of
  best_without m best none b = rw (add-one, eq-eqb (get_or latest m 0) 0 none) b

  pub best_next : (m : ℕ) (best : Option LastCandidate) (k : Counts) (r : LastCandidate) → get_or latest m 0 ≢ 0 → k ≡ counts m → best ≡ best_of counts latest m
      → r ≡ better_of best (record { at = get_or latest m 0; counts = k }) → Some r ≡ best_of counts latest (m + 1)
  unfolding best_of
  best_next m best k r some e b is = rw (add-one, ne_eqb (get_or latest m 0) 0 some, ← b, ← e, is)

  pub best_first : (m : ℕ) (k : Counts) → ((j : ℕ) → j < m → get_or latest j 0 ≡ 0) → get_or latest m 0 ≢ 0 → k ≡ counts m
      → Some (record { at = get_or latest m 0; counts = k }) ≡ best_of counts latest (m + 1)
  best_first m k all some e = best_next m None k _ some e (best_nobody m all) refl

  -- what is held of it
  held_best : (n : ℕ) → HaveRatios counts latest n → (m : ℕ) → m ≤ n → BestSoFar counts latest m (best_of counts latest m)
  unfolding best_of
  held_best n pos zero l = nobody (λ j k. absurd (omega arith))
  held_best n pos (suc m) l =
      subst (λ (k : ℕ). BestSoFar counts latest k (best_of counts latest (suc m))) (add-one m)
      (go (eqb (get_or latest m 0) 0) (same (get_or latest m 0) 0) (held_best n pos m (omega arith)))
    where
      go : (x : Bool) → Same (get_or latest m 0) 0 x → BestSoFar counts latest m (best_of counts latest m)
          → BestSoFar counts latest (m + 1) (cond x (best_of counts latest m)
          (Some (better_of (best_of counts latest m) (record { at = get_or latest m 0; counts = counts m }))))
      go true (same_yes e) so_far = without counts latest n pos m (omega arith) _ e so_far
      go false (same_no e) so_far = with_next counts latest n pos m (omega arith) _ (omega arith) so_far

  -- "The smallest wins; among equals, the last in chart order."
  pub place_wins : (n : ℕ) → HaveRatios counts latest n → (c : ℕ) → c < n → 0 < get_or latest c 0
      → Wins counts latest n (smallest_ratio_place counts latest n)
  place_wins n pos c l some =
      all_wins counts latest n pos (best_of counts latest n) (held_best n pos n (omega arith)) c l some
