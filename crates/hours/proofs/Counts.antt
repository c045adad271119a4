-- The table of counts of open hours: how it is made, bit by bit and word by word, and what it tells. Assumes nothing.
use Prim.Native.Nat.{ℕ, suc, ◌+◌, ◌-◌, ◌^◌, ◌≤◌, ◌<◌}
use mathlib.Core.Path.{◌≡◌, refl, ap, ◌∙◌}
use mathlib.Core.List.{List}
use native.Mathlib.Omega.{arith}
use lib.ListN.{length, get_or, set, replicate, length-set}
use lib.Seq.{get_or-set_same, get_or-set_other}
use Rattle.std.proofs.lemmas.List.{length-replicate}
use Rattle.slots.proofs.Laws.Tests.{le, gt, order}
use Rattle.spec.specs.declared.types.Setup.{Setup}
use Rattle.spec.specs.Tables.{hours}
use Rattle.spec.specs.Hours.{bit, mark_of, sum_from}
use Rattle.hours.specs.Week.{last_word, Counted, CountedTo, CountedOn}
use Rattle.hours.proofs.Sums.{sum_suc}
use Rattle.hours.proofs.MarkedHours.{Holds, holds_0, holds_64, holds_128, behind, highest, highest_most, among_most}

-- ---- bit by bit: k bits of the word have been counted
module _ (before : List ℕ) (from word : ℕ) where
  pub counting_starts : CountedOn before before from word 0
  unfolding sum_from
  counting_starts =
      record {
        size = refl;
        kept = λ h l. refl;
        on = λ n l.
            let e : from + n ≡ from = omega arith in
            let g : n ≡ 0 = omega arith in
            rw (e, g) (omega arith);
      }

  module _ (after : List ℕ) (k : ℕ) (known : CountedOn before after from word k) where
    -- the last count is no larger than a byte holds
    pub counting_most : get_or after (from + k) 0 ≤ get_or before from 0 + k
    counting_most = omega (arith, known.on k (omega arith), highest_most word k)

    pub counting_goes_on : from + k + 1 < length before
        → CountedOn before (set after (from + k + 1) (get_or after (from + k) 0 + bit word (63 - k))) from word (k + 1)
    counting_goes_on fits =
        let at : ℕ = from + k + 1 in
        let v : ℕ = get_or after (from + k) 0 + bit word (63 - k) in
        let z : 0 + k ≡ k = omega arith in
        let s : suc k ≡ k + 1 = omega arith in
        let total : v ≡ get_or before from 0 + highest word (k + 1) =
        omega (
          arith,
          known.on k (omega arith),
          sum_suc (λ j. bit word (63 - j)) 0 k,
          ap (λ (j : ℕ). bit word (63 - j)) z,
          ap (highest word) s,
        ) in
        record {
          size = length-set after at v ∙ known.size;
          kept = λ h m. get_or-set_other after at h v 0 (λ e. omega arith) ∙ known.kept h m;
          on = λ n m.
              elim (order n k) [
                | le b ↦ get_or-set_other after at (from + n) v 0 (λ e. omega arith) ∙ known.on n b
                | gt b ↦
                    let e : n ≡ k + 1 = omega arith in
                    let g : from + (k + 1) ≡ at = omega arith in
                    rw (e, g) (get_or-set_same after at v 0 (omega (arith, known.size)) ∙ total)
              ];
        }

module _ (setup : Setup) where
  -- ---- word by word: of no hours none is open, and the marks of a word tell the hours behind those counted
  pub counted_none : CountedTo setup 0 (replicate (hours + 1) 0)
  unfolding sum_from
  counted_none =
      record {
        size = length-replicate {A = ℕ} (hours + 1) 0;
        each = λ h l.
            let e : h ≡ 0 = omega arith in
            rw e refl;
      }

  module _ (before after : List ℕ) (from word most : ℕ) where
    counted_further : CountedTo setup from before → Holds setup from word most → CountedOn before after from word most
        → CountedTo setup (from + most) after
    counted_further known marks went =
        record {
          size = went.size ∙ known.size;
          each = λ h l.
              elim (order h from) [
                | le b ↦ went.kept h b ∙ known.each h b
                | gt b ↦
                    let e : from + (h - from) ≡ h = omega arith in
                    omega (
                      arith,
                      ap (λ (x : ℕ). get_or after x 0) e,
                      went.on (h - from) (omega arith),
                      known.each from (omega arith),
                      behind setup from word most h marks (omega arith) (omega arith),
                    )
              ];
        }

  -- the table has place for the bits of a word more, and a byte for their sum
  pub counted_fits : (counts : List ℕ) (from most : ℕ) → CountedTo setup from counts → from + most ≤ hours → most ≤ 64
      → (from + most < length counts) × (most ≤ 64) × (get_or counts from 0 + most ≤ 255)
  counted_fits counts from most known fits small =
      (omega (arith, known.size), small, omega (arith, known.each from (omega arith), among_most setup from))

  -- each of the three words
  module _ (before after : List ℕ) where
    pub counted_64 : CountedTo setup 0 before → CountedOn before after 0 setup.marks0 64 → CountedTo setup 64 after
    counted_64 known went = counted_further before after 0 setup.marks0 64 known (holds_0 setup) went

    pub counted_128 : CountedTo setup 64 before → CountedOn before after 64 setup.marks64 64 → CountedTo setup 128 after
    counted_128 known went = counted_further before after 64 setup.marks64 64 known (holds_64 setup) went

    pub counted_all : CountedTo setup 128 before → setup.marks160 < 2 ^ 8 → CountedOn before after 128 (last_word setup) 40
        → Counted setup after
    counted_all known fits went = counted_further before after 128 (last_word setup) 40 known (holds_128 setup fits) went

  -- ---- what the table tells
  module _ (counts : List ℕ) (known : Counted setup counts) (h : ℕ) where
    pub count_most : h ≤ hours → get_or counts h 0 ≤ h
    count_most l = omega (arith, known.each h l, among_most setup h)

    -- an hour is marked where one more is open behind it than before it
    pub count_next : h < hours → get_or counts (h + 1) 0 ≡ get_or counts h 0 + mark_of setup h
    count_next l =
        let z : 0 + h ≡ h = omega arith in
        let s : suc h ≡ h + 1 = omega arith in
        omega (
          arith,
          known.each h (omega arith),
          known.each (h + 1) (omega arith),
          sum_suc (mark_of setup) 0 h,
          ap (mark_of setup) z,
          ap (sum_from (mark_of setup) 0) s,
        )
