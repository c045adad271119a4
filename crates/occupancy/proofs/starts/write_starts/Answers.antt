-- `starts::write_starts` meets its contract: a turn writes the start slot of one record more, in front of those that stand.
use Rattle.std.proofs.Common.{◌≡◌, ◌<◌, ◌≤◌, ◌++◌, ◌∷◌, ◌+◌, ◌-◌, sym, ap, ◌∙◌, arith, List, ℕ, length, min, take, drop, set, get_or}
use lib.ListN.{take-append-drop}
use Rattle.spec.specs.declared.types.Setup.{Setup}
use Rattle.spec.specs.declared.types.Request.{Request}
use Rattle.spec.specs.Tables.{zero_request}
use Rattle.hours.specs.Week.{latest_open}
use Rattle.table.specs.Widths.{largest64}
use Rattle.occupancy.proofs.StartsAndSegments.{starts_from, starts_none, starts_more, set_last}
use Rattle.occupancy.proofs.starts.write_starts.Goals as goal

-- what the chart has come to behind the record at an index, and with it
module _ (setup : Setup) (ws : List Request) (i : ℕ) (before after : Setup × ℕ) where
  one_more : 0 < i → i ≤ length ws → (get_or ws (i - 1) zero_request).deadline ≤ largest64
      → before ≡ (setup, get_or (starts_from setup ws i) 0 largest64)
      → after ≡ (before.0, latest_open before.0 (min (get_or ws (i - 1) zero_request).deadline before.1))
      → starts_from setup ws (i - 1) ≡ after.1 ∷ starts_from setup ws i
  one_more some inside fits behind found =
      let back : i - 1 + 1 ≡ i = omega arith in
      let next = ap (λ (p : Setup × ℕ). p.1) behind in
      let of_setup = ap (λ (p : Setup × ℕ). p.0) behind in
      let start = ap (λ (p : Setup × ℕ). p.1) found in
      let more = starts_more setup ws (i - 1) before.1 (omega arith) fits (rw back next) in
      rw (start, of_setup) (rw back at more)

  reached : 0 < i → i ≤ length ws → (get_or ws (i - 1) zero_request).deadline ≤ largest64
      → before ≡ (setup, get_or (starts_from setup ws i) 0 largest64)
      → after ≡ (before.0, latest_open before.0 (min (get_or ws (i - 1) zero_request).deadline before.1))
      → after ≡ (setup, get_or (starts_from setup ws (i - 1)) 0 largest64)
  reached some inside fits behind found =
      rw (one_more some inside fits behind found)
      (found ∙ ap (λ (s : Setup). (s, latest_open before.0 (min (get_or ws (i - 1) zero_request).deadline before.1))) (ap (λ (p : Setup × ℕ). p.0) behind)
      ∙ ap (λ (x : ℕ). (setup, x)) (sym (ap (λ (p : Setup × ℕ). p.1) found)))

-- the start slot is written in front of those that stand, and of the entries beyond
written : (out rest stands behind more : List ℕ) (i start next : ℕ) → 0 < i → i ≤ length out → stands ≡ take i out ++ (behind ++ rest)
    → start ≡ next → more ≡ next ∷ behind → set stands (i - 1) start ≡ take (i - 1) out ++ (more ++ rest)
written out rest stands behind more i start next some inside stands-is is more-is =
    rw (stands-is, is, more-is) (set_last out (behind ++ rest) i next some inside)

pub loop-i-init : goal.loop-i-init
loop-i-init c =
    let a = c.args in
    rw (starts_none a.setup a.waiting.now) (c.at_end-reached.ensures, sym (take-append-drop (length a.waiting.now) a.out.now))

pub loop-i-preserved : goal.loop-i-preserved
loop-i-preserved c =
    let a = c.args in
    let i = c.loop-i.i in
    let fits : (get_or a.waiting.now (i - 1) zero_request).deadline ≤ largest64 = omega arith in
    let before = c.loop-i.reached in
    let after = c.go_before.new.self in
    let more = one_more a.setup a.waiting.now i before after c.loop-i-test.true (omega arith) fits c.loop-i.invariant.0 c.go_before.ensures in (
      reached a.setup a.waiting.now i before after c.loop-i-test.true (omega arith) fits c.loop-i.invariant.0 c.go_before.ensures,
      written a.out.now (drop (length a.waiting.now) a.out.now) c.loop-i.out (starts_from a.setup a.waiting.now i) _ i _ after.1 c.loop-i-test.true (omega arith) c.loop-i.invariant.1
          (ap (λ (p : Setup × ℕ). p.1) c.reached.view_is) more,
    )

pub returns : goal.returns
returns c = let first : c.loop-i.i ≡ 0 = omega arith in rw first at c.loop-i.invariant.1
