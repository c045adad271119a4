-- The `next` of `segments::Segments` meets its contract: a run begins with an interval, goes on with one that it touches, and ends before any
-- other.
use Rattle.std.proofs.Common.{◌≡◌, ◌∷◌, [], ◌<◌, ◌+◌, ℕ, List, length, get_or, suc, ap, sym, ◌∙◌, arith, true, false, refl}
use Rattle.std.proofs.lemmas.List.{nil_from_length}
use Rattle.spec.specs.declared.types.Setup.{Setup}
use Rattle.spec.specs.Chart.{do_touch, segments_of}
use Rattle.occupancy.specs.Charted.{segment}
use Rattle.table.specs.Widths.{largest64}
use Rattle.occupancy.proofs.StartsAndSegments.{glue, run_begins, run_more, run_ends, run_last}
use Rattle.occupancy.proofs.segments.SegmentsIterator.next.Goals as goal
use Rattle.occupancy.proofs.segments.SegmentsIterator.next.Goals.{in-Some+then-not-do_touch, in_default}

-- what holds of all start slots holds of those behind the first
behind : (starts rest : List ℕ) (s : ℕ) → starts ≡ s ∷ rest → ((k : ℕ) → k < length starts → get_or starts k 0 < largest64)
    → (k : ℕ) → k < length rest → get_or rest k 0 < largest64
behind starts rest s e all k l = let later = rw e at all in later (suc k) (omega arith)

module _ (setup : Setup) (starts : List ℕ) where
  -- no start slot gives no segment
  no_segment : length starts ≡ 0 → segments_of setup starts ≡ []
  unfolding segments_of
  no_segment e = rw (nil_from_length starts e)

  module _ (left right : ℕ) where
    ends_last : length starts ≡ 0 → glue setup left right (segments_of setup starts) ≡ segment left right ∷ segments_of setup starts
    ends_last e = rw (nil_from_length starts e) (run_last setup left right)

    module _ (s : ℕ) (rest : List ℕ) (e : starts ≡ s ∷ rest) where
      begins : left ≡ s → right ≡ s + 1 → segments_of setup starts ≡ glue setup left right (segments_of setup rest)
      begins l r = rw (e, l, r) (run_begins setup s rest)

      ends_before : do_touch setup right s ≡ false
          → glue setup left right (segments_of setup starts) ≡ segment left right ∷ segments_of setup starts
      ends_before f = rw e (run_ends setup s rest left right f)

      goes_on : (end : ℕ) → end ≡ s + 1 → do_touch setup right s ≡ true
          → glue setup left right (segments_of setup starts) ≡ glue setup left end (segments_of setup rest)
      goes_on end r t = rw (e, r) (run_more setup s rest left right t)

pub returns-in_err-first-clause-steps : goal.returns-in_err-first-clause-steps
returns-in_err-first-clause-steps c =
    let self = c.args.self.now in
    let none = no_segment self.setup self.starts.now c.in_err-first.ensures.cases in
    rw c.from_residual.ensures (none, none)

pub loop-next-init : goal.loop-next-init
loop-next-init c =
    let self = c.args.self.now in
    let e = c.in_ok-first.ensures.cases.0 in
    (begins self.setup self.starts.now _ _ _ _ e refl c.end_of-right.ensures, behind _ _ _ e self.are_slots)

pub loop-next-preserved : goal.loop-next-preserved
loop-next-preserved c =
    let h = c.loop-next.invariant in
    let e = c.in-Some.ensures.cases.0 in
    let touches = sym c.do_touch.ensures ∙ c.if-not-do_touch.false in
    (h.0 ∙ goes_on c.args.self.now.setup _ _ _ _ _ e _ c.end_of-right-in-Some.ensures touches, behind _ _ _ e h.1)

-- the segment that is handed back comes first, and those of the start slots that are left behind it
gave : (c : goal.After-rest-1)
    → segments_of c.args.self.now.setup c.args.self.now.starts.now
    ≡ segment c.in_ok-first.first.now c.loop-next.right ∷ segments_of c.args.self.now.setup c.loop-next.rest.now
gave c =
    let setup = c.args.self.now.setup in
    let h = c.loop-next.invariant in
    elim c.match-split_first.branch [
      | in-Some+then-not-do_touch w ↦ h.0 ∙ ends_before setup _ _ _ _ _ w.in-Some.ensures.cases.0 (sym w.do_touch.ensures ∙ w.if-not-do_touch.true)
      | in_default w ↦ h.0 ∙ ends_last setup _ _ _ w.in_default.ensures.cases
    ]

pub returns-clause-steps : goal.returns-clause-steps
returns-clause-steps c = gave c

pub returns-clause-goes : goal.returns-clause-goes
returns-clause-goes c =
    let e = gave c in
    record { on = λ _. (tt, tt, omega (arith, ap length e)); keeps = tt; rests = λ f. f }
