-- `starts::Reached::go_before` meets its contract: among the open slots at hand the slot before is open, and where others are found,
-- their last is.
use Rattle.std.proofs.Common.{◌<◌, ◌≤◌, ℕ, sym, ap, ◌∙◌, ltb, leb, ltb-true, leb-true}
use Rattle.spec.proofs.Laws.Every.{and_left, and_right}
use Rattle.hours.specs.Week.{latest_open}
use Rattle.occupancy.proofs.StartsAndSegments.{latest_held, latest_found}
use Rattle.occupancy.proofs.starts.Reached.go_before.Goals as goal

pub returns-then-held-end : goal.returns-then-held-end
returns-then-held-end c =
    let setup = c.self.inside.setup in
    let held = c.self.inside.stretch in
    let end = c.min-end.result in
    let starts = ltb held.hour.start end in
    let ends = leb end held.end in
    let begins : held.hour.start < end = ltb-true held.hour.start end (and_left starts ends c.if-held-end.true) in
    let lies : end ≤ held.end = leb-true end held.end (and_right starts ends c.if-held-end.true) in
    rw (← c.self.view_is)
    (ap (λ (next : ℕ). (setup, next))
    (sym (latest_held setup held end c.self.invariant begins lies) ∙ ap (latest_open setup) c.min-end.ensures))

pub returns : goal.returns
returns c =
    let setup = c.self.inside.setup in
    let found = c.open_stretch_before-stretch.ensures in
    rw (← c.self.view_is)
    (ap (λ (next : ℕ). (setup, next))
    (c.saturating_sub-next.ensures ∙ sym (found.2 ∙ latest_found setup _ found.0) ∙ ap (latest_open setup) c.min-end.ensures))
