-- What a frame's call gives. Assumes nothing.
use Rattle.std.specs.Prelude.{ℕ, ◌≡◌, List}
use Rattle.spec.specs.declared.types.Frame.{Frame}
use Rattle.spec.specs.Tables.{State}
use Rattle.spec.specs.Calls.Outcomes.{Outcome}
use Rattle.spec.specs.Lines.Frames.{task}
use Rattle.spec.specs.Lines.Session.{outcome_by, output_by}
use Rattle.queue.specs.Gives.{Reply, said}

-- what the call gives that a frame asks for, where the chart's output is starts
abbrev pub outcome_for : Frame → List ℕ → State → Outcome
outcome_for frame starts s = outcome_by ((task frame).calls starts) s

-- the answer, the head handed back with the tables, and the chart's output are what the frame's call gives
pub record Answered (frame : Frame) (starts₀ : List ℕ) (before : State) (r : Reply) (after : State) (starts : List ℕ) : Type 0 where
  pub answers_same : said r ≡ (outcome_for frame starts₀ before).answers
  pub head_kept : after.head ≡ r.head
  pub after_same : after ≡ (outcome_for frame starts₀ before).after
  pub starts_same : starts ≡ output_by ((task frame).calls starts₀) starts₀ before
