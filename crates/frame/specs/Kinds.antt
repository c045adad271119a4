-- The kinds of frames, as the code names them. Assumes nothing.
use Rattle.std.specs.Prelude.{ℕ, ◌≡◌, ◌≢◌, Result, MatchResult}
use Rattle.spec.specs.Lines.Frames.{FrameKind, open_kind, submit_kind, tick_kind, report_kind, chart_kind}
use Rattle.frame.specs.declared.frames.Kind.{Kind}
use Rattle.frame.specs.declared.frames.Kind.TheVariants.{Open, Submit, Tick, Report, Chart}
use Rattle.frame.specs.declared.frames.UnknownKind.{UnknownKind}

-- the kind that a name stands for
abbrev pub named : Kind → FrameKind
named Open = open_kind
named Submit = submit_kind
named Tick = tick_kind
named Report = report_kind
named Chart = chart_kind

-- the kind with this byte, or, "an unknown kind", that none has it
abbrev pub IsKindOf : ℕ → Result Kind UnknownKind → Type 0
IsKindOf byte r = MatchResult r (λ kind. byte ≡ (named kind).kind) (λ none. (kind : Kind) → byte ≢ (named kind).kind)
