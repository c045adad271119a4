-- Where a line ends. Assumes nothing.
use Rattle.std.specs.Prelude.{ℕ, ◌-◌, ◌≤◌, ◌<◌, cond, List, [], ◌≡◌, leb, ltb, length, get_or, take, drop}
use Rattle.spec.specs.Lines.Frames.{line_feed}

-- no line feed stands from an index up to another
abbrev pub NoFeed : List ℕ → ℕ → ℕ → Type 0
NoFeed s from end = (k : ℕ) → from ≤ k → k < end → get_or s k 0 ≡ line_feed → ⊥

-- the first line feed from an index on stands at end
pub record FirstFeed (s : List ℕ) (at end : ℕ) : Type 0 where
  pub from : at ≤ end
  pub within : end < length s
  pub feed : get_or s end 0 ≡ line_feed
  pub before : NoFeed s at end

-- how far the line at an index is read: up to behind its line feed, or, while it has none, not at all
pub record Behind (s : List ℕ) (at to : ℕ) : Type 0 where
  pub onward : at ≤ to
  pub whole : at < to → FirstFeed s at (to - 1)
  pub begun : to ≡ at → NoFeed s at (length s)

-- the characters from an index up to another
abbrev pub slice : ℕ → ℕ → List ℕ → List ℕ
slice from end s = take (end - from) (drop from s)

-- the same, or none where these are no part of s
abbrev pub part : List ℕ → ℕ → ℕ → List ℕ
part s from end = cond (leb from end) (cond (leb end (length s)) (slice from end s) []) []

-- the line at an index that is read so far, without its line feed; where nothing is read, all that is left
abbrev pub line_at : List ℕ → ℕ → ℕ → List ℕ
line_at s at to = part s at (cond (ltb at to) (to - 1) (length s))
