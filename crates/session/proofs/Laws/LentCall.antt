-- What a call on the lent parts of the tables comes to, in the session's terms. Assumes nothing.
use Prim.Native.Nat.{ℕ}
use mathlib.Core.Bool.{true, false}
use mathlib.Core.List.{List, ◌++◌}
use mathlib.Core.Path.{◌≡◌}
use lib.ListN.{drop}
use Rattle.spec.specs.declared.types.Frame.{Frame}
use Rattle.spec.specs.declared.types.Request.{Request}
use Rattle.spec.specs.Lines.Frames.{answer_lines}
use Rattle.spec.specs.Lines.Session.{line_outcome}
use Rattle.frame.specs.LineLengths.{CanDraw}
use Rattle.queue.specs.Gives.{Reply}
use Rattle.session.specs.declared.types.Session.{Session}
use Rattle.session.specs.Standing.{Reserved, reserved_of, held_in, fits_in, records_for, numbers_for, records_after}

-- where the session stands after the call
abbrev pub session_after : Frame → Session → Reply → Session
session_after frame s r = record { head = r.head; records = records_after frame r.answer s.records; skip = false }

-- the parts zs and ys that came back stand in the tables again
abbrev pub put_back : Frame → Session → List Request → List ℕ → Reserved → Reserved
put_back frame s zs ys t =
    reserved_of (zs ++ drop (records_for frame s) t.waiting_table) (ys ++ drop (numbers_for frame s) t.client_numbers)

pub record Replied (frame : Frame) (s : Session) (t : Reserved) (starts : List ℕ) (r : Reply) (zs : List Request) (ys starts' : List ℕ)
    : Type 0 where
  pub bytes : answer_lines r.head.setup starts' r.answer ≡ (line_outcome frame (held_in s t)).bytes
  pub after : held_in (session_after frame s r) (put_back frame s zs ys t) ≡ (line_outcome frame (held_in s t)).after
  pub fits : fits_in (session_after frame s r) t starts ≡ true
  pub draws : CanDraw r.answer starts'
