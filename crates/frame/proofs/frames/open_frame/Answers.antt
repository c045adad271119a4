-- `frame::frames::open_frame` meets its contract: each field is read from its place. Assumes nothing.
use Rattle.frame.proofs.frames.open_frame.Goals as goal

pub returns : goal.returns
returns c =
    rw (
      c.field.ensures.0,
      c.field-2.ensures.0,
      c.field-3.ensures.0,
      c.field-4.ensures.0,
      c.field-5.ensures.0,
      c.field-6.ensures.0,
      c.field-7.ensures.0,
      c.field-8.ensures.0,
    )
