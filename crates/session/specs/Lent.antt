-- The tables and the output that `feed` lends to each line. Assumes nothing.
use Rattle.std.specs.Prelude.{◌≡◌, length}
use Rattle.session.specs.declared.Lent.{Lent}
use Rattle.session.specs.Standing.{Reserved, reserved_of}
use Rattle.session.specs.Feeding.{SameLengths}

-- the tables that a session holds its state in
abbrev pub tables_of : Lent → Reserved
tables_of l = reserved_of l.waiting.now l.clients.now

-- they are the same tables and the same output, each as long as before
pub record SameTables (before after : Lent) : Type 0 where
  pub waiting : after.waiting.ghost_name ≡ before.waiting.ghost_name
  pub clients : after.clients.ghost_name ≡ before.clients.ghost_name
  pub starts : after.starts.ghost_name ≡ before.starts.ghost_name
  pub out : after.out.ghost_name ≡ before.out.ghost_name
  pub long : SameLengths (tables_of before) before.out.now (tables_of after) after.out.now
  pub starts_long : length after.starts.now ≡ length before.starts.now
