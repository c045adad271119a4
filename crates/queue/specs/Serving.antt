-- What a tick does to the waiting table. `serves` says whether its slot is open. Assumes nothing.
use Rattle.std.specs.Prelude.{Bool, cond, Option, None, List}
use Rattle.spec.specs.declared.types.Head.{Head}
use Rattle.spec.specs.declared.types.Request.{Request}
use Rattle.table.specs.Records.{removed, removed_from}

-- "Tick serves the first waiting record in the slot that starts at the clock", and document 02, 2.2: "A closed slot serves nobody"
abbrev pub served_from : Bool → Head → List Request → Option Request
served_from serves head ys = cond serves (removed_from head.waiting 0 ys) None

-- "takes it out": the waiting table after it
abbrev pub table_served : Bool → Head → List Request → List Request
table_served serves head ys = cond serves (removed head.waiting 0 ys) ys
