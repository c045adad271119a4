-- What a submit does to the waiting table. Assumes nothing.
use Rattle.std.specs.Prelude.{ℕ, cond, None, Some, List, ◌∷◌, get_or}
use Rattle.spec.specs.declared.types.Head.{Head}
use Rattle.spec.specs.declared.types.Request.{Request}
use Rattle.spec.specs.Tables.{zero_request}
use Rattle.spec.specs.Order.{insert_at, remove_at}
use Rattle.table.specs.Records.{are_in, shift_at, inserted}
use Rattle.decide.specs.declared.submit.Decision.{Decision}
use Rattle.decide.specs.declared.submit.Decision.TheVariants.{Keep, Drop}
use Rattle.decide.specs.declared.submit.Insertion.{Insertion}

-- "Otherwise one record is taken out": the new request goes in at `place`, and out goes the one that then stands at `victim`. The
-- table is as it was where one of the places is not there
unfoldable pub without_victim : ℕ → ℕ → Request → List Request → List Request
without_victim place victim new ys = cond (are_in place victim (new ∷ ys)) (remove_at victim (insert_at place new ys)) ys

-- the victim; the new request itself where one of the places is not there
unfoldable pub victim_at : ℕ → ℕ → Request → List Request → Request
victim_at place victim new ys = cond (are_in place victim (new ∷ ys)) (get_or (insert_at place new ys) victim zero_request) new

-- it "puts the record in chart order", or also takes one out: the waiting table after it
abbrev pub table_after : Head → Request → Decision → List Request → List Request
table_after head new (Keep place) ys = inserted head.waiting place new ys
table_after head new (Drop place victim) ys = without_victim place victim new ys

-- what became of the new request: its place; document 02, 2.1, "how many waiting records stood behind the new one in chart order when it was
-- put in", before one went out, of n that waited; and the record that went out, where one did
abbrev pub drop_by : ℕ → ℕ → ℕ → Request → List Request → Insertion
drop_by n place victim new ys =
    record { place = place; shift = shift_at n place; gone = Some (victim_at place victim new ys) }

abbrev pub insertion_by : Head → Request → Decision → List Request → Insertion
insertion_by head new (Keep place) ys = record { place = place; shift = shift_at head.waiting place; gone = None }
insertion_by head new (Drop place victim) ys = drop_by head.waiting place victim new ys
