-- `open_search::Search::behind` meets its contract: deadlines ascend behind the first ones too.
use Rattle.std.proofs.Common.{◌≡◌, ◌-◌, length, take, drop, sym}
use Rattle.std.proofs.Math.Seq.{take-length}
use Rattle.std.proofs.lemmas.List.{length-drop}
use Rattle.occupancy.proofs.Fours.{ascends_behind}
use Rattle.occupancy.proofs.open_search.Search.behind.Goals as goal

pub invariant_of-result-clause-ascends : goal.invariant_of-result-clause-ascends
invariant_of-result-clause-ascends c =
    let ws = c.args.self.left.now in
    let n = c.args.n in
    let size : length ws - n ≡ length (drop n ws) = sym (length-drop n ws) in
    let whole : take (length ws - n) (drop n ws) ≡ drop n ws = rw size (take-length (drop n ws)) in
    rw whole (ascends_behind n ws c.args.self.ascends)
