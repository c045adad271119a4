-- `session::Lent::answer_line` meets its contract: the front parts of the tables are lent to the call, and come back in front of the rest.
use Rattle.std.proofs.Common.{◌≡◌, ◌≤◌, length, take, arith, length-take}
use Rattle.session.specs.Lent.{tables_of}
use Rattle.session.proofs.Laws.Lending.{lent_within}
use Rattle.session.proofs.Laws.LentCall.{Replied}
use Rattle.session.proofs.Laws.LineOutcome.{replied}
use Rattle.session.proofs.TurnsTogether.{next_fits, next_room, answers}
use Rattle.session.proofs.Lent.answer_line.Goals as goal
use Rattle.session.proofs.Lent.answer_line.Goals.{After-numbers_for-numbers, After-make_call-reply}

-- the parts lent are within the tables
lends : (c : After-numbers_for-numbers)
    → (c.records_for-records.result ≤ length c.args.self.now.waiting.now) × (c.numbers_for-numbers.result ≤ length c.args.self.now.clients.now)
lends c =
    let t = c.args.self.now in
    rw (c.records_for-records.ensures, c.numbers_for-numbers.ensures)
    (lent_within c.args.frame c.args.fed.session (length t.waiting.now) (length t.clients.now) (length t.starts.now)
    (next_fits c.args.fed (tables_of t) t.starts.now t.out.now c.requires))

-- what the call on them comes to is the frame's reply
reply_is : (c : After-make_call-reply)
    → Replied c.args.frame c.args.fed.session (tables_of c.args.self.now) c.args.self.now.starts.now
    c.make_call-reply.result c.make_call-reply.new.waiting c.make_call-reply.new.clients c.make_call-reply.new.starts
reply_is c =
    let t = c.args.self.now in
    let ws : length c.make_call-reply.new.waiting ≡ length (take c.records_for-records.result t.waiting.now) = omega arith in
    let xs : length c.make_call-reply.new.clients ≡ length (take c.numbers_for-numbers.result t.clients.now) = omega arith in
    replied c.args.frame c.args.fed.session t.waiting.now t.clients.now t.starts.now
    (next_fits c.args.fed (tables_of t) t.starts.now t.out.now c.requires)
    c.make_call-reply.result c.make_call-reply.new.waiting c.make_call-reply.new.clients c.make_call-reply.new.starts
    (rw (c.records_for-records.ensures, c.numbers_for-numbers.ensures) at c.make_call-reply.ensures)
    (rw c.records_for-records.ensures at ws) (rw c.numbers_for-numbers.ensures at xs)

pub slice_bounds-make_call-end : goal.slice_bounds-make_call-end
slice_bounds-make_call-end c = (lends (goal.at.slice_bounds-make_call-end c).After-numbers_for-numbers).0

pub slice_bounds-make_call-end-2 : goal.slice_bounds-make_call-end-2
slice_bounds-make_call-end-2 c =
    let h = lends (goal.at.slice_bounds-make_call-end-2 c).After-numbers_for-numbers in
    omega (arith, h.0, length-take c.records_for-records.result c.args.self.now.waiting.now)

pub slice_bounds-make_call-end-3 : goal.slice_bounds-make_call-end-3
slice_bounds-make_call-end-3 c = (lends (goal.at.slice_bounds-make_call-end-3 c).After-numbers_for-numbers).1

pub slice_bounds-make_call-end-4 : goal.slice_bounds-make_call-end-4
slice_bounds-make_call-end-4 c =
    let h = lends (goal.at.slice_bounds-make_call-end-4 c).After-numbers_for-numbers in
    omega (arith, h.1, length-take c.numbers_for-numbers.result c.args.self.now.clients.now)

pub put_reply-put-requires : goal.put_reply-put-requires
put_reply-put-requires c =
    let t = c.args.self.now in (
      next_room c.args.fed (tables_of t) t.starts.now t.out.now c.requires,
      (reply_is (goal.at.put_reply-put-requires c).After-make_call-reply).draws,
    )

pub returns-clause-steps : goal.returns-clause-steps
returns-clause-steps c =
    let reply = reply_is (goal.at.returns-clause-steps c).After-make_call-reply in
    rw (c.records_for-records.ensures, c.numbers_for-numbers.ensures)
    (answers c.put_reply-put.result c.requires reply c.put_reply-put.ensures.1 c.put_reply-put.ensures.2 c.answered.ensures)
