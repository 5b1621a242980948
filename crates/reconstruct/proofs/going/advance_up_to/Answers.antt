use Rattle.std.proofs.Common.{rules, ◌≤◌, ◌^◌, Some}
use Rattle.bidirectional.specs.Both.{front_layers, back_layers, first_cost}
use Rattle.reconstruct.proofs.Answered.{plans_next, ok_advances, past_advances}
use Rattle.reconstruct.proofs.going.advance_up_to.Goals as goal

pub returns-in-None-clause-ok : goal.returns-in-None-clause-ok
returns-in-None-clause-ok g c =
    let h = c.advance.new.self in
    let range : first_cost c.args.above ≤ 2 ^ 64 = search rules in
    rw c.in-None.is (ok_advances (g.S.Space.view c.args.space.now).system c.args.above (front_layers h)
    (back_layers h) range c.advance.result c.advance.ensures.ok)

pub returns-in-Plans-clause-ok : goal.returns-in-Plans-clause-ok
returns-in-Plans-clause-ok g c =
    let h = c.advance_within.new.self in
    let n = rw c.in-Plans.is at c.in_ok-cost-in-Some.ensures.ok in
    rw c.in-Some.is (plans_next (g.S.Space.view c.args.space.now).system c.args.above (Some c.in-Some.most)
    (front_layers h) (back_layers h) c.in-Plans.cost n.0 n.1 n.2 n.3 n.4)

pub returns-in-Past-clause-ok : goal.returns-in-Past-clause-ok
returns-in-Past-clause-ok g c =
    let h = c.advance_within.new.self in
    rw c.in-Some.is (past_advances (g.S.Space.view c.args.space.now).system c.args.above c.in-Some.most
    (front_layers h) (back_layers h) (rw c.in-Past.is at c.in_ok-cost-in-Some.ensures.ok))
