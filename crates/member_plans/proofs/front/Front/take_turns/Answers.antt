use Rattle.std.proofs.Common.{◌∙◌, refl, subst, arith}
use Rattle.task_system.specs.System.{System}
use Rattle.prefix_plans.specs.Left.{known_to_go}
use Rattle.member_plans.specs.Front.{MembersHaltAt}
use Rattle.member_plans.proofs.Walking.{follows_self, follows_then, halts_after}
use Rattle.member_plans.proofs.front.Front.take_turns.Goals as goal

pub turns-init : goal.turns-init
turns-init g c = record {
  system = refl;
  follows = follows_self (g.S.Space.view c.args.space.now) c.args.search.now c.args.most c.args.self.now c.requires.steady;
  steps = omega arith;
}

pub turns-preserved : goal.turns-preserved
turns-preserved g c =
    let i = c.turns.invariant in
    record {
      system = c.take_turn.ensures.system ∙ i.system;
      follows = follows_then c.take_turn.ensures.system i.follows c.take_turn.ensures.follows;
      steps = omega (arith, i.steps, c.take_turn.ensures.steps);
    }

pub turns-smaller : goal.turns-smaller
turns-smaller g c = rw c.in_default.is at c.in_ok-halt.ensures.ok

pub returns-in-Some-clause-follows : goal.returns-in-Some-clause-follows
returns-in-Some-clause-follows g c = follows_then c.take_turn.ensures.system c.turns.invariant.follows c.take_turn.ensures.follows

pub returns-in-Some-clause-ok : goal.returns-in-Some-clause-ok
returns-in-Some-clause-ok g c =
    let u = g.S.Space.view c.args.space.now in
    let f = c.args.search.now in
    let i = c.turns.invariant in
    let t = subst (λ (y : System). MembersHaltAt y (known_to_go f) c.args.most c.turns.self c.take_turn.new.self
    c.in-Some.halt) i.system (rw c.in-Some.is at c.in_ok-halt.ensures.ok) in
    halts_after u.system (known_to_go f) c.args.most c.args.self.now c.turns.self c.take_turn.new.self i.follows.more c.in-Some.halt t

pub returns-in_err-halt-clause-follows : goal.returns-in_err-halt-clause-follows
returns-in_err-halt-clause-follows g c = follows_then c.take_turn.ensures.system c.turns.invariant.follows c.take_turn.ensures.follows
