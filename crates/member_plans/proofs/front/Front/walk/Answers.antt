use Rattle.std.proofs.Common.{◌<◌, ◌∙◌, refl, sym, subst, arith}
use Rattle.task_system.specs.System.{System}
use Rattle.cost_to_go.specs.Standing.{steps_left}
use Rattle.prefix_plans.specs.Left.{known_to_go}
use Rattle.member_laws.specs.Nodes.{PendsNode}
use Rattle.member_plans.specs.Front.{opened, waiting_members, MembersHaltAt}
use Rattle.member_plans.specs.declared.walk.Halt.TheVariants.{Due, Opens, Waits, Ends, OutOfRange}
use Rattle.member_plans.proofs.Walking.{follows_self, follows_then, follows_on, memory_stops, opened_fewer, step_fewer}
use Rattle.member_plans.proofs.front.Front.walk.Goals as goal

pub steps-init : goal.steps-init
steps-init g c = record {
  system = refl;
  within = c.requires.within;
  follows = follows_self (g.S.Space.view c.args.space.now) c.args.search.now c.args.most c.args.self.now c.requires.steady;
  steps = omega arith;
}

pub returns-in-Err-clause-follows : goal.returns-in-Err-clause-follows
returns-in-Err-clause-follows g c = follows_then c.take_turns.ensures.system c.steps.invariant.follows c.take_turns.ensures.follows

pub returns-in-Due-clause-follows : goal.returns-in-Due-clause-follows
returns-in-Due-clause-follows g c = follows_then c.take_turns.ensures.system c.steps.invariant.follows c.take_turns.ensures.follows

pub returns-in-Ends-clause-follows : goal.returns-in-Ends-clause-follows
returns-in-Ends-clause-follows g c = follows_then c.take_turns.ensures.system c.steps.invariant.follows c.take_turns.ensures.follows

pub returns-in-OutOfRange-clause-follows : goal.returns-in-OutOfRange-clause-follows
returns-in-OutOfRange-clause-follows g c = follows_then c.take_turns.ensures.system c.steps.invariant.follows c.take_turns.ensures.follows

pub returns-in-Err-clause-ok : goal.returns-in-Err-clause-ok
returns-in-Err-clause-ok g c = memory_stops (g.S.Space.view c.args.space.now).system c.args.most
    (PendsNode (g.S.Space.view c.args.space.now).system (opened c.take_turns.new.self))

pub returns-in-Due-clause-ok : goal.returns-in-Due-clause-ok
returns-in-Due-clause-ok g c =
    let i = c.steps.invariant in
    subst (λ (y : System). MembersHaltAt y (known_to_go c.steps.search) c.args.most c.steps.self c.take_turns.new.self
    (Due c.in-Due.entry)) i.system (rw c.in-Due.is at c.in-Ok.ensures.ok)

pub returns-in-Ends-clause-ok : goal.returns-in-Ends-clause-ok
returns-in-Ends-clause-ok g c =
    let i = c.steps.invariant in
    subst (λ (y : System). MembersHaltAt y (known_to_go c.steps.search) c.args.most c.steps.self c.take_turns.new.self Ends)
    i.system (rw c.in-Ends.is at c.in-Ok.ensures.ok)

pub returns-in-OutOfRange-clause-ok : goal.returns-in-OutOfRange-clause-ok
returns-in-OutOfRange-clause-ok g c =
    let i = c.steps.invariant in
    subst (λ (y : System). MembersHaltAt y (known_to_go c.steps.search) c.args.most c.steps.self c.take_turns.new.self
    OutOfRange) i.system (rw c.in-OutOfRange.is at c.in-Ok.ensures.ok)

pub go_on-requires-clause-alone : goal.go_on-requires-clause-alone
go_on-requires-clause-alone g c = c.take_turns.ensures.follows.steady.ready.alone

pub go_on-requires-clause-more : goal.go_on-requires-clause-more
go_on-requires-clause-more g c =
    let i = c.steps.invariant in
    subst (λ (y : System). MembersHaltAt y (known_to_go c.steps.search) c.args.most c.steps.self c.take_turns.new.self Waits)
    i.system (rw c.in-Waits.is at c.in-Ok.ensures.ok)

pub returns-in-Err-go_on-clause-follows : goal.returns-in-Err-go_on-clause-follows
returns-in-Err-go_on-clause-follows g c =
    let w = g.S.Space.view c.take_turns.new.space in
    let f = c.steps.search in
    let i = c.steps.invariant in
    let most = c.args.most in
    let x = c.args.self.now in
    let z = c.take_turns.new.self in
    let k = follows_then c.take_turns.ensures.system i.follows c.take_turns.ensures.follows in
    follows_on w (g.S.Space.view c.go_on.new.space) f c.go_on.new.search most x z c.go_on.ensures.system
    (c.go_on.ensures.ready z.graph z.tree.items (waiting_members z) k.steady.ready) k

pub returns-in-Err-go_on-clause-ok : goal.returns-in-Err-go_on-clause-ok
returns-in-Err-go_on-clause-ok g c = memory_stops (g.S.Space.view c.args.space.now).system c.args.most
    (PendsNode (g.S.Space.view c.args.space.now).system (opened c.take_turns.new.self))

pub steps-preserved : goal.steps-preserved
steps-preserved g c =
    let w = g.S.Space.view c.take_turns.new.space in
    let f = c.steps.search in
    let i = c.steps.invariant in
    let most = c.args.most in
    let x = c.args.self.now in
    let z = c.take_turns.new.self in
    let k = follows_then c.take_turns.ensures.system i.follows c.take_turns.ensures.follows in
    record {
      system = c.go_on.ensures.system ∙ (c.take_turns.ensures.system ∙ i.system);
      within = i.within ∙ sym c.go_on.ensures.within;
      follows = follows_on w (g.S.Space.view c.go_on.new.space) f c.go_on.new.search most x z c.go_on.ensures.system
          (c.go_on.ensures.ready z.graph z.tree.items (waiting_members z) k.steady.ready) k;
      steps = omega (arith, i.steps, c.take_turns.ensures.steps);
    }

pub steps-smaller : goal.steps-smaller
steps-smaller g c =
    let i = c.steps.invariant in
    let same = c.take_turns.ensures.system ∙ i.system in
    step_fewer _ _ _ _ (subst (λ (y : System). steps_left y c.go_on.new.search < steps_left y c.steps.search) same
    c.in-Ok-go_on.ensures.fewer) c.take_turns.ensures.follows.more

pub steps-preserved-in-Opens : goal.steps-preserved-in-Opens
steps-preserved-in-Opens g c =
    let i = c.steps.invariant in
    record {
      system = c.take_turns.ensures.system ∙ i.system;
      within = i.within;
      follows = follows_then c.take_turns.ensures.system i.follows c.take_turns.ensures.follows;
      steps = omega (arith, i.steps, c.take_turns.ensures.steps);
    }

pub steps-smaller-in-Opens : goal.steps-smaller-in-Opens
steps-smaller-in-Opens g c =
    let i = c.steps.invariant in
    let h = subst (λ (y : System). MembersHaltAt y (known_to_go c.steps.search) c.args.most c.steps.self
    c.take_turns.new.self Opens) i.system (rw c.in-Opens.is at c.in-Ok.ensures.ok) in
    opened_fewer _ _ _ h.0 h.1
