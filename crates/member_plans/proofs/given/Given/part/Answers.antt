use Rattle.member_plans.proofs.Beside.{here_next, there_next}
use Rattle.member_plans.proofs.given.Given.part.Goals as goal

pub children-preserved-then-is_held-held : goal.children-preserved-then-is_held-held
children-preserved-then-is_held-held c = there_next c.args.children.now c.children.here.items c.children.there.items
    c.push.new.self.items c.children.child-index _ c.children-test.true c.children.invariant
    c.in_ok-push.ensures.items

pub children-preserved : goal.children-preserved
children-preserved c = here_next c.args.children.now c.children.here.items c.children.there.items
    c.push-in-children.new.self.items c.children.child-index _ c.children-test.true c.children.invariant
    c.in_ok-push-2.ensures.items
