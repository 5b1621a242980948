use Rattle.member_plans.specs.Opened.{places_of_opened, keys_of}
use Rattle.member_plans.proofs.Meeting.{has_told}
use Rattle.member_plans.proofs.opened.Opened.has_plan.Goals as goal

pub returns : goal.returns
returns c y most ss z once table plan = has_told y ss c.args.tree.now z once most (places_of_opened c.args.self.now)
    (keys_of c.args.self.now) table c.args.node c.requires.node c.in_ok-key.key.items c.in_ok-key.ensures plan
    c.has.result (rw c.deref.ensures.value at c.has.ensures)
