use Rattle.member_plans.specs.Opened.{places_of_opened, opened_of}
use Rattle.member_plans.proofs.Meeting.{met_plan, met_other}
use Rattle.member_plans.proofs.opened.Opened.meets.Goals as goal

pub returns-then-entry-clause-met : goal.returns-then-entry-clause-met
returns-then-entry-clause-met c y most ss z once table d = met_plan y
    (opened_of c.args.tree.now (places_of_opened c.args.self.now)) c.args.tree.now c.args.entry c.has_plan.result
    (c.has_plan.ensures y most ss z once table (d.0 c.if-entry.true))

pub returns-else-entry-clause-met : goal.returns-else-entry-clause-met
returns-else-entry-clause-met c y most ss z once table d = met_other y
    (opened_of c.args.tree.now (places_of_opened c.args.self.now)) c.args.tree.now c.args.entry c.finds.result
    c.if-entry.false (c.finds.ensures.joined y ss z)
