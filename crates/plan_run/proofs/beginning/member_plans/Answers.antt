use Rattle.std.proofs.Common.{◌∙◌}
use Rattle.plan_run.proofs.Members.{keeps_each}
use Rattle.plan_run.proofs.beginning.member_plans.Goals as goal

pub returns-in-None-limit : goal.returns-in-None-limit
returns-in-None-limit g c =
    let e = c.new.ensures in
    keeps_each _ _ _ _ c.args.task.now c.args.limit c.new.result (c.in_ok-within.ensures.system ∙ c.requires.system) c.in-None-limit.is e.lawful e.system e.all e.most

pub returns-in-Some-limit : goal.returns-in-Some-limit
returns-in-Some-limit g c =
    let e = c.within.ensures in
    keeps_each _ _ _ _ c.args.task.now c.args.limit c.within.result (c.in_ok-within.ensures.system ∙ c.requires.system) c.in-Some-limit.is e.lawful e.system e.all e.most

pub returns-in-None-limit-2 : goal.returns-in-None-limit-2
returns-in-None-limit-2 g c =
    let e = c.new_within.ensures in
    keeps_each _ _ _ _ c.args.task.now c.args.limit c.new_within.result (c.in_ok-within.ensures.system ∙ c.requires.system) c.in-None-limit-2.is e.lawful e.system e.all e.most

pub returns-in-Some-limit-2 : goal.returns-in-Some-limit-2
returns-in-Some-limit-2 g c =
    let e = c.within_most.ensures in
    keeps_each _ _ _ _ c.args.task.now c.args.limit c.within_most.result (c.in_ok-within.ensures.system ∙ c.requires.system) c.in-Some-limit-2.is e.lawful e.system e.all e.most
