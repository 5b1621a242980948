use Rattle.scripted_plans.proofs.Taking.{gave_script}
use Rattle.scripted_plans.proofs.script.ScriptLazyPlans.next_plan.Goals as goal

pub returns-in-Some-shift_remove_index-clause-law : goal.returns-in-Some-shift_remove_index-clause-law
returns-in-Some-shift_remove_index-clause-law g c = gave_script c.args.self.now.plans.keys c.shift_remove_index.new.self.keys c.in-Some-shift_remove_index.plan c.in-Some-shift_remove_index.ensures.key c.in-Some-shift_remove_index.ensures.updates.0
