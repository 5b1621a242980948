use Rattle.plan_out.proofs.GoodList.{good}
use Rattle.plan_out.proofs.laws.good_blocks_are_plans.Goals as goal

pub returns : goal.returns
returns c = good
