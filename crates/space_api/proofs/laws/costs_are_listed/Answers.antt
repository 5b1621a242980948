use Rattle.space_api.proofs.CostList.{costs_are_listed}
use Rattle.space_api.proofs.laws.costs_are_listed.Goals as goal

pub returns : goal.returns
returns c = costs_are_listed
