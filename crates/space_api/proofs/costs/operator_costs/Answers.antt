use Rattle.std.proofs.Common.{◌≡◌}
use Rattle.std.proofs.lemmas.Result.{IfOk-weaker}
use Rattle.task_system.specs.Computed.{system_of}
use Rattle.space_api.specs.Costs.{costs_of}
use Rattle.space_api.proofs.CostSet.{listed}
use Rattle.space_api.proofs.costs.operator_costs.Goals as goal

pub returns : goal.returns
returns c =
    let set = c.in_ok-set.set in
    let y = system_of c.args.task.now in
    IfOk-weaker c.members.result (λ costs. costs.items ≡ set.keys) (λ costs. costs.items ≡ costs_of y)
    (λ costs e. listed y set c.in_ok-set.ensures costs.items e c.members.ensures.rising) c.members.ensures.members
