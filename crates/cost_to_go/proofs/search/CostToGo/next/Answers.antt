use Rattle.cost_to_go.proofs.Knowing.{tells_outside}
use Rattle.cost_to_go.proofs.search.CostToGo.next.Goals as goal

pub returns-clause-outside : goal.returns-clause-outside
returns-clause-outside g c = λ v z. tells_outside v c.args.self.now z
