use Rattle.space_api.proofs.Keeping.{given_back}
use Rattle.cost_layers.proofs.leaving.leads_out.Goals as goal

pub returns-clause-stays : goal.returns-clause-stays
returns-clause-stays g c = given_back c.out_by.ensures.kept c.in_ok-out.ensures.ok c.forget.ensures
