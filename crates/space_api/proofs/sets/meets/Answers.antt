use Rattle.space_api.proofs.Keeping.{given_back}
use Rattle.space_api.proofs.sets.meets.Goals as goal

pub returns-clause-stays : goal.returns-clause-stays
returns-clause-stays g c = given_back c.meet.ensures.kept c.in_ok-both.ensures.ok c.forget.ensures
