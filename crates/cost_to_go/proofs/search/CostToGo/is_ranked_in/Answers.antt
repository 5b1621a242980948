use Rattle.std.proofs.Common.{refl, sym, subst}
use Rattle.space_api.specs.View.{Valid}
use Rattle.space_api.proofs.Keeping.{given_back}
use Rattle.goal_ranks.specs.Ranks.{Rest}
use Rattle.cost_to_go.proofs.search.CostToGo.is_ranked_in.Goals as goal

pub minus-requires-clause-b : goal.minus-requires-clause-b
minus-requires-clause-b g c =
    let v = g.S.Space.view c.args.space.now in
    subst (λ (a : _). Valid v a) (sym c.left.ensures) (c.requires.stands.ranks.sets.valid Rest _ refl)

pub returns : goal.returns
returns g c = given_back c.minus.ensures.kept c.in_ok-known.ensures.ok c.forget.ensures

pub returns-in_err-known : goal.returns-in_err-known
returns-in_err-known g c = record { kept = c.minus.ensures.kept; only = c.in_err-known.ensures.err }
