use Rattle.std.proofs.Common.{sym, subst}
use Rattle.plan_run.specs.declared.earlier.Earlier.{Earlier}
use Rattle.plan_run.specs.Earlier.{IsEarlier}
use Rattle.run_status.specs.Ends.{PutsOutWith}
use Rattle.plan_run.specs.Lists.{OrPart, aim_after}
use Rattle.plan_run.proofs.Going.{none_earlier}
use Rattle.plan_run.proofs.reaching.list_first.Goals as goal

pub list_found-requires : goal.list_found-requires
list_found-requires g c =
    record {
      least = c.requires.least;
      count = c.requires.count;
      limit = c.requires.limit;
      earlier = subst (λ (e : Earlier). IsEarlier c.args.task.now c.args.mode c.args.limit e) (sym c.none-earlier.ensures) (none_earlier c.args.task.now c.args.mode c.args.limit);
    }

pub returns-clause-lists : goal.returns-clause-lists
returns-clause-lists g c =
    subst (λ (e : Earlier). PutsOutWith (OrPart
    (aim_after c.args.task.now c.args.mode c.args.wanted c.args.limit e.plans)) (g.K.Sink.view c.args.sink.now)
    (g.K.Sink.view c.list_found.new.sink) c.list_found.result)
    c.none-earlier.ensures c.list_found.ensures.lists
