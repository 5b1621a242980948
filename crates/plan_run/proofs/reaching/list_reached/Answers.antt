use Rattle.std.proofs.Common.{ap, sym, refl, subst, ℕ, Some, None}
use Rattle.plan_out.specs.declared.end.End.TheVariants.{Exhausted, CostRange}
use Rattle.plan_run.specs.declared.options.Reach.{Reach}
use Rattle.plan_run.specs.declared.options.Reach.TheVariants.{All, UpTo, Percent}
use Rattle.plan_run.specs.declared.reaching.Least.{Least}
use Rattle.run_status.specs.Ends.{PutsOutWith}
use Rattle.plan_run.specs.Reaches.{OrReached, HasLeast}
use Rattle.plan_run.proofs.Reached.{limited_lists, none_lists, memory_reaches}
use Rattle.plan_run.proofs.reaching.list_reached.Goals as goal

pub returns-in-All-clause-lists : goal.returns-in-All-clause-lists
returns-in-All-clause-lists g c =
    subst (λ (reach : Reach). PutsOutWith (OrReached c.args.task.now c.args.mode c.args.wanted reach)
    (g.K.Sink.view c.args.sink.now) (g.K.Sink.view c.list_first.new.sink) c.list_first.result) (sym c.in-All.is)
    (limited_lists c.args.task.now c.args.mode c.args.wanted All None (g.K.Sink.view c.args.sink.now) (g.K.Sink.view c.list_first.new.sink) _ refl c.list_first.ensures.lists)

pub returns-in-UpTo-clause-lists : goal.returns-in-UpTo-clause-lists
returns-in-UpTo-clause-lists g c =
    subst (λ (reach : Reach). PutsOutWith (OrReached c.args.task.now c.args.mode c.args.wanted reach)
    (g.K.Sink.view c.args.sink.now) (g.K.Sink.view c.list_first-in-UpTo.new.sink) c.list_first-in-UpTo.result)
    (sym c.in-UpTo.is)
    (limited_lists c.args.task.now c.args.mode c.args.wanted (UpTo c.in-UpTo.most) (Some c.in-UpTo.most) (g.K.Sink.view c.args.sink.now) (g.K.Sink.view c.list_first-in-UpTo.new.sink) _ refl c.list_first-in-UpTo.ensures.lists)

pub returns-in-Ok-Costs-clause-lists : goal.returns-in-Ok-Costs-clause-lists
returns-in-Ok-Costs-clause-lists g c =
    let least = subst (λ (l : Least). HasLeast c.args.task.now l) c.in-Ok-Costs.field-0-is c.in-Ok-Costs.ensures in
    subst (λ (reach : Reach). PutsOutWith (OrReached c.args.task.now c.args.mode c.args.wanted reach)
    (g.K.Sink.view c.args.sink.now) (g.K.Sink.view c.list_first-in-Ok-Costs.new.sink) c.list_first-in-Ok-Costs.result) (sym c.in-Percent.is)
    (limited_lists c.args.task.now c.args.mode c.args.wanted (Percent c.in-Percent.percent) (Some c.share-most.result) (g.K.Sink.view c.args.sink.now) (g.K.Sink.view c.list_first-in-Ok-Costs.new.sink) _
    (c.in-Ok-Costs.cost, least.0, least.1, ap (λ (n : ℕ). Some n) c.share-most.ensures) c.list_first-in-Ok-Costs.ensures.lists)

pub returns-in-Ok-Dear-clause-lists : goal.returns-in-Ok-Dear-clause-lists
returns-in-Ok-Dear-clause-lists g c =
    let dear = subst (λ (l : Least). HasLeast c.args.task.now l) c.in-Ok-Dear.field-0-is c.in-Ok-Dear.ensures in
    subst (λ (reach : Reach). PutsOutWith (OrReached c.args.task.now c.args.mode c.args.wanted reach)
    (g.K.Sink.view c.args.sink.now) (g.K.Sink.view c.end_list.new.sink) c.end_list.result) (sym c.in-Percent.is)
    (none_lists c.args.task.now c.args.mode c.args.wanted c.in-Percent.percent CostRange (g.K.Sink.view c.args.sink.now) (g.K.Sink.view c.end_list.new.sink) _ dear c.end_list.ensures.ends)

pub returns-in-Ok-Never-clause-lists : goal.returns-in-Ok-Never-clause-lists
returns-in-Ok-Never-clause-lists g c =
    let never = subst (λ (l : Least). HasLeast c.args.task.now l) c.in-Ok-Never.field-0-is c.in-Ok-Never.ensures in
    subst (λ (reach : Reach). PutsOutWith (OrReached c.args.task.now c.args.mode c.args.wanted reach)
    (g.K.Sink.view c.args.sink.now) (g.K.Sink.view c.end_list-in-Ok-Never.new.sink) c.end_list-in-Ok-Never.result)
    (sym c.in-Percent.is)
    (none_lists c.args.task.now c.args.mode c.args.wanted c.in-Percent.percent (Exhausted 0) (g.K.Sink.view c.args.sink.now) (g.K.Sink.view c.end_list-in-Ok-Never.new.sink) _ (refl, never) c.end_list-in-Ok-Never.ensures.ends)

pub returns-in-Err-clause-lists : goal.returns-in-Err-clause-lists
returns-in-Err-clause-lists g c = memory_reaches c.args.task.now c.args.mode c.args.wanted c.args.reach (g.K.Sink.view c.args.sink.now)
