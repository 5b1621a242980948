use Rattle.std.proofs.Common.{subst}
use Rattle.task_system.specs.System.{System}
use Rattle.symk_task.specs.declared.parts.Mode.TheVariants.{TopK}
use Rattle.space_api.proofs.Trading.{trades_trans}
use Rattle.lazy_plans.specs.Law.{Turned}
use Rattle.lazy_plans.proofs.Given.{turned_from}
use Rattle.reconstruct.specs.Working.{OwedBy}
use Rattle.reconstruct.proofs.next_plan.give.Goals as goal

pub returns-in-Ok-Never-clause-turned : goal.returns-in-Ok-Never-clause-turned
returns-in-Ok-Never-clause-turned g c =
    let left = rw c.in-Ok-Never.field-0-is at c.in-Ok-Never.ensures.ok in
    (left, c.fill.ensures.moves.owes)

pub returns-in-Ok-Beyond-clause-turned : goal.returns-in-Ok-Beyond-clause-turned
returns-in-Ok-Beyond-clause-turned g c =
    let left = rw c.in-Ok-Beyond.field-0-is at c.in-Ok-Beyond.ensures.ok in
    (left, c.fill.ensures.moves.owes)

pub returns-in-Ok-Ready-clause-trades : goal.returns-in-Ok-Ready-clause-trades
returns-in-Ok-Ready-clause-trades g c = trades_trans c.fill.ensures.moves.trades c.walk_on.ensures.trades

pub returns-in-Ok-Ready-clause-turned : goal.returns-in-Ok-Ready-clause-turned
returns-in-Ok-Ready-clause-turned g c =
    let view = g.S.Space.view in
    let v = view c.args.space.now in
    let m = c.fill.ensures.moves in
    let both = c.fill.new.both in
    let before = OwedBy v c.args.both.now c.args.agenda.now in
    let between = OwedBy (view c.fill.new.space) both c.fill.new.agenda in
    let after = OwedBy (view c.walk_on.new.space) both c.walk_on.new.agenda in
    turned_from v.system TopK c.args.most before between after c.walk_on.result m.owes
    (subst (λ (y : System). Turned y TopK c.args.most between after c.walk_on.result) m.trades.system
    (c.walk_on.ensures.turned c.args.most c.fill.ensures.range))
