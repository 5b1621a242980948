use Rattle.std.proofs.lemmas.Result.{IfOk-weaker}
use Rattle.task_system.specs.System.{State}
use Rattle.run_graph.specs.Reached.{Useful}
use Rattle.space_api.specs.View.{Has}
use Rattle.mutex_use.specs.Sets.{KeepsHolding}
use Rattle.mutex_use.proofs.Narrowing.{all_states, useful_within}
use Rattle.mutex_use.proofs.Alone.{holding_back}
use Rattle.mutex_use.proofs.joining.within.Goals as goal

pub join_each-kept-requires-clause-all : goal.join_each-kept-requires-clause-all
join_each-kept-requires-clause-all g c = all_states (g.S.Space.view c.args.space.now) (g.S.Space.view c.all.new.self)
    c.in_ok-all.all (g.met.S.Space.of_task c.args.space.now) c.all.ensures.makes.task c.in_ok-all.ensures.makes.ok

pub returns-clause-ok : goal.returns-clause-ok
returns-clause-ok g c =
    let view = g.S.Space.view in
    let v = view c.args.space.now in
    let w = view c.all.new.self in
    let x = view c.join_each-kept.new.space in
    let y = view c.forget.new.self in
    IfOk-weaker c.join_each-kept.result (KeepsHolding w x c.args.task.now) (KeepsHolding v y c.args.task.now)
    (λ r h. holding_back c.args.task.now r c.all.ensures.makes.kept
    c.in_ok-all.ensures.makes.ok c.join_each-kept.ensures.kept h c.forget.ensures) c.join_each-kept.ensures.ok

pub returns-clause-useful : goal.returns-clause-useful
returns-clause-useful g c =
    let view = g.S.Space.view in
    let v = view c.args.space.now in
    let w = view c.all.new.self in
    let x = view c.join_each-kept.new.space in
    let y = view c.forget.new.self in
    IfOk-weaker c.join_each-kept.result (KeepsHolding w x c.args.task.now) (λ set. (s : State) → Useful v.system s → Has y set s)
    (λ r h. useful_within v y c.args.task.now r (g.met.S.Space.of_task c.args.space.now) c.requires c.parts.ensures.fits
    (holding_back c.args.task.now r c.all.ensures.makes.kept c.in_ok-all.ensures.makes.ok
    c.join_each-kept.ensures.kept h c.forget.ensures)) c.join_each-kept.ensures.ok
