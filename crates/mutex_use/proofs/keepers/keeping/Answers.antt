use Rattle.std.proofs.lemmas.Result.{IfOk-weaker}
use Rattle.space_api.specs.Frames.{Gives}
use Rattle.mutex_use.specs.Groups.{IsKeeper}
use Rattle.mutex_use.proofs.Narrowing.{all_states, gives_back}
use Rattle.mutex_use.proofs.keepers.keeping.Goals as goal

pub keep_each-kept-requires-clause-all : goal.keep_each-kept-requires-clause-all
keep_each-kept-requires-clause-all g c = all_states (g.S.Space.view c.args.space.now) (g.S.Space.view c.all.new.self)
    c.in_ok-all.all (g.met.S.Space.of_task c.args.space.now) c.all.ensures.makes.task c.in_ok-all.ensures.makes.ok

pub returns-clause-ok : goal.returns-clause-ok
returns-clause-ok g c =
    let view = g.S.Space.view in
    let P = IsKeeper c.args.task.now c.args.groups.now in
    IfOk-weaker c.keep_each-kept.result (Gives (view c.all.new.self) (view c.keep_each-kept.new.space) P)
    (Gives (view c.args.space.now) (view c.forget.new.self) P)
    (λ r h. gives_back c.all.ensures.makes.kept c.in_ok-all.ensures.makes.ok c.keep_each-kept.ensures.kept h
    c.forget.ensures (λ s. ((λ z. z), (λ z. z)))) c.keep_each-kept.ensures.ok
