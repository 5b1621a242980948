use Rattle.std.proofs.lemmas.Result.{IfOk-weaker}
use Rattle.space_api.specs.View.{Has, Lacks}
use Rattle.space_api.specs.Frames.{Gives}
use Rattle.mutex_use.specs.Groups.{HasAtMostOne}
use Rattle.mutex_use.proofs.Narrowing.{gives_back, without_broken}
use Rattle.mutex_use.proofs.keepers.kept_more.Goals as goal

pub returns-clause-ok : goal.returns-clause-ok
returns-clause-ok g c =
    let view = g.S.Space.view in
    let v = view c.args.space.now in
    let w = view c.breaking.new.space in
    let b = c.in_ok-broken.broken in
    IfOk-weaker c.minus-left.result (Gives w (view c.minus-left.new.self) (Lacks w c.args.kept b))
    (Gives v (view c.forget.new.self) (λ s. Has v c.args.kept s × HasAtMostOne v.task c.args.facts.now s))
    (λ r h. gives_back c.breaking.ensures.kept c.in_ok-broken.ensures.ok c.minus-left.ensures.kept h c.forget.ensures
    (without_broken v w c.args.all c.args.kept b c.args.facts.now c.breaking.ensures.kept c.requires.valid
    c.requires.inside c.in_ok-broken.ensures.ok)) c.minus-left.ensures.ok
