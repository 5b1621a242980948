use Rattle.std.proofs.Common.{Option, subst}
use Rattle.std.proofs.lemmas.Result.{IfOk-weaker}
use Rattle.space_api.specs.View.{Meets}
use Rattle.mutex_use.specs.Sets.{MayGive, MayKeepOne, MayKeepMore}
use Rattle.mutex_use.proofs.Alone.{join_given}
use Rattle.mutex_use.proofs.joining.join_one.Goals as goal

pub returns-in-Some-clause-ok : goal.returns-in-Some-clause-ok
returns-in-Some-clause-ok g c =
    let view = g.S.Space.view in
    let v = view c.args.space.now in
    let w = view c.keepers_alone.new.space in
    let x = view c.small_meet-both.new.space in
    let task = c.args.task.now in
    let keepers = c.in-Some.keepers in
    let one = subst (λ (o : Option _). MayKeepOne v w task c.args.group o) c.in-Some.is c.in_ok-keepers.ensures.ok in
    IfOk-weaker c.small_meet-both.result (MayGive w x (Meets w c.args.kept keepers)) (MayKeepMore v (view c.forget.new.self) task c.args.kept c.args.group)
    (join_given task v w x (view c.forget.new.self) c.args.kept keepers c.args.group c.in_ok-keepers.ensures.kept
    c.requires.set one c.small_meet-both.ensures.kept c.forget.ensures) c.small_meet-both.ensures.ok
