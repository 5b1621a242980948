use Rattle.std.proofs.Common.{Option, subst}
use Rattle.mutex_use.specs.Sets.{MayKeepMore}
use Rattle.mutex_use.proofs.Lists.{if_ok_both, of_ok}
use Rattle.mutex_use.proofs.Alone.{joined_narrows}
use Rattle.mutex_use.proofs.joining.joined.Goals as goal

pub returns-in-Some-clause-ok : goal.returns-in-Some-clause-ok
returns-in-Some-clause-ok g c =
    let view = g.S.Space.view in
    let v = view c.args.space.now in
    let w = view c.join_one-next.new.space in
    let task = c.args.task.now in
    let one = of_ok c.join_one-next.result (MayKeepMore v w task c.args.kept c.args.group) c.in-Ok.next c.in-Ok.is c.join_one-next.ensures.ok in
    let more = subst (λ (o : Option _). MayKeepMore v w task c.args.kept c.args.group o) c.in-Some.is one in
    if_ok_both c.tidied-in-Some.result
    (λ r e z. joined_narrows task c.args.kept c.args.group c.join_one-next.ensures.kept more c.requires.set
    c.forget-in-Some.ensures e z)
    c.tidied-in-Some.ensures.same c.tidied-in-Some.ensures.stays
