use Rattle.std.proofs.lemmas.Result.{on_err_weaker}
use Rattle.space_api.specs.Frames.{NoMore, Gives}
use Rattle.space_api.proofs.Trading.{trades_trans}
use Rattle.mutex_use.specs.Sets.{KeepsIn}
use Rattle.mutex_use.proofs.Lists.{if_ok_both, of_ok, of_err}
use Rattle.mutex_use.proofs.Narrowing.{swapped, narrows_tidied, only_back}
use Rattle.mutex_use.proofs.keepers.keep_one.Goals as goal

pub returns-in-Ok-clause-ok : goal.returns-in-Ok-clause-ok
returns-in-Ok-clause-ok g c =
    let view = g.S.Space.view in
    let v = view c.args.space.now in
    let w = view c.kept_more-left.new.space in
    let gives = of_ok c.kept_more-left.result (Gives v w (KeepsIn v c.args.kept c.args.facts.now)) c.in-Ok.set c.in-Ok.is c.kept_more-left.ensures.ok in
    if_ok_both c.tidied.result
    (λ r e z. narrows_tidied c.kept_more-left.ensures.kept gives c.requires.valid c.forget.ensures e z)
    c.tidied.ensures.same c.tidied.ensures.stays

pub returns-in-Ok-clause-err : goal.returns-in-Ok-clause-err
returns-in-Ok-clause-err g c =
    let view = g.S.Space.view in
    let v = view c.args.space.now in
    let w = view c.kept_more-left.new.space in
    let x = view c.forget.new.self in
    let gives = of_ok c.kept_more-left.result (Gives v w (KeepsIn v c.args.kept c.args.facts.now)) c.in-Ok.set c.in-Ok.is c.kept_more-left.ensures.ok in
    on_err_weaker c.tidied.result
    (λ t. trades_trans (swapped v w x c.args.kept c.in-Ok.set c.kept_more-left.ensures.kept gives
    c.requires.valid c.forget.ensures) t) c.tidied.ensures.err

pub returns-in-Err-clause-err : goal.returns-in-Err-clause-err
returns-in-Err-clause-err g c =
    let view = g.S.Space.view in
    let v = view c.args.space.now in
    let w = view c.kept_more-left.new.space in
    only_back v w (view c.forget.new.self) c.args.kept c.kept_more-left.ensures.kept
    (of_err c.kept_more-left.result (NoMore v w) c.in-Err.fault c.in-Err.is c.kept_more-left.ensures.err)
    c.requires.valid c.forget.ensures
