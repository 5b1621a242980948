use Rattle.bidirectional.proofs.Advancing.{goes_refl, goes_trans}
use Rattle.search_tests.proofs.telling.answers_of.Goals as goal

pub answers-init : goal.answers-init
answers-init g c = goes_refl (g.S.Space.view c.args.space.now) c.args.both.now c.requires

pub answers-preserved : goal.answers-preserved
answers-preserved g c =
    let view = g.S.Space.view in
    goes_trans (view c.args.space.now) (view c.answers.space) (view c.advance.new.space) c.args.both.now c.answers.both c.advance.new.self c.answers.invariant c.advance.ensures.goes_on

pub returns-in_err-next : goal.returns-in_err-next
returns-in_err-next g c =
    let view = g.S.Space.view in
    goes_trans (view c.args.space.now) (view c.answers.space) (view c.advance.new.space) c.args.both.now c.answers.both c.advance.new.self c.answers.invariant c.advance.ensures.goes_on

pub returns-in_err-push : goal.returns-in_err-push
returns-in_err-push g c =
    let view = g.S.Space.view in
    goes_trans (view c.args.space.now) (view c.answers.space) (view c.advance.new.space) c.args.both.now c.answers.both c.advance.new.self c.answers.invariant c.advance.ensures.goes_on

pub returns-in-Beyond : goal.returns-in-Beyond
returns-in-Beyond g c =
    let view = g.S.Space.view in
    goes_trans (view c.args.space.now) (view c.answers.space) (view c.advance.new.space) c.args.both.now c.answers.both c.advance.new.self c.answers.invariant c.advance.ensures.goes_on
