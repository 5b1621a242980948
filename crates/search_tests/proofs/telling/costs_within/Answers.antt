use Rattle.bidirectional.proofs.Advancing.{goes_refl, goes_trans}
use Rattle.search_tests.proofs.telling.costs_within.Goals as goal

pub costs-init : goal.costs-init
costs-init g c = goes_refl (g.S.Space.view c.args.space.now) c.args.both.now c.requires

pub costs-preserved : goal.costs-preserved
costs-preserved g c =
    let view = g.S.Space.view in
    goes_trans (view c.args.space.now) (view c.costs.space) (view c.advance_within.new.space) c.args.both.now c.costs.both c.advance_within.new.self c.costs.invariant c.advance_within.ensures.goes_on

pub returns-in_err-cost : goal.returns-in_err-cost
returns-in_err-cost g c =
    let view = g.S.Space.view in
    goes_trans (view c.args.space.now) (view c.costs.space) (view c.advance_within.new.space) c.args.both.now c.costs.both c.advance_within.new.self c.costs.invariant c.advance_within.ensures.goes_on

pub returns-in_err-push-in-Plans : goal.returns-in_err-push-in-Plans
returns-in_err-push-in-Plans g c =
    let view = g.S.Space.view in
    goes_trans (view c.args.space.now) (view c.costs.space) (view c.advance_within.new.space) c.args.both.now c.costs.both c.advance_within.new.self c.costs.invariant c.advance_within.ensures.goes_on

pub returns-in-Past : goal.returns-in-Past
returns-in-Past g c =
    let view = g.S.Space.view in
    goes_trans (view c.args.space.now) (view c.costs.space) (view c.advance_within.new.space) c.args.both.now c.costs.both c.advance_within.new.self c.costs.invariant c.advance_within.ensures.goes_on
