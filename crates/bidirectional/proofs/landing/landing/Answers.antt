use Rattle.std.proofs.Common.{arith, subst, ◌≡◌, length, refl}
use Rattle.task_system.specs.System.{System}
use Rattle.space_api.specs.Costs.{costs_of}
use Rattle.space_api.proofs.Trading.{all_back, kept_made}
use Rattle.cost_layers.proofs.Seeding.{on_err}
use Rattle.bidirectional.proofs.Carrying.{both_held}
use Rattle.bidirectional.proofs.Landed.{landing_start, landing_step, landing_end}
use Rattle.bidirectional.proofs.landing.landing.Goals as goal

pub costs-init : goal.costs-init
costs-init g c = landing_start c.args.meeting c.args.to c.in_ok-landed.landed c.args.cost c.args.z c.empty.ensures.kept c.in_ok-landed.ensures.ok

pub add_landing-requires-clause-layers : goal.add_landing-requires-clause-layers
add_landing-requires-clause-layers g c = both_held c.requires.layers (kept_made c.costs.invariant.made)

pub add_landing-requires-clause-to : goal.add_landing-requires-clause-to
add_landing-requires-clause-to g c = (kept_made c.costs.invariant.made).valid c.args.to c.requires.to

pub add_landing-requires-clause-landed : goal.add_landing-requires-clause-landed
add_landing-requires-clause-landed g c = c.costs.invariant.made.owned c.costs.landed refl

pub costs-preserved : goal.costs-preserved
costs-preserved g c = landing_step c.costs.invariant c.cost_at-w.result c.requires.layers c.requires.to c.cost_at-w.ensures c.in_ok-landed-2.ensures.ok

pub returns-in_err-landed-2-clause-kept : goal.returns-in_err-landed-2-clause-kept
returns-in_err-landed-2-clause-kept g c = (all_back c.costs.invariant.made c.in_err-landed-2.ensures.err).kept

pub returns-in_err-landed-2-clause-err : goal.returns-in_err-landed-2-clause-err
returns-in_err-landed-2-clause-err g c = on_err _ (all_back c.costs.invariant.made c.in_err-landed-2.ensures.err).only

pub returns-clause-kept : goal.returns-clause-kept
returns-clause-kept g c = kept_made c.costs.invariant.made

pub returns-clause-ok : goal.returns-clause-ok
returns-clause-ok g c =
    let all = subst (λ (y : System). c.costs.i ≡ length (costs_of y)) c.empty.ensures.kept.system
    (omega (arith, c.costs-i-end.ensures, c.costs-test.false, c.costs.auto.i-end)) in
    landing_end c.costs.invariant all
