use Rattle.std.proofs.Common.{◌-◌, length, refl, arith}
use Rattle.bdd_sets.proofs.FactLists.{last_none, last_more}
use Rattle.bdd_sets.proofs.stepping.add_effects.Goals as goal

pub effects-init : goal.effects-init
effects-init c = last_none c.args.effects.now (length c.args.effects.now) c.args.facts.now c.args.on.now refl c.requires.facts c.requires.on

pub effects-preserved : goal.effects-preserved
effects-preserved c =
    let t = c.effects-test.true in
    let a = c.effects.auto.at in
    last_more c.args.effects.now (c.effects.at - 1) {next = c.effects.at} (omega (arith, t)) (omega (arith, t, a))
    c.index-effects-at.is c.effects.invariant c.in_ok-add_last.ensures.later c.in_ok-add_last.ensures.facts
