use Rattle.std.proofs.Common.{◌≡◌, ◌+◌, IfSome, Option, sym, subst}
use Rattle.stubborn_sets.specs.declared.choosing.Lack.{Lack}
use Rattle.stubborn_sets.specs.Barring.{HasMakers}
use Rattle.stubborn_sets.proofs.Asking.{Asked, asks_none, asks_one, waits_makers}
use Rattle.stubborn_sets.proofs.choosing.scarcest_asked.Goals as goal
use Rattle.stubborn_sets.proofs.choosing.scarcest_asked.Goals.{in-Some, in-None}

pub loop-effect-preserved : goal.loop-effect-preserved
loop-effect-preserved c =
    let values = c.args.values.now in
    let effects = c.args.effects.now in
    let n = c.loop-effect.effect-index in
    let effect = c.effect-item.result in
    let best = c.loop-effect.best in
    let inv = c.loop-effect.invariant in
    let Waiting : Option Lack → Type 0 = λ o. IfSome o (λ lack. lack.makers ≡ 0 → HasMakers c.args.parts.now lack.fact c.args.marks.now) in
    elim c.match-refused.branch [
      | in-None w ↦ record {
        which = subst (Asked values effects c.args.before (n + 1)) (sym w.best-is)
            (asks_none values effects c.args.before n effect best c.loop-effect-test.true c.effect-item.is
            w.in-None.ensures inv.which);
        waits = subst Waiting (sym w.best-is) inv.waits;
      }
      | in-Some w ↦ record {
        which = subst (Asked values effects c.args.before (n + 1)) (sym w.best-is)
            (asks_one values effects c.args.before n effect w.in-Some.fact best w.scarcer.result
            c.loop-effect-test.true c.effect-item.is w.in-Some.ensures w.scarcer.ensures.which inv.which);
        waits = subst Waiting (sym w.best-is) (λ none. waits_makers c.args.parts.now c.args.marks.now w.scarcer.result.fact (w.scarcer.ensures.waits none));
      }
    ]
