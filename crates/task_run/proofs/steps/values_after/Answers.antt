use Rattle.std.proofs.Common.{◌≡◌, ◌<◌, ◌∙◌, refl, sym, subst, length, arith, get_or, take}
use Rattle.std.proofs.Math.ListN.{set}
use Rattle.std.proofs.lemmas.List.{length-set}
use Rattle.std.proofs.lemmas.Bool.{false≢true}
use Rattle.task_run.specs.Values.{FiresBy, IsOn}
use Rattle.task_run.proofs.Effects.{written, unchanged, one_more}
use Rattle.task_run.proofs.steps.values_after.Goals as goal
use Rattle.task_run.proofs.steps.values_after.Goals.{then-fires, else-fires}

pub loop-effect-preserved : goal.loop-effect-preserved
loop-effect-preserved c =
    let es = c.args.effects.now in
    let e = c.effect-item.result in
    let i = c.loop-effect.effect-index in
    let F = FiresBy c.args.values.now in
    let on : IsOn (length c.args.values.now) e = subst (IsOn (length c.args.values.now)) (sym c.effect-item.is) (c.requires i e c.loop-effect-test.true) in
    let within : e.var < length c.loop-effect.next.items = omega (arith, on.var, c.loop-effect.invariant.each) in
    elim c.if-fires.branch [
      | then-fires w ↦ (
          let items : c.if-fires.next.items ≡ set c.loop-effect.next.items e.var e.post = rw w.next-is refl in
          record {
            each = rw items (length-set c.loop-effect.next.items e.var e.post ∙ c.loop-effect.invariant.each);
            values = λ var. one_more F es i e var (get_or c.args.values.now var 0) (get_or c.if-fires.next.items var 0) c.loop-effect-test.true c.effect-item.is
                (rw items (written F (take i es) e var (get_or c.args.values.now var 0) c.loop-effect.next.items
                (c.fires.ensures.0 w.if-fires.true) within (c.loop-effect.invariant.values var)));
          })
      | else-fires w ↦ record {
        each = rw w.next-is c.loop-effect.invariant.each;
        values = λ var. one_more F es i e var (get_or c.args.values.now var 0) (get_or c.if-fires.next.items var 0) c.loop-effect-test.true c.effect-item.is
            (rw w.next-is (unchanged F (take i es) e var (get_or c.args.values.now var 0)
            (get_or c.loop-effect.next.items var 0) (λ _ f. absurd
            (false≢true (sym w.if-fires.false ∙ c.fires.ensures.1 f))) (c.loop-effect.invariant.values var)));
      }
    ]
