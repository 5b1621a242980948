use Rattle.std.proofs.Common.{◌≡◌, ◌∙◌, ap, refl, true, false}
use Rattle.std.specs.Option.{is_some}
use Rattle.symk_task.specs.declared.parts.Variable.{Variable}
use Rattle.symk_task.specs.Variables.{is_base}
use Rattle.symk_task.proofs.Places.{base_more, base_by}
use Rattle.symk_task.proofs.base.base_values.Goals as goal
use Rattle.symk_task.proofs.base.base_values.Goals.{then-is_none+in_ok-push, else-is_none}

pub loop-i-preserved : goal.loop-i-preserved
loop-i-preserved c =
    let v = c.index-variables-i.result in
    let h = base_more c.args.variables.now c.args.values.now c.loop-i.i v c.loop-i.base.items _ c.loop-i-test.true
    c.requires c.index-variables-i.is c.loop-i.invariant in
    let b = base_by v.layer c.is_none.result (ap (λ (x : Variable). is_some x.layer) c.index-variables-i.is ∙ c.is_none.ensures) in
    elim c.if-is_none.branch [
      | then-is_none+in_ok-push w ↦ (let t : is_base v ≡ true = rw (b, w.if-is_none.true) refl in
          let k = rw t at h in rw (w.base-is, w.in_ok-push.ensures.items) k)
      | else-is_none w ↦ (let t : is_base v ≡ false = rw (b, w.if-is_none.false) refl in let k = rw t at h in rw w.base-is k)
    ]
