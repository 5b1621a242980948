use Rattle.std.proofs.Common.{◌≡◌, ◌+◌, ◌++◌, ◌∙◌, ℕ, [], ◌∷◌, get_or, sym, ap, arith, true, false}
use Rattle.std.specs.Option.{is_some}
use Rattle.std.proofs.lemmas.List.Sums.{count_by_more_yes, count_by_more_no}
use Rattle.symk_task.specs.declared.parts.Variable.{Variable}
use Rattle.symk_task.specs.Variables.{is_base}
use Rattle.symk_task.proofs.Places.{base_by}
use Rattle.task_run.specs.Layer.{start_value}
use Rattle.task_run.proofs.Growing.{start_push, start_at, length_push}
use Rattle.task_run.proofs.values.start_values.Goals as goal
use Rattle.task_run.proofs.values.start_values.Goals.{then-is_none+in_ok-push, else-is_none+in_ok-push-2}

pub loop-i-preserved : goal.loop-i-preserved
loop-i-preserved c =
    let variables = c.args.variables.now in
    let defaults = c.args.defaults.now in
    let s = c.args.state.now in
    let v = c.index-variables-i.result in
    let i = c.loop-i.i in
    let inv = c.loop-i.invariant in
    let b = base_by v.layer c.is_none.result (ap (λ (x : Variable). is_some x.layer) c.index-variables-i.is ∙ c.is_none.ensures) in
    let at : is_base (get_or variables i v) ≡ is_base v = ap (λ (x : Variable). is_base x) (sym c.index-variables-i.is) in
    elim c.if-is_none.branch [
      | then-is_none+in_ok-push w ↦ (
          let t : is_base v ≡ true = b ∙ w.if-is_none.true in
          let y = get_or s c.loop-i.place 0 in
          let items : c.if-is_none.values.items ≡ c.loop-i.values.items ++ y ∷ [] = rw w.values-is w.in_ok-push.ensures.items in
          let n = count_by_more_yes is_base variables i v c.loop-i-test.true (at ∙ t) in
          record {
            each = rw items (length_push c.loop-i.values.items y ∙ ap (λ (z : ℕ). z + 1) inv.each);
            place = w.place-is ∙ omega (arith, inv.place, n);
            values = rw items (start_push (start_value variables defaults s) c.loop-i.values.items i y inv.each
                (start_at variables defaults s i v true c.loop-i-test.true c.index-variables-i.is t
                ∙ ap (λ (z : ℕ). get_or s z 0) (sym inv.place)) inv.values);
          })
      | else-is_none+in_ok-push-2 w ↦ (
          let t : is_base v ≡ false = b ∙ w.if-is_none.false in
          let y = get_or defaults i 0 in
          let items : c.if-is_none.values.items ≡ c.loop-i.values.items ++ y ∷ [] = rw w.values-is w.in_ok-push-2.ensures.items in
          let n = count_by_more_no is_base variables i v c.loop-i-test.true (at ∙ t) in
          record {
            each = rw items (length_push c.loop-i.values.items y ∙ ap (λ (z : ℕ). z + 1) inv.each);
            place = w.place-is ∙ omega (arith, inv.place, n);
            values = rw items (start_push (start_value variables defaults s) c.loop-i.values.items i y inv.each
                (start_at variables defaults s i v false c.loop-i-test.true c.index-variables-i.is t) inv.values);
          })
    ]
