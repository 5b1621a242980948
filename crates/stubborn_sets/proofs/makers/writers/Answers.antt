use Rattle.std.proofs.Common.{List, ℕ, ◌+◌, ◌<◌, length, Option, IsSomeAnd, Vec, Global, sym, subst, ap, ◌∙◌, arith}
use Rattle.symk_task.specs.declared.parts.Effect.{Effect}
use Rattle.symk_task.specs.declared.parts.Operator.{Operator}
use Rattle.symk_task.specs.declared.parts.TaskParts.{TaskParts}
use Rattle.task_run.proofs.Stepping.{operator_at}
use Rattle.stubborn_sets.specs.Depending.{WritesOff}
use Rattle.stubborn_sets.specs.Kept.{LeavesOut, IsOff}
use Rattle.stubborn_sets.proofs.KeptLaw.{leaves_out, puts_last}
use Rattle.stubborn_sets.proofs.makers.writers.Goals as goal
use Rattle.stubborn_sets.proofs.makers.writers.Goals.{then-not-writes_off+in_ok-push, else-not-writes_off}

pub loop-op-preserved : goal.loop-op-preserved
loop-op-preserved c =
    let task = c.args.task.now in
    let marks = c.args.marks.now in
    let op = c.loop-op.op in
    let operators = c.as_slice-operators.result.now in
    let operator = c.index-operators-op.result in
    elim c.if-not-writes_off.branch [
      | then-not-writes_off+in_ok-push w ↦ puts_last (IsOff task marks) op c.loop-op.ops.items
          c.if-not-writes_off.ops.items c.loop-op.invariant
          (ap (λ (v : Vec ℕ Global). v.items) w.ops-is ∙ w.in_ok-push.ensures.items)
      | else-not-writes_off w ↦ (
          let all = c.as_slice-operators.ensures ∙ ap (λ (z : TaskParts). z.operators) c.parts.ensures.value in
          let lt : op < length task.operators = omega (arith, c.loop-op-test.true, c.operators-op-end.ensures) in
          let here = (operator_at task operators op operator c.parts.ensures.fits all lt c.index-operators-op.is).0 in
          let effects = c.as_slice.ensures ∙ ap (λ (o : Operator). o.effects) (sym c.index-operators-op.is) in
          let off : WritesOff marks c.as_slice.result.now = c.writes_off.ensures.0 w.if-not-writes_off.false in
          let by : WritesOff marks operator.effects = subst (λ (z : List Effect). WritesOff marks z) effects off in
          subst (λ (v : Vec ℕ Global). LeavesOut (IsOff task marks) (op + 1) v.items) (sym w.ops-is)
          (leaves_out (IsOff task marks) op c.loop-op.ops.items c.loop-op.invariant
          (subst (λ (o : Option Operator). IsSomeAnd o (λ (z : Operator). WritesOff marks z.effects)) (sym here)
          by)))
    ]
