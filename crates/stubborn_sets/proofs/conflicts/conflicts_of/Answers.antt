use Rattle.std.proofs.Common.{ℕ, ◌+◌, Vec, Global, sym, subst, ap, ◌∙◌}
use Rattle.task_system.specs.Computed.{system_of}
use Rattle.stubborn_sets.specs.Commuting.{Commute}
use Rattle.stubborn_sets.specs.Kept.{LeavesOut}
use Rattle.stubborn_sets.proofs.KeptLaw.{leaves_out, puts_last}
use Rattle.stubborn_sets.proofs.conflicts.conflicts_of.Goals as goal
use Rattle.stubborn_sets.proofs.conflicts.conflicts_of.Goals.{then-not-commute+in_ok-push, else-not-commute}

pub loop-other-preserved : goal.loop-other-preserved
loop-other-preserved c =
    let fine : ℕ → Type 0 = Commute (system_of c.args.task.now) c.args.one in
    elim c.if-not-commute.branch [
      | then-not-commute+in_ok-push w ↦ puts_last fine c.loop-other.other c.loop-other.ops.items
          c.if-not-commute.ops.items c.loop-other.invariant
          (ap (λ (v : Vec ℕ Global). v.items) w.ops-is ∙ w.in_ok-push.ensures.items)
      | else-not-commute w ↦ subst (λ (v : Vec ℕ Global). LeavesOut fine (c.loop-other.other + 1) v.items) (sym w.ops-is)
          (leaves_out fine c.loop-other.other c.loop-other.ops.items c.loop-other.invariant (c.commute.ensures w.if-not-commute.false))
    ]
