-- A space whose one set is that to which a search backward is kept.
use Rattle.std.proofs.Common.{IsFalse, Some, inl, inr, subst}
use Rattle.symk_task.specs.declared.parts.TaskParts.{TaskParts}
use Rattle.task_system.specs.System.{State, System}
use Rattle.run_graph.specs.Reached.{Useful}
use Rattle.space_api.specs.View.{View, Has}
use Rattle.space_api.specs.Frames.{Kept}
use Rattle.space_api.proofs.Trading.{valid_clash}
use Rattle.mutex_use.specs.Sets.{KeepsHolding}
use Rattle.reconstruct.specs.Engine.{IsReadyFor}

-- where no set was valid before, the one that was made is ready for an engine
pub ready_kept : {Set : Type 0} (v w : View Set) (task : TaskParts) (kept : Set) → ((a : Set) → IsFalse (v.valid a)) → Kept v w → KeepsHolding v w task kept
    → ((s : State) → Useful v.system s → Has w kept s) → IsReadyFor w (Some kept)
ready_kept v w task kept none same holding wide =
    let gives = holding.2 in (
      gives.valid,
      (λ a valid. elim (gives.only a valid) [ inl old ↦ absurd (valid_clash old (none a)) | inr is ↦ is ]),
      (λ s useful. wide s (subst (λ (y : System). Useful y s) same.system useful)),
    )
