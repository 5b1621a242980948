-- Where the fact of a base variable holds.
use Rattle.std.proofs.Common.{◌≡◌, ◌↔◌, ℕ, List, get_or, inl, inr}
use Rattle.symk_task.specs.declared.parts.Fact.{Fact}
use Rattle.symk_task.specs.declared.parts.TaskParts.{TaskParts}
use Rattle.symk_task.specs.Variables.{IsBase, place}
use Rattle.symk_task.specs.Steps.{Holds}
use Rattle.symk_task.proofs.Layers.{base_derived}

-- it holds where the state has its value
pub base_holds : (task : TaskParts) (s : List ℕ) (fact : Fact) → IsBase task fact.var → Holds task s fact ↔ (get_or s (place task fact.var) 0 ≡ fact.val)
base_holds task s fact base = (
  (λ h. elim h [ inl b ↦ b.1 | inr d ↦ absurd (base_derived task fact.var d.0 base d.1) ]),
  (λ e. inl (base, e)),
)
