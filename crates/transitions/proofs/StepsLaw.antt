-- The diagram of an operator's steps from its parts.
use Rattle.std.proofs.Common.{◌≡◌, ◌↔◌, ◌&&◌, Bool, true, sym, ◌∙◌}
use Rattle.std.specs.List.{All}
use Rattle.std.proofs.lemmas.Bool.{and_parts, and_from}
use Rattle.symk_task.specs.declared.parts.Effect.{Effect}
use Rattle.symk_task.specs.declared.parts.Operator.{Operator}
use Rattle.symk_task.specs.declared.parts.TaskParts.{TaskParts}
use Rattle.bdd_table.specs.Diagram.{Bits}
use Rattle.var_order.specs.Layout.{Layout, IsOrderOf}
use Rattle.var_order.proofs.Laying.{state_of, of_state}
use Rattle.bdd_sets.specs.Sets.{IsOfState}
use Rattle.axiom_layers.specs.Roots.{EachState}
use Rattle.transitions.specs.NextValues.{AppliesIn, Arrives, IsStepBy}

-- the diagrams are true of the bits of a state, where the operator applies, and where its next values are spelled
pub record AreParts (task : TaskParts) (o : Layout) (operator : Operator) (valid applies next : Bits → Bool)
    : Type 0 where
  pub is_valid : (b : Bits) → (valid b ≡ true) ↔ IsOfState o b
  pub is_applies : EachState task o (λ s b. (applies b ≡ true) ↔ AppliesIn task s operator)
  pub is_next : EachState task o (λ s b. (next b ≡ true)
      ↔ All (λ (e : Effect). Arrives task o operator.effects e.var s b) operator.effects)

pub steps_law : {task : TaskParts} {o : Layout} {operator : Operator} {valid applies next : Bits → Bool}
    (root : Bits → Bool) → IsOrderOf task o → AreParts task o operator valid applies next
    → ((b : Bits) → root b ≡ ((valid b && applies b) && next b)) → (b : Bits) → (root b ≡ true) ↔ IsStepBy task o operator b
steps_law {task} {o} {operator} {valid} {applies} {next} root order are is b = (
  (λ h.
      let x = and_parts (valid b && applies b) (next b) (sym (is b) ∙ h) in
      let y = and_parts (valid b) (applies b) x.0 in
      let s = (are.is_valid b).0 y.0 in
      let state = of_state task o s.0 order s.1 in
      (s.0, state, s.2, (are.is_applies s.0 b state s.2).0 y.1, (are.is_next s.0 b state s.2).0 x.1)),
  (λ (s, state, code, can, arrives). is b ∙ and_from (valid b && applies b) (next b)
      (and_from (valid b) (applies b) ((are.is_valid b).1 (s, state_of task o s order state, code))
      ((are.is_applies s b state code).1 can))
      ((are.is_next s b state code).1 arrives)),
)
