-- The steps of an operator, over truth functions of bits alone.
use Rattle.std.proofs.Common.{◌≡◌, ℕ, ◌+◌, ◌/◌, ◌<◌, ◌==◌, ◌↔◌, Bool, true, cond, List, length, get_or, Option, Some, None, IsSomeAnd, slice_get, sym, ◌∙◌, ap, subst, arith}
use Rattle.std.proofs.lemmas.Bool.{eq-eqb, ne_eqb}
use Rattle.symk_task.specs.declared.parts.Variable.{Variable}
use Rattle.symk_task.specs.declared.parts.Effect.{Effect}
use Rattle.symk_task.specs.declared.parts.Operator.{Operator}
use Rattle.symk_task.specs.declared.parts.TaskParts.{TaskParts}
use Rattle.symk_task.specs.Fits.{Fits, FitsEffect}
use Rattle.symk_task.specs.Variables.{IsBase, IsState, place, range}
use Rattle.symk_task.specs.Steps.{Fires, Applies, After, Step, ValueAfter}
use Rattle.symk_task.proofs.OneState.{value_one}
use Rattle.symk_task.proofs.Running.{fits_operator, step_state}
use Rattle.bdd_table.specs.Diagram.{Bits}
use Rattle.var_order.specs.declared.block.Block.{Block}
use Rattle.var_order.specs.Layout.{Layout, IsOrderOf, block_at, level_at}
use Rattle.var_order.specs.Codes.{number, value_at, spelt_value, IsCode, IsStateOf}
use Rattle.var_order.proofs.Coding.{coded}
use Rattle.var_order.proofs.Laying.{state_of, of_state}
use Rattle.var_order.proofs.Spelling.{number_same}
use Rattle.var_order.proofs.Values.{base_slot, base_block}
use Rattle.transitions.specs.Levels.{stepped}
use Rattle.transitions.specs.Relations.{IsStepOf, Relates}
use Rattle.transitions.specs.Touched.{touched_places}
use Rattle.transitions.specs.NextValues.{AppliesIn, Arrives, IsStepBy}
use Rattle.transitions.proofs.StepBits.{value_next, step_code, of_touched, effect_touches}

effect_base : (variables : List Variable) (e : Effect) → FitsEffect variables e → IsSomeAnd (slice_get variables e.var) (λ v. v.layer ≡ None)
effect_base variables e fit = go (slice_get variables e.var) fit.on
  where
    go : (x : Option Variable) → IsSomeAnd x (λ v. (v.layer ≡ None) × (e.post < range v)) → IsSomeAnd x (λ v. v.layer ≡ None)
    go None h = h
    go (Some v) h = h.0

module _ (task : TaskParts) (o : Layout) (order : IsOrderOf task o) (fits : Fits task) (a : ℕ) (operator : Operator)
    (here : slice_get task.operators a ≡ Some operator)
    (leads : (s : List ℕ) → IsState task s → Applies task s a → (t : List ℕ) × After task s a t) where
  abbrev pub places : List ℕ
  places = touched_places o operator.effects

  applies_in : (s : List ℕ) → Applies task s a → AppliesIn task s operator
  applies_in s h = subst (λ (z : Option Operator). IsSomeAnd z (λ operator. AppliesIn task s operator)) here h

  applies_of : (s : List ℕ) → AppliesIn task s operator → Applies task s a
  applies_of s h = subst (λ (z : Option Operator). IsSomeAnd z (λ operator. AppliesIn task s operator)) (sym here) h

  after_at : (s t : List ℕ) → After task s a t → (var : ℕ) → IsBase task var
      → ValueAfter (Fires task s) operator.effects var (get_or s (place task var) 0) (get_or t (place task var) 0)
  after_at s t after = subst (λ (z : Option Operator). IsSomeAnd z
      (λ operator. (var : ℕ) → IsBase task var → ValueAfter (Fires task s) operator.effects var
      (get_or s (place task var) 0) (get_or t (place task var) 0))) here after.values

  base_of : (k : ℕ) (d : Effect) → k < length operator.effects → IsBase task (get_or operator.effects k d).var
  base_of k d lt = effect_base task.variables (get_or operator.effects k d) ((fits_operator task a operator fits here).each k d lt)

  -- the bits of a base variable are those of its value in a state
  at_value : (n : ℕ) (b : Bits) (var : ℕ) → IsBase task var → spelt_value o n b var ≡ value_at o n b (place task var)
  at_value n b var base = ap (λ (block : Block). number b n block.first block.width) (base_block task o var order base)

  place_below : (var : ℕ) → IsBase task var → place task var < length o.blocks
  place_below var base = order.layout.slots var (place task var) (base_slot task o var order base)

  -- bits that arrive say the step
  sound : (b : Bits) → IsStepBy task o operator b → IsStepOf o places (λ s t. Step task s a t) b
  sound b (s, state, code, applies, arrives) =
      let l = leads s state (applies_of s applies) in
      let t = l.0 in
      let step : Step task s a t = (applies_of s applies, l.1) in (
        s,
        t,
        state_of task o s order state,
        state_of task o t order (step_state task s a t fits state step),
        code,
        step_code task o order operator.effects (Fires task s) s t b l.1.each code (after_at s t l.1) (λ slot lt on.
            let v = of_touched task o order operator.effects (λ var. Arrives task o operator.effects var s b) slot lt on arrives in
            let same = value_one (Fires task s) operator.effects v.0 (get_or s (place task v.0) 0) v.3.0
            (get_or t (place task v.0) 0) v.3.1 (after_at s t l.1 v.0 v.1) in
            subst (λ (k : ℕ). value_at o 1 b k ≡ get_or t k 0) v.2 (sym (at_value 1 b v.0 v.1) ∙ v.3.2 ∙ same)),
        step,
      )

  -- and the bits of a step arrive
  complete : (b : Bits) → IsStepOf o places (λ s t. Step task s a t) b → IsStepBy task o operator b
  complete b (s, t, ss, st, code, next, step) = (
    s,
    of_state task o s order ss,
    code,
    applies_in s step.0,
    (λ k d lt.
        let var = (get_or operator.effects k d).var in
        let base = base_of k d lt in (
          get_or t (place task var) 0,
          after_at s t step.1 var base,
          at_value 1 b var base ∙ sym (value_next task o order operator.effects b (place task var)
              (effect_touches task o order operator.effects k d lt base))
              ∙ next.values (place task var) (place_below var base),
        )),
  )

  -- the bits of the one state at its levels, and of the other at the next ones
  both_bits : Bits → Bits → Bits
  both_bits c d = λ l. cond (l == level_at 0 (l / 2)) (c l) (d l)

  both_now : (c d : Bits) (p : ℕ) → both_bits c d (level_at 0 p) ≡ c (level_at 0 p)
  unfolding both_bits
  both_now c d p = ap (λ (v : Bool). cond v (c (level_at 0 p)) (d (level_at 0 p))) (eq-eqb (level_at 0 p) (level_at 0 (level_at 0 p / 2)) (omega arith))

  both_next : (c d : Bits) (p : ℕ) → both_bits c d (level_at 1 p) ≡ d (level_at 1 p)
  unfolding both_bits
  both_next c d p = ap (λ (v : Bool). cond v (c (level_at 1 p)) (d (level_at 1 p)))
      (ne_eqb (level_at 1 p) (level_at 0 (level_at 1 p / 2)) (λ e. omega (arith, e)))

  -- each step has bits
  step_bits : (s t : List ℕ) → IsStateOf o s → IsStateOf o t → Step task s a t → (b : Bits) × IsCode o 0 s b × IsCode o 0 t (stepped places b)
  step_bits s t ss st step =
      let c = coded o s order.layout ss in
      let d = coded o t order.layout st in
      let b = both_bits c.0 d.0 in
      let code : IsCode o 0 s b = record {
        each = c.1.each;
        values = λ slot lt. number_same b c.0 0 0
            (block_at o slot).width (block_at o slot).first (λ k _. both_now c.0 d.0 ((block_at o slot).first + k))
            ∙ c.1.values slot lt;
      } in (
        b,
        code,
        step_code task o order operator.effects (Fires task s) s t b step.1.each code (after_at s t step.1)
            (λ slot lt on. number_same b d.0 1 1 (block_at o slot).width (block_at o slot).first
            (λ k _. both_next c.0 d.0 ((block_at o slot).first + k)) ∙ d.2.values slot lt),
      )

  -- The relation holds exactly for the steps of the operator.
  pub relation_law : (root : Bits → Bool) → ((b : Bits) → (root b ≡ true) ↔ IsStepBy task o operator b) → Relates o places (λ s t. Step task s a t) root
  relation_law root is = record {
    holds = λ b. ((λ h. sound b ((is b).0 h)), (λ h. (is b).1 (complete b h)));
    has_bits = step_bits;
  }
