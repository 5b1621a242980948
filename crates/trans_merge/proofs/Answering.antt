-- What the relations of a task answer for an operator, and for a cost.
use Rattle.std.proofs.Common.{◌≡◌, ◌≢◌, ℕ, ◌+◌, ◌<◌, Bool, List, length, get_or, refl, sym, ◌∙◌, ap, subst, arith}
use Rattle.std.specs.List.{slice_range}
use Rattle.symk_task.specs.declared.parts.TaskParts.{TaskParts}
use Rattle.symk_task.specs.Steps.{Step}
use Rattle.task_system.specs.Computed.{system_of}
use Rattle.space_api.proofs.CostList.{are_costs}
use Rattle.bdd_table.specs.declared.node.Node.{Node}
use Rattle.bdd_table.specs.Diagram.{Bits, means}
use Rattle.var_order.specs.Layout.{Layout}
use Rattle.transitions.specs.declared.relations.Relation.{Relation}
use Rattle.transitions.specs.Relations.{Names, Connects, AreOver}
use Rattle.trans_merge.specs.Merging.{SomeLeads}
use Rattle.trans_merge.specs.declared.relations.OperatorRelations.{OperatorRelations}
use Rattle.trans_merge.specs.Steps.{StepOfCost, ImageBy, PreimageBy, HasSteps, HaveSteps}
use Rattle.trans_merge.specs.Relations.{AreAsked}
use Rattle.trans_merge.specs.Asked.{AreOverSet}
use Rattle.trans_merge.proofs.Imaging.{names_image, names_none}

module _ (task : TaskParts) (o : Layout) (nodes : List Node) (r : OperatorRelations) (set : ℕ) (asked : AreAsked task o nodes r set) where
  pub own_steps : (op : ℕ) (q : Relation) → op < length r.single.items → q ≡ get_or r.single.items op q → HasSteps o nodes (λ s t. Step task s op t) q
  own_steps op q lt e = subst (HasSteps o nodes (λ s t. Step task s op t)) (sym e)
      (asked.relations.single.each op q (let n = asked.relations.single.operators in omega (arith, n, lt)))

  pub own_over : (op : ℕ) (q : Relation) → op < length r.single.items → q ≡ get_or r.single.items op q
      → AreOver o q.touched.items (means nodes q.root) (means nodes set)
  own_over op q lt e = (let has = own_steps op q lt e in record { layout = asked.relations.order.layout; steps = has.relation.steps; states = asked.states })

  pub own_image : (op : ℕ) (q : Relation) (F : Bits → Bool) → op < length r.single.items → q ≡ get_or r.single.items op q
      → Names o (ImageBy o (λ s t. Connects o q.touched.items (means nodes q.root) s t) (means nodes set)) F
      → Names o (ImageBy o (λ s t. Step task s op t) (means nodes set)) F
  own_image op q F lt e = (
      let has = own_steps op q lt e in
      names_image o (λ s t. Connects o q.touched.items (means nodes q.root) s t) (λ s t. Step task s op t)
      (means nodes set) (means nodes set) F has.leads (λ b. refl))

  pub own_preimage : (op : ℕ) (q : Relation) (F : Bits → Bool) → op < length r.single.items → q ≡ get_or r.single.items op q
      → Names o (PreimageBy o (λ s t. Connects o q.touched.items (means nodes q.root) s t) (means nodes set)) F
      → Names o (PreimageBy o (λ s t. Step task s op t) (means nodes set)) F
  own_preimage op q F lt e = (
      let has = own_steps op q lt e in
      names_image o (λ t s. Connects o q.touched.items (means nodes q.root) s t) (λ t s. Step task s op t)
      (means nodes set) (means nodes set) F (λ t s st ss. has.leads s t ss st) (λ b. refl))

  -- the joined relations of a cost that some operator has
  module _ (cost i : ℕ) (rs : List Relation) (lt : i < length r.costs.items) (at : get_or r.costs.items i 0 ≡ cost)
      (part : rs ≡ slice_range r.joined.items (get_or r.starts.items i 0) (get_or r.starts.items (i + 1) 0)) where
    pub joined_steps : HaveSteps o nodes (StepOfCost task cost) rs
    joined_steps = subst (HaveSteps o nodes (StepOfCost task cost)) (sym part)
        (subst (λ (c : ℕ). HaveSteps o nodes (StepOfCost task c)
        (slice_range r.joined.items (get_or r.starts.items i 0) (get_or r.starts.items (i + 1) 0))) at
        (asked.relations.joined.each i lt))

    pub joined_over : AreOverSet o nodes rs set
    joined_over = (let have = joined_steps in record { layout = asked.relations.order.layout; relations = have.relations; states = asked.states })

    pub joined_image : (F : Bits → Bool) → Names o (ImageBy o (λ s t. SomeLeads o nodes s t rs) (means nodes set)) F
        → Names o (ImageBy o (StepOfCost task cost) (means nodes set)) F
    joined_image F = (
        let have = joined_steps in
        names_image o (λ s t. SomeLeads o nodes s t rs) (StepOfCost task cost) (means nodes set) (means nodes set) F have.leads (λ b. refl))

    pub joined_preimage : (F : Bits → Bool) → Names o (PreimageBy o (λ s t. SomeLeads o nodes s t rs)
        (means nodes set)) F → Names o (PreimageBy o (StepOfCost task cost) (means nodes set)) F
    joined_preimage F = (
        let have = joined_steps in
        names_image o (λ t s. SomeLeads o nodes s t rs) (λ t s. StepOfCost task cost s t) (means nodes set)
        (means nodes set) F (λ t s st ss. have.leads s t ss st) (λ b. refl))

  -- no operator has the cost
  module _ (cost : ℕ) (none : (i : ℕ) → i < length r.costs.items → get_or r.costs.items i 0 ≢ cost) where
    no_step : (s t : List ℕ) → StepOfCost task cost s t → ⊥
    no_step s t (op, lt, e, step) =
        let at = (are_costs (system_of task)).all op lt in
        let same = asked.relations.costs in
        none at.0 (let n = ap (λ (xs : List ℕ). length xs) same in let less = at.1 in omega (arith, n, less))
        (ap (λ (xs : List ℕ). get_or xs at.0 0) same ∙ at.2 ∙ e)

    pub no_image : (F : Bits → Bool) → ((b : Bits) → F b ≡ Bool.false) → Names o (ImageBy o (StepOfCost task cost) (means nodes set)) F
    no_image F e = names_none o (StepOfCost task cost) (means nodes set) F no_step e

    pub no_preimage : (F : Bits → Bool) → ((b : Bits) → F b ≡ Bool.false) → Names o (PreimageBy o (StepOfCost task cost) (means nodes set)) F
    no_preimage F e = names_none o (λ t s. StepOfCost task cost s t) (means nodes set) F (λ t s. no_step s t) e
