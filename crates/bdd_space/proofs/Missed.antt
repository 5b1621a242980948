-- The operators that a set's values leave miss none that leads.
use Rattle.std.proofs.Common.{◌≡◌, ℕ, List, length, Some, Result, IfOk, sym, ◌∙◌, subst}
use Rattle.std.proofs.lemmas.Result.{IfOk-weaker}
use Rattle.task_system.specs.System.{State}
use Rattle.bdd_table.specs.declared.node.Node.{Node}
use Rattle.bdd_sets.specs.Leading.{MissNone, HasState, LeadsFrom, LeadsInto}
use Rattle.space_api.specs.View.{Has}
use Rattle.space_api.specs.Operators.{LeadInto, LeadFrom}
use Rattle.bdd_space.specs.Slots.{set_at}
use Rattle.bdd_space.specs.Members.{code_of}
use Rattle.bdd_space.specs.Symbolic.{Symbolic, IsSpace}
use Rattle.bdd_space.specs.Seen.{seen}
use Rattle.bdd_space.proofs.Having.{has_parts, code_law}
use Rattle.bdd_space.proofs.Keeping.{has_there}

module _ (e : Symbolic) (start : List ℕ) (i : IsSpace e start) (a f : ℕ) (is : set_at e.sets a ≡ Some f) where
  -- a state of the set has bits by which its Id is true
  has_state : (s : State) → Has (seen e) a s → HasState e.order e.nodes f s
  has_state s h =
      let parts = has_parts e.order e.nodes f s (sym (has_there e a f s is) ∙ h) in
      (parts.0, (code_of e.order s, code_law e.order s i.order.layout parts.0, parts.1))

  leads_into : (ops : List ℕ) → MissNone (length e.task.operators) (LeadsInto e.task e.order e.nodes f) ops → LeadInto (seen e) a ops
  leads_into ops m = record {
    rising = m.rising;
    known = m.known;
    all = λ op s t leads has. m.all op (s, t, leads, has_state t has);
  }

  leads_from : (ops : List ℕ) → MissNone (length e.task.operators) (LeadsFrom e.task e.order e.nodes f) ops → LeadFrom (seen e) a ops
  leads_from ops m = record {
    rising = m.rising;
    known = m.known;
    all = λ op s t leads has. m.all op (s, t, leads, has_state s has);
  }

module _ {T E : Type 0} (e old : Symbolic) (start : List ℕ) (i : IsSpace e start) (same : e ≡ old) (a f : ℕ)
    (is : set_at old.sets a ≡ Some f) (nodes : List Node) (table : nodes ≡ e.nodes)
    (items : T → List ℕ) (r : Result T E) where
  here : set_at e.sets a ≡ Some f
  here = subst (λ (x : Symbolic). set_at x.sets a ≡ Some f) (sym same) is

  pub into_by : IfOk r (λ ops. MissNone (length e.task.operators) (LeadsInto e.task e.order nodes f) (items ops))
      → IfOk r (λ ops. LeadInto (seen old) a (items ops))
  into_by h =
      IfOk-weaker r (λ ops. MissNone (length e.task.operators) (LeadsInto e.task e.order nodes f) (items ops)) (λ ops. LeadInto (seen old) a (items ops))
      (λ ops m. subst (λ (x : Symbolic). LeadInto (seen x) a (items ops)) same
      (leads_into e start i a f here (items ops)
      (subst (λ (ns : List Node). MissNone (length e.task.operators) (LeadsInto e.task e.order ns f)
      (items ops)) table m))) h

  pub from_by : IfOk r (λ ops. MissNone (length e.task.operators) (LeadsFrom e.task e.order nodes f) (items ops))
      → IfOk r (λ ops. LeadFrom (seen old) a (items ops))
  from_by h =
      IfOk-weaker r (λ ops. MissNone (length e.task.operators) (LeadsFrom e.task e.order nodes f) (items ops)) (λ ops. LeadFrom (seen old) a (items ops))
      (λ ops m. subst (λ (x : Symbolic). LeadFrom (seen x) a (items ops)) same
      (leads_from e start i a f here (items ops)
      (subst (λ (ns : List Node). MissNone (length e.task.operators) (LeadsFrom e.task e.order ns f)
      (items ops)) table m))) h
