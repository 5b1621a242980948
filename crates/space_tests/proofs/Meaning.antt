-- Spaces of one system give by one call, with sets that have the same states, sets that have the same states.
use Rattle.std.proofs.Common.{◌≡◌, ◌↔◌, IsTrue, inl, inr, sym, ◌∙◌, ap, subst}
use Rattle.task_system.specs.System.{State, System, Listed, Leads}
use Rattle.space_api.specs.View.{View}
use Rattle.space_tests.specs.declared.asking.Call.{Call}
use Rattle.space_tests.specs.declared.asking.Call.TheVariants.{Empty, All, Init, GoalIn, Unite, Meet, Minus, ImageCost, PreCost, ImageOp, PreOp}
use Rattle.space_tests.specs.declared.pairs.Pair.{Pair}
use Rattle.space_tests.specs.Calls.{Means}
use Rattle.space_tests.specs.Pairs.{IsAlike}

module _ {S T : Type 0} (v : View S) (w : View T) (first second : Pair S T) (e : v.system ≡ w.system) (f : IsAlike v w first) (g : IsAlike v w second) where
  means_to : (call : Call) (s : State) → Means v call first.left second.left s → Means w call first.right second.right s
  means_to Empty s h = h
  means_to All s h = subst (λ (y : System). Listed y.states s) e h
  means_to Init s h = h ∙ ap (λ (y : System). y.initial) e
  means_to GoalIn s h = (sym (f s) ∙ h.0, subst (λ (y : System). IsTrue (y.goal s)) e h.1)
  means_to Unite s h = elim h [ inl a ↦ inl (sym (f s) ∙ a) | inr b ↦ inr (sym (g s) ∙ b) ]
  means_to Meet s h = (sym (f s) ∙ h.0, sym (g s) ∙ h.1)
  means_to Minus s h = (sym (f s) ∙ h.0, sym (g s) ∙ h.1)
  means_to (ImageCost cost) s (op, is, (t, has, leads)) = (op, subst (λ (y : System). y.cost op ≡ cost) e is, (t, sym (f t) ∙ has, subst (λ (y : System). Leads y op t s) e leads))
  means_to (PreCost cost) s (within, (op, is, (t, has, leads))) = (sym (g s) ∙ within, (op, subst (λ (y : System). y.cost op ≡ cost) e is, (t, sym (f t) ∙ has, subst (λ (y : System). Leads y op s t) e leads)))
  means_to (ImageOp op) s (t, has, leads) = (t, sym (f t) ∙ has, subst (λ (y : System). Leads y op t s) e leads)
  means_to (PreOp op) s (within, (t, has, leads)) = (sym (g s) ∙ within, (t, sym (f t) ∙ has, subst (λ (y : System). Leads y op s t) e leads))

-- the sets of a pair, turned
abbrev turned : {S T : Type 0} → Pair S T → Pair T S
turned p = record { left = p.right; right = p.left }

pub means_alike : {S T : Type 0} (v : View S) (w : View T) (first second : Pair S T) → v.system ≡ w.system → IsAlike v w first → IsAlike v w second → (call : Call) (s : State) → Means v call first.left second.left s ↔ Means w call first.right second.right s
means_alike v w first second e f g call s = (means_to v w first second e f g call s, means_to w v (turned first) (turned second) (sym e) (λ t. sym (f t)) (λ t. sym (g t)) call s)

pub listed_alike : (y z : System) → y ≡ z → (s : State) → Listed y.states s ↔ Listed z.states s
listed_alike y z e s = (subst (λ (x : System). Listed x.states s) e, subst (λ (x : System). Listed x.states s) (sym e))
