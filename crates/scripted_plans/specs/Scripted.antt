-- The laws of a script: its plans are plans, and whether a list pends is computed.
use Rattle.std.proofs.Common.{◌≡◌, ℕ, ◌-◌, ◌<◌, ◌^◌, inl, inr, List, [], ◌∷◌, None, refl, sym, ◌∙◌, subst, All, nat_eq}
use Rattle.std.specs.Bool.{Decides}
use Rattle.std.specs.Cmp.Lexicographic.{pointwise}
use Rattle.std.proofs.Math.Nat.{not-suc-le-zero, zero-add}
use Rattle.std.proofs.lemmas.Bool.{false≢true}
use Rattle.std.proofs.lemmas.Bool.Decides.{Decides-eqb, Decides-or}
use Rattle.std.proofs.lemmas.List.Elements.{All-head, All-tail}
use Rattle.std.proofs.lemmas.Slice.Eq.{slice_eq-Decides}
use Rattle.symk_task.specs.declared.parts.Mode.TheVariants.{TopK}
use Rattle.task_system.specs.System.{RunsInSystem, cost_in_system}
use Rattle.lazy_plans.specs.Law.{Fair, Last}
use Rattle.scripted_plans.specs.Free.{free, is_one_of, IsOneOf, IsScript}

-- every list of operators is a plan
pub runs_free : (p : List ℕ) → All (λ a. a < 2 ^ 32) p → RunsInSystem free [] p []
runs_free [] all = refl
runs_free (a ∷ p) all = ([], record { number = All-head (λ a. a < 2 ^ 32) a p all; step = refl }, runs_free p (All-tail (λ a. a < 2 ^ 32) a p all))

-- which costs nothing
pub costs_free : (p : List ℕ) → cost_in_system free p ≡ 0
costs_free [] = refl
costs_free (a ∷ p) = zero-add (cost_in_system free p) ∙ costs_free p

pub equal_lists : (p q : List ℕ) → Decides (pointwise nat_eq p q) (p ≡ q)
equal_lists p q = slice_eq-Decides Decides-eqb p q (pointwise nat_eq p q) refl

one_all : (P : List ℕ → Type 0) (plans : List (List ℕ)) (p : List ℕ) → All P plans → IsOneOf plans p → P p
one_all P [] p all h = absurd (false≢true h)
one_all P (q ∷ plans) p all h = elim ((Decides-or (pointwise nat_eq p q) (is_one_of plans p) (equal_lists p q) ((λ e. e), (λ e. e))).0 h) [
  | inl e ↦ subst P (sym e) (All-head P q plans all)
  | inr i ↦ one_all P plans p (All-tail P q plans all) i
]

pub fair_script : (plans : List (List ℕ)) (last : Last) → IsScript plans last → Fair free TopK None (IsOneOf plans)
fair_script plans last ok = record {
  members = λ p h. ([], runs_free p (one_all (All (λ a. a < 2 ^ 32)) plans p ok.operators h), refl);
  dearer = λ p plan dear. absurd (not-suc-le-zero {n = 2 ^ 64 - 1} (subst (λ (c : ℕ). 2 ^ 64 - 1 < c) (costs_free p) dear));
}

pub told_script : (plans : List (List ℕ)) (p : List ℕ) → Decides (is_one_of plans p) (IsOneOf plans p)
told_script plans p = ((λ e. e), (λ e. e))
