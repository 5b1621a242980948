-- An engine before its first turn.
use Rattle.std.proofs.Common.{◌≡◌, ℕ, inl, List, [], ◌∷◌, Option, sym, subst}
use Rattle.task_system.specs.System.{System, IsSystemPlanOf}
use Rattle.symk_task.specs.declared.parts.Mode.TheVariants.{TopK}
use Rattle.space_api.specs.View.{View}
use Rattle.cost_to_go.specs.Standing.{to_go_within}
use Rattle.cost_to_go.specs.declared.search.CostToGo.{CostToGo}
use Rattle.lazy_plans.specs.declared.shell.Shell.{Shell}
use Rattle.lazy_plans.specs.Shell.{shell_most, shell_held, IsNewShell}
use Rattle.lazy_plans.specs.Queue.{Right, Pending}
use Rattle.lazy_plans.specs.PrefixesOwe.{OwesByPrefix}
use Rattle.lazy_plans.proofs.Turns.{first_right, first_pends}
use Rattle.lazy_plans.proofs.Shells.{new_sound}
use Rattle.prefix_plans.specs.Owned.{IsTidyEndSpace}
use Rattle.prefix_plans.specs.Standing.{waiting_prefixes, PrefixFrontStands}
use Rattle.prefix_plans.specs.declared.front.Front.{Front}
use Rattle.prefix_plans.specs.Sound.{IsPrefixSound}

pub begun : {Set : Type 0} (v : View Set) (b : CostToGo Set) (inner : Set) (x : Front) (most : Option ℕ) (s : Shell)
    → inner ≡ to_go_within b → PrefixFrontStands v b x → waiting_prefixes x ≡ [] ∷ [] → IsNewShell most s → IsPrefixSound v b inner x s
begun v b inner x most s kept ready first new = record {
  ready = ready;
  kept = kept;
  right = subst (Right v.system TopK (shell_most s)) (sym first) (first_right v.system TopK (shell_most s));
  shell = new_sound v.system TopK (Pending v.system TopK (waiting_prefixes x)) (IsTidyEndSpace v) s most new;
}

pub begun_all : (y z : System) (ps : List (List ℕ)) (s : Shell) → ps ≡ [] ∷ [] → y ≡ z → (p : List ℕ) → IsSystemPlanOf z TopK p
    → OwesByPrefix y TopK ps (shell_held s) p
begun_all y z ps s first same p i = inl (subst (λ (qs : List (List ℕ)). Pending y TopK qs p) (sym first)
    (first_pends y TopK p (subst (λ (x : System). IsSystemPlanOf x TopK p) (sym same) i)))
