-- An engine before its first call.
use Rattle.std.proofs.Common.{◌≡◌, ℕ, inl, List, [], ◌∷◌, Option, sym, subst, arith}
use Rattle.std.specs.List.{AllByRecursion}
use Rattle.task_system.specs.System.{System, IsSystemPlanOf, cost_in_system}
use Rattle.symk_task.specs.declared.parts.Mode.TheVariants.{Loopless}
use Rattle.space_api.specs.View.{View}
use Rattle.cost_search.specs.Directed.{Backward}
use Rattle.lazy_plans.specs.declared.shell.Shell.{Shell}
use Rattle.lazy_plans.specs.Shell.{shell_most, shell_held, IsNewShell}
use Rattle.lazy_plans.specs.Queue.{Right, Pending}
use Rattle.lazy_plans.specs.PrefixesOwe.{OwesByPrefix}
use Rattle.lazy_plans.proofs.Turns.{first_right, first_pends}
use Rattle.prefix_tree.specs.StateGraph.{states_of}
use Rattle.prefix_tree.specs.EmptyPrefix.{EmptyWaits}
use Rattle.prefix_tree.proofs.EmptyPrefix.{inside_first, path_first, plan_first, prefixes_first, tree_first}
use Rattle.lazy_plans.proofs.Shells.{new_sound}
use Rattle.loopless.specs.declared.front.Front.{Front}
use Rattle.loopless.specs.Rests.{AreKeptRests}
use Rattle.loopless.specs.Children.{IsEntry}
use Rattle.loopless.specs.Front.{waiting, prefixes_of}
use Rattle.loopless.specs.Standing.{IsAlone}
use Rattle.loopless.specs.Sound.{IsTidyLooplessSpace, IsLooplessSound}

module _ {Set : Type 0} (v : View Set) (b : Backward Set) (f : Front) (alone : IsAlone v b)
    (z : EmptyWaits v.system f.graph f.tree.items (waiting f)) (kept : AreKeptRests v.system (states_of f.graph) f.rests) where
  first : prefixes_of f ≡ [] ∷ []
  first = prefixes_first v.system f.graph f.tree.items (waiting f) z

  entry : IsEntry v.system f.tree.items z.entry
  entry = record {
    inside = inside_first v.system f.graph f.tree.items (waiting f) z;
    cost = subst (λ (p : List ℕ). z.entry.cost ≡ cost_in_system v.system p)
        (sym (path_first v.system f.graph f.tree.items (waiting f) z)) z.cost;
    roomy = omega (arith, z.cost);
    least = omega (arith, z.cost);
    span = omega (arith, z.bound);
    bounds = λ p plan on. omega (arith, z.bound);
    plan = plan_first v.system f.graph f.tree.items (waiting f) z;
  }

  begun_in : (most : Option ℕ) (s : Shell) → IsNewShell most s → IsLooplessSound v b f s
  begun_in most s new = record {
    ready = record {
      alone = alone;
      graph = z.graph;
      kept = kept;
      tree = tree_first v.system f.graph f.tree.items (waiting f) z Loopless;
      each = subst (AllByRecursion (IsEntry v.system f.tree.items)) (sym z.queue) (entry, tt);
    };
    right = subst (Right v.system Loopless (shell_most s)) (sym first) (first_right v.system Loopless (shell_most s));
    shell = new_sound v.system Loopless (Pending v.system Loopless (prefixes_of f)) (IsTidyLooplessSpace v) s most new;
  }

  all_in : (held : Option (List ℕ)) (p : List ℕ) → IsSystemPlanOf v.system Loopless p → OwesByPrefix v.system Loopless (prefixes_of f) held p
  all_in held p i = inl (subst (λ (ps : List (List ℕ)). Pending v.system Loopless ps p) (sym first) (first_pends v.system Loopless p i))

-- so, where what comes before the search is known of the system as it was
module _ {Set : Type 0} (y : System) (v : View Set) (b : Backward Set) (f : Front) (same : v.system ≡ y) (alone : IsAlone v b)
    (z : EmptyWaits y f.graph f.tree.items (waiting f)) (kept : AreKeptRests y (states_of f.graph) f.rests) where
  waits : EmptyWaits v.system f.graph f.tree.items (waiting f)
  waits = subst (λ (k : System). EmptyWaits k f.graph f.tree.items (waiting f)) (sym same) z

  rests : AreKeptRests v.system (states_of f.graph) f.rests
  rests = subst (λ (k : System). AreKeptRests k (states_of f.graph) f.rests) (sym same) kept

  pub begun : (most : Option ℕ) (s : Shell) → IsNewShell most s → IsLooplessSound v b f s
  begun = begun_in v b f alone waits rests

  pub begun_all : (s : Shell) (p : List ℕ) → IsSystemPlanOf y Loopless p → OwesByPrefix v.system Loopless (prefixes_of f) (shell_held s) p
  begun_all s p i = all_in v b f alone waits rests (shell_held s) p (subst (λ (k : System). IsSystemPlanOf k Loopless p) (sym same) i)
