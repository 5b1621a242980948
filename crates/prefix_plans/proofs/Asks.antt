-- One call, by what its shell answers.
use Rattle.std.proofs.Common.{◌≡◌, ℕ, Bool, List, Option, None, Result, Ok, Err, IsTrue, refl, sym, ◌∙◌, subst}
use Rattle.task_system.specs.System.{System}
use Rattle.symk_task.specs.declared.parts.Mode.TheVariants.{TopK}
use Rattle.space_api.specs.View.{View}
use Rattle.lazy_plans.specs.Law.{Turned}
use Rattle.lazy_plans.specs.declared.stop.Stop.{Stop}
use Rattle.lazy_plans.specs.Queue.{Right, Pending}
use Rattle.lazy_plans.specs.Shell.{shell_held, shell_answer, shell_keeps, HandsOut, IsShellSound, ShellAnswers}
use Rattle.lazy_plans.proofs.Shells.{answers_stop, answers_found}
use Rattle.cost_to_go.specs.Standing.{to_go_within}
use Rattle.prefix_plans.specs.Standing.{waiting_prefixes, PrefixFrontStands}
use Rattle.prefix_plans.specs.declared.engine.PrefixPlans.{PrefixPlans}
use Rattle.prefix_plans.specs.Engine.{prefix_system, prefix_most, QueuesPrefix, HasPrefixRoom, AnswersByPrefix}

-- the turns of a call took the engine, which held no plan, from x to z
module _ {S Set : Type 0} (view : S → View Set) (x z : PrefixPlans S Set) (most : Option ℕ) (none : shell_held x.shell ≡ None)
    (system : prefix_system view z ≡ prefix_system view x) (ready : PrefixFrontStands (view z.space) z.search z.front)
    (kept : z.within ≡ to_go_within z.search) (wanted : most ≡ prefix_most x)
    (right : Right (prefix_system view x) TopK most (waiting_prefixes z.front)) where
  abbrev After : System → List ℕ → Type 0
  After y = Pending y TopK (waiting_prefixes z.front)

  abbrev Law : Result (Option (List ℕ)) Stop → Type 0
  Law r = Turned (prefix_system view x) TopK most (QueuesPrefix view x) (After (prefix_system view x)) r

  law_of : (r : Result (Option (List ℕ)) Stop) → Law r
      → Turned (prefix_system view x) TopK (prefix_most x) (QueuesPrefix view x) (After (prefix_system view x)) r
  law_of r =
      subst (λ (q : Option ℕ). Turned (prefix_system view x) TopK q (QueuesPrefix view x) (After (prefix_system view x)) r) wanted

  answered : (r : Result (Option (List ℕ)) Stop) → prefix_most z ≡ prefix_most x
      → ShellAnswers (prefix_system view x) TopK (QueuesPrefix view x) (After (prefix_system view x)) (HasPrefixRoom view z) x.shell z.shell r
      → AnswersByPrefix view x z r
  answered r same s = record {
    engine = record {
      ready = ready;
      kept = kept;
      right = rw (system, same ∙ sym wanted) right;
      shell = subst (λ (y : System). IsShellSound y TopK (After y) (HasPrefixRoom view z) z.shell) (sym system) s.sound;
    };
    system = system;
    most = same;
    shell = subst (λ (y : System). ShellAnswers (prefix_system view x) TopK (QueuesPrefix view x) (After y) (HasPrefixRoom view z)
        x.shell z.shell r) (sym system) s;
  }

  pub stopped : (stop : Stop) → Law (Err stop) → HandsOut x.shell z.shell (Err stop) (shell_held x.shell)
      → AnswersByPrefix view x z (Err stop)
  stopped stop law hands = answered (Err stop) hands.wanted (answers_stop (prefix_system view x) TopK (QueuesPrefix view x)
      (After (prefix_system view x)) (HasPrefixRoom view z) x.shell z.shell none stop (law_of (Err stop) law) hands)

  pub handed : (found : Option (List ℕ)) (tidied : Bool) → Law (Ok found) → HandsOut x.shell z.shell (shell_answer found tidied) (shell_keeps found tidied)
      → (IsTrue tidied → HasPrefixRoom view z) → AnswersByPrefix view x z (shell_answer found tidied)
  handed found tidied law hands tidy = answered (shell_answer found tidied) hands.wanted (answers_found (prefix_system view x) TopK
      (QueuesPrefix view x) (After (prefix_system view x)) (HasPrefixRoom view z) x.shell z.shell none (λ p q. refl) (λ p h. h.0)
      found tidied (law_of (Ok found) law) hands tidy)
