-- One call, by what its shell answers.
use Rattle.std.proofs.Common.{◌≡◌, ℕ, Bool, List, Option, None, Result, Ok, Err, IsTrue, refl, sym, ◌∙◌, subst}
use Rattle.task_system.specs.System.{System}
use Rattle.symk_task.specs.declared.parts.Mode.TheVariants.{Loopless}
use Rattle.space_api.specs.View.{View}
use Rattle.space_api.specs.Frames.{Stays as SetsStay}
use Rattle.lazy_plans.specs.Law.{Turned}
use Rattle.lazy_plans.specs.declared.stop.Stop.{Stop}
use Rattle.lazy_plans.specs.Queue.{Right, Pending}
use Rattle.lazy_plans.specs.Shell.{shell_held, shell_answer, shell_keeps, HandsOut, IsShellSound, ShellAnswers}
use Rattle.lazy_plans.proofs.Shells.{answers_stop, answers_found}
use Rattle.cost_search.specs.Directed.{Backward}
use Rattle.cost_search.proofs.Directing.{directed_kept}
use Rattle.loopless.specs.declared.front.Front.{Front}
use Rattle.loopless.specs.Front.{prefixes_of}
use Rattle.loopless.specs.Standing.{IsLooplessReady}
use Rattle.loopless.specs.declared.engine.LooplessPlans.{LooplessPlans}
use Rattle.loopless.specs.Engine.{loopless_system, loopless_most, QueuesLoopless, HasLooplessRoom, AnswersLoopless}
use Rattle.loopless.proofs.Moving.{moved_stays}
use Rattle.loopless.proofs.Readying.{ready_moved}

-- the space was tidied, or that was refused
pub ready_stays : {Set : Type 0} (v w : View Set) (b : Backward Set) (f : Front) → SetsStay v w → IsLooplessReady v b f → IsLooplessReady w b f
ready_stays v w b f s z =
    ready_moved v w b b f f.rests z.kept (directed_kept v w b s.kept z.alone.backward) (moved_stays v w b z.alone.backward s) z

-- the turns of a call took the engine, which held no plan, from x to z
module _ {S Set : Type 0} (view : S → View Set) (x z : LooplessPlans S Set) (most : Option ℕ) (none : shell_held x.shell ≡ None)
    (system : loopless_system view z ≡ loopless_system view x) (ready : IsLooplessReady (view z.space) z.backward z.front)
    (wanted : most ≡ loopless_most x) (right : Right (loopless_system view x) Loopless most (prefixes_of z.front)) where
  abbrev After : System → List ℕ → Type 0
  After y = Pending y Loopless (prefixes_of z.front)

  abbrev Law : Result (Option (List ℕ)) Stop → Type 0
  Law r = Turned (loopless_system view x) Loopless most (QueuesLoopless view x) (After (loopless_system view x)) r

  law_of : (r : Result (Option (List ℕ)) Stop) → Law r
      → Turned (loopless_system view x) Loopless (loopless_most x) (QueuesLoopless view x) (After (loopless_system view x)) r
  law_of r =
      subst (λ (q : Option ℕ). Turned (loopless_system view x) Loopless q (QueuesLoopless view x) (After (loopless_system view x)) r) wanted

  answered : (r : Result (Option (List ℕ)) Stop) → loopless_most z ≡ loopless_most x
      → ShellAnswers (loopless_system view x) Loopless (QueuesLoopless view x) (After (loopless_system view x)) (HasLooplessRoom view z)
      x.shell z.shell r → AnswersLoopless view x z r
  answered r same s = record {
    engine = record {
      ready = ready;
      right = rw (system, same ∙ sym wanted) right;
      shell = subst (λ (y : System). IsShellSound y Loopless (After y) (HasLooplessRoom view z) z.shell) (sym system) s.sound;
    };
    system = system;
    most = same;
    shell = subst (λ (y : System). ShellAnswers (loopless_system view x) Loopless (QueuesLoopless view x) (After y)
        (HasLooplessRoom view z) x.shell z.shell r) (sym system) s;
  }

  pub stopped : (stop : Stop) → Law (Err stop) → HandsOut x.shell z.shell (Err stop) (shell_held x.shell)
      → AnswersLoopless view x z (Err stop)
  stopped stop law hands = answered (Err stop) hands.wanted (answers_stop (loopless_system view x) Loopless (QueuesLoopless view x)
      (After (loopless_system view x)) (HasLooplessRoom view z) x.shell z.shell none stop (law_of (Err stop) law) hands)

  pub handed : (found : Option (List ℕ)) (tidied : Bool) → Law (Ok found) → HandsOut x.shell z.shell (shell_answer found tidied) (shell_keeps found tidied)
      → (IsTrue tidied → HasLooplessRoom view z) → AnswersLoopless view x z (shell_answer found tidied)
  handed found tidied law hands tidy = answered (shell_answer found tidied) hands.wanted (answers_found (loopless_system view x) Loopless
      (QueuesLoopless view x) (After (loopless_system view x)) (HasLooplessRoom view z) x.shell z.shell none (λ p q. refl) (λ p h. h.0)
      found tidied (law_of (Ok found) law) hands tidy)
