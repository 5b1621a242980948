-- What the law of lazy plans gives of a list of plans of a task.
use Rattle.std.proofs.Common.{ℕ, zero, suc, ◌<◌, ◌≤◌, ◌^◌, List, [], ◌∷◌, ◌++◌, All, Option, Some, None, IfSome, refl, arith}
use Rattle.std.proofs.lemmas.List.Elements.{All-nil, All-push}
use Rattle.symk_task.specs.declared.parts.Mode.{Mode}
use Rattle.symk_task.specs.declared.parts.Mode.TheVariants.{TopK, Loopless, Unordered}
use Rattle.symk_task.specs.declared.parts.TaskParts.{TaskParts}
use Rattle.symk_task.specs.Fits.{Fits}
use Rattle.symk_task.specs.Plans.{Same, IsListed, cost_of}
use Rattle.task_system.specs.System.{State, System, IsSystemPlanOf, RunsInSystem}
use Rattle.task_system.specs.System.{cost_in_system as system_cost}
use Rattle.task_system.specs.Computed.{system_of}
use Rattle.task_system.proofs.RunsLaw.{cost_law}
use Rattle.task_system.proofs.TraceLaw.{mode_law}
use Rattle.task_system.proofs.GrowLaw.{none_right}
use Rattle.task_system.proofs.ListsLaw.{right_law, listed_law, range_law, dearer_law}
use Rattle.lazy_plans.specs.Law.{Fair, Gave, NoneLeft, MayStop, top}
use Rattle.lazy_plans.specs.Rest.{Rest}
use Rattle.lazy_plans.specs.declared.stop.Stop.TheVariants.{CostRange}
use Rattle.lazy_plans.proofs.ListLaw.{rest_first, rest_more, right_more, exhausted, all_up_to, out_of_range}
use Rattle.plan_out.specs.declared.end.End.{End}
use Rattle.plan_out.specs.declared.end.End.TheVariants as end
use Rattle.plan_run.specs.Listable.{IsListable}
use Rattle.plan_run.specs.Lists.{IsListOf, IsTrueEnd, AllWanted, all_end}

-- What an engine gave so far is a list of the task's plans up to a greatest cost, if there is one, and what pends is the rest.
pub record IsGiven (task : TaskParts) (mode : Mode) (limit : Option ℕ) (pends : List ℕ → Type 0) (plans : List (List ℕ)) : Type 0 where
  pub promise : IsListOf task mode limit plans None
  pub rest : Rest (system_of task) mode plans pends

-- the operators of a run are the system's
run_operators : (system : System) (p : List ℕ) (s t : State) → RunsInSystem system s p t → All (λ a. a < system.operators) p
run_operators system [] s t r = All-nil (λ a. a < system.operators)
run_operators system (a ∷ p) s t r = first (run_operators system p r.0 t r.2)
  where
    first : All (λ b. b < system.operators) p → All (λ b. b < system.operators) (a ∷ p)
    first rest zero d lt = r.1.number
    first rest (suc k) d lt = rest k d (omega (arith, lt))

pub plan_operators : (system : System) (mode : Mode) (p : List ℕ) → IsSystemPlanOf system mode p → All (λ a. a < system.operators) p
plan_operators system TopK p h = run_operators system p system.initial h.0 h.1
plan_operators system Unordered p h = run_operators system p system.initial h.0 h.1
plan_operators system Loopless p h = run_operators system p system.initial h.0.0 h.0.1

-- a greatest cost is one that 64 bits hold
abbrev pub IsHeld : Option ℕ → Type 0
IsHeld limit = top limit < 2 ^ 64

pub held : (limit : Option ℕ) → IfSome limit (λ most. most < 2 ^ 64) → IsHeld limit
held None within = omega arith
held (Some most) within = within

-- a plan of the mode that was given can be printed
pub listable_plan : (task : TaskParts) (mode : Mode) (limit : Option ℕ) (pends after : List ℕ → Type 0) (p : List ℕ)
    → IsHeld limit → IsSystemPlanOf (system_of task) mode p
    → Gave (system_of task) mode limit pends after p → IsListable task p
listable_plan task mode limit pends after p held plan gave =
    let same = cost_law task p in
    let within = gave.fits in
    record { operators = plan_operators (system_of task) mode p plan; cost = omega (arith, same, within, held) }

pub gave_listable : (task : TaskParts) (mode : Mode) (limit : Option ℕ) (pends after : List ℕ → Type 0) (plans : List (List ℕ)) (p : List ℕ) → IsHeld limit
    → IsGiven task mode limit pends plans → Gave (system_of task) mode limit pends after p → IsListable task p
gave_listable task mode limit pends after plans p held given gave = listable_plan task mode limit pends after p held ((given.rest p).0 gave.pended).0 gave

-- no plan of an empty list costs too much
pub none_within : (task : TaskParts) (limit : Option ℕ) → IfSome limit (λ most. All (λ p. cost_of task p ≤ most) [])
none_within task None = tt
none_within task (Some most) = All-nil (λ p. cost_of task p ≤ most)

-- nor one plan more, which was given
more_within : (task : TaskParts) (mode : Mode) (limit : Option ℕ) (pends after : List ℕ → Type 0) (plans : List (List ℕ)) (p : List ℕ) → Gave (system_of task) mode limit pends after p
    → IfSome limit (λ most. All (λ q. cost_of task q ≤ most) plans) → IfSome limit (λ most. All (λ q. cost_of task q ≤ most) (plans ++ p ∷ []))
more_within task mode None pends after plans p gave within = tt
more_within task mode (Some most) pends after plans p gave within =
    let same = cost_law task p in
    let fits = gave.fits in
    let le : cost_of task p ≤ most = omega (arith, same, fits) in
    All-push (λ q. cost_of task q ≤ most) plans p within le

-- nothing was given yet
pub given_none : (task : TaskParts) (mode : Mode) (limit : Option ℕ) (pends : List ℕ → Type 0) → Fits task → Fair (system_of task) mode limit pends
    → ((p : List ℕ) → IsSystemPlanOf (system_of task) mode p → pends p) → IsGiven task mode limit pends []
given_none task mode limit pends fits fair all = record {
  promise = record {
    right = (right_law task mode [] fits).0 (none_right (IsSystemPlanOf (system_of task) mode) (Same mode) (system_cost (system_of task)));
    listable = All-nil (IsListable task);
    within = none_within task limit;
    end = tt;
  };
  rest = rest_first (system_of task) mode limit pends fair all;
}

-- one plan more
pub given_more : (task : TaskParts) (mode : Mode) (limit : Option ℕ) (pends after : List ℕ → Type 0) (plans : List (List ℕ)) (p : List ℕ) → Fits task → IsHeld limit
    → IsGiven task mode limit pends plans → Gave (system_of task) mode limit pends after p → IsGiven task mode limit after (plans ++ p ∷ [])
given_more task mode limit pends after plans p fits held given gave =
    let system = system_of task in
    let right = (right_law task mode plans fits).1 given.promise.right in
    record {
      promise = record {
        right = (right_law task mode (plans ++ p ∷ []) fits).0 (right_more system mode plans pends given.rest limit after p gave right);
        listable = All-push (IsListable task) plans p given.promise.listable (gave_listable task mode limit pends after plans p held given gave);
        within = more_within task mode limit pends after plans p gave given.promise.within;
        end = tt;
      };
      rest = rest_more system mode plans pends given.rest limit after p gave;
    }

-- the end of a list that goes on
ends_with : (task : TaskParts) (mode : Mode) (limit : Option ℕ) (plans : List (List ℕ)) (why : End) → IsListOf task mode limit plans None → IsTrueEnd task mode limit plans (Some why) → IsListOf task mode limit plans (Some why)
ends_with task mode limit plans why promise end = record { right = promise.right; listable = promise.listable; within = promise.within; end = end }

-- the list reached as many plans as were asked for
pub list_reached : (task : TaskParts) (mode : Mode) (limit : Option ℕ) (plans : List (List ℕ)) (n : ℕ) → IsListOf task mode limit plans None → IsListOf task mode limit plans (Some (end.Reached n))
list_reached task mode limit plans n promise = ends_with task mode limit plans (end.Reached n) promise tt

-- each plan of the system that is wanted is one of the task
wanted_law : (task : TaskParts) (mode : Mode) (limit : Option ℕ) (plans : List (List ℕ)) (p : List ℕ) → Fits task
    → AllWanted task mode limit plans → IsSystemPlanOf (system_of task) mode p
    → system_cost (system_of task) p ≤ top limit → IsListed mode plans p
wanted_law task mode None plans p fits all plan within =
    let below : system_cost (system_of task) p < 2 ^ 64 = omega (arith, within) in
    (range_law task mode plans fits).1 all p plan below
wanted_law task mode (Some most) plans p fits all plan within =
    let same = cost_law task p in
    all p ((mode_law task mode p fits).0 plan) (omega (arith, same, within))

-- it did, and a plan was given after that
pub list_goes_on : (task : TaskParts) (mode : Mode) (limit : Option ℕ) (pends after : List ℕ → Type 0) (plans : List (List ℕ)) (p : List ℕ) (n : ℕ) → Fits task
    → IsGiven task mode limit pends plans → Gave (system_of task) mode limit pends after p → IsListOf task mode limit plans (Some (end.More n))
list_goes_on task mode limit pends after plans p n fits given gave =
    let plan = (given.rest p).0 gave.pended in
    ends_with task mode limit plans (end.More n) given.promise (λ all. plan.1 (wanted_law task mode limit plans p fits all plan.0 gave.fits))

-- nothing is left
pub list_exhausted : (task : TaskParts) (mode : Mode) (limit : Option ℕ) (pends : List ℕ → Type 0) (plans : List (List ℕ)) (n : ℕ) → Fits task
    → IsGiven task mode limit pends plans → NoneLeft (system_of task) limit pends → IsListOf task mode limit plans (Some (all_end limit n))
list_exhausted task mode None pends plans n fits given none =
    ends_with task mode None plans (end.Exhausted n) given.promise (refl, (listed_law task mode plans fits).0 (exhausted (system_of task) mode plans pends given.rest none))
list_exhausted task mode (Some most) pends plans n fits given none =
    ends_with task mode (Some most) plans (end.Bounded n) given.promise
    (refl, λ p plan within. (let same = cost_law task p in all_up_to (system_of task) mode plans pends given.rest most none p ((mode_law task mode p fits).1 plan) (omega (arith, same, within))))

-- only dearer plans are left
pub list_in_range : (task : TaskParts) (mode : Mode) (limit : Option ℕ) (pends : List ℕ → Type 0) (plans : List (List ℕ)) → Fits task
    → IsGiven task mode limit pends plans → MayStop (system_of task) limit pends CostRange → IsListOf task mode limit plans (Some end.CostRange)
list_in_range task mode (Some most) pends plans fits given stops = absurd stops
list_in_range task mode None pends plans fits given stops =
    let far = out_of_range (system_of task) mode plans pends given.rest stops in
    ends_with task mode None plans end.CostRange given.promise (refl, (range_law task mode plans fits).0 far.0, (dearer_law task mode fits).0 far.1)
