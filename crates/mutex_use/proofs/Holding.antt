-- Groups that hold, and how the greatest set of them is found.
use Rattle.std.proofs.Common.{◌≡◌, inl, inr, ℕ, List, [], ◌∷◌, ◌++◌, subst}
use Rattle.std.specs.List.{Contains}
use Rattle.std.specs.List.Sorted.{IsStrictlyIncreasing}
use Rattle.std.proofs.lemmas.List.Elements.{Contains-append_left, Contains-append_right, Contains-append_cases}
use Rattle.symk_task.specs.declared.parts.TaskParts.{TaskParts}
use Rattle.symk_task.specs.Variables.{IsState}
use Rattle.symk_task.specs.Fits.{Fits}
use Rattle.symk_task.specs.Plans.{IsInitial, Runs}
use Rattle.symk_task.proofs.Running.{step_state, run_state}
use Rattle.symk_task.proofs.Starting.{start_law}
use Rattle.task_system.specs.System.{State}
use Rattle.task_system.specs.Computed.{system_of}
use Rattle.task_system.proofs.RunsLaw.{runs_law}
use Rattle.run_graph.specs.Reached.{Useful}
use Rattle.mutex_use.specs.Groups.{IsPartOf, KeepsGroups, IsKeeper, GroupsHold, CoversAll, AreGreatestGroups}
use Rattle.mutex_use.specs.Rounds.{GroupStands, IsRound}
use Rattle.mutex_use.proofs.Lists.{rising_same}

pub together : (task : TaskParts) (xs ys : List ℕ) → GroupsHold task xs → GroupsHold task ys → GroupsHold task (xs ++ ys)
together task xs ys a b = record {
  base = λ g h. elim (Contains-append_cases xs ys g h) [ inl x ↦ a.base g x | inr y ↦ b.base g y ];
  initial = λ s i g h. elim (Contains-append_cases xs ys g h) [ inl x ↦ a.initial s i g x | inr y ↦ b.initial s i g y ];
  steps = λ s t op state keeps step g h. elim (Contains-append_cases xs ys g h) [
    | inl x ↦ a.steps s t op state (λ k m. keeps k (Contains-append_left xs ys k m)) step g x
    | inr y ↦ b.steps s t op state (λ k m. keeps k (Contains-append_right xs ys k m)) step g y
  ];
}

pub one_greatest : (task : TaskParts) (xs ys : List ℕ) → AreGreatestGroups task xs → AreGreatestGroups task ys
    → IsStrictlyIncreasing xs → IsStrictlyIncreasing ys → xs ≡ ys
one_greatest task xs ys a b rx ry = rising_same xs ys rx ry (λ x. ((λ h. b.1 xs a.0 x h), (λ h. a.1 ys b.0 x h)))

runs_keep : (task : TaskParts) (groups p : List ℕ) (s t : State) → Fits task → GroupsHold task groups → IsState task s
    → KeepsGroups task s groups → Runs task s p t → KeepsGroups task t groups
unfolding Runs
runs_keep task groups [] s t fits hold state keeps run = subst (λ (u : State). KeepsGroups task u groups) run keeps
runs_keep task groups (a ∷ p) s t fits hold state keeps (next, step, run) =
    runs_keep task groups p next t fits hold (step_state task s a next fits state step) (hold.steps s next a state keeps step) run

pub passed_keep : (task : TaskParts) (groups p : List ℕ) (s t : State) → Fits task → GroupsHold task groups
    → IsInitial task s → Runs task s p t → KeepsGroups task t groups
passed_keep task groups p s t fits hold i run = runs_keep task groups p s t fits hold i.state (hold.initial s i) run

pub useful_keep : (task : TaskParts) (groups : List ℕ) (s : State) → Fits task → GroupsHold task groups → Useful (system_of task) s → IsKeeper task groups s
useful_keep task groups s fits hold u =
    let y = system_of task in
    let start : IsInitial task y.initial = start_law task fits in
    let p = u.before.1.0 in
    let run = (runs_law task p y.initial s fits start.state).0 u.before.1.1 in
    (run_state task p y.initial s fits start.state run, passed_keep task groups p y.initial s fits hold start run)

-- a group of a set that holds stands among any that cover the set
stands : (task : TaskParts) (groups others : List ℕ) (g : ℕ) → GroupsHold task others → IsPartOf others groups → Contains others g → GroupStands task groups g
stands task groups others g hold part h = record {
  base = hold.base g h;
  initial = λ s i. hold.initial s i g h;
  steps = λ s t a state keeps step. hold.steps s t a state (λ k m. keeps k (part k m)) step g h;
}

pub round_covers : (task : TaskParts) (groups left : List ℕ) → CoversAll task groups → IsRound task groups left → CoversAll task left
round_covers task groups left covers round others hold g h =
    round.stay g (covers others hold g h) (stands task groups others g hold (covers others hold) h)

pub done_greatest : (task : TaskParts) (groups left : List ℕ) → CoversAll task groups → IsRound task groups left
    → IsPartOf groups left → AreGreatestGroups task groups
done_greatest task groups left covers round all = (
  record {
    base = λ g h. (let x = round.stand g (all g h) in x.base);
    initial = λ s i g h. (let x = round.stand g (all g h) in x.initial s i);
    steps = λ s t a state keeps step g h. (let x = round.stand g (all g h) in x.steps s t a state keeps step);
  },
  covers,
)
