-- The Ids that a space keeps for itself, as they are made.
use Rattle.std.proofs.Common.{◌≡◌, ◌↔◌, ℕ, ◌<◌, Bool, true, ◌&&◌, List, length, IsTrue, sym, ◌∙◌, subst}
use Rattle.std.specs.List.{All}
use Rattle.std.proofs.lemmas.Bool.{and_parts, and_from}
use Rattle.symk_task.specs.declared.parts.TaskParts.{TaskParts}
use Rattle.symk_task.specs.Plans.{IsInitial}
use Rattle.symk_task.specs.Steps.{Holds}
use Rattle.symk_task.specs.Fits.{Fits}
use Rattle.symk_task.proofs.Starting.{start_law, one_initial}
use Rattle.task_system.specs.System.{Listed}
use Rattle.task_system.specs.Computed.{system_of}
use Rattle.task_system.proofs.RunsLaw.{start_listed}
use Rattle.task_system.proofs.StatesLaw.{states_law}
use Rattle.task_system.proofs.StepLaw.{goal_law}
use Rattle.bdd_table.specs.declared.node.Node.{Node}
use Rattle.bdd_table.specs.Diagram.{Bits, means, Keeps}
use Rattle.var_order.specs.Layout.{Layout, IsOrderOf}
use Rattle.var_order.specs.Codes.{IsCode, IsStateOf}
use Rattle.var_order.proofs.Laying.{state_of, of_state}
use Rattle.bdd_sets.specs.Sets.{IsOfState, IsSetOfStates}
use Rattle.axiom_layers.specs.Roots.{IsTrueWhere}
use Rattle.transitions.specs.Relations.{Names, IsSet}
use Rattle.transitions.proofs.Support.{set_turns}
use Rattle.bdd_space.specs.declared.symbolic.Own.{Own}
use Rattle.bdd_space.specs.Members.{HasThose}
use Rattle.bdd_space.specs.Symbolic.{OwnAre}
use Rattle.bdd_space.proofs.Having.{alike_those, kept_alike, both_true}

-- The sets are made one after the other, each in a table that keeps the last one: the facts of the goal in the first,
-- all states in the second, the initial one in the third, and the goal states in the last.
pub record AreMade (task : TaskParts) (o : Layout) (s : List ℕ) (a b c d : List Node) (facts : ℕ) (own : Own)
    : Type 0 where
  pub second : Keeps a b
  pub third : Keeps b c
  pub last : Keeps c d
  pub facts_known : facts < length a
  pub holds : IsTrueWhere task o a (λ s. All (Holds task s) task.goal) facts
  pub all_known : own.all < length b
  pub all : (v : Bits) → (means b own.all v ≡ true) ↔ IsOfState o v
  pub start_known : own.start < length c
  pub start : (v : Bits) → (means c own.start v ≡ true) ↔ IsCode o 0 s v
  pub goals_known : own.goals < length d
  pub goals : (v : Bits) → means d own.goals v ≡ (means c own.all v && means c facts v)

module _ (task : TaskParts) (o : Layout) (fits : Fits task) (order : IsOrderOf task o) where
  valid_names : (F : Bits → Bool) → ((b : Bits) → (F b ≡ true) ↔ IsOfState o b) → Names o (Listed (system_of task).states) F
  valid_names F is b = (
    (λ h. (let x = (is b).0 h in (x.0, x.1, x.2, (states_law task x.0).0 (of_state task o x.0 order x.1)))),
    (λ (s, state, code, listed). (is b).1 (s, state, code)),
  )

  -- the state that the task starts in is the system's
  start_is : (s : List ℕ) → IsInitial task s → s ≡ (system_of task).initial
  start_is s i = one_initial task s (system_of task).initial i (start_law task fits)

  pub initial_state : (s : List ℕ) → IsInitial task s → IsStateOf o s
  initial_state s i = subst (IsStateOf o) (sym (start_is s i))
      (state_of task o (system_of task).initial order ((states_law task (system_of task).initial).1
      (start_listed task fits)))

  start_names : (s : List ℕ) (F : Bits → Bool) → IsInitial task s → ((b : Bits) → (F b ≡ true) ↔ IsCode o 0 s b) → Names o (λ t. t ≡ (system_of task).initial) F
  start_names s F i is b = (
    (λ h. (s, initial_state s i, (is b).0 h, start_is s i)),
    (λ (t, state, code, same). (is b).1 (subst (λ (u : List ℕ). IsCode o 0 u b) (same ∙ sym (start_is s i)) code)),
  )

  goal_names : (all facts F : Bits → Bool) → Names o (Listed (system_of task).states) all
      → ((s : List ℕ) (b : Bits) → IsCode o 0 s b → IsStateOf o s → (facts b ≡ true) ↔ All (Holds task s) task.goal)
      → ((b : Bits) → F b ≡ (all b && facts b)) → Names o (λ s. IsTrue ((system_of task).goal s)) F
  goal_names all facts F every says both b = (
    (λ h. (
        let parts = and_parts (all b) (facts b) (sym (both b) ∙ h) in
        let x = (every b).0 parts.0 in
        (x.0, x.1, x.2, (goal_law task x.0 fits).1 ((says x.0 b x.2 x.1).0 parts.1)))),
    (λ (s, state, code, goal). both b ∙ and_from (all b) (facts b)
        ((every b).1 (s, state, code, (states_law task s).0 (of_state task o s order state)))
        ((says s b code state).1 ((goal_law task s fits).0 goal))),
  )

  -- the sets that were made are the space's own
  pub own_begun : {s : List ℕ} {d : List Node} {own : Own} (a b c : List Node) (facts : ℕ) → IsInitial task s
      → AreMade task o s a b c d facts own → OwnAre task o d own
  own_begun {s} {d} {own} a b c facts i made =
      let in_b2 = kept_alike a b facts made.second made.facts_known in
      let in_c2 = kept_alike b c facts made.third in_b2.known in
      let every : HasThose o b (Listed (system_of task).states) own.all = record {
        known = made.all_known;
        names = valid_names (means b own.all) made.all;
      } in
      let every_c = alike_those o b c (Listed (system_of task).states) own.all own.all
      (kept_alike b c own.all made.third made.all_known) every in
      record {
        all = alike_those o c d (Listed (system_of task).states) own.all own.all
            (kept_alike c d own.all made.last every_c.known) every_c;
        start = alike_those o c d (λ t. t ≡ (system_of task).initial) own.start own.start
            (kept_alike c d own.start made.last made.start_known)
            (record { known = made.start_known; names = start_names s (means c own.start) i made.start });
        goals = record {
          known = made.goals_known;
          names = goal_names (means c own.all) (means c facts) (means d own.goals) every_c.names
              (λ t v code state. (
              let same : means c facts v ≡ means a facts v = in_c2.meaning v ∙ in_b2.meaning v in
              let h = made.holds t v (of_state task o t order state) code in
              ((λ x. h.0 (sym same ∙ x)), (λ x. same ∙ h.1 x)))) made.goals;
        };
      }

-- a set of states turns on the levels of the states alone
pub turns_alone : (o : Layout) (nodes : List Node) (id : ℕ) (task : TaskParts) → IsOrderOf task o → IsSet o (means nodes id) → IsSetOfStates o nodes id
turns_alone o nodes id task order set b c agree = both_true (means nodes id b) (means nodes id c)
    (set_turns o (means nodes id) b c order.layout set (λ p lt. sym (agree p lt)))
    (set_turns o (means nodes id) c b order.layout set (λ p lt. agree p lt))
