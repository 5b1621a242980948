-- What the sets that are found of a task say of its system.
use Rattle.std.proofs.Common.{◌≡◌, ℕ, zero, suc, ◌⊎◌, ◌↔◌, inl, inr, List, [], ◌∷◌, ◌++◌, length, get_or, Option, Some, IsTrue, IsFalse, sym, subst, ◌∙◌}
use Rattle.std.specs.List.{All}
use Rattle.std.proofs.lemmas.Bool.{false≢true}
use Rattle.symk_task.specs.declared.parts.TaskParts.{TaskParts}
use Rattle.symk_task.specs.Variables.{IsState}
use Rattle.symk_task.specs.Steps.{Holds, Step}
use Rattle.symk_task.specs.Plans.{IsInitial}
use Rattle.symk_task.specs.Fits.{Fits}
use Rattle.symk_task.proofs.Starting.{start_law, one_initial}
use Rattle.symk_task.proofs.Running.{step_state}
use Rattle.task_system.specs.System.{State, Listed}
use Rattle.task_system.specs.Computed.{system_of, assignments}
use Rattle.task_system.proofs.RunsLaw.{leads_law}
use Rattle.task_system.proofs.StepLaw.{goal_law}
use Rattle.task_system.proofs.StatesLaw.{states_law}
use Rattle.space_api.specs.View.{Has, GoalIn, Unites, Meets, Lacks, Image, CostImage, Preimage, CostPreimage}
use Rattle.explicit_space.specs.Members.{States, has_explicit_state, AreStates, HasThoseStates, FromMember}
use Rattle.explicit_space.specs.Steps.{StepAtCost, StepInto, StepIntoAtCost}
use Rattle.explicit_space.specs.Explicit.{Explicit, explicit_set_at, in_explicit_set, is_there, AllStates}
use Rattle.explicit_space.specs.Seen.{explicit_view}
use Rattle.explicit_space.proofs.Gathering.{has_as}

-- the set that was read
pub read_set : (sets : List (Option States)) (a : ℕ) (r : Option States) (members : States)
    → IsTrue (is_there (explicit_set_at sets a)) → r ≡ get_or sets a r → r ≡ Some members
    → explicit_set_at sets a ≡ Some members
read_set [] a r members there is e = absurd (false≢true there)
read_set (x ∷ sets) zero r members there is e = sym is ∙ e
read_set (x ∷ sets) (suc a) r members there is e = read_set sets a r members there is e

pub set_states : (task : TaskParts) (sets : List (Option States)) (a : ℕ) (members : States) → AllStates task sets
    → explicit_set_at sets a ≡ Some members → AreStates task members
set_states task sets a members all is s h = all a s (subst (λ (o : Option States). IsTrue (in_explicit_set o s)) (sym is) h)

-- one set more, all of whose members are states
pub more_states : (task : TaskParts) (sets : List (Option States)) (members : States) → AllStates task sets → AreStates task members → AllStates task (sets ++ Some members ∷ [])
more_states task [] members all new zero s h = new s h
more_states task [] members all new (suc a) s h = absurd (false≢true h)
more_states task (x ∷ sets) members all new zero s h = all 0 s h
more_states task (x ∷ sets) members all new (suc a) s h = more_states task sets members (λ b t k. all (suc b) t k) new a s h

pub states_as : (task : TaskParts) (set : States) (P : State → Type 0) → ((s : State) → P s → IsState task s) → HasThoseStates set P → AreStates task set
states_as task set P says h s e = says s ((h s).0 e)

-- the initial state and all states
pub initial_is : (task : TaskParts) (set : States) (start copy : State) → Fits task → IsInitial task start
    → copy ≡ start → HasThoseStates set (λ s. s ≡ copy) → HasThoseStates set (λ s. s ≡ (system_of task).initial)
initial_is task set start copy fits i e h =
    let same : copy ≡ (system_of task).initial = e ∙ one_initial task start (system_of task).initial i (start_law task fits) in
    has_as set (λ s. s ≡ copy) (λ s. s ≡ (system_of task).initial) (λ s. ((λ f. f ∙ same), (λ f. f ∙ sym same))) h

pub all_are : (task : TaskParts) (set : States) → HasThoseStates set (Listed (assignments task.variables)) → AreStates task set
all_are task set h s e = (states_law task s).1 ((h s).0 e)

-- The sets of one space.
module _ (e : Explicit) (fits : Fits e.task) (a : ℕ) (members : States) (is : explicit_set_at e.sets a ≡ Some members) (states : AreStates e.task members) where
  pub has_is : (s : State) → IsTrue (has_explicit_state members s) ↔ Has (explicit_view e) a s
  has_is s = (
    (λ h. subst (λ (o : Option States). IsTrue (in_explicit_set o s)) (sym is) h),
    (λ h. subst (λ (o : Option States). IsTrue (in_explicit_set o s)) is h),
  )

  pub goal_means : (set : States) → HasThoseStates set (λ s. IsTrue (has_explicit_state members s)
      × All (Holds e.task s) e.task.goal) → HasThoseStates set (GoalIn (explicit_view e) a)
  goal_means set = has_as set _ _ (λ s. (
    (λ h. ((has_is s).0 h.0, (goal_law e.task s fits).1 h.1)),
    (λ h. ((has_is s).1 h.0, (goal_law e.task s fits).0 h.1)),
  ))

  pub goal_states : (s : State) → GoalIn (explicit_view e) a s → IsState e.task s
  goal_states s h = states s ((has_is s).1 h.0)

  pub image_means : (op : ℕ) (set : States) → HasThoseStates set (FromMember members (λ t. Step e.task t op))
      → HasThoseStates set (Image (explicit_view e) op a)
  image_means op set = has_as set _ _ (λ s. (
    (λ h. (h.0, (has_is h.0).0 h.1, (leads_law e.task h.0 op s fits (states h.0 h.1)).1 h.2)),
    (λ h. let k = (has_is h.0).1 h.1 in (h.0, k, (leads_law e.task h.0 op s fits (states h.0 k)).0 h.2)),
  ))

  pub image_states : (op : ℕ) (s : State) → Image (explicit_view e) op a s → IsState e.task s
  image_states op s h = (let k = states h.0 ((has_is h.0).1 h.1) in step_state e.task h.0 op s fits k ((leads_law e.task h.0 op s fits k).0 h.2))

  pub cost_image_means : (cost : ℕ) (set : States) → HasThoseStates set
      (FromMember members (StepAtCost e.task (length e.task.operators) cost))
      → HasThoseStates set (CostImage (explicit_view e) cost a)
  cost_image_means cost set = has_as set _ _ (λ s. (
    (λ h. (h.2.0, h.2.2, (h.0, (has_is h.0).0 h.1, (leads_law e.task h.0 h.2.0 s fits (states h.0 h.1)).1 h.2.3))),
    (λ h. let i = h.2 in
        let k = (has_is i.0).1 i.1 in
        (i.0, k, (h.0, i.2.number, h.1, (leads_law e.task i.0 h.0 s fits (states i.0 k)).0 i.2))),
  ))

  pub cost_image_states : (cost : ℕ) (s : State) → CostImage (explicit_view e) cost a s → IsState e.task s
  cost_image_states cost s h = image_states h.0 s h.2

-- Two sets of one space.
module _ (e : Explicit) (fits : Fits e.task) (a b : ℕ) (members others : States)
    (is : explicit_set_at e.sets a ≡ Some members) (also : explicit_set_at e.sets b ≡ Some others)
    (states : AreStates e.task members) (more : AreStates e.task others) where
  in_a : (s : State) → IsTrue (has_explicit_state members s) ↔ Has (explicit_view e) a s
  in_a = has_is e fits a members is states

  in_b : (s : State) → IsTrue (has_explicit_state others s) ↔ Has (explicit_view e) b s
  in_b = has_is e fits b others also more

  not_b : (s : State) → IsFalse (has_explicit_state others s) ↔ IsFalse ((explicit_view e).has b s)
  not_b s = (
    (λ h. subst (λ (o : Option States). IsFalse (in_explicit_set o s)) (sym also) h),
    (λ h. subst (λ (o : Option States). IsFalse (in_explicit_set o s)) also h),
  )

  pub unites_means : (set : States) → HasThoseStates set
      (λ s. IsTrue (has_explicit_state members s) ⊎ IsTrue (has_explicit_state others s))
      → HasThoseStates set (Unites (explicit_view e) a b)
  unites_means set = has_as set _ _ (λ s. (
    (λ h. elim h [ inl x ↦ inl ((in_a s).0 x) | inr y ↦ inr ((in_b s).0 y) ]),
    (λ h. elim h [ inl x ↦ inl ((in_a s).1 x) | inr y ↦ inr ((in_b s).1 y) ]),
  ))

  pub unites_states : (s : State) → Unites (explicit_view e) a b s → IsState e.task s
  unites_states s h = elim h [ inl x ↦ states s ((in_a s).1 x) | inr y ↦ more s ((in_b s).1 y) ]

  pub meets_means : (set : States) → HasThoseStates set
      (λ s. IsTrue (has_explicit_state members s) × IsTrue (has_explicit_state others s))
      → HasThoseStates set (Meets (explicit_view e) a b)
  meets_means set = has_as set _ _ (λ s. ((λ h. ((in_a s).0 h.0, (in_b s).0 h.1)), (λ h. ((in_a s).1 h.0, (in_b s).1 h.1))))

  pub meets_states : (s : State) → Meets (explicit_view e) a b s → IsState e.task s
  meets_states s h = states s ((in_a s).1 h.0)

  pub lacks_means : (set : States) → HasThoseStates set
      (λ s. IsTrue (has_explicit_state members s) × IsFalse (has_explicit_state others s))
      → HasThoseStates set (Lacks (explicit_view e) a b)
  lacks_means set = has_as set _ _ (λ s. ((λ h. ((in_a s).0 h.0, (not_b s).0 h.1)), (λ h. ((in_a s).1 h.0, (not_b s).1 h.1))))

  pub lacks_states : (s : State) → Lacks (explicit_view e) a b s → IsState e.task s
  lacks_states s h = states s ((in_a s).1 h.0)

  -- a is the set led to, and b the one within which
  pub preimage_means : (op : ℕ) (set : States) → HasThoseStates set (λ s. IsTrue (has_explicit_state others s)
      × StepInto e.task op members s) → HasThoseStates set (Preimage (explicit_view e) op a b)
  preimage_means op set = has_as set _ _ (λ s. (
    (λ h. ((in_b s).0 h.0, (h.1.0, (in_a h.1.0).0 h.1.1, (leads_law e.task s op h.1.0 fits (more s h.0)).1 h.1.2))),
    (λ h. let k = (in_b s).1 h.0 in (k, (h.1.0, (in_a h.1.0).1 h.1.1, (leads_law e.task s op h.1.0 fits (more s k)).0 h.1.2))),
  ))

  pub preimage_states : (op : ℕ) (s : State) → Preimage (explicit_view e) op a b s → IsState e.task s
  preimage_states op s h = more s ((in_b s).1 h.0)

  pub cost_preimage_means : (cost : ℕ) (set : States) → HasThoseStates set
      (λ s. IsTrue (has_explicit_state others s) × StepIntoAtCost e.task (length e.task.operators) cost members s)
      → HasThoseStates set (CostPreimage (explicit_view e) cost a b)
  cost_preimage_means cost set = has_as set _ _ (λ s. (
    (λ h. let i = h.1.3 in ((in_b s).0 h.0, (h.1.0, h.1.2, (i.0, (in_a i.0).0 i.1, (leads_law e.task s h.1.0 i.0 fits (more s h.0)).1 i.2)))),
    (λ h. let k = (in_b s).1 h.0 in
        let i = h.1.2 in
        (k, (h.1.0, i.2.number, h.1.1, (i.0, (in_a i.0).1 i.1, (leads_law e.task s h.1.0 i.0 fits (more s k)).0 i.2)))),
  ))

  pub cost_preimage_states : (cost : ℕ) (s : State) → CostPreimage (explicit_view e) cost a b s → IsState e.task s
  cost_preimage_states cost s h = more s ((in_b s).1 h.0)
