-- When a group stands, told by calls of a space.
use Rattle.std.proofs.Common.{◌≡◌, ◌≢◌, ℕ, ◌+◌, ◌<◌, ◌⊎◌, ◌↔◌, inl, inr, Bool, false, IsTrue, IsFalse, List, length, get_or, take, sym, ◌∙◌, ap, subst}
use Rattle.std.specs.List.{Contains}
use Rattle.std.proofs.lemmas.Bool.{cases_eq}
use Rattle.symk_task.specs.declared.parts.Fact.{Fact}
use Rattle.symk_task.specs.declared.parts.TaskParts.{TaskParts}
use Rattle.symk_task.specs.Variables.{IsState}
use Rattle.symk_task.specs.Steps.{Step}
use Rattle.symk_task.specs.Fits.{Fits}
use Rattle.symk_task.specs.Plans.{IsInitial}
use Rattle.symk_task.proofs.Running.{step_state}
use Rattle.symk_task.proofs.Starting.{start_law, one_initial}
use Rattle.task_system.specs.System.{State, System, Leads}
use Rattle.task_system.specs.Computed.{system_of}
use Rattle.task_system.proofs.RunsLaw.{leads_law}
use Rattle.space_api.specs.View.{View, Valid, Has, Preimage}
use Rattle.space_api.specs.Frames.{Kept, Gives}
use Rattle.space_api.proofs.Trading.{valid_clash}
use Rattle.mutex_use.specs.Groups.{mutex_group_at, HasAtMostOne, KeepsGroup, IsBaseGroup}
use Rattle.mutex_use.specs.Counts.{HasTwo}
use Rattle.mutex_use.specs.Rounds.{StandsFrom}
use Rattle.mutex_use.specs.Sets.{HasAll, IsSafe}
use Rattle.mutex_use.specs.Balance.{HaveBreaking}
use Rattle.mutex_use.proofs.Lists.{told, more}

-- At most one fact holds where no two different ones do.

same_fact : (f h : Fact) → (f ≡ h) ⊎ (f ≢ h)
same_fact f h = elim (cases_eq f.var h.var) [
  | inl p ↦ elim (cases_eq f.val h.val) [ inl q ↦ inl (λ i. record { var = p i; val = q i }) | inr n ↦ inr (λ e. n (ap (λ (z : Fact). z.val) e)) ]
  | inr n ↦ inr (λ e. n (ap (λ (z : Fact). z.var) e))
]

pub at_most_one : (task : TaskParts) (facts : List Fact) (s : State) → ¬ HasTwo task facts s → HasAtMostOne task facts s
at_most_one task facts s n f h cf ch hf hh = elim (same_fact f h) [ inl e ↦ e | inr ne ↦ absurd (n (f, h, cf, ch, ne, hf, hh)) ]

pub not_two : (task : TaskParts) (facts : List Fact) (s : State) → HasAtMostOne task facts s → ¬ HasTwo task facts s
not_two task facts s most (f, h, cf, ch, ne, hf, hh) = ne (most f h cf ch hf hh)

-- The initial state and the operators that may break the group are looked at.

module _ {Set : Type 0} (task : TaskParts) (v w : View Set) (g : ℕ) (facts : List Fact) (operators : List ℕ)
    (all kept broken : Set) (fits : Fits task) (is : v.task ≡ task) (system : v.system ≡ system_of v.task)
    (same : facts ≡ mutex_group_at task g) (base : IsBaseGroup task g) (breaking : HaveBreaking task facts operators)
    (every : HasAll v all) (keeps : (s : State) → Has v kept s → IsState task s × KeepsGroup task s g)
    (valid : Valid v kept) (k : Kept v w) (gives : Gives v w (λ s. Has v all s × HasTwo v.task facts s) broken) where
  system_is : w.system ≡ system_of task
  system_is = k.system ∙ system ∙ ap system_of is

  breaks : (s : State) → IsState task s → HasTwo task facts s → IsTrue (w.has broken s)
  breaks s state two = (gives.means s).1 (
    (every s).1 (subst (λ (z : TaskParts). IsState z s) (sym is) state),
    subst
        (λ (z : TaskParts). HasTwo z facts s) (sym is) two,
  )

  broken_has : (s : State) → IsTrue (w.has broken s) → HasTwo task facts s
  broken_has s h = subst (λ (z : TaskParts). HasTwo z facts s) is ((gives.means s).0 h).1

  outside : (s : State) → IsState task s → IsFalse (w.has broken s) → KeepsGroup task s g
  outside s state out = subst (λ (z : List Fact). HasAtMostOne task z s) same (at_most_one task facts s (λ two. valid_clash (breaks s state two) out))

  inside : (s : State) → KeepsGroup task s g → IsFalse (w.has broken s)
  inside s most = elim (told (w.has broken s)) [
    | inl m ↦ absurd (not_two task facts s (subst (λ (z : List Fact). HasAtMostOne task z s) (sym same) most) (broken_has s m))
    | inr out ↦ out
  ]

  start : IsInitial task w.system.initial
  start = subst (λ (y : System). IsInitial task y.initial) (sym system_is) (start_law task fits)

  steps_from : IsSafe w operators kept broken → (s t : State) (a : ℕ) → IsState task s → Has v kept s → Step task s a t → KeepsGroup task t g
  steps_from safe s t a state from step = elim (told (w.has broken t)) [
    | inl m ↦ absurd (valid_clash m
        (safe.steps a s t (breaking.all a s t most step (λ k. not_two task facts t k (broken_has t m)))
        (k.same kept valid s ∙ from) leads))
    | inr out ↦ outside t (step_state task s a t fits state step) out
  ]
    where
      most : HasAtMostOne task facts s
      most = subst (λ (z : List Fact). HasAtMostOne task z s) (sym same) (keeps s from).1

      leads : Leads w.system a s t
      leads = subst (λ (y : System). Leads y a s t) (sym system_is) ((leads_law task s a t fits state).1 step)

  pub safe_stands : IsSafe w operators kept broken → StandsFrom task (Has v kept) g
  safe_stands safe = record {
    base = base;
    initial = λ s i. subst (λ (z : State). KeepsGroup task z g) (one_initial task w.system.initial s start i)
        (outside w.system.initial start.state safe.initial);
    steps = steps_from safe;
  }

  pub stands_safe : StandsFrom task (Has v kept) g → IsSafe w operators kept broken
  stands_safe stands = record {
    initial = inside w.system.initial (stands.initial w.system.initial start);
    steps = λ a s t has from leads.
        let before = sym (k.same kept valid s) ∙ from in
        let state = (keeps s before).0 in
        inside t (stands.steps s t a state before ((leads_law task s a t fits state).0 (subst (λ (y : System). Leads y a s t) system_is leads)));
  }

-- Nothing is reached, told by calls that keep the sets.

pub same_preimage : {Set : Type 0} (v w : View Set) (op : ℕ) (to from : Set) (s : State) → Kept v w → Valid v to
    → Valid v from → Preimage w op to from s ↔ Preimage v op to from s
same_preimage v w op to from s k vt vf = (
  (λ h. (sym (k.same from vf s) ∙ h.0, (h.1.0, sym (k.same to vt h.1.0) ∙ h.1.1, subst (λ (y : System). Leads y op s h.1.0) k.system h.1.2))),
  (λ h. (k.same from vf s ∙ h.0, (h.1.0, k.same to vt h.1.0 ∙ h.1.1, subst (λ (y : System). Leads y op s h.1.0) (sym k.system) h.1.2))),
)

-- the operator at place i was tried, in a view that keeps both sets, and leads from no state of the one into the other
pub record IsTried {Set : Type 0} (v w : View Set) (ops : List ℕ) (i x : ℕ) (to from : Set) (r : Bool) : Type 0 where
  pub within : i < length ops
  pub is : get_or ops i x ≡ x
  pub kept : Kept v w
  pub to_valid : Valid v to
  pub from_valid : Valid v from
  pub tells : IsTrue r ↔ ((s : State) × Preimage w x to from s)
  pub fails : r ≡ false

-- no operator of the list leads from a state of the one set into the other
abbrev pub NoneLeads : {Set : Type 0} → View Set → List ℕ → Set → Set → Type 0
NoneLeads v operators to from = (op : ℕ) (s : State) → Contains operators op → ¬ Preimage v op to from s

-- one operator more is tried
pub none_more : {Set : Type 0} (v w : View Set) (operators : List ℕ) (i x : ℕ) (to from : Set) (r : Bool)
    → IsTried v w operators i x to from r → NoneLeads v (take i operators) to from
    → NoneLeads v (take (i + 1) operators) to from
none_more v w operators i x to from r t before = λ op s has pre. elim ((more operators i x op t.within t.is).0 has) [
  | inl m ↦ before op s m pre
  | inr e ↦ valid_clash (t.tells.1 (
    s,
    (same_preimage v w x to from s t.kept t.to_valid t.from_valid).1
        (subst (λ (z : ℕ). Preimage v z to from s) (sym e) pre),
  )) t.fails
]
