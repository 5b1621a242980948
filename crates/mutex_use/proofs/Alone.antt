-- Groups that hold each by itself, and the set of states that keep those that are joined.
use Rattle.std.proofs.Common.{◌≡◌, ℕ, ◌↔◌, inl, inr, List, [], ◌∷◌, ◌++◌, Option, Some, None, sym, ◌∙◌, subst}
use Rattle.std.specs.List.{Contains}
use Rattle.std.proofs.lemmas.List.Elements.{Contains-append_left, Contains-append_right, Contains-append_cases, Contains-push, Contains-push_cases}
use Rattle.symk_task.specs.declared.parts.Fact.{Fact}
use Rattle.symk_task.specs.declared.parts.TaskParts.{TaskParts}
use Rattle.symk_task.specs.Variables.{IsState}
use Rattle.task_system.specs.System.{State}
use Rattle.space_api.specs.View.{View, Valid, Has, Meets}
use Rattle.space_api.specs.Frames.{Kept, NoMore, Gives, Forgot, Stays}
use Rattle.space_api.proofs.Keeping.{gives_stays, gives_as, kept_trans, given_back}
use Rattle.space_api.proofs.Trading.{trades_stays}
use Rattle.mutex_use.specs.Groups.{mutex_group_at, HasAtMostOne, KeepsGroup, IsKeeper, IsBaseGroup, GroupsHold}
use Rattle.mutex_use.specs.Rounds.{StandsFrom}
use Rattle.mutex_use.specs.Sets.{HasAll, KeepsIn, KeepsHolding, MayGive, MayKeepOne, MayKeepMore, NarrowsHolding}
use Rattle.mutex_use.proofs.Lists.{none}
use Rattle.mutex_use.proofs.Holding.{together}
use Rattle.mutex_use.proofs.Narrowing.{gives_back, narrows_tidied}

none_in : (h : ℕ) → Contains [] h → ⊥
none_in h m = none [] h m

in_one : (g h : ℕ) → Contains (g ∷ []) h → g ≡ h
in_one g h m = elim (Contains-push_cases [] g h m) [ inl n ↦ absurd (none_in h n) | inr e ↦ e ]

-- a state keeps the one group
pub one_keeper : (task : TaskParts) (g : ℕ) (s : State) → IsKeeper task (g ∷ []) s ↔ (IsState task s × KeepsGroup task s g)
one_keeper task g s = (
  (λ h. (h.0, h.1 g (Contains-push [] g))),
  (λ h. (h.0, λ k m. subst (KeepsGroup task s) (in_one g k m) h.1)),
)

-- a group that stands where it is kept holds by itself
pub stands_alone : (task : TaskParts) (From : State → Type 0) (g : ℕ)
    → ((s : State) → From s ↔ IsKeeper task (g ∷ []) s) → StandsFrom task From g → GroupsHold task (g ∷ [])
stands_alone task From g from st = record {
  base = λ h m. subst (IsBaseGroup task) (in_one g h m) st.base;
  initial = λ s i h m. subst (KeepsGroup task s) (in_one g h m) (st.initial s i);
  steps = λ s t a state keeps step h m. subst (KeepsGroup task t) (in_one g h m) (st.steps s t a state ((from s).1 (state, keeps)) step);
}

-- one group more
pub one_more : (task : TaskParts) (groups : List ℕ) (g : ℕ) (s : State) → IsKeeper task (groups ++ g ∷ []) s
    ↔ (IsKeeper task groups s × IsKeeper task (g ∷ []) s)
one_more task groups g s = (
  (λ h. ((h.0, (λ k m. h.1 k (Contains-append_left groups (g ∷ []) k m))), (h.0, (λ k m. h.1 k (Contains-append_right groups (g ∷ []) k m))))),
  (λ h. (h.0.0, (λ k m. elim (Contains-append_cases groups (g ∷ []) k m) [ inl x ↦ h.0.1 k x | inr y ↦ h.1.1 k y ]))),
)

-- no group holds
pub no_groups : (task : TaskParts) → GroupsHold task []
no_groups task = record {
  base = λ g m. absurd (none_in g m);
  initial = λ s i g m. absurd (none_in g m);
  steps = λ s t a state keeps step g m. absurd (none_in g m);
}

-- the set has the states that keep some groups that hold
abbrev pub HasKeepers : {Set : Type 0} → View Set → TaskParts → Set → Type 0
HasKeepers v task a = (groups : List ℕ) × GroupsHold task groups × ((s : State) → Has v a s ↔ IsKeeper task groups s)

pub keepers_start : {Set : Type 0} (v : View Set) (task : TaskParts) (all : Set) → v.task ≡ task → HasAll v all → HasKeepers v task all
keepers_start v task all is every = (
  [],
  no_groups task,
  λ s. (
    (λ h. (subst (λ (t : TaskParts). IsState t s) is ((every s).0 h), (λ g m. absurd (none_in g m)))),
    (λ h. (every s).1 (subst (λ (t : TaskParts). IsState t s) (sym is) h.0)),
  ),
)

pub keepers_next : {Set : Type 0} {v w : View Set} (task : TaskParts) (g : ℕ) (kept r : Set) → HasKeepers v task kept
    → NarrowsHolding v w task kept g r → HasKeepers w task r
keepers_next task g kept r (groups, hold, means) n = elim n.means [
  | inl same ↦ (groups, hold, λ s. ((λ h. (means s).0 ((same s).0 h)), (λ h. (same s).1 ((means s).1 h))))
  | inr one ↦ (
    groups ++ g ∷ [],
    together task groups (g ∷ []) hold one.0,
    λ s. (
      (λ h. let m = (one.1 s).0 h in (one_more task groups g s).1 ((means s).0 m.0, m.1)),
      (λ h. let m = (one_more task groups g s).0 h in (one.1 s).1 ((means s).1 m.0, m.1)),
    ),
  )
]

-- every state, after a call that keeps sets
pub all_after : {Set : Type 0} (v w : View Set) (all : Set) → Kept v w → Valid v all → w.task ≡ v.task → HasAll v all → HasAll w all
all_after v w all k valid task every s = (
  (λ h. subst (λ (t : TaskParts). IsState t s) (sym task) ((every s).0 (sym (k.same all valid s) ∙ h))),
  (λ h. k.same all valid s ∙ (every s).1 (subst (λ (t : TaskParts). IsState t s) task h)),
)

-- the states that keep one group

module _ {Set : Type 0} (task : TaskParts) (v w : View Set) (all kept : Set) (g : ℕ) (facts : List Fact)
    (is : v.task ≡ task) (here : facts ≡ mutex_group_at task g) (every : HasAll v all)
    (gives : Gives v w (KeepsIn v all facts) kept) where
  as_keeper : (s : State) → KeepsIn v all facts s ↔ IsKeeper task (g ∷ []) s
  as_keeper s =
      let one = one_keeper task g s in (
        (λ m. one.1 (
          subst (λ (t : TaskParts). IsState t s) is ((every s).0 m.0),
          subst
              (λ (z : List Fact). HasAtMostOne task z s) here
              (subst (λ (t : TaskParts). HasAtMostOne t facts s) is m.1),
        )),
        (λ h. let m = one.0 h in (
          (every s).1 (subst (λ (t : TaskParts). IsState t s) (sym is) m.0),
          subst
              (λ (t : TaskParts). HasAtMostOne t facts s) (sym is)
              (subst (λ (z : List Fact). HasAtMostOne task z s) (sym here) m.1),
        )),
      )

  pub alone_means : (s : State) → Has w kept s ↔ IsKeeper task (g ∷ []) s
  alone_means s = ((λ h. (as_keeper s).0 ((gives.means s).0 h)), (λ h. (gives.means s).1 ((as_keeper s).1 h)))

  pub alone_keeps : (s : State) → Has w kept s → IsState task s × KeepsGroup task s g
  alone_keeps s h = (one_keeper task g s).0 ((alone_means s).0 h)

  pub alone_given : (x : View Set) → Stays w x → StandsFrom task (Has w kept) g → MayKeepOne v x task g (Some kept)
  alone_given x z st = (stands_alone task (Has w kept) g alone_means st, gives_as as_keeper (gives_stays gives z))

-- the states of a set that keep one group

module _ {Set : Type 0} (task : TaskParts) (v w x y : View Set) (kept keepers : Set) (g : ℕ) (k : Kept v w)
    (valid : Valid v kept) (one : MayKeepOne v w task g (Some keepers)) (j : Kept w x)
    (f : Forgot x y keepers) where
  back : NoMore w x → Stays v y
  back n = let z : Stays w x = record { kept = j; only = n } in given_back (kept_trans k j) (gives_stays one.1 z) f

  pub join_none : NoMore w x → NoMore v y
  join_none n = (let z = back n in z.only)

  pub join_given : (o : Option Set) → MayGive w x (Meets w kept keepers) o → MayKeepMore v y task kept g o
  join_given None n = join_none n
  join_given (Some both) made = (
    one.0,
    gives_back k one.1 j made f (λ s. (
      (λ m. (sym (k.same kept valid s) ∙ m.0, (one.1.means s).0 m.1)),
      (λ m. (k.same kept valid s ∙ m.0, (one.1.means s).1 m.1)),
    )),
  )

-- the set takes the place of the one before

pub joined_narrows : {Set : Type 0} {v w x y : View Set} (task : TaskParts) (kept : Set) {both r : Set} (g : ℕ)
    → Kept v w → MayKeepMore v w task kept g (Some both) → Valid v kept → Forgot w x kept → r ≡ both → Stays x y
    → NarrowsHolding v y task kept g r
joined_narrows task kept g k m valid f e z =
    let n = narrows_tidied k m.1 valid f e z in
    record { trades = n.trades; means = inr (m.0, n.means) }

pub stays_narrows : {Set : Type 0} (v w : View Set) (task : TaskParts) (kept r : Set) (g : ℕ) → Valid v kept
    → Stays v w → r ≡ kept → NarrowsHolding v w task kept g r
stays_narrows {Set} v w task kept r g valid z e = subst (λ (a : Set). NarrowsHolding v w task kept g a) (sym e) (record {
  trades = trades_stays v w (λ a. a ≡ kept) z (λ a is. subst (λ (x : Set). Valid v x) (sym is) valid);
  means = inl (λ s. ((λ h. sym (z.kept.same kept valid s) ∙ h), (λ h. z.kept.same kept valid s ∙ h)));
})

-- the set of all states is given back
pub holding_back : {Set : Type 0} {v w x y : View Set} (task : TaskParts) {all : Set} (r : Set) {P : State → Type 0}
    → Kept v w → Gives v w P all → Kept w x → KeepsHolding w x task r → Forgot x y all → KeepsHolding v y task r
holding_back task r k g j h f = (h.0, h.1, gives_back k g j h.2 f (λ s. ((λ z. z), (λ z. z))))
