-- Sets that are made on the way and given back, and the states that keep groups, group by group.
use Rattle.std.proofs.Common.{◌≡◌, ◌≢◌, ℕ, ◌+◌, ◌<◌, ◌≤◌, ◌⊎◌, ◌↔◌, inl, inr, IsFalse, List, length, get_or, take, refl, sym, ◌∙◌, ap, subst}
use Rattle.std.proofs.lemmas.List.{take_all}
use Rattle.symk_task.specs.declared.parts.Fact.{Fact}
use Rattle.symk_task.specs.declared.parts.TaskParts.{TaskParts}
use Rattle.symk_task.specs.Variables.{IsState}
use Rattle.task_system.specs.System.{State, System, Listed}
use Rattle.task_system.specs.Computed.{system_of}
use Rattle.task_system.proofs.StatesLaw.{states_law}
use Rattle.space_api.specs.View.{View, Valid, Has, Lacks}
use Rattle.space_api.specs.Frames.{Kept, NoMore, Gives, Forgot, Stays}
use Rattle.space_api.specs.Owned.{Trades}
use Rattle.space_api.proofs.Trading.{valid_clash, trades_trans, trades_beside, trades_forgot, trades_as, trades_gives, trades_stays, stays_after}
use Rattle.mutex_use.specs.Counts.{HasTwo}
use Rattle.run_graph.specs.Reached.{Useful}
use Rattle.symk_task.specs.Fits.{Fits}
use Rattle.mutex_use.specs.Groups.{mutex_group_at, HasAtMostOne, KeepsGroup, IsKeeper}
use Rattle.mutex_use.specs.Sets.{HasAll, NarrowsSet, KeepsHolding}
use Rattle.mutex_use.proofs.Lists.{told, more, none}
use Rattle.mutex_use.proofs.Holding.{useful_keep}
use Rattle.mutex_use.proofs.Stable.{at_most_one, not_two}

-- a set is made from one that is given back
module _ {Set : Type 0} {v w x y : View Set} {P Q : State → Type 0} {b r : Set} (k : Kept v w) (g : Gives v w P b)
    (j : Kept w x) (h : Gives w x Q r) (f : Forgot x y b) where
  apart : r ≢ b
  apart e = valid_clash (subst (λ (z : Set). Valid w z) (sym e) g.valid) h.fresh

  not_before : IsFalse (v.valid r)
  not_before = elim (told (v.valid r)) [ inl m ↦ absurd (valid_clash (k.valid r m) h.fresh) | inr out ↦ out ]

  only : (a : Set) → Valid y a → Valid v a ⊎ (a ≡ r)
  only a valid = elim (h.only a (f.only a valid)) [
    | inl o ↦ elim (g.only a o) [ inl m ↦ inl m | inr e ↦ absurd (valid_clash (subst (λ (z : Set). Valid y z) e valid) f.gone) ]
    | inr e ↦ inr e
  ]

  pub gives_back : {R : State → Type 0} → ((s : State) → Q s ↔ R s) → Gives v y R r
  gives_back same = record {
    fresh = not_before;
    valid = f.valid r h.valid apart;
    only = only;
    means = λ s. (
      (λ has. (same s).0 ((h.means s).0 (sym (f.same r (f.valid r h.valid apart) s) ∙ has))),
      (λ is. f.same r (f.valid r h.valid apart) s ∙ (h.means s).1 ((same s).1 is)),
    );
  }

pub all_states : {Set : Type 0} (v w : View Set) (all : Set) → v.system ≡ system_of v.task → w.task ≡ v.task
    → Gives v w (Listed v.system.states) all → HasAll w all
all_states v w all is task g s = (
  (λ h. subst (λ (t : TaskParts). IsState t s) (sym task) ((states_law v.task s).1 (subst (λ (y : System). Listed y.states s) is ((g.means s).0 h)))),
  (λ h. (g.means s).1 (subst (λ (y : System). Listed y.states s) (sym is) ((states_law v.task s).0 (subst (λ (t : TaskParts). IsState t s) task h)))),
)

-- what a set has without those where two facts hold
pub without_broken : {Set : Type 0} (v w : View Set) (all kept broken : Set) (facts : List Fact) → Kept v w
    → Valid v kept → ((s : State) → Has v kept s → Has v all s)
    → Gives v w (λ s. Has v all s × HasTwo v.task facts s) broken → (s : State) → Lacks w kept broken s ↔ (Has v kept s × HasAtMostOne v.task facts s)
without_broken v w all kept broken facts k valid inside g s = (
  (λ h. let before = sym (k.same kept valid s) ∙ h.0 in (before, at_most_one v.task facts s (λ two. valid_clash ((g.means s).1 (inside s before, two)) h.1))),
  (λ h. (
    k.same kept valid s ∙ h.0,
    elim (told (w.has broken s)) [
      | inl m ↦ absurd (not_two v.task facts s h.1 ((g.means s).0 m).1)
      | inr out ↦ out
    ],
  )),
)

-- the groups so far, and one more
keeper_more : (task : TaskParts) (groups : List ℕ) (i x : ℕ) (s : State) → i < length groups → get_or groups i x ≡ x
    → IsKeeper task (take (i + 1) groups) s ↔ (IsKeeper task (take i groups) s × KeepsGroup task s x)
keeper_more task groups i x s lt is = (
  (λ h. ((h.0, (λ g m. h.1 g ((more groups i x g lt is).1 (inl m)))), h.1 x ((more groups i x x lt is).1 (inr refl)))),
  (λ h. (h.0.0, (λ g m. elim ((more groups i x g lt is).0 m) [ inl k ↦ h.0.1 g k | inr e ↦ subst (KeepsGroup task s) e h.1 ]))),
)

module _ {Set : Type 0} (task : TaskParts) (v w x : View Set) (all kept left : Set) (groups : List ℕ) (i g : ℕ)
    (facts : List Fact) (lt : i < length groups) (is : get_or groups i g ≡ g) (here : facts ≡ mutex_group_at task g)
    (same : w.task ≡ task) (means : (s : State) → Has w kept s ↔ IsKeeper task (take i groups) s)
    (n : NarrowsSet w x kept (HasAtMostOne w.task facts) left) where
  as_group : (s : State) → HasAtMostOne w.task facts s ↔ KeepsGroup task s g
  as_group s = (
    (λ h. subst (λ (z : List Fact). HasAtMostOne task z s) here (subst (λ (t : TaskParts). HasAtMostOne t facts s) same h)),
    (λ h. subst (λ (t : TaskParts). HasAtMostOne t facts s) (sym same) (subst (λ (z : List Fact). HasAtMostOne task z s) (sym here) h)),
  )

  pub keeper_next : (s : State) → Has x left s ↔ IsKeeper task (take (i + 1) groups) s
  keeper_next s =
      let step = keeper_more task groups i g s lt is in (
        (λ h. let m = (n.means s).0 h in step.1 ((means s).0 m.0, (as_group s).0 m.1)),
        (λ h. let m = step.0 h in (n.means s).1 ((means s).1 m.0, (as_group s).1 m.1)),
      )

-- no groups are looked at yet
pub keeper_start : {Set : Type 0} (task : TaskParts) (w : View Set) (all : Set) (groups : List ℕ) → w.task ≡ task
    → HasAll w all → (s : State) → Has w all s ↔ IsKeeper task (take 0 groups) s
keeper_start task w all groups is every s = (
  (λ h. (subst (λ (t : TaskParts). IsState t s) is ((every s).0 h), (λ g m. absurd (none groups g m)))),
  (λ h. (every s).1 (subst (λ (t : TaskParts). IsState t s) (sym is) h.0)),
)

pub keeper_end : (task : TaskParts) (groups : List ℕ) (i : ℕ) (s : State) → length groups ≤ i → IsKeeper task (take i groups) s ↔ IsKeeper task groups s
keeper_end task groups i s le =
    let e : take i groups ≡ groups = take_all i groups le in (
      (λ h. subst (λ (z : List ℕ). IsKeeper task z s) e h),
      (λ h. subst (λ (z : List ℕ). IsKeeper task z s) (sym e) h),
    )

-- sets that are made after calls that keep all sets as they are
pub gives_after : {Set : Type 0} {v w x : View Set} {P : State → Type 0} {r : Set} → Stays v w → Gives w x P r → Gives v x P r
gives_after {v = v} {r = r} z g = record {
  fresh = elim (told (v.valid r)) [ inl m ↦ absurd (valid_clash (z.kept.valid r m) g.fresh) | inr out ↦ out ];
  valid = g.valid;
  only = λ a h. elim (g.only a h) [ inl o ↦ inl (z.only a o) | inr e ↦ inr e ];
  means = g.means;
}

-- each useful state is in a set of those that keep groups that hold
pub useful_within : {Set : Type 0} (v w : View Set) (task : TaskParts) (a : Set) → v.system ≡ system_of v.task
    → v.task ≡ task → Fits task → KeepsHolding v w task a → (s : State) → Useful v.system s → Has w a s
useful_within v w task a is same fits (groups, hold, g) s u =
    (g.means s).1 (useful_keep task groups s fits hold (subst (λ (y : System). Useful y s) (is ∙ ap system_of same) u))

-- a new set takes the place of one that is given back
pub swapped : {Set : Type 0} (v w x : View Set) {P : State → Type 0} (old new : Set) → Kept v w → Gives v w P new
    → Valid v old → Forgot w x old → Trades v x (λ a. a ≡ old) (λ a. a ≡ new)
swapped {Set} v w x old new k g valid f =
    let first = trades_beside (λ (a : Set). a ≡ old) (trades_gives new k g) (λ a e. (subst (λ (z : Set). Valid v z) (sym e) valid, (λ o. o))) in
    let second = trades_beside (λ (a : Set). a ≡ new) (trades_forgot old f)
    (λ a e. (
      subst (λ (z : Set). Valid w z) (sym e) g.valid,
      (λ o. valid_clash (subst (λ (z : Set). Valid v z) (sym o ∙ e) valid) g.fresh),
    )) in
    trades_as (trades_trans first
    (trades_as second (λ a. (
      (λ h. elim h [ inl y ↦ inr y | inr z ↦ inl z ]),
      (λ h. elim h [ inl y ↦ inr y | inr z ↦ inl z ]),
    )) (λ a. ((λ h. h), (λ h. h)))))
    (λ a. ((λ h. elim h [ inl y ↦ y | inr z ↦ absurd z ]), (λ h. inl h)))
    (λ a. ((λ h. elim h [ inl y ↦ y | inr z ↦ absurd z ]), (λ h. inl h)))

-- so, and then the space may collect
pub narrows_tidied : {Set : Type 0} {v w x y : View Set} {Q : State → Type 0} {old new r : Set} → Kept v w
    → Gives v w (λ s. Has v old s × Q s) new → Valid v old → Forgot w x old → r ≡ new
    → Stays x y → NarrowsSet v y old Q r
narrows_tidied {Set} {v} {w} {x} {y} {Q} {old} {new} k g valid f e
    z = subst (λ (a : Set). NarrowsSet v y old Q a) (sym e) (record {
      trades = stays_after (swapped v w x old new k g valid f) z;
      means = λ s.
          let apart = λ (o : new ≡ old). valid_clash (subst (λ (a : Set). Valid v a) (sym o) valid) g.fresh in
          let there = f.valid new g.valid apart in
          let same = z.kept.same new there s ∙ f.same new there s in
          ((λ h. (g.means s).0 (sym same ∙ h)), (λ h. same ∙ (g.means s).1 h));
    })

-- nothing new is made, and the old one is given back
pub only_back : {Set : Type 0} (v w x : View Set) (old : Set) → Kept v w → NoMore v w → Valid v old → Forgot w x old → Trades v x (λ a. a ≡ old) (λ a. ⊥)
only_back {Set} v w x old k n valid f = trades_trans (trades_stays v w (λ a. a ≡ old) (record { kept = k; only = n })
    (λ a e. subst (λ (z : Set). Valid v z) (sym e) valid)) (trades_forgot old f)
