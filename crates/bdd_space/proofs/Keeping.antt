-- What stays true of a space as its table grows, and as a set is added.
use Rattle.std.proofs.Common.{◌≡◌, ◌≢◌, ℕ, inl, inr, List, [], Option, Some, None, IfSome, IsTrue, is_some, refl, sym, ◌∙◌, ap, subst, arith, true≢false}
use Rattle.std.proofs.lemmas.Bool.{cases_eq}
use Rattle.std.proofs.lemmas.List.{get_or_past}
use Rattle.bdd_table.specs.declared.node.Node.{Node}
use Rattle.bdd_table.specs.Diagram.{IsReduced, Keeps}
use Rattle.var_order.specs.Layout.{Layout}
use Rattle.symk_task.specs.declared.parts.TaskParts.{TaskParts}
use Rattle.task_system.specs.System.{State}
use Rattle.space_api.specs.Frames.{Kept, Gives}
use Rattle.trans_merge.proofs.Kept.{relations_kept}
use Rattle.bdd_space.specs.declared.slots.Slot.{Slot}
use Rattle.bdd_space.specs.declared.symbolic.Own.{Own}
use Rattle.bdd_space.specs.declared.slots.Slot.TheVariants.{Free}
use Rattle.bdd_space.specs.Slots.{id_of, set_at, Puts}
use Rattle.bdd_space.specs.Members.{has_state, IsKnownSet}
use Rattle.bdd_space.specs.Symbolic.{Symbolic, in_set, OwnAre, AreKnownSets, IsSpace, GrowsSymbolic}
use Rattle.bdd_space.specs.Seen.{seen}
use Rattle.bdd_space.proofs.Having.{alike_has, alike_set, alike_those, kept_alike}

-- the same space over another table
abbrev pub over : Symbolic → List Node → Symbolic
over e ys = record e { nodes = ys }

-- the same space with other sets
abbrev pub with_sets : Symbolic → List Slot → Symbolic
with_sets e slots = record e { sets = slots }

pub own_grown : (task : TaskParts) (o : Layout) (old new : List Node) (own : Own) → Keeps old new → OwnAre task o old own → OwnAre task o new own
own_grown task o old new own k is = record {
  all = alike_those o old new _ own.all own.all (kept_alike old new own.all k is.all.known) is.all;
  start = alike_those o old new _ own.start own.start (kept_alike old new own.start k is.start.known) is.start;
  goals = alike_those o old new _ own.goals own.goals (kept_alike old new own.goals k is.goals.known) is.goals;
}

set_grown : (o : Layout) (old new : List Node) (x : Option ℕ) → Keeps old new → IfSome x (IsKnownSet o old) → IfSome x (IsKnownSet o new)
set_grown o old new None k h = tt
set_grown o old new (Some id) k h = alike_set o old new id id (kept_alike old new id k h.known) h

pub space_grown : (e : Symbolic) (start : List ℕ) (new : List Node) → IsSpace e start → Keeps e.nodes new → IsReduced new → IsSpace (over e new) start
space_grown e start new i k r = record {
  fits = i.fits;
  order = i.order;
  reduced = r;
  own = own_grown e.task e.order e.nodes new e.own k i.own;
  relations = relations_kept e.task e.order e.nodes new e.relations k i.relations;
  sets = λ a. set_grown e.order e.nodes new (set_at e.sets a) k (i.sets a);
  steps = i.steps;
  rules = i.rules;
  initial = i.initial;
}

in_grown : (o : Layout) (old new : List Node) (x : Option ℕ) (s : State) → Keeps old new → IfSome x (IsKnownSet o old) → in_set o new x s ≡ in_set o old x s
in_grown o old new None s k h = refl
in_grown o old new (Some id) s k h = alike_has o old new id id s (kept_alike old new id k h.known)

pub kept_grown : (e : Symbolic) (new : List Node) → AreKnownSets e.order e.nodes e.sets → Keeps e.nodes new → Kept (seen e) (seen (over e new))
kept_grown e new sets k = record {
  system = refl;
  valid = λ a h. h;
  same = λ a h s. in_grown e.order e.nodes new (set_at e.sets a) s k (sets a);
}

pub grows : (e : Symbolic) (new : List Node) → Keeps e.nodes new → GrowsSymbolic e (over e new)
grows e new k = record { same = refl; keeps = k }

-- no set
pub no_sets : (o : Layout) (nodes : List Node) (sets : List Slot) → sets ≡ [] → AreKnownSets o nodes sets
no_sets o nodes sets none a = subst (λ (xs : List Slot). IfSome (set_at xs a) (IsKnownSet o nodes)) (sym none)
    (subst (λ (x : Slot). IfSome (id_of x) (IsKnownSet o nodes)) (sym (get_or_past [] a (Free 0) (omega arith))) tt)

-- the Id of a valid set
pub id_there : (o : Layout) (nodes : List Node) (sets : List Slot) (a id : ℕ) → AreKnownSets o nodes sets → set_at sets a ≡ Some id → IsKnownSet o nodes id
id_there o nodes sets a id are is = subst (λ (x : Option ℕ). IfSome x (IsKnownSet o nodes)) is (are a)

pub has_there : (e : Symbolic) (a id : ℕ) (s : State) → set_at e.sets a ≡ Some id → (seen e).has a s ≡ has_state e.order e.nodes id s
has_there e a id s is = ap (λ (x : Option ℕ). in_set e.order e.nodes x s) is

-- a set is added

module _ (e : Symbolic) (id r : ℕ) (new : List Slot) (puts : Puts e.sets id new r) where
  sets_put : IsKnownSet e.order e.nodes id → AreKnownSets e.order e.nodes e.sets → AreKnownSets e.order e.nodes new
  sets_put known are a = elim (cases_eq a r) [
    | inl here ↦ subst (λ (x : Option ℕ). IfSome x (IsKnownSet e.order e.nodes)) (sym (ap (set_at new) here ∙ puts.is)) known
    | inr other ↦ subst (λ (x : Option ℕ). IfSome x (IsKnownSet e.order e.nodes)) (sym (puts.others a other)) (are a)
  ]

  pub space_put : (start : List ℕ) → IsKnownSet e.order e.nodes id → IsSpace e start → IsSpace (with_sets e new) start
  space_put start known i = record {
    fits = i.fits;
    order = i.order;
    reduced = i.reduced;
    own = i.own;
    relations = i.relations;
    sets = sets_put known i.sets;
    steps = i.steps;
    rules = i.rules;
    initial = i.initial;
  }

  fresh_place : (a : ℕ) → IsTrue (is_some (set_at e.sets a)) → a ≢ r
  fresh_place a valid same = absurd (true≢false (sym valid ∙ ap (λ (x : ℕ). is_some (set_at e.sets x)) same ∙ ap is_some puts.fresh))

  pub kept_put : Kept (seen e) (seen (with_sets e new))
  kept_put = record {
    system = refl;
    valid = λ a h. ap is_some (puts.others a (fresh_place a h)) ∙ h;
    same = λ a h s. ap (λ (x : Option ℕ). in_set e.order e.nodes x s) (puts.others a (fresh_place a h));
  }

  pub gives_put : Gives (seen e) (seen (with_sets e new)) (λ s. IsTrue (has_state e.order e.nodes id s)) r
  gives_put = record {
    fresh = ap is_some puts.fresh;
    valid = ap is_some puts.is;
    only = λ a h. elim (cases_eq a r) [
      | inl here ↦ inr here
      | inr other ↦ inl (sym (ap is_some (puts.others a other)) ∙ h)
    ];
    means = λ s. (
      (λ h. sym (ap (λ (x : Option ℕ). in_set e.order e.nodes x s) puts.is) ∙ h),
      (λ h. ap (λ (x : Option ℕ). in_set e.order e.nodes x s) puts.is ∙ h),
    );
  }
