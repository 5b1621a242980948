-- The states of one variable more.
use Rattle.std.proofs.Common.{◌≡◌, ℕ, inl, inr, Bool, true, false, cond, List, [], ◌∷◌, Some, None, sym, ap, subst, ◌∙◌, arith}
use Rattle.std.specs.Option.{is_none}
use Rattle.symk_task.specs.declared.parts.Variable.{Variable}
use Rattle.symk_task.specs.Variables.{is_base, range}
use Rattle.task_system.specs.System.{State, Listed}
use Rattle.task_system.specs.Computed.{assignments}
use Rattle.task_system.proofs.Listing.{all_before, listed_all, all_listed}
use Rattle.explicit_space.specs.Members.{States, HasThoseStates}
use Rattle.explicit_space.specs.Begun.{BegunBelow}

-- a state with a value before it stands in the list exactly where the rest does and the value is one of the variable's
begun_all : (later set : States) (n : ℕ) (xs : List State) → HasThoseStates later (Listed xs)
    → HasThoseStates set (BegunBelow n later) → HasThoseStates set (Listed (all_before 0 n xs))
begun_all later set n xs all has s = (
  (λ e. let b = (has s).0 e in
      subst (Listed (all_before 0 n xs)) (sym b.2.2) (listed_all n 0 b.0 xs b.2.0 (omega arith) (omega (arith, b.1)) ((all b.2.0).0 b.2.1))),
  (λ h. let b = all_listed n 0 xs s h in
      (has s).1 (b.x, omega (arith, b.most), (b.rest, (all b.rest).1 b.listed, b.is))),
)

base_is : (v : Variable) → v.layer ≡ None → is_base v ≡ true
base_is v e = ap is_none e

derived_is : (v : Variable) (layer : ℕ) → v.layer ≡ Some layer → is_base v ≡ false
derived_is v layer e = ap is_none e

pub with_base : (v : Variable) (variables : List Variable) (later set : States) (n : ℕ) → v.layer ≡ None → n ≡ range v
    → HasThoseStates set (BegunBelow n later) → HasThoseStates later (Listed (assignments variables))
    → HasThoseStates set (Listed (assignments (v ∷ variables)))
unfolding assignments
with_base v variables later set n none count has all =
    subst (λ (b : Bool). HasThoseStates set (Listed (cond b (all_before 0 (range v) (assignments variables)) (assignments variables)))) (sym (base_is v none))
    (subst (λ (k : ℕ). HasThoseStates set (Listed (all_before 0 k (assignments variables)))) count (begun_all later set n (assignments variables) all has))

pub with_derived : (v : Variable) (variables : List Variable) (later : States) (layer : ℕ) → v.layer ≡ Some layer
    → HasThoseStates later (Listed (assignments variables))
    → HasThoseStates later (Listed (assignments (v ∷ variables)))
unfolding assignments
with_derived v variables later layer is all =
    subst (λ (b : Bool). HasThoseStates later (Listed (cond b (all_before 0 (range v) (assignments variables))
    (assignments variables)))) (sym (derived_is v layer is)) all

pub with_none : (set : States) (start : State) → start ≡ [] → HasThoseStates set (λ s. s ≡ start) → HasThoseStates set (Listed (assignments []))
unfolding assignments
with_none set start e has s = (
  (λ h. inl (sym ((has s).0 h ∙ e))),
  (λ h. elim h [ inl f ↦ (has s).1 (sym f ∙ sym e) | inr x ↦ absurd x ]),
)
