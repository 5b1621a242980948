-- What is asked of the sets of a space.
use Rattle.std.proofs.Common.{◌≡◌, ◌↔◌, Bool, true, false, List, [], ◌∷◌, length, Option, Some, IsTrue, IsFalse, refl, sym, ap, subst, ◌∙◌, inl, arith}
use Rattle.std.proofs.lemmas.Bool.{false≢true}
use Rattle.symk_task.specs.declared.parts.TaskParts.{TaskParts}
use Rattle.symk_task.specs.Plans.{IsInitial}
use Rattle.symk_task.specs.Fits.{Fits}
use Rattle.symk_task.proofs.Starting.{start_law, one_initial}
use Rattle.task_system.specs.System.{State, Listed}
use Rattle.task_system.specs.Computed.{system_of, assignments}
use Rattle.task_system.proofs.StatesLaw.{states_law}
use Rattle.explicit_space.specs.Members.{States, has_explicit_state, AreStates}
use Rattle.explicit_space.specs.Explicit.{in_explicit_set}
use Rattle.explicit_space.proofs.Gathering.{has_decides}

not_true : (b : Bool) → ¬ (b ≡ true) → b ≡ false
not_true true n = absurd (n refl)
not_true false n = refl

both_false : (b c : Bool) → (b ≡ true → c ≡ true) → (c ≡ true → b ≡ true) → b ≡ c
both_false true c f g = sym (f refl)
both_false false true f g = g refl
both_false false false f g = refl

-- a set of no key
none_has : (members : States) (keys : List State) → members.keys ≡ keys → length keys ≡ 0 → (s : State) → has_explicit_state members s ≡ false
none_has members [] e z s = not_true (has_explicit_state members s) (λ h. subst (λ (k : List State). Listed k s) e ((has_decides members s).0 h))
none_has members (x ∷ keys) e z s = absurd (omega arith)

-- the first key
first_has : (members : States) (keys : List State) → members.keys ≡ keys → (length keys ≡ 0 → ⊥) → (s : State) × IsTrue (has_explicit_state members s)
first_has members [] e n = absurd (n refl)
first_has members (x ∷ keys) e n = (x, (has_decides members x).1 (subst (λ (k : List State). Listed k x) (sym e) (inl refl)))

module _ (o : Option States) (members : States) (is : o ≡ Some members) (r : Bool) (says : IsTrue r ↔ (length members.keys ≡ 0)) where
  pub empty_says : IsTrue r ↔ ((s : State) → IsFalse (in_explicit_set o s))
  empty_says = (
    (λ h s. ap (λ (x : Option States). in_explicit_set x s) is ∙ none_has members members.keys refl (says.0 h) s),
    back r refl,
  )
    where
      back : (b : Bool) → r ≡ b → ((s : State) → IsFalse (in_explicit_set o s)) → IsTrue r
      back true e h = e
      back false e h = (
          let f = first_has members members.keys refl (λ z. false≢true (sym e ∙ says.1 z)) in
          absurd (false≢true (sym (h f.0) ∙ ap (λ (x : Option States). in_explicit_set x f.0) is ∙ f.1)))

  pub member_says : (task : TaskParts) → AreStates task members → IsFalse r → (s : State) × Listed (assignments task.variables) s × IsTrue (in_explicit_set o s)
  member_says task states isnt = (
      let f = first_has members members.keys refl (λ z. false≢true (sym isnt ∙ says.1 z)) in
      (f.0, (states_law task f.0).0 (states f.0 f.1), ap (λ (x : Option States). in_explicit_set x f.0) is ∙ f.1))

-- two sets are the same where each is part of the other
pub part_says : (a b : Option States) (x y : States) (r : Bool) → a ≡ Some x → b ≡ Some y → IsTrue r
    ↔ ((s : State) → IsTrue (has_explicit_state x s) → IsTrue (has_explicit_state y s)) → IsTrue r
    ↔ ((s : State) → IsTrue (in_explicit_set a s) → IsTrue (in_explicit_set b s))
part_says a b x y r e f says =
    subst (λ (o : Option States). IsTrue r ↔ ((s : State) → IsTrue (in_explicit_set o s) → IsTrue (in_explicit_set b s))) (sym e)
    (subst (λ (o : Option States). IsTrue r ↔ ((s : State) → IsTrue (has_explicit_state x s) → IsTrue (in_explicit_set o s))) (sym f) says)

pub same_then : (a b : Option States) (r q : Bool) → IsTrue r → IsTrue r
    ↔ ((s : State) → IsTrue (in_explicit_set a s) → IsTrue (in_explicit_set b s)) → IsTrue q
    ↔ ((s : State) → IsTrue (in_explicit_set b s) → IsTrue (in_explicit_set a s)) → IsTrue q
    ↔ ((s : State) → in_explicit_set a s ≡ in_explicit_set b s)
same_then a b r q part_is part back = (
  (λ h s. both_false (in_explicit_set a s) (in_explicit_set b s) (part.0 part_is s) (back.0 h s)),
  (λ same. back.1 (λ s h. same s ∙ h)),
)

pub same_else : (a b : Option States) (r : Bool) → r ≡ false → IsTrue r
    ↔ ((s : State) → IsTrue (in_explicit_set a s) → IsTrue (in_explicit_set b s)) → IsTrue r
    ↔ ((s : State) → in_explicit_set a s ≡ in_explicit_set b s)
same_else a b r isnt part = (
  (λ h. absurd (false≢true (sym isnt ∙ h))),
  (λ same. part.1 (λ s h. sym (same s) ∙ h)),
)

-- the initial state
pub initial_in : (task : TaskParts) (start : State) (o : Option States) (members : States) (r : Bool) → Fits task
    → IsInitial task start → o ≡ Some members → r ≡ has_explicit_state members start
    → r ≡ in_explicit_set o (system_of task).initial
initial_in task start o members r fits i is e =
    e ∙ ap (has_explicit_state members) (one_initial task start (system_of task).initial i (start_law task fits))
    ∙ sym (ap (λ (x : Option States). in_explicit_set x (system_of task).initial) is)
