-- What is asked of the sets of a space.
use Rattle.std.proofs.Common.{◌≡◌, ◌↔◌, ℕ, ◌==◌, ◌⊎◌, inl, inr, Bool, true, false, List, [], ◌∷◌, Some, IsTrue, refl, sym, ◌∙◌, ap, subst, eqb-true, eq-eqb, true≢false}
use Rattle.symk_task.proofs.Starting.{start_law, one_initial}
use Rattle.task_system.specs.System.{State, Listed}
use Rattle.task_system.specs.Computed.{system_of}
use Rattle.task_system.proofs.StatesLaw.{states_law}
use Rattle.var_order.specs.Codes.{IsStateOf}
use Rattle.symk_task.specs.Variables.{IsState}
use Rattle.var_order.proofs.Laying.{state_of, of_state}
use Rattle.bdd_sets.specs.Sets.{HasCodedState, IsSetOfStates}
use Rattle.space_api.specs.View.{HasMember, IsEmpty, HasSame}
use Rattle.bdd_space.specs.Slots.{set_at}
use Rattle.bdd_space.specs.Members.{code_of, has_state, IsKnownSet}
use Rattle.bdd_space.specs.Symbolic.{Symbolic, IsSpace}
use Rattle.bdd_space.specs.Seen.{seen}
use Rattle.bdd_space.proofs.Having.{code_law, has_parts, has_from, has_member, same_sets, empty_is, both_true}
use Rattle.bdd_space.proofs.Keeping.{id_there, has_there}
use Rattle.bdd_space.proofs.Made.{start_state}
use Rattle.bdd_space.proofs.Begun.{turns_alone}

-- one of the listed states passes the test, or none does
one_or_none : (p : State → Bool) (xs : List State) → ((s : State) × Listed xs s × (p s ≡ true)) ⊎ ((s : State) → Listed xs s → p s ≡ false)
one_or_none p [] = inr (λ s h. absurd h)
one_or_none p (x ∷ xs) = at (p x) refl (one_or_none p xs)
  where
    at : (b : Bool) → p x ≡ b → ((s : State) × Listed xs s × (p s ≡ true)) ⊎ ((s : State) → Listed xs s → p s ≡ false)
        → ((s : State) × Listed (x ∷ xs) s × (p s ≡ true)) ⊎ ((s : State) → Listed (x ∷ xs) s → p s ≡ false)
    at true e rest = inl (x, inl refl, e)
    at false e (inl r) = inl (r.0, inr r.1, r.2)
    at false e (inr none) = inr (λ s h. elim h [ inl here ↦ ap p (sym here) ∙ e | inr there ↦ none s there ])

not_true : (b : Bool) → (b ≡ true → ⊥) → b ≡ false
not_true true n = absurd (n refl)
not_true false n = refl

module _ (e : Symbolic) (start : List ℕ) (i : IsSpace e start) (a f : ℕ) (is : set_at e.sets a ≡ Some f) where
  known : IsKnownSet e.order e.nodes f
  known = id_there e.order e.nodes e.sets a f i.sets is

  seen_is : (s : State) → (seen e).has a s ≡ has_state e.order e.nodes f s
  seen_is s = has_there e a f s is

  -- a set is empty where its Id is false
  pub empty_says : (f ≡ 0) ↔ IsEmpty (seen e) a
  empty_says = (
    (λ h s. seen_is s ∙ (empty_is e.order e.nodes f i.order.layout i.reduced known).0 h s),
    (λ none. (empty_is e.order e.nodes f i.order.layout i.reduced known).1 (λ s. sym (seen_is s) ∙ none s)),
  )

  -- and has a state where it isn't
  pub member_says : (f ≡ 0 → ⊥) → HasMember (seen e) a
  member_says some = elim (one_or_none ((seen e).has a) (system_of e.task).states) [
    | inl found ↦ found
    | inr none ↦ absurd (some (empty_says.1 (λ s. not_true ((seen e).has a s) (λ h. (
        let state = (has_parts e.order e.nodes f s (sym (seen_is s) ∙ h)).0 in
        true≢false (sym h ∙ none s ((states_law e.task s).0 (of_state e.task e.order s i.order state))))))))
  ]

  -- two sets have the same states where their Ids are equal
  pub same_says : (b g : ℕ) → set_at e.sets b ≡ Some g → (f ≡ g) ↔ HasSame (seen e) a b
  same_says b g there = (
    (λ same s. seen_is s ∙ ap (λ (x : ℕ). has_state e.order e.nodes x s) same ∙ sym (has_there e b g s there)),
    (λ same. same_sets e.order e.nodes f g i.order.layout i.reduced known
        (id_there e.order e.nodes e.sets b g i.sets there)
        (λ s. sym (seen_is s) ∙ same s ∙ has_there e b g s there)),
  )

  -- a state is one of the set where the Id is true by all bits of it
  pub state_says : (s : State) → IsStateOf e.order s → (r : Bool) → IsTrue r ↔ HasCodedState e.order e.nodes f s → r ≡ (seen e).has a s
  state_says s state r says =
      both_true r ((seen e).has a s)
      (λ h. seen_is s ∙ has_from e.order e.nodes f s state (says.0 h (code_of e.order s) (code_law e.order s i.order.layout state)))
      (λ h. says.1 (λ b code. (known.set b).1 (s, state, code, has_member e.order e.nodes f s i.order.layout (sym (seen_is s) ∙ h))))

  -- and so is the initial one
  pub start_says : (r : Bool) → IsTrue r ↔ HasCodedState e.order e.nodes f start → r ≡ (seen e).has a (system_of e.task).initial
  start_says r says =
      let same : start ≡ (system_of e.task).initial = one_initial e.task start (system_of e.task).initial i.initial (start_law e.task i.fits) in
      let state : IsStateOf e.order start = subst (IsStateOf e.order) (sym same) (start_state e start i) in
      state_says start state r says ∙ ap ((seen e).has a) same

-- the same, as its callers see the space

module _ (e old : Symbolic) (start : List ℕ) (i : IsSpace e start) (same : e ≡ old) (a f : ℕ) (is : set_at old.sets a ≡ Some f) where
  here : set_at e.sets a ≡ Some f
  here = ap (λ (x : Symbolic). set_at x.sets a) same ∙ is

  pub none_by : ((f == 0) ≡ true) ↔ IsEmpty (seen old) a
  none_by = subst (λ (x : Symbolic). ((f == 0) ≡ true) ↔ IsEmpty (seen x) a) same (
    (λ h. (empty_says e start i a f here).0 (eqb-true f 0 h)),
    (λ none. eq-eqb f 0 ((empty_says e start i a f here).1 none)),
  )

  pub member_by : ((f == 0) ≡ false) → HasMember (seen old) a
  member_by h = subst (λ (x : Symbolic). HasMember (seen x) a) same (member_says e start i a f here (λ z. true≢false (sym (eq-eqb f 0 z) ∙ h)))

  pub same_by : (b g : ℕ) → set_at old.sets b ≡ Some g → ((f == g) ≡ true) ↔ HasSame (seen old) a b
  same_by b g is_too =
      let there : set_at e.sets b ≡ Some g = ap (λ (x : Symbolic). set_at x.sets b) same ∙ is_too in
      subst (λ (x : Symbolic). ((f == g) ≡ true) ↔ HasSame (seen x) a b) same (
        (λ h. (same_says e start i a f here b g there).0 (eqb-true f g h)),
        (λ alike. eq-eqb f g ((same_says e start i a f here b g there).1 alike)),
      )

  pub start_by : (r : Bool) → IsTrue r ↔ HasCodedState e.order e.nodes f start → r ≡ (seen old).has a (system_of old.task).initial
  start_by r says = subst (λ (x : Symbolic). r ≡ (seen x).has a (system_of x.task).initial) same (start_says e start i a f here r says)

  pub state_by : (s : State) → IsState old.task s → (r : Bool) → IsTrue r ↔ HasCodedState e.order e.nodes f s → r ≡ (seen old).has a s
  state_by s state r says =
      let mine : IsState e.task s = subst (λ (x : Symbolic). IsState x.task s) (sym same) state in
      subst (λ (x : Symbolic). r ≡ (seen x).has a s) same (state_says e start i a f here s (state_of e.task e.order s i.order mine) r says)

  pub bits_by : (s : State) → IsState old.task s → IsStateOf e.order s
  bits_by s state = state_of e.task e.order s i.order (subst (λ (x : Symbolic). IsState x.task s) (sym same) state)

  -- what is asked of the set to look for a state in it
  pub turns_by : IsSetOfStates e.order e.nodes f
  turns_by = (let k = id_there e.order e.nodes e.sets a f i.sets here in turns_alone e.order e.nodes f e.task i.order k.set)
