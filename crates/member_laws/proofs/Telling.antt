-- Whether a list pends is computed.
use Rattle.std.proofs.Common.{◌≡◌, ℕ, Bool, true, not, ◌⊎◌, inl, inr, List, [], ◌∷◌, refl, sym, subst}
use Rattle.std.specs.Bool.{Decides}
use Rattle.std.proofs.lemmas.Bool.Decides.{Decides-and, Decides-or, Decides-not, Decides-like}
use Rattle.symk_task.specs.declared.parts.Mode.TheVariants.{TopK, Unordered}
use Rattle.task_system.specs.System.{State, System, RunsInSystem, are_equal, same}
use Rattle.task_system.proofs.SameLaw.{same_law}
use Rattle.lazy_plans.specs.Told.{is_plan_in}
use Rattle.lazy_plans.proofs.Told.{equal_is, equal_self, in_told}
use Rattle.member_laws.specs.Nodes.{JoinsAtNode, IsJoinedAtNode, PendsNode}
use Rattle.member_laws.specs.Told.{system_between, leads_to, joins, is_joined, pends_node}

equal_told : (p q : List ℕ) → Decides (are_equal p q) (p ≡ q)
equal_told p q = (equal_is p q, λ e. subst (λ (z : List ℕ). are_equal p z ≡ true) e (equal_self p))

-- the runs of the one are those of the other
module _ (y : System) (s : State) (test : State → Bool) where
  runs_back : (p : List ℕ) (m t : State) → RunsInSystem (system_between y s test) m p t → RunsInSystem y m p t
  runs_back [] m t e = e
  runs_back (op ∷ p) m t (n, leads, rest) = (n, record { number = leads.number; step = leads.step }, runs_back p n t rest)

  runs_there : (p : List ℕ) (m t : State) → RunsInSystem y m p t → RunsInSystem (system_between y s test) m p t
  runs_there [] m t e = e
  runs_there (op ∷ p) m t (n, leads, rest) = (n, record { number = leads.number; step = leads.step }, runs_there p n t rest)

-- the operators lead to a state of which P holds
leads_told : (y : System) (p : List ℕ) (test : State → Bool) (P : State → Type 0)
    → ((t : State) → Decides (test t) (P t)) → (s : State)
    → Decides (leads_to y s p test) ((t : State) × RunsInSystem y s p t × P t)
leads_told y p test P d s = Decides-like (leads_to y s p test)
    (λ h. (h.0, runs_back y s test p s h.0 h.1, (d h.0).0 h.2))
    (λ h. (h.0, runs_there y s test p s h.0 h.1, (d h.0).1 h.2))
    (in_told (system_between y s test) TopK p)

module _ (y : System) where
  joins_told : (x z : List ℕ) → Decides (joins y x z) (JoinsAtNode y x z)
  joins_told x z =
      let inner = λ (s : State). leads_told y z (are_equal s) (λ t. s ≡ t) (λ t. equal_told s t) y.initial in
      let outer = leads_told y x (λ s. leads_to y y.initial z (are_equal s)) (λ s. (t : State) × RunsInSystem y y.initial z t × (s ≡ t)) inner y.initial in
      Decides-like (joins y x z)
      (λ h. record { same = h.0; end = h.1.0; runs = h.1.1; other = subst (λ (s : State). RunsInSystem y y.initial z s) (sym h.1.2.2) h.1.2.1 })
      (λ j. (j.same, (j.end, j.runs, (j.end, j.other, refl))))
      (Decides-and (same Unordered x z) (leads_to y y.initial x (λ s. leads_to y y.initial z (are_equal s))) (same_law Unordered x z) outer)

  joined_told : (es : List (List ℕ)) (x : List ℕ) → Decides (is_joined y es x) (IsJoinedAtNode y es x)
  joined_told [] x = ((λ e. cc), (λ j. absurd j.1))
  joined_told (z ∷ es) x = Decides-like (is_joined y (z ∷ es) x) (to es x z) (from es x z)
      (Decides-or (joins y x z) (is_joined y es x) (joins_told x z) (joined_told es x))
    where
      to : (es : List (List ℕ)) (x z : List ℕ) → JoinsAtNode y x z ⊎ IsJoinedAtNode y es x → IsJoinedAtNode y (z ∷ es) x
      to es x z (inl j) = (z, inl refl, j)
      to es x z (inr (w, l, j)) = (w, inr l, j)

      from : (es : List (List ℕ)) (x z : List ℕ) → IsJoinedAtNode y (z ∷ es) x → JoinsAtNode y x z ⊎ IsJoinedAtNode y es x
      from es x z (w, inl is, j) = inl (subst (JoinsAtNode y x) (sym is) j)
      from es x z (w, inr l, j) = inr (w, l, j)

  pub pends_told : (opened : List (List ℕ)) (p : List ℕ) → Decides (pends_node y opened p) (PendsNode y opened p)
  pends_told opened p = Decides-and (is_plan_in y TopK p) (not (is_joined y opened p)) (in_told y TopK p)
      (Decides-not (is_joined y opened p) (joined_told opened p))
