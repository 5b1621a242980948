-- What an opening does to what pends, and what is known of what pends.
use Rattle.std.proofs.Common.{◌≢◌, ℕ, ◌<◌, ◌≤◌, IsTrue, ◌⊎◌, inl, inr, List, [], ◌∷◌, ◌++◌, Option, Some, None, refl, sym, subst, arith}
use Rattle.std.specs.List.{AllByRecursion}
use Rattle.task_system.specs.System.{System, Listed, IsSystemPlan, cost_in_system}
use Rattle.space_api.specs.Listing.{ListsReached}
use Rattle.lazy_plans.proofs.Rearranged.{in_left}
use Rattle.lazy_plans.specs.Law.{PendsAlike, MayStop, NoneLeft, top}
use Rattle.lazy_plans.specs.declared.stop.Stop.TheVariants.{CostRange}
use Rattle.lazy_plans.specs.Queue.{prefix, Bounds}
use Rattle.lazy_plans.proofs.Splits.{prefix_join}
use Rattle.selectors.specs.Members.{GaveMember}
use Rattle.member_laws.specs.Nodes.{JoinsAtNode, IsJoinedAtNode, CoversOpened, PendsNode}
use Rattle.member_laws.proofs.Joining.{joins_self, joins_cost, joined_plan}
use Rattle.member_laws.proofs.Covering.{listed_cases, listed_last}
use Rattle.member_laws.proofs.Going.{pending_goes_on}

all_at : (P : List ℕ → Type 0) (es : List (List ℕ)) (e : List ℕ) → AllByRecursion P es → Listed es e → P e
all_at P [] e all l = absurd l
all_at P (x ∷ es) e all (inl is) = subst P is all.0
all_at P (x ∷ es) e all (inr l) = all_at P es e all.1 l

-- e is opened
module _ (y : System) (e : List ℕ) (opened : List (List ℕ)) where
  joined_cases : (p : List ℕ) → IsJoinedAtNode y (opened ++ e ∷ []) p → IsJoinedAtNode y opened p ⊎ JoinsAtNode y p e
  joined_cases p (z, l, j) = elim (listed_cases opened e z l) [
    | inl k ↦ inl (z, k, j)
    | inr is ↦ inr (subst (JoinsAtNode y p) (sym is) j)
  ]

  joined_more : (p : List ℕ) → IsJoinedAtNode y opened p → IsJoinedAtNode y (opened ++ e ∷ []) p
  joined_more p (z, l, j) = (z, in_left opened (e ∷ []) z l, j)

  -- what doesn't join e pends still
  pends_still : (p : List ℕ) → PendsNode y opened p → ¬ JoinsAtNode y p e → PendsNode y (opened ++ e ∷ []) p
  pends_still p h off = (h.0, λ j. elim (joined_cases p j) [ inl k ↦ h.1 k | inr k ↦ off k ])

  pended : (p : List ℕ) → PendsNode y (opened ++ e ∷ []) p → PendsNode y opened p
  pended p h = (h.0, λ j. h.1 (joined_more p j))

  -- it is no plan
  pub opening_keeps : ¬ IsSystemPlan y e → PendsAlike (PendsNode y opened) (PendsNode y (opened ++ e ∷ []))
  opening_keeps off p = (pended p, λ h. pends_still p h (λ j. off (joined_plan y p e j h.0)))

  -- it is one, and doesn't pend now
  gone : IsSystemPlan y e → (p : List ℕ) → PendsNode y (opened ++ e ∷ []) p → p ≢ e
  gone plan p h is = h.1 (e, listed_last opened e, subst (λ (z : List ℕ). JoinsAtNode y z e) (sym is) (joins_self y e plan.0 plan.1))

module _ (y : System) (opened queue : List (List ℕ)) (lists : ListsReached y) (covers : CoversOpened y opened queue) where
  pub pending_bounded : (b : ℕ) → AllByRecursion (λ x. Bounds y x b) queue → (p : List ℕ) → PendsNode y opened p → b ≤ cost_in_system y p
  pending_bounded b all p h =
      let g = pending_goes_on y opened queue lists covers p h in
      omega (arith, g.cost, all_at (λ x. Bounds y x b) queue g.entry all g.inside (g.entry ++ g.rest) g.plan (prefix_join g.entry g.rest))

  pub dear_leaves : (c b : ℕ) → AllByRecursion (λ x. Bounds y x b) queue → c < b → NoneLeft y (Some c) (PendsNode y opened)
  dear_leaves c b all dear p h = omega (arith, pending_bounded b all p h, dear)

  -- e is a plan in range, and no cheaper one goes on from an entry
  pub opening_gives : (most : Option ℕ) (b : ℕ) (e : List ℕ) → AllByRecursion (λ x. Bounds y x b) queue → IsSystemPlan y e
      → ¬ IsJoinedAtNode y opened e → cost_in_system y e ≤ b → cost_in_system y e ≤ top most
      → GaveMember y most (PendsNode y opened) (PendsNode y (opened ++ e ∷ [])) e
  opening_gives most b e all plan free le fits = record {
    pended = (plan, free);
    fits = fits;
    least = λ q h. omega (arith, pending_bounded b all q h, le);
    fewer = λ q h. (pended y e opened q h, gone y e opened plan q h);
    members = λ q h off. record { member = q; alike = λ a. refl; pending = pends_still y e opened q h (λ j. off j.same) };
  }

  -- a plan goes on from an entry, and each is out of range
  pub dear_out : (b : ℕ) (e p : List ℕ) → AllByRecursion (λ x. Bounds y x b) queue → top None < b → AllByRecursion (λ x. cost_in_system y x ≤ top None) opened
      → Listed queue e → IsSystemPlan y p → IsTrue (prefix e p) → MayStop y None (PendsNode y opened) CostRange
  dear_out b e p all dear cheap inside plan on =
      let le : b ≤ cost_in_system y p = all_at (λ x. Bounds y x b) queue e all inside p plan on in
      let free : ¬ IsJoinedAtNode y opened p = (λ j. omega
      (arith, all_at (λ x. cost_in_system y x ≤ top None) opened j.0 cheap j.1, joins_cost y p j.0 j.2, le, dear)) in
      ((p, (plan, free)), (λ q h. omega (arith, pending_bounded b all q h, dear)))

pub empty_leaves : (y : System) (most : Option ℕ) (opened : List (List ℕ)) → ListsReached y → CoversOpened y opened [] → NoneLeft y most (PendsNode y opened)
empty_leaves y None opened lists covers = λ p h. (pending_goes_on y opened [] lists covers p h).inside
empty_leaves y (Some c) opened lists covers = λ p h. absurd (pending_goes_on y opened [] lists covers p h).inside

-- nothing was opened yet

pub covers_first : (y : System) → CoversOpened y [] ([] ∷ [])
covers_first y = record { root = inl (inr ([], inl refl, joins_self y [] y.initial refl)); each = λ e l. absurd l }

pub pends_first : (y : System) (p : List ℕ) → IsSystemPlan y p → PendsNode y [] p
pends_first y p plan = (plan, λ j. j.1)
