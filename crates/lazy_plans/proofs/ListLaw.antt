-- The law of one call, of the list of all plans given.
use Rattle.std.proofs.Common.{◌≡◌, ℕ, zero, suc, ◌-◌, ◌<◌, ◌≤◌, ◌^◌, Bool, true, false, ◌⊎◌, ◌↔◌, inl, inr, List, [], ◌∷◌, ◌++◌, length, Option, Some, None, IfSome, slice_get, refl, sym, ◌∙◌, subst, arith}
use Rattle.std.specs.Bool.{Decides}
use Rattle.std.specs.Option.{IsSomeAnd}
use Rattle.std.specs.List.{Any}
use Rattle.std.proofs.lemmas.List.{get_or_append_left, length_push}
use Rattle.std.proofs.lemmas.List.Quantifiers.{Any-push}
use Rattle.symk_task.specs.declared.parts.Mode.{Mode}
use Rattle.symk_task.specs.Plans.{Same, IsListed}
use Rattle.task_system.specs.System.{System, IsSystemPlanOf, IsRightOfSystem, AllSystemPlansListed, AllSystemPlansInRange, HasDearerSystemPlan, same, cost_in_system}
use Rattle.task_system.proofs.SameLaw.{same_law}
use Rattle.task_system.proofs.GrowLaw.{grow_law}
use Rattle.lazy_plans.specs.Law.{Gave, PendsAlike, MayStop, Fair, Dear, NoneLeft}
use Rattle.lazy_plans.specs.Rest.{Rest, IsGood, EndsBy, IsMissing}
use Rattle.lazy_plans.specs.declared.stop.Stop.TheVariants.{CostRange}

pub any_none : {X : Type 0} (P : X → Type 0) → ¬ Any P []
any_none P (k, x, lt, is, h) = absurd (omega (arith, lt))

pub any_head : {X : Type 0} (P : X → Type 0) (x : X) (xs : List X) → P x → Any P (x ∷ xs)
any_head P x xs h = (0, x, omega arith, refl, h)

pub any_tail : {X : Type 0} (P : X → Type 0) (x : X) (xs : List X) → Any P xs → Any P (x ∷ xs)
any_tail P x xs (k, z, lt, is, h) = (suc k, z, omega (arith, lt), is, h)

pub any_cases : {X : Type 0} (P : X → Type 0) (x : X) (xs : List X) → Any P (x ∷ xs) → P x ⊎ Any P xs
any_cases P x xs (zero, z, lt, is, h) = inl (subst P (sym is) h)
any_cases P x xs (suc k, z, lt, is, h) = inr (k, z, omega (arith, lt), is, h)

pub any_left : {X : Type 0} (P : X → Type 0) (xs : List X) (y : X) → Any P xs → Any P (xs ++ y ∷ [])
any_left P xs y (k, x, lt, is, h) = (k, x, omega (arith, length_push xs y, lt), get_or_append_left xs (y ∷ []) x k lt ∙ is, h)

pub push_cases : {X : Type 0} (P : X → Type 0) (xs : List X) (y : X) → Any P (xs ++ y ∷ []) → Any P xs ⊎ P y
push_cases P [] y h = elim (any_cases P y [] h) [ inl p ↦ inr p | inr a ↦ absurd (any_none P a) ]
push_cases P (x ∷ xs) y h = elim (any_cases P x (xs ++ y ∷ []) h) [
  | inl p ↦ inl (any_head P x xs p)
  | inr a ↦ elim (push_cases P xs y a) [ inl b ↦ inl (any_tail P x xs b) | inr p ↦ inr p ]
]

told : {A : Type 0} (b : Bool) → Decides b A → A ⊎ (¬ A)
told true d = inl (d.0 refl)
told false d = inr (λ a. let e = d.1 a in cc)

-- a list of operators counts as one with a member, or with none
pub listed_or : (mode : Mode) (plans : List (List ℕ)) (q : List ℕ) → IsListed mode plans q ⊎ (¬ IsListed mode plans q)
listed_or mode [] q = inr (any_none (Same mode q))
listed_or mode (p ∷ plans) q = elim (told (same mode q p) (same_law mode q p)) [
  | inl s ↦ inl (any_head (Same mode q) p plans s)
  | inr off ↦ elim (listed_or mode plans q) [
    | inl a ↦ inl (any_tail (Same mode q) p plans a)
    | inr n ↦ inr (λ h. elim (any_cases (Same mode q) p plans h) [ inl s ↦ off s | inr a ↦ n a ])
  ]
]

not_less : (a b : ℕ) → a ≤ b → b < a → ⊥
not_less a b h k = omega arith

on_off : (b : Bool) → b ≡ true → b ≡ false → ⊥
on_off b e f = cc

unmatched : (b : Bool) {A : Type 0} → Decides b A → ¬ A → b ≡ false
unmatched true d n = absurd (n (d.0 refl))
unmatched false d n = refl

pub rest_first : (system : System) (mode : Mode) (most : Option ℕ) (pends : List ℕ → Type 0)
    → Fair system mode most pends → ((p : List ℕ) → IsSystemPlanOf system mode p → pends p) → Rest system mode [] pends
rest_first system mode most pends fair whole q = (λ h. (fair.members q h, any_none (Same mode q)), λ h. whole q h.0)

pub rest_without : (system : System) (mode : Mode) (plans : List (List ℕ)) (whole pends : List ℕ → Type 0)
    → Rest system mode [] whole → ((p : List ℕ) → pends p ↔ (whole p × ¬ IsListed mode plans p))
    → Rest system mode plans pends
rest_without system mode plans whole pends rest is q = (
  (λ h. let k = (is q).0 h in (((rest q).0 k.0).0, k.1)),
  (λ h. (is q).1 ((rest q).1 (h.0, any_none (Same mode q)), h.1)),
)

module _ (system : System) (mode : Mode) (plans : List (List ℕ)) (before : List ℕ → Type 0) (rest : Rest system mode plans before) where
  listed : (q : List ℕ) → IsSystemPlanOf system mode q → ¬ before q → IsListed mode plans q
  listed q plan off = elim (listed_or mode plans q) [ inl a ↦ a | inr n ↦ absurd (off ((rest q).1 (plan, n))) ]

  -- a plan that costs less than all that pend is listed
  below : (c : ℕ) → ((q : List ℕ) → before q → c ≤ cost_in_system system q) → (q : List ℕ)
      → IsSystemPlanOf system mode q → cost_in_system system q < c → IsListed mode plans q
  below c least q plan lt = listed q plan (λ b. not_less c (cost_in_system system q) (least q b) lt)

  pub rest_stays : (after : List ℕ → Type 0) → PendsAlike before after → Rest system mode plans after
  rest_stays after s q = ((λ a. (rest q).0 ((s q).0 a)), (λ h. (s q).1 ((rest q).1 h)))

  pub exhausted : NoneLeft system None before → AllSystemPlansListed system mode plans
  exhausted none q plan = listed q plan (none q)

  -- no plan up to this cost is left
  pub all_up_to : (c : ℕ) → Dear system c before → (q : List ℕ) → IsSystemPlanOf system mode q → cost_in_system system q ≤ c → IsListed mode plans q
  all_up_to c dear q plan le = listed q plan (λ b. not_less _ _ le (dear q b))

  pub out_of_range : MayStop system None before CostRange → AllSystemPlansInRange system mode plans × HasDearerSystemPlan system mode
  out_of_range h = (
    (λ q plan lt. all_up_to (2 ^ 64 - 1) h.1 q plan (omega (arith, lt))),
    (h.0.0, ((rest h.0.0).0 h.0.1).0, omega (arith, h.1 h.0.0 h.0.1)),
  )

  module _ (most : Option ℕ) (after : List ℕ → Type 0) (p : List ℕ) (gave : Gave system mode most before after p) where
    pub right_more : IsRightOfSystem system mode plans → IsRightOfSystem system mode (plans ++ p ∷ [])
    right_more right =
        let h = (rest p).0 gave.pended in
        grow_law system mode plans p right h.0 h.1 (below (cost_in_system system p) gave.least)

    pub rest_more : Rest system mode (plans ++ p ∷ []) after
    rest_more q = (
      (λ a.
          let b = (gave.rest q).0 a in
          let i = (rest q).0 b.0 in
          (i.0, λ h. elim (push_cases (Same mode q) plans p h) [ inl k ↦ i.1 k | inr s ↦ on_off (same mode q p) ((same_law mode q p).1 s) b.1 ])),
      (λ h. (gave.rest q).1 (
        (rest q).1 (h.0, λ a. h.1 (any_left (Same mode q) plans p a)),
        unmatched (same mode q p) (same_law mode q p) (λ s. h.1 (Any-push (Same mode q) plans p s)),
      )),
    )

    pub missing : IsSomeAnd (slice_get plans (length plans - 1)) (λ last. cost_in_system system p < cost_in_system system last) → IsMissing system mode plans p
    missing cheaper = record {
      plan = ((rest p).0 gave.pended).0;
      unlisted = ((rest p).0 gave.pended).1;
      cheaper = cheaper;
      least = λ q plan off. gave.least q ((rest q).1 (plan, off));
    }

  -- a list that ends by a cost below which no plan pends is right
  pub right_up_to : IsGood system mode plans → (c : ℕ) → ((q : List ℕ) → before q → c ≤ cost_in_system system q)
      → EndsBy system plans c → IsRightOfSystem system mode plans
  right_up_to good c least ends = record {
    each = good.each;
    different = good.different;
    costs = good.costs;
    cheapest = cheapest (slice_get plans (length plans - 1)) ends;
  }
    where
      cheapest : (o : Option (List ℕ)) → IfSome o (λ last. cost_in_system system last ≤ c)
          → IfSome o (λ last. (q : List ℕ) → IsSystemPlanOf system mode q → cost_in_system system q < cost_in_system system last
          → IsListed mode plans q)
      cheapest None e = tt
      cheapest (Some last) e = λ q plan lt. below c least q plan (omega (arith, lt, e))

  pub right_all : IsGood system mode plans → AllSystemPlansListed system mode plans → IsRightOfSystem system mode plans
  right_all good all = record {
    each = good.each;
    different = good.different;
    costs = good.costs;
    cheapest = cheapest (slice_get plans (length plans - 1));
  }
    where
      cheapest : (o : Option (List ℕ)) → IfSome o (λ last. (q : List ℕ) → IsSystemPlanOf system mode q → cost_in_system system q
          < cost_in_system system last → IsListed mode plans q)
      cheapest None = tt
      cheapest (Some last) = λ q plan lt. all q plan
