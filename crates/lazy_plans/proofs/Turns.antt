-- What the turns of the queue do to what pends.
use Rattle.std.proofs.Common.{◌≡◌, ℕ, ◌+◌, ◌<◌, ◌≤◌, ◌↔◌, Bool, true, false, IsTrue, eqb, ◌⊎◌, inl, inr, List, [], ◌∷◌, ◌++◌, Option, Some, None, refl, sym, ◌∙◌, ap, subst, arith}
use Rattle.std.specs.Bool.{Decides}
use Rattle.std.specs.List.{AllByRecursion}
use Rattle.std.proofs.lemmas.Bool.Decides.{Decides-and, Decides-eqb}
use Rattle.symk_task.specs.declared.parts.Mode.{Mode}
use Rattle.task_system.specs.System.{System, Listed, IsSystemPlan, IsSystemPlanOf, are_equal, cost_in_system}
use Rattle.lazy_plans.specs.Law.{Gave, PendsAlike, MayStop, Fair, NoneLeft, top}
use Rattle.lazy_plans.specs.Told.{is_plan_in}
use Rattle.lazy_plans.specs.declared.stop.Stop.TheVariants.{CostRange}
use Rattle.lazy_plans.proofs.Told.{equal_is, equal_self, in_told}
use Rattle.lazy_plans.specs.Queue.{prefix, ind, count, IsByList, Pending, pending, Good, Bounds, Hopeless, Replaced, Children, sum_ops, Right}
use Rattle.lazy_plans.proofs.Splits.{splits, count_replaced, below_of, prefix_refl}
use Rattle.lazy_plans.proofs.Traces.{plan_of, plan_in}

known : (b : Bool) → (b ≡ true) ⊎ (b ≡ false)
known true = inl refl
known false = inr refl

-- some entry is a prefix
found : (y : System) (b : ℕ) (es : List (List ℕ)) (q : List ℕ) → IsSystemPlan y q
    → AllByRecursion (λ e. Bounds y e b) es → 0 < count es q → b ≤ cost_in_system y q
found y b [] q i all some = absurd (omega arith)
found y b (e ∷ es) q i all some = elim (known (prefix e q)) [
  | inl on ↦ all.0 q i on
  | inr off2 ↦ found y b es q i all.1 (let z : ind (prefix e q) ≡ 0 = rw off2 refl in omega (arith, some, z))
]

pub floor : (y : System) (m : Mode) (b : ℕ) (es : List (List ℕ)) (q : List ℕ) → AllByRecursion (λ e. Bounds y e b) es
    → Pending y m es q → b ≤ cost_in_system y q
floor y m b es q all h = found y b es q (plan_of y m q h.0) all (omega (arith, h.1))

-- the queue is empty
pub empty : (y : System) (m : Mode) (most : Option ℕ) → NoneLeft y most (Pending y m [])
empty y m None = λ q h. omega (arith, h.1)
empty y m (Some c) = λ q h. absurd (omega (arith, h.1))

-- no entry can go on to a plan that is wanted
pub past : (y : System) (m : Mode) (c b : ℕ) (es : List (List ℕ)) → AllByRecursion (λ e. Bounds y e b) es → c < b → NoneLeft y (Some c) (Pending y m es)
past y m c b es all dear = λ q h. omega (arith, floor y m b es q all h, dear)

pub fair : (y : System) (m : Mode) (most : Option ℕ) (es : List (List ℕ)) → Right y m most es → Fair y m most (Pending y m es)
fair y m most es right = record { members = λ p h. h.0; dearer = λ p i d. (i, right.dear p i d) }

pub told : (y : System) (m : Mode) (es : List (List ℕ)) (p : List ℕ) → Decides (pending y m es p) (Pending y m es p)
told y m es p = Decides-and (is_plan_in y m p) (eqb (count es p) 1) (in_told y m p) (Decides-eqb (count es p) 1)

-- the queue at first is the empty prefix alone
pub first_pends : (y : System) (m : Mode) (p : List ℕ) → IsSystemPlanOf y m p → Pending y m ([] ∷ []) p
first_pends y m p i = (i, refl)

pub first_right : (y : System) (m : Mode) (most : Option ℕ) → Right y m most ([] ∷ [])
first_right y m most = record { once = λ p i. omega arith; dear = λ p i d. refl }

-- an entry of the queue is one of those that are counted
counted_in : (es : List (List ℕ)) (e p : List ℕ) → Listed es e → ind (prefix e p) ≤ count es p
counted_in [] e p l = absurd l
counted_in (x ∷ es) e p (inl i) = let z : ind (prefix x p) ≡ ind (prefix e p) = ap (λ (w : List ℕ). ind (prefix w p)) i in omega (arith, z)
counted_in (x ∷ es) e p (inr l) = omega (arith, counted_in es e p l)

module _ (y : System) (m : Mode) (most : Option ℕ) (e : List ℕ) (old : List (List ℕ)) (right : Right y m most old) (inside : Listed old e) where
  -- a plan that goes on from e pends
  pub goes_on_pends : (p : List ℕ) → IsSystemPlanOf y m p → IsTrue (prefix e p) → Pending y m old p
  goes_on_pends p i on =
      let self : ind (prefix e p) ≡ 1 = rw on refl in
      (i, omega (arith, counted_in old e p inside, self, right.once p i))

  -- a plan goes on from e, and each that pends is out of range
  pub out_of_range : (b : ℕ) → AllByRecursion (λ x. Bounds y x b) old → top None < b → (p : List ℕ) → IsSystemPlanOf y m p
      → IsTrue (prefix e p) → MayStop y None (Pending y m old) CostRange
  out_of_range b all dear p i on = ((p, goes_on_pends p i on), (λ q h. omega (arith, floor y m b old q all h, dear)))

  -- e goes and its children come
  module _ (good : Good y m e) (kids new : List (List ℕ)) (taken : Replaced old kids e new) (children : Children y m e kids) where
    -- of each plan but e itself as many entries are a prefix as before
    counts : (p : List ℕ) → IsSystemPlanOf y m p → count old p ≡ ind (are_equal e p) + count new p
    counts p i =
        let plan = plan_of y m p i in
        let s = splits y.operators e p (below_of y p y.initial plan.0 plan.1) in
        let c = children p i in
        let r = count_replaced old kids new e p taken in
        omega (arith, s, c, r)

    once : (p : List ℕ) → IsSystemPlanOf y m p → count new p ≤ 1
    once p i = omega (arith, counts p i, right.once p i)

    -- e is no plan: what pends is the same
    other : (IsSystemPlan y e → ⊥) → (p : List ℕ) → IsSystemPlanOf y m p → are_equal e p ≡ false
    other off2 p i = elim (known (are_equal e p)) [
      | inl on ↦ absurd (off2 (subst (IsSystemPlan y) (sym (equal_is e p on)) (plan_of y m p i)))
      | inr off ↦ off
    ]

    level : (IsSystemPlan y e → ⊥) → (p : List ℕ) → IsSystemPlanOf y m p → count new p ≡ count old p
    level off2 p i = let z : ind (are_equal e p) ≡ 0 = rw (other off2 p i) refl in omega (arith, counts p i, z)

    pub goes_stays : (IsSystemPlan y e → ⊥) → PendsAlike (Pending y m old) (Pending y m new)
    goes_stays off2 p = ((λ h. (h.0, sym (level off2 p h.0) ∙ h.1)), (λ h. (h.0, level off2 p h.0 ∙ h.1)))

    pub goes_right : (IsSystemPlan y e → ⊥) → Right y m most new
    goes_right off2 = record { once = once; dear = λ p i d. level off2 p i ∙ right.dear p i d }

    -- e is a plan in range: it is given
    apart : (p : List ℕ) → are_equal e p ≡ false → IsSystemPlanOf y m p → count new p ≡ count old p
    apart p off i = let z : ind (are_equal e p) ≡ 0 = rw off refl in omega (arith, counts p i, z)

    flip : (p : List ℕ) → are_equal p e ≡ false → are_equal e p ≡ false
    flip p off = elim (known (are_equal e p)) [
      | inl on ↦ absurd (clash (are_equal p e) (subst (λ (z : List ℕ). are_equal z e ≡ true) (equal_is e p on) (equal_self e)) off)
      | inr off2 ↦ off2
    ]
      where
        clash : (b : Bool) → b ≡ true → b ≡ false → ⊥
        clash b e f = cc

    taken_off : IsSystemPlan y e → count new e ≡ 0
    taken_off plan =
        let i = plan_in y m e good.allowed plan in
        let self : ind (are_equal e e) ≡ 1 = rw (equal_self e) refl in
        omega (arith, counts e i, self, right.once e i)

    -- each plan but e pends as before, and e doesn't
    without : IsSystemPlan y e → (q : List ℕ) → Pending y m new q ↔ (Pending y m old q × (are_equal q e ≡ false))
    without plan q = (
      (λ h. elim (known (are_equal q e)) [
        | inl on ↦ absurd (let z : count new q ≡ 0 = ap (count new) (equal_is q e on) ∙ taken_off plan in omega (arith, z, h.1))
        | inr off ↦ ((h.0, sym (apart q (flip q off) h.0) ∙ h.1), off)
      ]),
      (λ h. (h.0.0, apart q (flip q h.1) h.0.0 ∙ h.0.1)),
    )

    pub gives : IsByList m → (b : ℕ) → AllByRecursion (λ x. Bounds y x b) old → cost_in_system y e ≤ b → IsSystemPlan y e
        → cost_in_system y e ≤ top most → Gave y m most (Pending y m old) (Pending y m new) e
    gives by_list b all le plan fits = record {
      pended = goes_on_pends e (plan_in y m e good.allowed plan) (prefix_refl e);
      fits = fits;
      least = λ q h. omega (arith, floor y m b old q all h, le);
      rest = λ q.
          let w = without plan q in
          let one = by_list q e in (
            (λ h. let k = w.0 h in (k.0, one ∙ k.1)),
            (λ h. w.1 (h.0, sym one ∙ h.1)),
          );
    }

    pub gives_right : cost_in_system y e ≤ top most → Right y m most new
    gives_right fits = record {
      once = once;
      dear = λ p i d. elim (known (are_equal e p)) [
        | inl on ↦ absurd (let z : cost_in_system y e ≡ cost_in_system y p = ap (cost_in_system y) (equal_is e p on) in omega (arith, z, d, fits))
        | inr off ↦ apart p off i ∙ right.dear p i d
      ];
    }

-- no plan goes on from e, so none of its children has to come
pub none_come : (y : System) (m : Mode) (e : List ℕ) → Hopeless y m e → Children y m e []
none_come y m e lost p i =
    let plan = plan_of y m p i in
    let z : sum_ops y.operators (λ op. ind (prefix (e ++ op ∷ []) p)) ≡ 0 =
    omega (arith, splits y.operators e p (below_of y p y.initial plan.0 plan.1), lost p i) in
    sym z

pub no_plan : (y : System) (m : Mode) (e : List ℕ) → Good y m e → Hopeless y m e → ¬ IsSystemPlan y e
no_plan y m e good lost plan =
    let z : ind (prefix e e) ≡ 1 = rw (prefix_refl e) refl in
    omega (arith, z, lost e (plan_in y m e good.allowed plan))

-- e, from which no plan goes on, is left out
module _ (y : System) (m : Mode) (most : Option ℕ) (e : List ℕ) (old : List (List ℕ)) (right : Right y m most old)
    (inside : Listed old e) (good : Good y m e) (lost : Hopeless y m e) (new : List (List ℕ))
    (taken : Replaced old [] e new) where
  pub lost_stays : PendsAlike (Pending y m old) (Pending y m new)
  lost_stays = goes_stays y m most e old right inside good [] new taken (none_come y m e lost) (no_plan y m e good lost)

  pub lost_right : Right y m most new
  lost_right = goes_right y m most e old right inside good [] new taken (none_come y m e lost) (no_plan y m e good lost)

-- e is put back, known better
module _ (y : System) (m : Mode) (e : List ℕ) (old new : List (List ℕ)) (taken : Replaced old (e ∷ []) e new) where
  level_back : (p : List ℕ) → count new p ≡ count old p
  level_back p = omega (arith, count_replaced old (e ∷ []) new e p taken)

  pub back_stays : PendsAlike (Pending y m old) (Pending y m new)
  back_stays p = ((λ h. (h.0, sym (level_back p) ∙ h.1)), (λ h. (h.0, level_back p ∙ h.1)))

  pub back_right : (most : Option ℕ) → Right y m most old → Right y m most new
  back_right most right = record { once = λ p i. omega (arith, level_back p, right.once p i); dear = λ p i d. level_back p ∙ right.dear p i d }
