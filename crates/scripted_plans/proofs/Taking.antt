-- What taking the first plan of a script does.
use Rattle.std.proofs.Common.{◌≡◌, ℕ, ◌-◌, ◌≤◌, ◌^◌, Bool, true, false, inl, List, [], ◌∷◌, Some, None, slice_get, slice_index_or, cond, refl, sym, ◌∙◌, subst, arith, All, IsFalse, nat_eq}
use Rattle.std.specs.Bool.{Decides}
use Rattle.std.specs.Cmp.Lexicographic.{pointwise}
use Rattle.std.proofs.lemmas.Bool.Decides.{Decides-or}
use Rattle.symk_task.specs.declared.parts.Mode.TheVariants.{TopK}
use Rattle.task_system.specs.System.{cost_in_system, same}
use Rattle.task_system.proofs.SameLaw.{same_law}
use Rattle.lazy_plans.specs.Law.{Gave}
use Rattle.scripted_plans.specs.Free.{free, is_one_of, IsOneOf}
use Rattle.scripted_plans.specs.Scripted.{costs_free, equal_lists}

-- the first plan was there
pub first_one : (p : List ℕ) (plans : List (List ℕ)) → IsOneOf (p ∷ plans) p
first_one p plans = (Decides-or (pointwise nat_eq p p) (is_one_of plans p) (equal_lists p p) ((λ e. e), (λ e. e))).1 (inl refl)

got_first : (plans : List (List ℕ)) (p : List ℕ) → Some p ≡ slice_get plans 0 → IsOneOf plans p
got_first [] p e = cc
got_first (q ∷ plans) p e = subst (λ (z : List ℕ). IsOneOf (q ∷ plans) z) (some_is q p (sym e)) (first_one q plans)
  where
    some_is : (a b : List ℕ) → Some a ≡ Some b → a ≡ b
    some_is a b e = cc

pub gave_script : (plans later : List (List ℕ)) (p : List ℕ) → Some p ≡ slice_get plans 0 → ((q : List ℕ) → is_one_of later q ≡ cond (pointwise nat_eq p q) false (is_one_of plans q))
    → Gave free TopK None (IsOneOf plans) (IsOneOf later) p
gave_script plans later p first taken = record {
  pended = got_first plans p first;
  fits = omega (arith, costs_free p);
  least = λ q h. omega (arith, costs_free p);
  rest = λ q. (
    (λ h. go_to q (pointwise nat_eq p q) refl (sym (taken q) ∙ h)),
    (λ h. taken q ∙ go_from q (pointwise nat_eq p q) refl h.0 h.1),
  );
}
  where
    unequal : (b : Bool) (q : List ℕ) → Decides b (q ≡ p) → ¬ (q ≡ p) → b ≡ false
    unequal true q d n = absurd (n (d.0 refl))
    unequal false q d n = refl

    go_to : (q : List ℕ) (b : Bool) → pointwise nat_eq p q ≡ b → cond b false (is_one_of plans q) ≡ true → IsOneOf plans q × IsFalse (same TopK q p)
    go_to q true e h = cc
    go_to q false e h = (h, unequal (same TopK q p) q (same_law TopK q p) (λ is. let yes = (equal_lists p q).1 (sym is) in cc))

    go_from : (q : List ℕ) (b : Bool) → pointwise nat_eq p q ≡ b → IsOneOf plans q → IsFalse (same TopK q p) → cond b false (is_one_of plans q) ≡ true
    go_from q true e h n = (let yes = (same_law TopK q p).1 (sym ((equal_lists p q).0 e)) in cc)
    go_from q false e h n = h

-- no plan is too dear
pub cheap_free : (plans : List (List ℕ)) → All (λ p. cost_in_system free p ≤ 2 ^ 64 - 1) plans
cheap_free plans k d lt = omega (arith, costs_free (slice_index_or plans k d))
