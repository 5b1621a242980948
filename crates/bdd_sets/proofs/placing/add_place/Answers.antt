use Rattle.std.proofs.Common.{ℕ, List, [], ◌∷◌, ◌++◌, inl, inr, sym, subst}
use Rattle.std.specs.List.{Contains}
use Rattle.std.proofs.lemmas.List.Elements.{Contains-push, Contains-push_cases, Contains-append_left}
use Rattle.bdd_sets.proofs.placing.add_place.Goals as goal

pub returns-in_ok-push : goal.returns-in_ok-push
returns-in_ok-push c p =
    let old = c.args.places.now in
    let place = c.in-Some.place in
    let e = c.in_ok-push.ensures.ok in
    let is = c.in-Some.ensures p in (
      (λ h. elim (Contains-push_cases old place p (subst (λ (xs : List ℕ). Contains xs p) e h)) [
        | inl was ↦ inl was
        | inr same ↦ inr (is.1 (sym same))
      ]),
      (λ o. subst (λ (xs : List ℕ). Contains xs p) (sym e) (elim o [
        | inl was ↦ Contains-append_left old (place ∷ []) p was
        | inr here ↦ subst (λ (q : ℕ). Contains (old ++ place ∷ []) q) (sym (is.0 here)) (Contains-push old place)
      ])),
    )

pub returns-in_default : goal.returns-in_default
returns-in_default c p = ((λ h. inl h), (λ o. elim o [ inl was ↦ was | inr here ↦ absurd (c.in_default.ensures p here) ]))
