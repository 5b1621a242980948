-- What a call says of a result that may be none, and lists of one relation.
use Rattle.std.proofs.Common.{◌≡◌, ℕ, ◌-◌, ◌/◌, ◌<◌, ◌≤◌, inl, inr, List, [], ◌∷◌, ◌++◌, length, get_or, take, drop, Option, Some, None, IfSome, IfNone, Result, Ok, Err, IfOk, sym, ◌∙◌, ap, subst, arith}
use Rattle.std.proofs.lemmas.List.{take-append-drop, length-take-le, length-drop}
use Rattle.bdd_table.specs.declared.node.Node.{Node}
use Rattle.var_order.specs.Layout.{Layout}
use Rattle.transitions.specs.declared.relations.Relation.{Relation}
use Rattle.trans_merge.specs.Merging.{JoinsBoth, StayApart, Combines, AreRelationHalves}

some_by : (found : Option Relation) (P Q R : Relation → Type 0) → IfSome found P → IfSome found Q → ((x : Relation) → P x → Q x → R x) → IfSome found R
some_by None P Q R p q f = tt
some_by (Some x) P Q R p q f = f x p q

pub found_by : {E : Type 0} (r : Result (Option Relation) E) (P Q R : Relation → Type 0)
    → IfOk r (λ found. IfSome found P) → IfOk r (λ found. IfSome found Q) → ((x : Relation) → P x → Q x → R x)
    → IfOk r (λ found. IfSome found R)
found_by (Ok found) P Q R p q f = some_by found P Q R p q f
found_by (Err e) P Q R p q f = tt

none_by : (found : Option Relation) (P Q : Type 0) → IfNone found P → (P → Q) → IfNone found Q
none_by None P Q p f = f p
none_by (Some x) P Q p f = tt

pub none_found_by : {E : Type 0} (r : Result (Option Relation) E) (P Q : Type 0) → IfOk r (λ found. IfNone found P) → (P → Q) → IfOk r (λ found. IfNone found Q)
none_found_by (Ok found) P Q p f = none_by found P Q p f
none_found_by (Err e) P Q p f = tt

-- a list of one element
pub single_is : (xs : List Relation) (x : Relation) → length xs ≡ 1 → x ≡ get_or xs 0 x → xs ≡ x ∷ []
single_is [] x e is = absurd (omega (arith, e))
single_is (y ∷ []) x e is = ap (λ (z : Relation). z ∷ []) (sym is)
single_is (y ∷ z ∷ zs) x e is = absurd (omega (arith, e))

-- both lists were joined, or stand one after the other
pub combines_joined : {ls rs left right results : List Relation} {joined : Relation} {found : Option Relation}
    (o : Layout) (old new : List Node) (bound : ℕ) → found ≡ Some joined → ls ≡ left → rs ≡ right
    → IfSome found (JoinsBoth o old ls rs bound new) → results ≡ joined ∷ [] → Combines o old left right bound new results
combines_joined {ls} {rs} {left} {right} {results} {joined} {found} o old new bound e same_left same_right h is =
    let x = subst (λ (v : Option Relation). IfSome v (JoinsBoth o old ls rs bound new)) e h in
    inl (joined, is, (x.0, x.1, sym same_left ∙ x.2, sym same_right ∙ x.3, x.4, x.5))

pub combines_apart : {ls rs left right results : List Relation} {found : Option Relation}
    (o : Layout) (old new : List Node) (bound : ℕ) → found ≡ None → ls ≡ left → rs ≡ right
    → IfNone found (StayApart o old ls rs bound new) → results ≡ left ++ right → Combines o old left right bound new results
combines_apart {ls} {rs} {left} {right} {results} {found} o old new bound e same_left same_right h is =
    let x = subst (λ (v : Option Relation). IfNone v (StayApart o old ls rs bound new)) e h in
    inr (
      is,
      subst (λ (xs : List Relation). StayApart o old left xs bound new) same_right
          (subst (λ (xs : List Relation). StayApart o old xs rs bound new) same_left x),
    )

-- a list cut in the middle
pub record Halves (xs first second : List Relation) : Type 0 where
  pub whole : first ++ second ≡ xs
  pub are : AreRelationHalves first second
  pub fewer : length second < length xs

pub halves_of : (xs first second : List Relation) (n half : ℕ) → n ≡ length xs → 2 ≤ n → half ≡ n / 2
    → first ≡ take half xs → second ≡ drop half xs → Halves xs first second
halves_of xs first second n half e two is one rest =
    let a : length first ≡ half = ap (λ (ys : List Relation). length ys) one ∙ length-take-le half xs (omega (arith, e, is)) in
    let b : length second ≡ length xs - half = ap (λ (ys : List Relation). length ys) rest ∙ length-drop half xs in
    record {
      whole = ap (λ (ys : List Relation). ys ++ second) one ∙ ap (λ (ys : List Relation). take half xs ++ ys) rest ∙ take-append-drop half xs;
      are = record { some = omega (arith, a, is, two); half = omega (arith, a, b, is, e, two) };
      fewer = omega (arith, b, is, e, two);
    }
