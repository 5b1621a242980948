-- Merged relations, from one more.
use Rattle.std.proofs.Common.{◌≡◌, ℕ, zero, suc, ◌<◌, ◌↔◌, ◌⊎◌, inl, inr, Bool, List, [], ◌∷◌, ◌++◌, length, get_or, refl, sym, ◌∙◌, ap, subst, arith}
use Rattle.std.specs.List.{All}
use Rattle.std.proofs.lemmas.List.{append_assoc, append-nil, length-append}
use Rattle.bdd_table.specs.declared.node.Node.{Node}
use Rattle.bdd_table.specs.Diagram.{Bits, means, IsReduced, Keeps}
use Rattle.var_order.specs.Layout.{Layout}
use Rattle.transitions.specs.declared.relations.Relation.{Relation}
use Rattle.transitions.specs.Ready.{IsReadyRelation}
use Rattle.transitions.specs.Relations.{Connects, Relates}
use Rattle.transitions.proofs.Using.{steps_alike, steps_of_relates}
use Rattle.trans_merge.specs.Size.{HasAtMost}
use Rattle.trans_merge.specs.Merging.{IsRelation, LeadsByRelation, SomeLeads, IsJoined, IsMerged, Merges, Combines}
use Rattle.trans_merge.specs.Merging.Merges.{none, more}
use Rattle.trans_merge.proofs.Reaching.{at_most_kept}

connects_alike : (o : Layout) (places : List ℕ) (F G : Bits → Bool) (s t : List ℕ) → ((b : Bits) → G b ≡ F b)
    → Connects o places F s t ↔ Connects o places G s t
connects_alike o places F G s t e = ((λ (b, code, next, h). (b, code, next, e b ∙ h)), (λ (b, code, next, h). (b, code, next, sym (e b) ∙ h)))

abbrev last_or : Relation → List Relation → Relation
last_or d [] = d
last_or d (x ∷ xs) = last_or x xs

last_is : (d : Relation) (xs : List Relation) (x : Relation) → last_or d (xs ++ x ∷ []) ≡ x
last_is d [] x = refl
last_is d (y ∷ xs) x = last_is y xs x

abbrev but_last_from : Relation → List Relation → List Relation
but_last_from x [] = []
but_last_from x (y ∷ ys) = x ∷ but_last_from y ys

abbrev but_last : List Relation → List Relation
but_last [] = []
but_last (x ∷ xs) = but_last_from x xs

from_is : (x : Relation) (xs : List Relation) (y : Relation) → but_last_from x (xs ++ y ∷ []) ≡ x ∷ xs
from_is x [] y = refl
from_is x (z ∷ zs) y = ap (λ (ws : List Relation). x ∷ ws) (from_is z zs y)

but_last_is : (xs : List Relation) (x : Relation) → but_last (xs ++ x ∷ []) ≡ xs
but_last_is [] x = refl
but_last_is (y ∷ xs) x = from_is y xs x

last_same : (xs ys : List Relation) (x y : Relation) → xs ++ x ∷ [] ≡ ys ++ y ∷ [] → (xs ≡ ys) × (x ≡ y)
last_same xs ys x y e = (sym (but_last_is xs x) ∙ ap but_last e ∙ but_last_is ys y, sym (last_is x xs x) ∙ ap (last_or x) e ∙ last_is x ys y)

abbrev first_or : Relation → List Relation → Relation
first_or d [] = d
first_or d (x ∷ xs) = x

-- and those before it
pub front_holds : (P : Relation → Type 0) (done rest : List Relation) → All P (done ++ rest) → All P done
front_holds P [] rest h i d lt = absurd (omega (arith, lt))
front_holds P (x ∷ done) rest h zero d lt = h 0 d (omega arith)
front_holds P (x ∷ done) rest h (suc i) d lt = front_holds P done rest (λ j e less. h (suc j) e (omega (arith, less))) i d (omega (arith, lt))

-- and those behind it
pub behind_holds : (P : Relation → Type 0) (done rest : List Relation) → All P (done ++ rest) → All P rest
behind_holds P [] rest h = h
behind_holds P (x ∷ done) rest h = behind_holds P done rest (λ i d lt. h (suc i) d (omega (arith, lt)))

-- all have it, with one more that has
pub all_and : (P : Relation → Type 0) (xs : List Relation) (x : Relation) → All P xs → P x → All P (xs ++ x ∷ [])
all_and P [] x h is zero d lt = is
all_and P [] x h is (suc i) d lt = absurd (omega (arith, lt))
all_and P (y ∷ xs) x h is zero d lt = h 0 d (omega arith)
all_and P (y ∷ xs) x h is (suc i) d lt = all_and P xs x (λ j e less. h (suc j) e (omega (arith, less))) is i d (omega (arith, lt))

module _ (o : Layout) where
  -- what relates states is a set of steps
  pub related : (nodes : List Node) (r : Relation) (R : List ℕ → List ℕ → Type 0) → r.root < length nodes → IsReadyRelation r
      → Relates o r.touched.items R (means nodes r.root) → IsRelation o nodes r
  related nodes r R known ready relates = record { known = known; ready = ready; steps = steps_of_relates o r.touched.items R (means nodes r.root) relates }

  pub relation_kept : (old new : List Node) (r : Relation) → Keeps old new → IsRelation o old r → IsRelation o new r
  relation_kept old new r k is = record {
    known = (let a = is.known in let c = k.known in omega (arith, a, c));
    ready = is.ready;
    steps = steps_alike o r.touched.items (means old r.root) (means new r.root) (λ b. k.meaning r.root b is.known) is.steps;
  }

  pub relations_kept : (old new : List Node) (rs : List Relation) → Keeps old new → All (IsRelation o old) rs → All (IsRelation o new) rs
  relations_kept old new rs k all i d lt = relation_kept old new (get_or rs i d) k (all i d lt)

  -- one of relations that were known
  pub one_kept : (old new : List Node) (rs : List Relation) (i : ℕ) (r : Relation) → Keeps old new
      → All (IsRelation o old) rs → i < length rs → r ≡ get_or rs i r → IsRelation o new r
  one_kept old new rs i r k all lt is = relation_kept old new r k (subst (λ (x : Relation). IsRelation o old x) (sym is) (all i r lt))

  -- the steps are those that they were
  pub leads_kept : (old new : List Node) (r : Relation) (s t : List ℕ) → Keeps old new → r.root < length old
      → LeadsByRelation o old s t r ↔ LeadsByRelation o new s t r
  leads_kept old new r s t k known = connects_alike o r.touched.items (means old r.root) (means new r.root) s t (λ b. k.meaning r.root b known)

  pub some_append : (nodes : List Node) (s t : List ℕ) (xs ys : List Relation) → SomeLeads o nodes s t (xs ++ ys)
      ↔ (SomeLeads o nodes s t xs ⊎ SomeLeads o nodes s t ys)
  some_append nodes s t [] ys = ((λ h. inr h), (λ h. elim h [ inl x ↦ absurd x | inr y ↦ y ]))
  some_append nodes s t (x ∷ xs) ys =
      let rest = some_append nodes s t xs ys in (
        (λ h. elim h [ inl a ↦ inl (inl a) | inr b ↦ elim (rest.0 b) [ inl c ↦ inl (inr c) | inr d ↦ inr d ] ]),
        (λ h. elim h [ inl a ↦ elim a [ inl c ↦ inl c | inr d ↦ inr (rest.1 (inl d)) ] | inr b ↦ inr (rest.1 (inr b)) ]),
      )

  module _ (bound : ℕ) (start : List Node) where
    merged_kept : (old new : List Node) (part : List Relation) (r : Relation) → IsReduced old → IsReduced new
        → Keeps old new → IsMerged o bound start old part r → IsMerged o bound start new part r
    merged_kept old new part r ro rn k is = record {
      relation = relation_kept old new r k is.relation;
      some = is.some;
      leads = λ s t ss st. (let same = leads_kept old new r s t k is.relation.known in
          let was = is.leads s t ss st in ((λ h. was.0 (same.1 h)), (λ h. same.0 (was.1 h))));
      alone = is.alone;
      within = λ two. at_most_kept old new r.root bound ro rn k is.relation.known (is.within two);
    }

    -- results stay right as the table grows
    pub merges_kept : (members : List Relation) (old new : List Node) (results : List Relation) → IsReduced old
        → IsReduced new → Keeps old new → Merges o bound start members old results
        → Merges o bound start members new results
    merges_kept _ old new _ ro rn k (none _) = none new
    merges_kept _ old new _ ro rn k (more members part results _ r before is) =
        more members part results new r (merges_kept members old new results ro rn k before)
        (merged_kept old new part r ro rn k is)

    -- one relation by itself
    alone : (now : List Node) (r : Relation) → Keeps start now → IsRelation o start r → IsMerged o bound start now (r ∷ []) r
    alone now r k is = record {
      relation = relation_kept start now r k is;
      some = omega arith;
      leads = λ s t ss st. (let same = leads_kept start now r s t k is.known in ((λ h. inl (same.1 h)), (λ h. elim h [ inl x ↦ same.0 x | inr x ↦ absurd x ])));
      alone = λ m e. ap (λ (xs : List Relation). first_or r xs) e;
      within = λ two. absurd (omega (arith, two));
    }

    -- two that were joined
    joined_both : (old new : List Node) (left right : List Relation) (a b joined : Relation)
        → IsMerged o bound start old left a → IsMerged o bound start old right b → IsJoined o old a b new joined
        → HasAtMost new joined.root bound
        → IsMerged o bound start new (left ++ right) joined
    joined_both old new left right a b joined first second made few = record {
      relation = made.relation;
      some = (let e = length-append left right in let n = first.some in omega (arith, e, n));
      leads = λ s t ss st. (
          let it = made.leads s t ss st in
          let one = first.leads s t ss st in
          let two = second.leads s t ss st in
          let all = some_append start s t left right in (
            (λ h. elim (it.0 h) [ inl x ↦ all.1 (inl (one.0 x)) | inr x ↦ all.1 (inr (two.0 x)) ]),
            (λ h. elim (all.0 h) [ inl x ↦ it.1 (inl (one.1 x)) | inr x ↦ it.1 (inr (two.1 x)) ]),
          ));
      alone = λ m e. (
          let a = ap (λ (xs : List Relation). length xs) e in
          let b = length-append left right in
          let c = first.some in
          let d = second.some in
          absurd (omega (arith, a, b, c, d)));
      within = λ two. few;
    }

    -- the relations that are joined so far
    pub all_merged : (members : List Relation) (now : List Node) (results : List Relation)
        → Merges o bound start members now results → All (IsRelation o now) results
    all_merged _ now _ (none _) = λ i d lt. absurd (omega (arith, lt))
    all_merged _ now _ (more members part results _ r before is) = all_and (IsRelation o now) results r (all_merged members now results before) is.relation

    -- The last of the results, and those before it.
    record HasLast (members : List Relation) (now : List Node) (front : List Relation) (last : Relation) : Type 0 where
      earlier : List Relation
      part : List Relation
      whole : members ≡ earlier ++ part
      before : Merges o bound start earlier now front
      is : IsMerged o bound start now part last

    last_of : (members : List Relation) (now : List Node) (results front : List Relation) (last : Relation)
        → Merges o bound start members now results → results ≡ front ++ last ∷ [] → HasLast members now front last
    last_of _ now _ front last (none _) e = absurd (let a = ap (λ (xs : List Relation). length xs) e in
        let b = length-append front (last ∷ []) in omega (arith, a, b))
    last_of _ now _ front last (more members part results _ r before is) e = (
        let same = last_same results front r last e in
        record {
          earlier = members;
          part = part;
          whole = refl;
          before = subst (λ (xs : List Relation). Merges o bound start members now xs) same.0 before;
          is = subst (λ (x : Relation). IsMerged o bound start now part x) same.1 is;
        })

    -- one relation, or none, by itself
    pub merges_few : (now : List Node) (rs : List Relation) → Keeps start now → All (IsRelation o start) rs → length rs < 2 → Merges o bound start rs now rs
    merges_few now [] k all lt = none now
    merges_few now (r ∷ []) k all lt = more [] (r ∷ []) [] now r (none now) (alone now r k (all 0 r (omega arith)))
    merges_few now (r ∷ q ∷ rs) k all lt = absurd (omega (arith, lt))

    -- results of two lists, one after the other
    pub merges_both : (left right : List Relation) (now : List Node) (xs ys : List Relation)
        → Merges o bound start left now xs → Merges o bound start right now ys
        → Merges o bound start (left ++ right) now (xs ++ ys)
    merges_both left _ now xs _ first (none _) =
        subst (λ (ms : List Relation). Merges o bound start ms now (xs ++ [])) (sym (append-nil left))
        (subst (λ (rs : List Relation). Merges o bound start left now rs) (sym (append-nil xs)) first)
    merges_both left _ now xs _ first (more members part results _ r before is) =
        subst (λ (ms : List Relation). Merges o bound start ms now (xs ++ (results ++ r ∷ []))) (append_assoc left members part)
        (subst (λ (rs : List Relation). Merges o bound start ((left ++ members) ++ part) now rs) (append_assoc xs results (r ∷ []))
        (more (left ++ members) part (xs ++ results) now r (merges_both left members now xs results first before) is))

    -- where there is one result, it is made of all members
    none_of : (members : List Relation) (now : List Node) (results : List Relation) → results ≡ [] → Merges o bound start members now results → members ≡ []
    none_of _ now _ e (none _) = refl
    none_of _ now _ e (more members part results _ r before is) =
        absurd (let a = ap (λ (xs : List Relation). length xs) e in
        let b = length-append results (r ∷ []) in omega (arith, a, b))

    one_of : (members : List Relation) (now : List Node) (a : Relation) → Merges o bound start members now (a ∷ []) → IsMerged o bound start now members a
    one_of members now a m =
        let h = last_of members now (a ∷ []) [] a m refl in
        let all : h.part ≡ members = sym (h.whole ∙ ap (λ (xs : List Relation). xs ++ h.part) (none_of h.earlier now [] refl h.before)) in
        subst (λ (xs : List Relation). IsMerged o bound start now xs a) all h.is

    -- two halves as one list
    pub merges_combined : {left right xs ys : List Relation} {old new : List Node} (results : List Relation)
        → IsReduced old → IsReduced new → Keeps old new → Merges o bound start left old xs
        → Merges o bound start right old ys → Combines o old xs ys bound new results
        → Merges o bound start (left ++ right) new results
    merges_combined {left} {right} {xs} {ys} {old} {new} results ro rn k first second c = elim c [
      | inl (joined, e, (a, b, is_a, is_b, made, few)) ↦ (
          let one = one_of left old a (subst (λ (rs : List Relation). Merges o bound start left old rs) is_a first) in
          let two = one_of right old b (subst (λ (rs : List Relation). Merges o bound start right old rs) is_b second) in
          subst (λ (rs : List Relation). Merges o bound start (left ++ right) new rs) (sym e)
          (more [] (left ++ right) [] new joined (none new) (joined_both old new left right a b joined one two made few)))
      | inr (e, stay) ↦ subst (λ (rs : List Relation). Merges o bound start (left ++ right) new rs) (sym e)
          (merges_both left right new xs ys (merges_kept left old new xs ro rn k first) (merges_kept right old new ys ro rn k second))
    ]

  -- members that were there before the table grew
  some_kept : (old new : List Node) (rs : List Relation) (s t : List ℕ) → Keeps old new → All (IsRelation o old) rs
      → SomeLeads o old s t rs ↔ SomeLeads o new s t rs
  some_kept old new [] s t k all = ((λ h. h), (λ h. h))
  some_kept old new (r ∷ rs) s t k all =
      let is : IsRelation o old r = all 0 r (omega arith) in
      let here = leads_kept old new r s t k is.known in
      let rest = some_kept old new rs s t k (λ i d lt. all (suc i) d (omega (arith, lt))) in (
        (λ h. elim h [ inl x ↦ inl (here.0 x) | inr x ↦ inr (rest.0 x) ]),
        (λ h. elim h [ inl x ↦ inl (here.1 x) | inr x ↦ inr (rest.1 x) ]),
      )

  pub merges_since : (bound : ℕ) (start mid : List Node) (members : List Relation) (now : List Node)
      (results : List Relation) → Keeps start mid → All (IsRelation o start) members
      → Merges o bound mid members now results → Merges o bound start members now results
  merges_since bound start mid _ now _ k all (none _) = none now
  merges_since bound start mid _ now _ k all (more members part results _ r before is) =
      more members part results now r (merges_since bound start mid members now results k (front_holds (IsRelation o start) members part all) before) (record {
        relation = is.relation;
        some = is.some;
        leads = λ s t ss st. (
            let was = is.leads s t ss st in
            let same = some_kept start mid part s t k (behind_holds (IsRelation o start) members part all) in
            ((λ h. same.1 (was.0 h)), (λ h. was.1 (same.0 h))));
        alone = is.alone;
        within = is.within;
      })
