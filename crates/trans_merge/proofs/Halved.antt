-- Relations joined by halves, from two halves.
use Rattle.std.proofs.Common.{◌≡◌, ℕ, zero, suc, ◌<◌, inl, inr, List, [], ◌∷◌, ◌++◌, length, get_or, sym, subst, arith}
use Rattle.std.specs.List.{All}
use Rattle.std.proofs.lemmas.List.Elements.{All-append}
use Rattle.bdd_table.specs.declared.node.Node.{Node}
use Rattle.bdd_table.specs.Diagram.{IsReduced, Keeps}
use Rattle.var_order.specs.Layout.{Layout}
use Rattle.transitions.specs.declared.relations.Relation.{Relation}
use Rattle.trans_merge.specs.Merging.{IsRelation, IsJoined, IsHalved, AreRelationHalves, StayApart, Combines}
use Rattle.trans_merge.specs.Merging.IsHalved.{nothing, single, joins, apart}
use Rattle.axiom_layers.proofs.RootValues.{keeps_itself}
use Rattle.trans_merge.proofs.Reaching.{at_most_kept, at_most_before}
use Rattle.trans_merge.proofs.Merged.{relation_kept, leads_kept, front_holds, behind_holds}

module _ (o : Layout) where
  -- a joined relation stays joined as the table grows
  joined_kept : (old mid new : List Node) (a b r : Relation) → Keeps old new → Keeps mid new → a.root < length old
      → b.root < length old → IsJoined o old a b mid r → IsJoined o new a b new r
  joined_kept old mid new a b r k l known_a known_b is = record {
    relation = relation_kept o mid new r l is.relation;
    touched = is.touched;
    leads = λ s t ss st. (
        let one = is.leads s t ss st in
        let same = leads_kept o mid new r s t l is.relation.known in
        let first = leads_kept o old new a s t k known_a in
        let second = leads_kept o old new b s t k known_b in (
          (λ h. elim (one.0 (same.1 h)) [ inl x ↦ inl (first.0 x) | inr x ↦ inr (second.0 x) ]),
          (λ h. elim h [ inl x ↦ same.0 (one.1 (inl (first.1 x))) | inr x ↦ same.0 (one.1 (inr (second.1 x))) ]),
        ));
  }

  module _ (bound : ℕ) where
    first_known : (nodes : List Node) (xs : List Relation) (a : Relation) → xs ≡ a ∷ [] → All (IsRelation o nodes) xs → IsRelation o nodes a
    first_known nodes xs a e all = subst (λ (rs : List Relation). All (IsRelation o nodes) rs) e all 0 a (omega arith)

    -- lists that stay apart do so as the table grows
    apart_kept : {old mid new : List Node} (xs ys : List Relation) → IsReduced mid → IsReduced new → Keeps old new
        → Keeps mid new → All (IsRelation o old) xs → All (IsRelation o old) ys → StayApart o old xs ys bound mid
        → StayApart o new xs ys bound new
    apart_kept {old} {mid} {new} xs ys rm rn k l first second h = elim h [
      | inl many ↦ inl many
      | inr (a, b, joined, is_a, is_b, made, large) ↦ (
          let one = first_known old xs a is_a first in
          let two = first_known old ys b is_b second in
          inr (
            a,
            b,
            joined,
            is_a,
            is_b,
            joined_kept old mid new a b joined k l one.known two.known made,
            (λ few. large (at_most_before mid new joined.root bound rm rn l made.relation.known few)),
          ))
    ]

    pub halved_all : (nodes : List Node) (members results : List Relation) → All (IsRelation o nodes) members
        → IsHalved o bound nodes members results → All (IsRelation o nodes) results
    halved_all nodes _ _ all nothing = all
    halved_all nodes _ _ all (single r) = all
    halved_all nodes _ _ all (joins left right a b joined halves first second made few) = one_known made.relation
      where
        one_known : IsRelation o nodes joined → (k : ℕ) (d : Relation) → k < length (joined ∷ []) → IsRelation o nodes (get_or (joined ∷ []) k d)
        one_known is zero d lt = is
        one_known is (suc k) d lt = absurd (omega (arith, lt))
    halved_all nodes _ _ all (apart left right xs ys halves first second stay) =
        All-append (IsRelation o nodes) xs ys (halved_all nodes left xs
        (front_holds (IsRelation o nodes) left right all) first)
        (halved_all nodes right ys (behind_holds (IsRelation o nodes) left right all) second)

    module _ (old new : List Node) (ro : IsReduced old) (rn : IsReduced new) (k : Keeps old new) where
      -- results stay right as the table grows
      pub halved_kept : (members results : List Relation) → All (IsRelation o old) members
          → IsHalved o bound old members results → IsHalved o bound new members results
      halved_kept _ _ all nothing = nothing
      halved_kept _ _ all (single r) = single r
      halved_kept _ _ all (joins left right a b joined halves first second made few) =
          let one = front_holds (IsRelation o old) left right all in
          let two = behind_holds (IsRelation o old) left right all in
          let is_a : IsRelation o old a = halved_all old left (a ∷ []) one first 0 a (omega arith) in
          let is_b : IsRelation o old b = halved_all old right (b ∷ []) two second 0 b (omega arith) in
          joins left right a b joined halves (halved_kept left (a ∷ []) one first) (halved_kept right (b ∷ []) two second)
          (joined_kept old old new a b joined k k is_a.known is_b.known made) (at_most_kept old new joined.root bound ro rn k made.relation.known few)
      halved_kept _ _ all (apart left right xs ys halves first second stay) =
          let one = front_holds (IsRelation o old) left right all in
          let two = behind_holds (IsRelation o old) left right all in
          apart left right xs ys halves (halved_kept left xs one first) (halved_kept right ys two second)
          (apart_kept xs ys ro rn k k (halved_all old left xs one first) (halved_all old right ys two second) stay)

      -- two halves as one list
      pub halved_combined : (left right xs ys results : List Relation) → AreRelationHalves left right
          → All (IsRelation o old) left → All (IsRelation o old) right → IsHalved o bound old left xs
          → IsHalved o bound old right ys → Combines o old xs ys bound new results
          → IsHalved o bound new (left ++ right) results
      halved_combined left right xs ys results halves one two first second c = elim c [
        | inl (joined, e, (a, b, is_a, is_b, made, few)) ↦ (
            let known_a = first_known old xs a is_a (halved_all old left xs one first) in
            let known_b = first_known old ys b is_b (halved_all old right ys two second) in
            subst (λ (rs : List Relation). IsHalved o bound new (left ++ right) rs) (sym e)
            (joins left right a b joined halves
            (subst (λ (rs : List Relation). IsHalved o bound new left rs) is_a (halved_kept left xs one first))
            (subst (λ (rs : List Relation). IsHalved o bound new right rs) is_b (halved_kept right ys two second))
            (joined_kept old new new a b joined k (keeps_itself new) known_a.known known_b.known made) few))
        | inr (e, stay) ↦ subst (λ (rs : List Relation). IsHalved o bound new (left ++ right) rs) (sym e)
            (apart left right xs ys halves (halved_kept left xs one first) (halved_kept right ys two second)
            (apart_kept xs ys rn rn k (keeps_itself new) (halved_all old left xs one first)
            (halved_all old right ys two second) stay))
      ]

    pub halved_few : (nodes : List Node) (rs : List Relation) → length rs < 2 → IsHalved o bound nodes rs rs
    halved_few nodes [] lt = nothing
    halved_few nodes (r ∷ []) lt = single r
    halved_few nodes (r ∷ q ∷ rs) lt = absurd (omega (arith, lt))
