-- Copies of the relations of the operators of one cost, from one operator more.
use Rattle.std.proofs.Common.{◌≡◌, ◌==◌, ℕ, ◌+◌, ◌<◌, inl, inr, Bool, List, [], ◌∷◌, ◌++◌, length, get_or, refl, sym, ◌∙◌, ap, subst, arith}
use Rattle.std.specs.List.{All}
use Rattle.std.proofs.lemmas.Bool.{eq-eqb, ne_eqb}
use Rattle.std.proofs.lemmas.List.{length-append, get_or_append_left, get_or_default}
use Rattle.std.proofs.Math.Seq.{get_or-append_seam}
use Rattle.symk_task.specs.declared.parts.TaskParts.{TaskParts}
use Rattle.symk_task.specs.Steps.{Step, cost_at}
use Rattle.bdd_table.specs.declared.node.Node.{Node}
use Rattle.var_order.specs.Layout.{Layout}
use Rattle.transitions.specs.declared.relations.Relation.{Relation}
use Rattle.transitions.proofs.TouchedPlaces.{filter_below, kept_next, left_next}
use Rattle.trans_merge.specs.Merging.{IsRelation}
use Rattle.trans_merge.specs.Gathered.{AreSingle}
use Rattle.trans_merge.specs.Copies.{IsCopy, TakesTurn}
use Rattle.trans_merge.specs.Halves.{operators_below, operators_of, AreCopies}
use Rattle.trans_merge.proofs.OfCost.{below_or_at, copy_has}

pub copies_none : (single : List Relation) → AreCopies single [] []
copies_none single = record { count = refl; each = λ k d lt. absurd (omega (arith, lt)) }

-- one copy more
copies_and : (single members : List Relation) (operators : List ℕ) (n : ℕ) (r q : Relation) → n < length single
    → r ≡ get_or single n r → IsCopy r q → AreCopies single operators members
    → AreCopies single (operators ++ n ∷ []) (members ++ q ∷ [])
copies_and single members operators n r q less is copy old =
    let count = old.count in
    record {
      count = (let a = length-append members (q ∷ []) in let b = length-append operators (n ∷ []) in omega (arith, a, b, count));
      each = λ k d lt. elim (below_or_at k (length operators) (let b = length-append operators (n ∷ []) in omega (arith, b, lt))) [
        | inl early ↦ (
            let at = get_or_append_left operators (n ∷ []) 0 k early in
            let there = get_or_append_left members (q ∷ []) d k (omega (arith, early, count)) in
            subst (λ (x : ℕ). IsCopy (get_or single x d) (get_or (members ++ q ∷ []) k d)) (sym at)
            (subst (λ (x : Relation). IsCopy (get_or single (get_or operators k 0) d) x) (sym there) (old.each k d early)))
        | inr e ↦ (
            let at : get_or (operators ++ n ∷ []) k 0 ≡ n = ap (λ (j : ℕ). get_or (operators ++ n ∷ []) j 0) e ∙ get_or-append_seam operators n [] 0 in
            let there : get_or (members ++ q ∷ []) k d ≡ q =
            ap (λ (j : ℕ). get_or (members ++ q ∷ []) j d) (e ∙ sym count)
            ∙ get_or-append_seam members q [] d in
            let own : r ≡ get_or single n d = is ∙ get_or_default single n r d less in
            subst (λ (x : ℕ). IsCopy (get_or single x d) (get_or (members ++ q ∷ []) k d)) (sym at)
            (subst (λ (x : Relation). IsCopy (get_or single n d) x) (sym there) (subst (λ (x : Relation). IsCopy x q) own copy)))
      ];
    }

-- one operator more
pub copies_more : (task : TaskParts) (cost n : ℕ) (single old new : List Relation) (r : Relation) → n < length single
    → r ≡ get_or single n r → TakesTurn task n cost r old new
    → AreCopies single (operators_below task cost n) old → AreCopies single (operators_below task cost (n + 1)) new
copies_more task cost n single old new r less is turn copies =
    let has : ℕ → Bool = λ op. cost_at task op == cost in
    elim turn [
      | inl (same, (q, copy, e)) ↦ subst (AreCopies single (operators_below task cost (n + 1))) (sym e)
          (subst (λ (ops : List ℕ). AreCopies single ops (old ++ q ∷ []))
          (kept_next has n (operators_below task cost n) refl (eq-eqb (cost_at task n) cost same))
          (copies_and single old (operators_below task cost n) n r q less is copy copies))
      | inr (other, e) ↦ subst (AreCopies single (operators_below task cost (n + 1))) (sym e)
          (subst (λ (ops : List ℕ). AreCopies single ops old) (left_next has n (operators_below task cost n) refl (ne_eqb (cost_at task n) cost other)) copies)
    ]

-- copies are known where the operators' own relations are
pub copies_are : (task : TaskParts) (o : Layout) (nodes : List Node) (single : List Relation) (cost : ℕ)
    (members : List Relation) → AreSingle task o nodes single → AreCopies single (operators_of task cost) members
    → All (IsRelation o nodes) members
copies_are task o nodes single cost members is copies k d lt =
    let less : k < length (operators_of task cost) = (let e = copies.count in omega (arith, e, lt)) in
    let op = get_or (operators_of task cost) k 0 in
    let there = filter_below (λ op. cost_at task op == cost) (length task.operators) 0 k 0 less in
    let copy = copy_has o nodes (λ s t. Step task s op t) (get_or single op d) (get_or members k d)
    (copies.each k d less) (is.each op d (omega (arith, there))) in
    copy.relation
