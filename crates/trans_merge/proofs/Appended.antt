-- The joined relations of one cost more.
use Rattle.std.proofs.Common.{◌≡◌, ℕ, zero, suc, ◌+◌, ◌-◌, ◌<◌, ◌≤◌, inl, inr, List, [], ◌∷◌, ◌++◌, length, get_or, take, drop, refl, sym, ◌∙◌, ap, subst, arith}
use Rattle.std.specs.List.{slice_range}
use Rattle.std.proofs.lemmas.List.{length-append, length-drop, take-append-le, drop-append-le, get_or_append_left}
use Rattle.std.proofs.lemmas.List.Elements.{All-append}
use Rattle.std.proofs.Math.Seq.{take-length, drop-append_seam, get_or-append_seam}
use Rattle.symk_task.specs.declared.parts.TaskParts.{TaskParts}
use Rattle.bdd_table.specs.declared.node.Node.{Node}
use Rattle.var_order.specs.Layout.{Layout}
use Rattle.transitions.specs.declared.relations.Relation.{Relation}
use Rattle.trans_merge.specs.Merging.{IsRelation}
use Rattle.trans_merge.specs.Steps.{StepOfCost, HaveSteps}
use Rattle.trans_merge.specs.Gathered.{AreJoined}
use Rattle.trans_merge.proofs.OfCost.{below_or_at}

-- a range of the first list, and the second list whole
range_front : {X : Type 0} (xs ys : List X) (from to : ℕ) → from ≤ to → to ≤ length xs → slice_range (xs ++ ys) from to ≡ slice_range xs from to
range_front xs ys from to up le =
    let less : from ≤ length xs = omega (arith, up, le) in
    let few : to - from ≤ length (drop from xs) = (let e = length-drop from xs in omega (arith, e, le)) in
    ap (take (to - from)) (drop-append-le from xs ys less) ∙ take-append-le (to - from) (drop from xs) ys few

range_back : {X : Type 0} (xs ys : List X) (from to : ℕ) → from ≡ length xs → to ≡ length (xs ++ ys) → slice_range (xs ++ ys) from to ≡ ys
range_back {X} xs ys from to e f =
    let count : to - from ≡ length ys = (let g = length-append xs ys in omega (arith, e, f, g)) in
    ap (λ (n : ℕ). take n (drop from (xs ++ ys))) count ∙ ap (λ (n : ℕ). take (length ys) (drop n (xs ++ ys))) e
    ∙ ap (take (length ys)) (drop-append_seam xs ys) ∙ take-length ys

-- nothing is joined yet
pub joined_none : (task : TaskParts) (o : Layout) (nodes : List Node) (costs : List ℕ) → AreJoined task o nodes costs 0 (0 ∷ []) []
joined_none task o nodes costs = record {
  count = omega arith;
  rising = λ i lt. absurd (omega (arith, lt));
  within = λ i le. at_none i;
  last = refl;
  all = λ i d lt. absurd (omega (arith, lt));
  each = λ i lt. absurd (omega (arith, lt));
}
  where
    at_none : (i : ℕ) → get_or (0 ∷ []) i 0 ≤ 0
    at_none zero = omega arith
    at_none (suc i) = omega arith

module _ (task : TaskParts) (o : Layout) (nodes : List Node) (costs : List ℕ) (n : ℕ) (starts : List ℕ) (joined part : List Relation)
    (is : AreJoined task o nodes costs n starts joined) where
  abbrev end : ℕ
  end = length (joined ++ part)

  abbrev after : List ℕ
  after = starts ++ end ∷ []

  early : (i : ℕ) → i ≤ n → get_or after i 0 ≡ get_or starts i 0
  early i le = get_or_append_left starts (end ∷ []) 0 i (let e = is.count in omega (arith, e, le))

  late : get_or after (n + 1) 0 ≡ end
  late = ap (λ (k : ℕ). get_or after k 0) (sym is.count) ∙ get_or-append_seam starts end [] 0

  longer : length joined ≤ end
  longer = (let e = length-append joined part in omega (arith, e))

  rises : (i : ℕ) → i < n + 1 → get_or after i 0 ≤ get_or after (i + 1) 0
  rises i lt = elim (below_or_at i n lt) [
    | inl less ↦ (
        let a = early i (omega (arith, less)) in
        let b = early (i + 1) (omega (arith, less)) in
        let r = is.rising i less in
        omega (arith, a, b, r))
    | inr e ↦ (
        let a = early i (omega (arith, e)) in
        let b = ap (λ (k : ℕ). get_or after (k + 1) 0) e ∙ late in
        let c = is.last in
        let d = ap (λ (k : ℕ). get_or starts k 0) e in
        let f = longer in
        omega (arith, a, b, c, d, f))
  ]

  inside : (i : ℕ) → i ≤ n + 1 → get_or after i 0 ≤ end
  inside i le = elim (below_or_at i (n + 1) (omega (arith, le))) [
    | inl less ↦ (
        let a = early i (omega (arith, less)) in
        let w = is.within i (omega (arith, less)) in
        let f = longer in
        omega (arith, a, w, f))
    | inr e ↦ (let a = ap (λ (k : ℕ). get_or after k 0) e ∙ late in omega (arith, a))
  ]

  -- what holds of the relations of each cost holds still, and of those that are added
  pub parts : (Right : ℕ → List Relation → Type 0) → ((i : ℕ) → i < n → Right i
      (slice_range joined (get_or starts i 0) (get_or starts (i + 1) 0))) → Right n part
      → (i : ℕ) → i < n + 1 → Right i (slice_range (joined ++ part) (get_or after i 0) (get_or after (i + 1) 0))
  parts Right each added i lt = elim (below_or_at i n lt) [
    | inl less ↦ (
        let a = early i (omega (arith, less)) in
        let b = early (i + 1) (omega (arith, less)) in
        let e = ap (λ (x : ℕ). slice_range (joined ++ part) x (get_or after (i + 1) 0)) a ∙ ap (slice_range (joined ++ part) (get_or starts i 0)) b
        ∙ range_front joined part (get_or starts i 0) (get_or starts (i + 1) 0) (is.rising i less) (is.within (i + 1) (omega (arith, less))) in
        subst (Right i) (sym e) (each i less))
    | inr e ↦ (
        let a = early i (omega (arith, e)) ∙ ap (λ (k : ℕ). get_or starts k 0) e ∙ is.last in
        let b = ap (λ (k : ℕ). get_or after (k + 1) 0) e ∙ late in
        subst (Right i) (sym (range_back joined part (get_or after i 0) (get_or after (i + 1) 0) a b)) (subst (λ (k : ℕ). Right k part) (sym e) added))
  ]

  -- one cost more
  pub joined_more : HaveSteps o nodes (StepOfCost task (get_or costs n 0)) part → AreJoined task o nodes costs (n + 1) after (joined ++ part)
  joined_more have = record {
    count = (let e = length-append starts (end ∷ []) in let c = is.count in omega (arith, e, c));
    rising = rises;
    within = inside;
    last = late;
    all = All-append (IsRelation o nodes) joined part is.all have.relations;
    each = parts (λ i rs. HaveSteps o nodes (StepOfCost task (get_or costs i 0)) rs) is.each have;
  }
