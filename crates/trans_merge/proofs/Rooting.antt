-- The roots of relations, put into a list and taken from it.
use Rattle.std.proofs.Common.{◌≡◌, ℕ, zero, suc, ◌+◌, ◌-◌, ◌<◌, ◌≤◌, List, [], ◌∷◌, ◌++◌, length, get_or, take, drop, Result, Ok, Err, OnErr, refl, sym, ◌∙◌, ap, subst, arith}
use Rattle.std.specs.List.{All, slice_range}
use Rattle.std.proofs.lemmas.List.{length-append, length-drop, get_or_append_left, get_or-append-add, get_or-drop, drop-drop, map-append, append_assoc, take-append-drop}
use Rattle.std.proofs.lemmas.List.Elements.{All-append}
use Rattle.std.proofs.Math.Seq.{take-add}
use Rattle.symk_task.specs.declared.parts.TaskParts.{TaskParts}
use Rattle.bdd_table.specs.declared.node.Node.{Node}
use Rattle.bdd_table.specs.Collected.{IsMoved as IsMovedTo}
use Rattle.var_order.specs.Layout.{Layout}
use Rattle.transitions.specs.declared.relations.Relation.{Relation}
use Rattle.trans_merge.specs.Merging.{IsRelation}
use Rattle.trans_merge.specs.declared.relations.OperatorRelations.{OperatorRelations}
use Rattle.trans_merge.specs.Relations.{AreRelationsOf}
use Rattle.trans_merge.specs.Roots.{roots_in, roots_of, with_new_root, IsPushedInPart, AreMovedTo}
use Rattle.trans_merge.proofs.Moving.{AllMoved}
use Rattle.trans_merge.proofs.Kept.{with_relations, relations_moved, single_relations}

length_roots : (rs : List Relation) → length (roots_in rs) ≡ length rs
length_roots [] = refl
length_roots (r ∷ rs) = ap suc (length_roots rs)

-- all roots are known
known_in : (o : Layout) (nodes : List Node) (rs : List Relation) → All (IsRelation o nodes) rs → All (λ id. id < length nodes) (roots_in rs)
known_in o nodes [] all i d lt = absurd (omega (arith, lt))
known_in o nodes (r ∷ rs) all zero d lt = (let is = all 0 r (omega arith) in is.known)
known_in o nodes (r ∷ rs) all (suc i) d lt = known_in o nodes rs (λ j e less. all (suc j) e (omega (arith, less))) i d (omega (arith, lt))

pub known_roots : (task : TaskParts) (o : Layout) (nodes : List Node) (r : OperatorRelations)
    → AreRelationsOf task o nodes r → All (λ id. id < length nodes) (roots_of r)
known_roots task o nodes r is = All-append (λ id. id < length nodes) (roots_in r.single.items) (roots_in r.joined.items)
    (known_in o nodes r.single.items (single_relations task o nodes nodes r.single.items is.single)) (known_in o nodes r.joined.items is.joined.all)

-- what stands after a refusal
pub on_err : {T E : Type 0} (r : Result T E) (P : Type 0) → P → OnErr r P
on_err (Ok x) P p = tt
on_err (Err e) P p = p

pub on_err_by : {T E : Type 0} (r : Result T E) (P Q : Type 0) → OnErr r P → (P → Q) → OnErr r Q
on_err_by (Ok x) P Q p f = tt
on_err_by (Err e) P Q p f = f p

pub pushed_part : (rs : List Relation) (i : ℕ) (old now new : List ℕ) → new ≡ now → now ≡ old ++ roots_in (take i rs) → IsPushedInPart (roots_in rs) old new
pushed_part rs i old now new e f = (
  roots_in (take i rs),
  roots_in (drop i rs),
  ap roots_in (sym (take-append-drop i rs)) ∙ map-append (λ (r : Relation). r.root) (take i rs) (drop i rs),
  e ∙ f,
)

pub pushed_first : (r : OperatorRelations) (rs : List Relation) (old new : List ℕ) → rs ≡ r.single.items
    → IsPushedInPart (roots_in rs) old new → IsPushedInPart (roots_of r) old new
pushed_first r rs old new e (front, rest, whole, is) = (
  front,
  rest ++ roots_in r.joined.items,
  ap (λ (xs : List ℕ). xs ++ roots_in r.joined.items) (ap roots_in (sym e) ∙ whole) ∙ append_assoc front rest (roots_in r.joined.items),
  is,
)

pub pushed_second : (r : OperatorRelations) (rs ss : List Relation) (old now new : List ℕ) → rs ≡ r.single.items
    → ss ≡ r.joined.items → now ≡ old ++ roots_in rs → IsPushedInPart (roots_in ss) now new
    → IsPushedInPart (roots_of r) old new
pushed_second r rs ss old now new e f made (front, rest, whole, is) = (
  roots_in r.single.items ++ front,
  rest,
  ap (λ (xs : List ℕ). roots_in r.single.items ++ xs) (ap roots_in (sym f) ∙ whole) ∙ sym (append_assoc (roots_in r.single.items) front rest),
  is ∙ ap (λ (xs : List ℕ). xs ++ front) (made ∙ ap (λ (xs : List Relation). old ++ roots_in xs) e) ∙ append_assoc old (roots_in r.single.items) front,
)

-- the relations have the roots of the list
abbrev pub Given : List Relation → List Relation → (ℕ → ℕ) → Type 0
Given rs qs x = (i : ℕ) (d : Relation) → i < length rs → get_or qs i d ≡ with_new_root (get_or rs i d) (x i)

given_roots : (rs qs : List Relation) (ys : List ℕ) → length qs ≡ length rs → length rs ≤ length ys
    → Given rs qs (λ i. get_or ys i 0) → roots_in qs ≡ take (length rs) ys
given_roots [] [] ys e le each = refl
given_roots [] (q ∷ qs) ys e le each = absurd (omega (arith, e))
given_roots (r ∷ rs) [] ys e le each = absurd (omega (arith, e))
given_roots (r ∷ rs) (q ∷ qs) [] e le each = absurd (omega (arith, le))
given_roots (r ∷ rs) (q ∷ qs) (y ∷ ys) e le each =
    let first : q.root ≡ y = ap (λ (x : Relation). x.root) (each 0 r (omega arith)) in
    let rest = given_roots rs qs ys (omega (arith, e)) (omega (arith, le)) (λ i d lt. each (suc i) d (omega (arith, lt))) in
    λ i. first i ∷ rest i

given_range : (rs qs : List Relation) (places : List ℕ) (from : ℕ) → length qs ≡ length rs
    → from + length rs ≤ length places → Given rs qs (λ i. get_or places (from + i) 0)
    → roots_in qs ≡ take (length rs) (drop from places)
given_range rs qs places from e le each = given_roots rs qs (drop from places) e (let l = length-drop from places in omega (arith, l, le))
    (λ i d lt. each i d lt ∙ ap (λ (x : ℕ). with_new_root (get_or rs i d) x) (sym (get_or-drop from places i 0)))

module _ (old new : List Node) where
  given_moved : (rs qs : List Relation) (x : ℕ → ℕ) → length qs ≡ length rs → Given rs qs x
      → ((i : ℕ) → i < length rs → IsMovedTo old new (get_or (roots_in rs) i 0) (x i)) → AllMoved old new rs qs
  given_moved [] [] x e each moved = tt
  given_moved [] (q ∷ qs) x e each moved = absurd (omega (arith, e))
  given_moved (r ∷ rs) [] x e each moved = absurd (omega (arith, e))
  given_moved (r ∷ rs) (q ∷ qs) x e each moved =
      let m = moved 0 (omega arith) in (
        (x 0, each 0 r (omega arith), record { known = m.known; meaning = m.meaning }),
        given_moved rs qs (λ i. x (suc i)) (omega (arith, e)) (λ i d lt. each (suc i) d (omega (arith, lt))) (λ i lt. moved (suc i) (omega (arith, lt))),
      )

  module _ (rs ss : List Relation) (places : List ℕ) (from : ℕ) (all : AreMovedTo old new (roots_in rs ++ roots_in ss) places from) where
    count : length (roots_in rs ++ roots_in ss) ≡ length rs + length ss
    count = (let a = length-append (roots_in rs) (roots_in ss) in let b = length_roots rs in let c = length_roots ss in omega (arith, a, b, c))

    first : (i : ℕ) → i < length rs → IsMovedTo old new (get_or (roots_in rs) i 0) (get_or places (from + i) 0)
    first i lt =
        let e = get_or_append_left (roots_in rs) (roots_in ss) 0 i (let b = length_roots rs in omega (arith, b, lt)) in
        subst (λ (id : ℕ). IsMovedTo old new id (get_or places (from + i) 0)) e (all i (let c = count in omega (arith, c, lt)))

    second : (at i : ℕ) → at ≡ from + length rs → i < length ss → IsMovedTo old new (get_or (roots_in ss) i 0) (get_or places (at + i) 0)
    second at i same lt =
        let b = length_roots rs in
        let e = get_or-append-add (roots_in rs) (roots_in ss) i 0 in
        let f : from + (length (roots_in rs) + i) ≡ at + i = omega (arith, b, same) in
        subst (λ (k : ℕ). IsMovedTo old new (get_or (roots_in ss) i 0) (get_or places k 0)) f
        (subst (λ (id : ℕ). IsMovedTo old new id (get_or places (from + (length (roots_in rs) + i)) 0)) e
        (all (length (roots_in rs) + i) (let c = count in omega (arith, c, b, lt))))

-- What two calls did: the first gave the operators' own relations their roots, the second the joined ones.
pub record AreTaken (r q : OperatorRelations) (places : List ℕ) (from at : ℕ) : Type 0 where
  pub same : at ≡ from + length r.single.items
  pub single_count : length q.single.items ≡ length r.single.items
  pub joined_count : length q.joined.items ≡ length r.joined.items
  pub single : Given r.single.items q.single.items (λ i. get_or places (from + i) 0)
  pub joined : Given r.joined.items q.joined.items (λ i. get_or places (at + i) 0)

pub given_at : (rs qs xs zs : List Relation) (x : ℕ → ℕ) → xs ≡ rs → qs ≡ zs → Given xs zs x → Given rs qs x
given_at rs qs xs zs x e f h = subst (λ (ws : List Relation). Given rs ws x) (sym f) (subst (λ (ys : List Relation). Given ys zs x) e h)

pub taken_moved : {task : TaskParts} {o : Layout} {old : List Node} {r q : OperatorRelations} {places : List ℕ}
    {from at : ℕ} (new : List Node) → AreTaken r q places from at → AreRelationsOf task o old r
    → AreMovedTo old new (roots_of r) places from
    → AreRelationsOf task o new (with_relations r q)
taken_moved {task} {o} {old} {r} {q} {places} {from} {at} new taken is moved = relations_moved task o old new r q
    (given_moved old new r.single.items q.single.items (λ i. get_or places (from + i) 0) taken.single_count
    taken.single (first old new r.single.items r.joined.items places from moved))
    (given_moved old new r.joined.items q.joined.items (λ i. get_or places (at + i) 0) taken.joined_count taken.joined
    (λ i lt. second old new r.single.items r.joined.items places from moved at i taken.same lt))
    is

pub taken_roots : (r q : OperatorRelations) (places : List ℕ) (from at : ℕ) → AreTaken r q places from at
    → from + length (roots_of r) ≤ length places → roots_of q ≡ slice_range places from (from + length (roots_of r))
taken_roots r q places from at taken le =
    let a = length-append (roots_in r.single.items) (roots_in r.joined.items) in
    let b = length_roots r.single.items in
    let c = length_roots r.joined.items in
    let same = taken.same in
    let first = given_range r.single.items q.single.items places from taken.single_count (omega (arith, a, b, le)) taken.single in
    let second = given_range r.joined.items q.joined.items places at taken.joined_count (omega (arith, a, b, c, le, same)) taken.joined in
    let behind : drop at places ≡ drop (length r.single.items) (drop from places) = ap (λ (n : ℕ). drop n places) same
    ∙ sym (drop-drop (length r.single.items) from places) in
    let number : length r.single.items + length r.joined.items ≡ from + length (roots_of r) - from = omega (arith, a, b, c) in
    ap (λ (xs : List ℕ). xs ++ roots_in q.joined.items) first
    ∙ ap (λ (xs : List ℕ). take (length r.single.items) (drop from places) ++ xs)
    (second ∙ ap (take (length r.joined.items)) behind)
    ∙ sym (take-add (length r.single.items) (length r.joined.items) (drop from places)) ∙ ap (λ (n : ℕ). take n (drop from places)) number
