-- Relations whose roots are moved are the relations that they were.
use Rattle.std.proofs.Common.{◌≡◌, ℕ, zero, suc, ◌-◌, ◌<◌, ◌↔◌, inl, inr, List, [], ◌∷◌, length, get_or, take, drop, refl, sym, ◌∙◌, ap, subst, arith}
use Rattle.std.specs.List.{All, slice_range}
use Rattle.bdd_table.specs.declared.node.Node.{Node}
use Rattle.bdd_table.specs.Diagram.{Bits, means, Keeps}
use Rattle.var_order.specs.Layout.{Layout}
use Rattle.transitions.specs.declared.relations.Relation.{Relation}
use Rattle.transitions.proofs.Using.{steps_alike}
use Rattle.trans_merge.specs.Merging.{IsRelation, LeadsByRelation, SomeLeads}
use Rattle.trans_merge.specs.Steps.{HasSteps, HaveSteps}

-- the relation with another root
abbrev pub rerooted : Relation → ℕ → Relation
rerooted r x = record r { root = x }

-- the Id is known to the new table, and means there what the other one meant
pub record Moves (old new : List Node) (id x : ℕ) : Type 0 where
  pub known : x < length new
  pub meaning : (b : Bits) → means new x b ≡ means old id b

-- the relation is the other one with its root moved
abbrev pub IsMoved : List Node → List Node → Relation → Relation → Type 0
IsMoved old new r q = (x : ℕ) × (q ≡ rerooted r x) × Moves old new r.root x

-- so are those of a list
abbrev pub AllMoved : List Node → List Node → List Relation → List Relation → Type 0
AllMoved old new [] [] = Unit {0}
AllMoved old new [] (q ∷ qs) = ⊥
AllMoved old new (r ∷ rs) [] = ⊥
AllMoved old new (r ∷ rs) (q ∷ qs) = IsMoved old new r q × AllMoved old new rs qs

module _ (old new : List Node) where
  pub moved_length : (rs qs : List Relation) → AllMoved old new rs qs → length qs ≡ length rs
  moved_length [] [] h = refl
  moved_length [] (q ∷ qs) h = absurd h
  moved_length (r ∷ rs) [] h = absurd h
  moved_length (r ∷ rs) (q ∷ qs) h = ap suc (moved_length rs qs h.1)

  pub moved_at : (rs qs : List Relation) (i : ℕ) (d e : Relation) → AllMoved old new rs qs → i < length rs → IsMoved old new (get_or rs i d) (get_or qs i e)
  moved_at [] qs i d e h lt = absurd (omega (arith, lt))
  moved_at (r ∷ rs) [] i d e h lt = absurd h
  moved_at (r ∷ rs) (q ∷ qs) zero d e h lt = h.0
  moved_at (r ∷ rs) (q ∷ qs) (suc i) d e h lt = moved_at rs qs i d e h.1 (omega (arith, lt))

  moved_take : (n : ℕ) (rs qs : List Relation) → AllMoved old new rs qs → AllMoved old new (take n rs) (take n qs)
  moved_take zero rs qs h = tt
  moved_take (suc n) [] [] h = tt
  moved_take (suc n) [] (q ∷ qs) h = absurd h
  moved_take (suc n) (r ∷ rs) [] h = absurd h
  moved_take (suc n) (r ∷ rs) (q ∷ qs) h = (h.0, moved_take n rs qs h.1)

  moved_drop : (n : ℕ) (rs qs : List Relation) → AllMoved old new rs qs → AllMoved old new (drop n rs) (drop n qs)
  moved_drop zero rs qs h = h
  moved_drop (suc n) [] [] h = tt
  moved_drop (suc n) [] (q ∷ qs) h = absurd h
  moved_drop (suc n) (r ∷ rs) [] h = absurd h
  moved_drop (suc n) (r ∷ rs) (q ∷ qs) h = moved_drop n rs qs h.1

  pub moved_range : (from to : ℕ) (rs qs : List Relation) → AllMoved old new rs qs → AllMoved old new (slice_range rs from to) (slice_range qs from to)
  moved_range from to rs qs h = moved_take (to - from) (drop from rs) (drop from qs) (moved_drop from rs qs h)

  module _ (o : Layout) where
    relation_moved : (r q : Relation) → IsMoved old new r q → IsRelation o old r → IsRelation o new q
    relation_moved r q (x, e, m) is = subst (IsRelation o new) (sym e) (record {
      known = m.known;
      ready = record { small = is.ready.small; levels = is.ready.levels };
      steps = steps_alike o r.touched.items (means old r.root) (means new x) m.meaning is.steps;
    })

    leads_moved : (r q : Relation) (s t : List ℕ) → IsMoved old new r q → LeadsByRelation o new s t q ↔ LeadsByRelation o old s t r
    leads_moved r q s t (x, e, m) = subst (λ (z : Relation). LeadsByRelation o new s t z ↔ LeadsByRelation o old s t r) (sym e)
        ((λ (b, code, next, h). (b, code, next, sym (m.meaning b) ∙ h)), (λ (b, code, next, h). (b, code, next, m.meaning b ∙ h)))

    pub all_moved : (rs qs : List Relation) → AllMoved old new rs qs → All (IsRelation o old) rs → All (IsRelation o new) qs
    all_moved rs qs h all i d lt =
        let same = moved_length rs qs h in
        let less : i < length rs = omega (arith, same, lt) in
        relation_moved (get_or rs i d) (get_or qs i d) (moved_at rs qs i d d h less) (all i d less)

    some_moved : (rs qs : List Relation) (s t : List ℕ) → AllMoved old new rs qs → SomeLeads o new s t qs ↔ SomeLeads o old s t rs
    some_moved [] [] s t h = ((λ x. x), (λ x. x))
    some_moved [] (q ∷ qs) s t h = absurd h
    some_moved (r ∷ rs) [] s t h = absurd h
    some_moved (r ∷ rs) (q ∷ qs) s t h =
        let one = leads_moved r q s t h.0 in
        let rest = some_moved rs qs s t h.1 in (
          (λ x. elim x [ inl a ↦ inl (one.0 a) | inr b ↦ inr (rest.0 b) ]),
          (λ x. elim x [ inl a ↦ inl (one.1 a) | inr b ↦ inr (rest.1 b) ]),
        )

    pub has_moved : (R : List ℕ → List ℕ → Type 0) (r q : Relation) → IsMoved old new r q → HasSteps o old R r → HasSteps o new R q
    has_moved R r q m is = record {
      relation = relation_moved r q m is.relation;
      leads = λ s t ss st. (let same = leads_moved r q s t m in let was = is.leads s t ss st in ((λ h. was.0 (same.0 h)), (λ h. same.1 (was.1 h))));
    }

    pub have_moved : (R : List ℕ → List ℕ → Type 0) (rs qs : List Relation) → AllMoved old new rs qs → HaveSteps o old R rs → HaveSteps o new R qs
    have_moved R rs qs m is = record {
      relations = all_moved rs qs m is.relations;
      leads = λ s t ss st. (let same = some_moved rs qs s t m in let was = is.leads s t ss st in ((λ h. was.0 (same.0 h)), (λ h. same.1 (was.1 h))));
    }

    -- tables that keep what was known
    pub kept_moved : (rs : List Relation) → Keeps old new → All (IsRelation o old) rs → AllMoved old new rs rs
    kept_moved [] k all = tt
    kept_moved (r ∷ rs) k all = (
      (
        r.root,
        refl,
        record {
          known = (let a = k.known in let is = all 0 r (omega arith) in let c = is.known in omega
              (arith, a, c));
          meaning = λ b. (let is = all 0 r (omega arith) in k.meaning r.root b is.known);
        },
      ),
      kept_moved rs k (λ i d lt. all (suc i) d (omega (arith, lt))),
    )

    pub has_kept : (R : List ℕ → List ℕ → Type 0) (r : Relation) → Keeps old new → HasSteps o old R r → HasSteps o new R r
    has_kept R r k is = has_moved R r r (
      r.root,
      refl,
      record {
        known = (let a = k.known in let c = is.relation.known in omega (arith, a, c));
        meaning =
            λ b. k.meaning r.root b is.relation.known;
      },
    ) is
