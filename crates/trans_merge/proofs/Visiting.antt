-- The nodes that an Id reaches, visited from the greatest down.
use Rattle.std.proofs.Common.{◌≡◌, ◌≢◌, ℕ, zero, suc, ◌+◌, ◌<◌, ◌≤◌, ◌==◌, ◌↔◌, ◌⊎◌, inl, inr, Bool, true, false, cond, ◌||◌, List, [], ◌∷◌, length, get_or, Option, Some, None, IsSome, refl, sym, ◌∙◌, ap, subst, arith, eqb, eqb-true, true≢false}
use Rattle.std.specs.List.{Contains, IsDistinct, AllByRecursion, list_any}
use Rattle.std.specs.Ordering.{nat_cmp, is_eq}
use Rattle.std.specs.declared.cmp.Ordering.TheVariants.{Less, Equal, Greater}
use Rattle.std.specs.Cmp.{nat_cmp_is}
use Rattle.std.specs.BTreeMap.{is_at}
use Rattle.std.specs.Set.{is_member}
use Rattle.std.proofs.lemmas.Bool.{eq-eqb, ne_eqb, cases_eq}
use Rattle.std.proofs.lemmas.Cmp.{nat_eq_equiv}
use Rattle.std.proofs.lemmas.List.Elements.{Contains-get_or}
use Rattle.std.proofs.lemmas.Map.Made.{is_member-Decides, length-le_from_is_member}
use Rattle.bdd_table.specs.declared.node.Node.{Node}
use Rattle.bdd_table.specs.Diagram.{at, IsReduced}
use Rattle.bdd_table.specs.Collected.{Reaches}
use Rattle.bdd_table.specs.Collected.Reaches.{root as by_root, lo as by_lo, hi as by_hi}
use Rattle.bdd_table.proofs.Canonical.{order}
use Rattle.bdd_table.proofs.Meaning.{split}
use Rattle.trans_merge.specs.Size.{HasAtMost}

-- the number is one of the list
abbrev IsIn : List ℕ → ℕ → Type 0
IsIn seen q = is_member eqb seen q ≡ true

same_number : (x y : ℕ) → ((x == y) ≡ true → x ≡ y) × (x ≡ y → (x == y) ≡ true)
same_number x y = (eqb-true x y, eq-eqb x y)

in_head : (k : ℕ) (seen : List ℕ) (q : ℕ) → q ≡ k → IsIn (k ∷ seen) q
in_head k seen q e = ap (λ (t : Bool). t || is_member eqb seen q) (eq-eqb q k e)

or_right : (x y : Bool) → y ≡ true → (x || y) ≡ true
or_right true y h = refl
or_right false y h = h

in_tail : (k : ℕ) (seen : List ℕ) (q : ℕ) → IsIn seen q → IsIn (k ∷ seen) q
in_tail k seen q h = or_right (q == k) (is_member eqb seen q) h

in_either : (k : ℕ) (seen : List ℕ) (q : ℕ) → IsIn (k ∷ seen) q → (q ≡ k) ⊎ IsIn seen q
in_either k seen q h = elim (cases_eq q k) [
  | inl e ↦ inl e
  | inr ne ↦ inr (sym (ap (λ (t : Bool). t || is_member eqb seen q) (ne_eqb q k ne)) ∙ h)
]

-- each number is below those after it
pub Climbs : List ℕ → Type 0
Climbs [] = Unit {0}
Climbs (s ∷ seen) = ((q : ℕ) → IsIn seen q → s < q) × Climbs seen

climbs_apart : (seen : List ℕ) → Climbs seen → (i j d : ℕ) → i < j → j < length seen → get_or seen i d < get_or seen j d
unfolding Climbs
climbs_apart [] c i j d less lt = absurd (omega (arith, lt))
climbs_apart (s ∷ seen) c i zero d less lt = absurd (omega (arith, less))
climbs_apart (s ∷ seen) c zero (suc j) d less lt = c.0 (get_or seen j d)
    ((is_member-Decides same_number seen (get_or seen j d)).1 (Contains-get_or seen j d (omega (arith, lt))))
climbs_apart (s ∷ seen) c (suc i) (suc j) d less lt = climbs_apart seen c.1 i j d (omega (arith, less)) (omega (arith, lt))

all_later : (s : ℕ) (seen : List ℕ) → ((q : ℕ) → IsIn seen q → s < q) → AllByRecursion (λ y. (s == y) ≡ false) seen
all_later s [] h = tt
all_later s (q ∷ seen) h = (
  ne_eqb s q (λ e. (let less = h q (in_head q seen q refl) in omega (arith, e, less))),
  all_later s seen (λ y g. h y (in_tail q seen y g)),
)

climbs_distinct : (seen : List ℕ) → Climbs seen → IsDistinct eqb seen
unfolding IsDistinct Climbs
climbs_distinct [] c = tt
climbs_distinct (s ∷ seen) c = (all_later s seen c.0, climbs_distinct seen c.1)

module _ (nodes : List Node) (root : ℕ) where
  -- the Id is a node that the root reaches
  abbrev pub IsNode : ℕ → Type 0
  IsNode q = (2 ≤ q) × (q < length nodes) × Reaches nodes (root ∷ []) q

  -- The nodes that were visited, and those that wait: the greatest of them comes next.
  pub record IsCounted (has : ℕ → Bool) (n : ℕ) (seen : List ℕ) : Type 0 where
    pub many : length seen ≡ n
    pub climbs : Climbs seen
    pub over : (q s : ℕ) → has q ≡ true → IsIn seen s → q < s
    pub waits : (q : ℕ) → has q ≡ true → IsNode q
    pub counted : (q : ℕ) → IsIn seen q → IsNode q
    pub start : 2 ≤ root → (has root ≡ true) ⊎ IsIn seen root
    pub lo : (q : ℕ) → IsIn seen q → 2 ≤ (at nodes q).lo → (has (at nodes q).lo ≡ true) ⊎ IsIn seen (at nodes q).lo
    pub hi : (q : ℕ) → IsIn seen q → 2 ≤ (at nodes q).hi → (has (at nodes q).hi ≡ true) ⊎ IsIn seen (at nodes q).hi

  -- at first the root waits
  pub counted_none : (none has : ℕ → Bool) → root < length nodes → ((q : ℕ) → none q ≡ false)
      → ((q : ℕ) → (has q ≡ true) ↔ (((q ≡ root) × (2 ≤ root)) ⊎ (none q ≡ true))) → IsCounted has 0 []
  unfolding Climbs
  counted_none none has known nil put = record {
    many = refl;
    climbs = tt;
    over = λ q s h g. absurd (true≢false (sym g));
    waits = λ q h. elim ((put q).0 h) [
      | inl x ↦ (let e = x.0 in let two = x.1 in (
        omega (arith, e, two),
        omega (arith, e, known),
        subst
            (Reaches nodes (root ∷ [])) (sym e) (by_root 0 (omega arith)),
      ))
      | inr x ↦ absurd (true≢false (sym x ∙ nil q))
    ];
    counted = λ q g. absurd (true≢false (sym g));
    start = λ two. inl ((put root).1 (inl (refl, two)));
    lo = λ q g. absurd (true≢false (sym g));
    hi = λ q g. absurd (true≢false (sym g));
  }

  module _ (reduced : IsReduced nodes) (has rest more most : ℕ → Bool) (n k : ℕ) (seen : List ℕ)
      (was : IsCounted has n seen) (member : has k ≡ true) (greatest : (q : ℕ) → has q ≡ true → q ≤ k)
      (popped : (q : ℕ) → (rest q ≡ true) ↔ ((q ≢ k) × (has q ≡ true)))
      (first : (q : ℕ) → (more q ≡ true) ↔ (((q ≡ (at nodes k).lo) × (2 ≤ (at nodes k).lo)) ⊎ (rest q ≡ true)))
      (second : (q : ℕ) → (most q ≡ true) ↔ (((q ≡ (at nodes k).hi) × (2 ≤ (at nodes k).hi)) ⊎ (more q ≡ true))) where
    node : IsNode k
    node = was.waits k member

    below_node : (q : ℕ) → most q ≡ true → (q < k) × IsNode q
    below_node q h =
        let i = reduced.inner k node.0 node.1 in
        let a = i.lo_before in
        let b = i.hi_before in
        let lt = node.1 in
        elim ((second q).0 h) [
          | inl x ↦ (let e = x.0 in let two = x.1 in (
            omega (arith, e, b),
            (
              omega (arith, e, two),
              omega (arith, e, b, lt),
              subst (Reaches nodes (root ∷ []))
                  (sym e) (by_hi k node.2),
            ),
          ))
          | inr y ↦ elim ((first q).0 y) [
            | inl x ↦ (let e = x.0 in let two = x.1 in (
              omega (arith, e, a),
              (
                omega (arith, e, two),
                omega (arith, e, a, lt),
                subst (Reaches nodes (root ∷ []))
                    (sym e) (by_lo k node.2),
              ),
            ))
            | inr z ↦ (let both = (popped q).0 z in let le = greatest q both.1 in let ne : q ≡ k → ⊥ = both.0 in (omega (arith, le, ne), was.waits q both.1))
          ]
        ]

    met : (q : ℕ) → (has q ≡ true) ⊎ IsIn seen q → (most q ≡ true) ⊎ IsIn (k ∷ seen) q
    met q h = elim h [
      | inl w ↦ elim (cases_eq q k) [
        | inl e ↦ inr (in_head k seen q e)
        | inr ne ↦ inl ((second q).1 (inr ((first q).1 (inr ((popped q).1 (ne, w))))))
      ]
      | inr s ↦ inr (in_tail k seen q s)
    ]

    pub counted_next : IsCounted most (n + 1) (k ∷ seen)
    unfolding Climbs
    counted_next = record {
      many = (let m = was.many in omega (arith, m));
      climbs = ((λ q g. was.over k q member g), was.climbs);
      over = λ q s h g. (let less = (below_node q h).0 in elim (in_either k seen s g) [
        | inl e ↦ omega (arith, e, less)
        | inr x ↦ (let up = was.over k s member x in omega (arith, up, less))
      ]);
      waits = λ q h. (below_node q h).1;
      counted = λ q g. elim (in_either k seen q g) [
        | inl e ↦ subst IsNode (sym e) node
        | inr x ↦ was.counted q x
      ];
      start = λ two. met root (was.start two);
      lo = λ q g two. elim (in_either k seen q g) [
        | inl e ↦ inl ((second (at nodes q).lo).1
            (inr ((first (at nodes q).lo).1
            (inl (ap (λ (x : ℕ). (at nodes x).lo) e, subst (λ (x : ℕ). 2 ≤ (at nodes x).lo) e two)))))
        | inr x ↦ met (at nodes q).lo (was.lo q x two)
      ];
      hi = λ q g two. elim (in_either k seen q g) [
        | inl e ↦ inl ((second (at nodes q).hi).1 (inl (ap (λ (x : ℕ). (at nodes x).hi) e, subst (λ (x : ℕ). 2 ≤ (at nodes x).hi) e two)))
        | inr x ↦ met (at nodes q).hi (was.hi q x two)
      ];
    }

  module _ (reduced : IsReduced nodes) (has : ℕ → Bool) (n : ℕ) (seen : List ℕ) (is : IsCounted has n seen) where
    -- where none waits, all were visited
    module _ (none : (q : ℕ) → has q ≡ true → ⊥) where
      settled : (q : ℕ) → (has q ≡ true) ⊎ IsIn seen q → IsIn seen q
      settled q h = elim h [ inl w ↦ absurd (none q w) | inr s ↦ s ]

      parent : (id : ℕ) → 2 ≤ (at nodes id).lo ⊎ 2 ≤ (at nodes id).hi → 2 ≤ id
      parent id h = elim (split id) [
        | inl z ↦ (
            let n = ap (at nodes) z ∙ reduced.of_false in
            let a = ap (λ (x : Node). x.lo) n in
            let b = ap (λ (x : Node). x.hi) n in
            elim h [ inl t ↦ absurd (omega (arith, a, t)) | inr t ↦ absurd (omega (arith, b, t)) ])
        | inr (inl z) ↦ (
            let n = ap (at nodes) z ∙ reduced.of_true in
            let a = ap (λ (x : Node). x.lo) n in
            let b = ap (λ (x : Node). x.hi) n in
            elim h [ inl t ↦ absurd (omega (arith, a, t)) | inr t ↦ absurd (omega (arith, b, t)) ])
        | inr (inr two) ↦ two
      ]

      all_seen : (id : ℕ) → Reaches nodes (root ∷ []) id → 2 ≤ id → IsIn seen id
      all_seen _ (by_root zero h) two = settled root (is.start two)
      all_seen _ (by_root (suc i) h) two = absurd (omega (arith, h))
      all_seen _ (by_lo id r) two = settled (at nodes id).lo (is.lo id (all_seen id r (parent id (inl two))) two)
      all_seen _ (by_hi id r) two = settled (at nodes id).hi (is.hi id (all_seen id r (parent id (inr two))) two)

      pub all_counted : (bound : ℕ) → n ≤ bound → HasAtMost nodes root bound
      all_counted bound le = (
        seen,
        record {
          once = λ i j d less lt e. (let a = climbs_apart seen is.climbs i j d less lt in omega (arith, a, e));
          each = λ id two r. (is_member-Decides same_number seen id).0 (all_seen id r two);
          only = λ i d lt. (let w = is.counted (get_or seen i d)
              ((is_member-Decides same_number seen (get_or seen i d)).1
              (Contains-get_or seen i d lt)) in (w.0, w.2));
        },
        (let m = is.many in omega (arith, m, le)),
      )

    -- where one waits, there are more
    pub one_more : (k bound : ℕ) → has k ≡ true → bound ≤ n → HasAtMost nodes root bound → ⊥
    unfolding Climbs
    one_more k bound h le (ids, reached, few) =
        let all = length-le_from_is_member nat_eq_equiv (k ∷ seen) ids (climbs_distinct (k ∷ seen) ((λ q g. is.over k q h g), is.climbs))
        (λ q g. (is_member-Decides same_number ids q).1 (elim (in_either k seen q g) [
          | inl e ↦ (let w = is.waits k h in subst (Contains ids) (sym e) (reached.each k w.0 w.2))
          | inr s ↦ (let w = is.counted q s in reached.each q w.0 w.2)
        ])) in
        let m = is.many in
        omega (arith, all, m, few, le)

-- a number is equal to itself, in the order of a set
same_at : (k : ℕ) → is_eq (nat_cmp k k) ≡ true
same_at k = sym (ap is_eq (nat_cmp_is k k Equal refl))

differ_at : (k q : ℕ) → (k ≡ q → ⊥) → is_eq (nat_cmp k q) ≡ false
differ_at k q ne = elim (order k q) [
  | inl lt ↦ sym (ap is_eq (nat_cmp_is k q Less lt))
  | inr (inl e) ↦ absurd (ne e)
  | inr (inr gt) ↦ sym (ap is_eq (nat_cmp_is k q Greater gt))
]

-- what a set has
abbrev pub in_keys : List ℕ → ℕ → Bool
in_keys keys q = list_any (is_at (nat_cmp q)) keys

pub pop_law : (k q : ℕ) (old new : Bool) → new ≡ cond (is_eq (nat_cmp k q)) false old → (new ≡ true) ↔ ((q ≢ k) × (old ≡ true))
pop_law k q old new is = elim (cases_eq k q) [
  | inl e ↦ (
      let none : new ≡ false = is ∙ ap (λ (t : Bool). cond t false old) (ap (λ (x : ℕ). is_eq (nat_cmp k x)) (sym e) ∙ same_at k) in
      ((λ h. absurd (true≢false (sym h ∙ none))), (λ h. absurd (h.0 (sym e)))))
  | inr ne ↦ (
      let rest : new ≡ old = is ∙ ap (λ (t : Bool). cond t false old) (differ_at k q ne) in
      ((λ h. ((λ e. ne (sym e)), sym rest ∙ h)), (λ h. rest ∙ h.1)))
]

no_keys : (keys : List ℕ) → length keys ≡ 0 → (q : ℕ) → in_keys keys q ≡ true → ⊥
no_keys [] e q h = true≢false (sym h)
no_keys (k ∷ keys) e q h = omega (arith, e)

some_key : (keys : List ℕ) → (length keys ≡ 0 → ⊥) → (k : ℕ) × (in_keys keys k ≡ true)
some_key [] h = absurd (h refl)
some_key (k ∷ keys) h = (k, ap (λ (t : Bool). t || in_keys keys k) (same_at k))

empty_or : (r : Bool) (keys : List ℕ) → (r ≡ true) ↔ (length keys ≡ 0) → (length keys ≡ 0) ⊎ (length keys ≡ 0 → ⊥)
empty_or true keys is = inl (is.0 refl)
empty_or false keys is = inr (λ e. true≢false (sym (is.1 e)))

-- after as many visits as the bound, the Id reaches no more exactly where none waits
pub at_the_bound : (nodes : List Node) (root bound : ℕ) (seen keys : List ℕ) (r : Bool) → IsReduced nodes
    → IsCounted nodes root (in_keys keys) bound seen → (r ≡ true) ↔ (length keys ≡ 0) → (r ≡ true)
    ↔ HasAtMost nodes root bound
at_the_bound nodes root bound seen keys r reduced is empty = (
  (λ h. all_counted nodes root reduced (in_keys keys) bound seen is (no_keys keys (empty.0 h)) bound (omega arith)),
  (λ few. elim (empty_or r keys empty) [
    | inl e ↦ empty.1 e
    | inr ne ↦ (let k = some_key keys ne in absurd (one_more nodes root reduced (in_keys keys) bound seen is k.0 bound k.1 (omega arith) few))
  ]),
)

pub before_the_bound : (nodes : List Node) (root n bound : ℕ) (seen keys : List ℕ) → IsReduced nodes
    → IsCounted nodes root (in_keys keys) n seen → length keys ≡ 0 → n ≤ bound → HasAtMost nodes root bound
before_the_bound nodes root n bound seen keys reduced is none le = all_counted nodes root reduced (in_keys keys) n seen is (no_keys keys none) bound le

-- nothing is left where nothing came
pub none_left : (r : Option ℕ) (n : ℕ) → ((x : ℕ) → r ≡ Some x → ⊥) → IsSome r ↔ (0 < n) → n ≡ 0
none_left r zero none is = refl
none_left None (suc n) none is = absurd (true≢false (sym (is.1 (omega arith))))
none_left (Some x) (suc n) none is = absurd (none x refl)
