-- Which operators are noted for a variable, effect by effect, and which of them touch a group.
use Rattle.std.proofs.Common.{◌≡◌, ℕ, ◌+◌, ◌<◌, ◌≤◌, ◌⊎◌, ◌↔◌, inl, inr, Bool, true, cond, IsTrue, List, [], ◌∷◌, ◌++◌, length, get_or, take, Some, None, slice_get, refl, sym, ◌∙◌, ap, subst, arith}
use Rattle.std.proofs.Math.ListN.{set, replicate}
use Rattle.std.specs.List.{Contains, All}
use Rattle.std.specs.Ordering.{nat_cmp, is_eq}
use Rattle.std.specs.declared.cmp.Ordering.{Ordering}
use Rattle.std.specs.declared.cmp.Ordering.TheVariants.{Less, Equal, Greater}
use Rattle.std.specs.Cmp.{nat_cmp_is}
use Rattle.std.specs.BTreeSet.{BTreeSet, contains}
use Rattle.std.proofs.lemmas.Bool.{cases_eq}
use Rattle.std.proofs.lemmas.Cmp.{nat_cmp_total}
use Rattle.std.proofs.lemmas.List.{take_all, length-set, length-replicate, get_or-set_same, get_or-set_other, get_or_default, get_or_past, get_or-replicate}
use Rattle.std.proofs.lemmas.List.Elements.{Contains-append_left, Contains-push, Contains-push_cases}
use Rattle.std.proofs.lemmas.Map.Lookups.{exact_unsigned, CmpEqualImpliesEq}
use Rattle.std.proofs.lemmas.Map.Views.{btree_set_contains_iff}
use Rattle.symk_task.specs.declared.parts.Fact.{Fact}
use Rattle.symk_task.specs.declared.parts.Effect.{Effect}
use Rattle.symk_task.specs.declared.parts.Operator.{Operator}
use Rattle.symk_task.specs.declared.parts.TaskParts.{TaskParts}
use Rattle.symk_task.specs.declared.parts.Variable.{Variable}
use Rattle.symk_task.specs.Fits.{Fits}
use Rattle.symk_task.specs.Variables.{range}
use Rattle.symk_task.proofs.Running.{fits_operator}
use Rattle.symk_task.proofs.Places.{within_some}
use Rattle.mutex_use.specs.Writers.{writers_at, WritesVariable, AreWriters, NotesWriter, HaveTouching}
use Rattle.mutex_use.proofs.Lists.{more, none, whole}

-- A key more.

pub insert_law : {K : Type 0} (R : K → K → Ordering) (k q : K) (old new : Bool) → CmpEqualImpliesEq R → R k k ≡ Equal
    → new ≡ cond (is_eq (R k q)) true old → IsTrue new ↔ (IsTrue old ⊎ (k ≡ q))
insert_law R k q old new exact same is = go (R k q) refl is
  where
    go : (o : Ordering) → R k q ≡ o → new ≡ cond (is_eq o) true old → IsTrue new ↔ (IsTrue old ⊎ (k ≡ q))
    go Equal e n = ((λ h. inr (exact k q e)), (λ h. n))
    go Less e n = (
      (λ h. inl (sym n ∙ h)),
      (λ h. elim h [
        | inl o ↦ n ∙ o
        | inr s ↦ (let f : R k q ≡ Equal = subst (λ (z : _). R k z ≡ Equal) s
            same in absurd (cc))
      ]),
    )
    go Greater e n = (
      (λ h. inl (sym n ∙ h)),
      (λ h. elim h [
        | inl o ↦ n ∙ o
        | inr s ↦ (let f : R k q ≡ Equal = subst (λ (z : _). R k z ≡ Equal) s
            same in absurd (cc))
      ]),
    )

same_number : (n : ℕ) → nat_cmp n n ≡ Equal
same_number n = sym (nat_cmp_is n n Equal refl)

pub number_law : (k q : ℕ) (old new : Bool) → new ≡ cond (is_eq (nat_cmp k q)) true old → IsTrue new ↔ (IsTrue old ⊎ (k ≡ q))
number_law k q old new is = insert_law nat_cmp k q old new exact_unsigned (same_number k) is

-- the numbers so far are in the set, and one more
pub inserted_next : (numbers : List ℕ) (i x n : ℕ) (was old new : Bool) → i < length numbers → get_or numbers i x ≡ x
    → new ≡ cond (is_eq (nat_cmp x n)) true old
    → IsTrue old ↔ (IsTrue was ⊎ Contains (take i numbers) n) → IsTrue new ↔ (IsTrue was ⊎ Contains (take (i + 1) numbers) n)
inserted_next numbers i x n was old new lt is step h =
    let law = number_law x n old new step in
    let grows = more numbers i x n lt is in (
      (λ a. elim (law.0 a) [ inl o ↦ elim (h.0 o) [ inl w ↦ inl w | inr k ↦ inr (grows.1 (inl k)) ] | inr e ↦ inr (grows.1 (inr e)) ]),
      (λ a. law.1 (elim a [ inl w ↦ inl (h.1 (inl w)) | inr k ↦ elim (grows.0 k) [ inl m ↦ inl (h.1 (inr m)) | inr e ↦ inr e ] ])),
    )

-- so the variables of the facts
pub variable_next : (facts : List Fact) (i : ℕ) (f : Fact) (var : ℕ) (old new : Bool) → i < length facts
    → get_or facts i f ≡ f → new ≡ cond (is_eq (nat_cmp f.var var)) true old
    → IsTrue old ↔ ((fact : Fact) × Contains (take i facts) fact × (fact.var ≡ var)) → IsTrue new
    ↔ ((fact : Fact) × Contains (take (i + 1) facts) fact × (fact.var ≡ var))
variable_next facts i f var old new lt is step h =
    let law = number_law f.var var old new step in (
      (λ a. elim (law.0 a) [
        | inl o ↦ (let k = h.0 o in (k.0, (more facts i f k.0 lt is).1 (inl k.1), k.2))
        | inr
            e ↦ (f, (more facts i f f lt is).1 (inr refl), e)
      ]),
      (λ (fact, has, e). law.1 (elim ((more facts i f fact lt is).0 has) [ inl k ↦ inl (h.1 (fact, k, e)) | inr s ↦ inr (ap (λ (z : Fact). z.var) s ∙ e) ])),
    )

-- An operator is noted for a variable.

at_set : (w : List (List ℕ)) (u var : ℕ) (xs : List ℕ) → u < length w → (var ≡ u) × (writers_at (set w u xs) var ≡ xs)
    ⊎ (writers_at (set w u xs) var ≡ writers_at w var)
at_set w u var xs lt = elim (cases_eq var u) [
  | inl e ↦ inl (e, subst (λ (z : ℕ). get_or (set w u xs) z [] ≡ xs) (sym e) (get_or-set_same w u xs [] lt))
  | inr ne ↦ inr (get_or-set_other w u var xs [] ne)
]

module _ (w : List (List ℕ)) (u op : ℕ) (lt : u < length w) where
  kept_at : (var x : ℕ) → Contains (writers_at w var) x → Contains (writers_at (set w u (writers_at w u ++ op ∷ [])) var) x
  kept_at var x h = elim (at_set w u var (writers_at w u ++ op ∷ []) lt) [
    | inl k ↦ subst (λ (z : List ℕ). Contains z x) (sym k.1)
        (Contains-append_left (writers_at w u) (op ∷ []) x (subst (λ (z : ℕ). Contains (writers_at w z) x) k.0 h))
    | inr e ↦ subst (λ (z : List ℕ). Contains z x) (sym e) h
  ]

  noted_at : Contains (writers_at (set w u (writers_at w u ++ op ∷ [])) u) op
  noted_at = subst (λ (z : List ℕ). Contains z op) (sym (get_or-set_same w u (writers_at w u ++ op ∷ []) [] lt)) (Contains-push (writers_at w u) op)

  only_at : (var x : ℕ) → Contains (writers_at (set w u (writers_at w u ++ op ∷ [])) var) x → Contains (writers_at w var) x ⊎ (x ≡ op)
  only_at var x h = elim (at_set w u var (writers_at w u ++ op ∷ []) lt) [
    | inl k ↦ elim (Contains-push_cases (writers_at w u) op x (subst (λ (z : List ℕ). Contains z x) k.1 h)) [
      | inl m ↦ inl (subst (λ (z : ℕ). Contains (writers_at w z) x) (sym k.0) m)
      | inr e ↦ inr (sym e)
    ]
    | inr e ↦ inl (subst (λ (z : List ℕ). Contains z x) e h)
  ]

pub notes_start : (w : List (List ℕ)) (op : ℕ) (effects : List Effect) → NotesWriter w op (take 0 effects) w
notes_start w op effects = record {
  each = refl;
  kept = λ var x h. h;
  noted = λ effect h. absurd (none effects effect h);
  only = λ var x h. inl h;
}

pub notes_next : {old w new : List (List ℕ)} {op : ℕ} (effects : List Effect) (i : ℕ) (e : Effect)
    → i < length effects → get_or effects i e ≡ e → e.var < length old
    → new ≡ set w e.var (writers_at w e.var ++ op ∷ []) → NotesWriter old op (take i effects) w → NotesWriter old op (take (i + 1) effects) new
notes_next {old} {w} {new} {op} effects i e lt is within step
    n = subst (NotesWriter old op (take (i + 1) effects)) (sym step) (record {
      each = length-set w e.var (writers_at w e.var ++ op ∷ []) ∙ n.each;
      kept = λ var x h. kept_at w e.var op inside var x (n.kept var x h);
      noted = λ effect h. elim ((more effects i e effect lt is).0 h) [
        | inl k ↦ kept_at w e.var op inside effect.var op (n.noted effect k)
        | inr s ↦ subst (λ (z : Effect). Contains (writers_at (set w e.var (writers_at w e.var ++ op ∷ [])) z.var) op) s (noted_at w e.var op inside)
      ];
      only = λ var x h. elim (only_at w e.var op inside var x h) [ inl k ↦ n.only var x k | inr s ↦ inr s ];
    })
  where
    inside : e.var < length w
    inside = omega (arith, within, n.each)

pub notes_end : (old w : List (List ℕ)) (op : ℕ) (effects : List Effect) (i : ℕ) → length effects ≤ i
    → NotesWriter old op (take i effects) w → NotesWriter old op effects w
notes_end old w op effects i le n = subst (λ (z : List Effect). NotesWriter old op z w) (take_all i effects le) n

-- Operator by operator.

none_at : (n var : ℕ) → writers_at (replicate n []) var ≡ []
none_at n var = elim (below_or_past var n) [
  | inl lt ↦ get_or-replicate n var [] [] lt
  | inr le ↦ get_or_past (replicate n []) var [] (omega (arith, le, length-replicate {A = List ℕ} n []))
]
  where
    below_or_past : (a b : ℕ) → (a < b) ⊎ (b ≤ a)
    below_or_past a b = grind arith

pub writers_start : (task : TaskParts) (w : List (List ℕ)) → w ≡ replicate (length task.variables) [] → AreWriters task 0 w
writers_start task w is = record {
  each = ap length is ∙ length-replicate (length task.variables) [];
  all = λ op var lt h. absurd (omega arith);
  only = λ op var h. absurd (empty op var (subst (λ (z : List (List ℕ)). Contains (writers_at z var) op) is h));
}
  where
    empty : (op var : ℕ) → Contains (writers_at (replicate (length task.variables) []) var) op → ⊥
    empty op var h = (let e : writers_at (replicate (length task.variables) []) var ≡ [] =
        none_at (length task.variables) var in
        let k : Contains [] op = subst (λ (z : List ℕ). Contains z op) e h in absurd (omega (arith, k.1)))

pub writers_next : (task : TaskParts) (i : ℕ) (operator : Operator) (w new : List (List ℕ))
    → slice_get task.operators i ≡ Some operator → AreWriters task i w → NotesWriter w i operator.effects new
    → AreWriters task (i + 1) new
writers_next task i operator w new at a n = record {
  each = n.each ∙ a.each;
  all = λ op var lt writes. elim (split op lt) [
    | inl low ↦ n.kept var op (a.all op var low writes)
    | inr e ↦ last op var e writes
  ];
  only = λ op var h. elim (n.only var op h) [ inl k ↦ (let m = a.only op var k in omega (arith, m)) | inr e ↦ omega (arith, e) ];
}
  where
    split : (op : ℕ) → op < i + 1 → (op < i) ⊎ (op ≡ i)
    split op lt = grind arith

    last : (op var : ℕ) → op ≡ i → WritesVariable task op var → Contains (writers_at new var) op
    last op var e (other, effect, is, has, on) =
        let same : other ≡ operator = (let k : slice_get task.operators i ≡ Some other = subst
        (λ (z : ℕ). slice_get task.operators z ≡ Some other) e is in cc) in
        let noted = n.noted effect (subst (λ (z : Operator). Contains z.effects effect) same has) in
        subst (λ (z : ℕ). Contains (writers_at new z) op) on (subst (λ (z : ℕ). Contains (writers_at new effect.var) z) (sym e) noted)

-- the effects of an operator are on variables
pub effects_within : (task : TaskParts) (i : ℕ) (operator : Operator) (n : ℕ) → Fits task
    → slice_get task.operators i ≡ Some operator → n ≡ length task.variables
    → All (λ (e : Effect). e.var < n) operator.effects
effects_within task i operator n fits at is k d lt =
    let each = (fits_operator task i operator fits at).each k d lt in
    subst (λ (z : ℕ). (get_or operator.effects k d).var < z) (sym is)
    (within_some (λ (v : Variable). (v.layer ≡ None) × ((get_or operator.effects k d).post < range v))
    task.variables (get_or operator.effects k d).var each.on)

-- What touches a group.

-- the variables so far, and one more
pub touching_next : (variables : List ℕ) (writers : List (List ℕ)) (i var op : ℕ) (old new : Bool) → i < length variables → get_or variables i var ≡ var
    → IsTrue new ↔ (IsTrue old ⊎ Contains (writers_at writers var) op)
    → IsTrue old ↔ ((v : ℕ) × Contains (take i variables) v × Contains (writers_at writers v) op)
    → IsTrue new ↔ ((v : ℕ) × Contains (take (i + 1) variables) v × Contains (writers_at writers v) op)
touching_next variables writers i var op old new lt is step h = (
  (λ a. elim (step.0 a) [
    | inl o ↦ (let k = h.0 o in (k.0, (more variables i var k.0 lt is).1 (inl k.1), k.2))
    | inr
        c ↦ (var, (more variables i var var lt is).1 (inr refl), c)
  ]),
  (λ (v, has, c). step.1 (elim ((more variables i var v lt is).0 has) [
    | inl k ↦ inl (h.1 (v, k, c))
    | inr s ↦ inr (subst (λ (z : ℕ). Contains (writers_at writers z) op) (sym s) c)
  ])),
)

pub touching_end : (task : TaskParts) (facts : List Fact) (writers : List (List ℕ)) (variables operators : List ℕ)
    (keys : BTreeSet ℕ) → AreWriters task (length task.operators) writers
    → ((var : ℕ) → Contains variables var ↔ ((fact : Fact) × Contains facts fact × (fact.var ≡ var)))
    → ((op : ℕ) → IsTrue (contains nat_cmp keys op) ↔ ((v : ℕ) × Contains variables v × Contains (writers_at writers v) op))
    → operators ≡ keys.keys → HaveTouching task facts operators
touching_end task facts writers variables operators keys a vars tells is = record {
  all = λ op lt (fact, has, writes). (listed op).0 ((tells op).1 (fact.var, (vars fact.var).1 (fact, has, refl), a.all op fact.var lt writes));
  only = λ k d lt. (let h = (tells (get_or operators k d)).0
      ((listed (get_or operators k d)).1 (k, lt, get_or_default operators k (get_or operators k d) d lt)) in a.only
      (get_or operators k d) h.0 h.2);
}
  where
    listed : (op : ℕ) → IsTrue (contains nat_cmp keys op) ↔ Contains operators op
    listed op =
        let at = btree_set_contains_iff nat_cmp_total exact_unsigned keys op in (
          (λ h. subst (λ (z : List ℕ). Contains z op) (sym is) (at.0 h)),
          (λ h. at.1 (subst (λ (z : List ℕ). Contains z op) is h)),
        )

-- the variables at the end, and a set without keys
pub variables_end : (facts : List Fact) (i : ℕ) (keys : BTreeSet ℕ) (variables : List ℕ) → length facts ≤ i → variables ≡ keys.keys
    → ((var : ℕ) → IsTrue (contains nat_cmp keys var) ↔ ((fact : Fact) × Contains (take i facts) fact × (fact.var ≡ var)))
    → (var : ℕ) → Contains variables var ↔ ((fact : Fact) × Contains facts fact × (fact.var ≡ var))
variables_end facts i keys variables le is tells var =
    let at = btree_set_contains_iff nat_cmp_total exact_unsigned keys var in (
      (λ h. let k = (tells var).0 (at.1 (subst (λ (z : List ℕ). Contains z var) is h)) in (k.0, (whole facts i k.0 le).0 k.1, k.2)),
      (λ (fact, has, e). subst (λ (z : List ℕ). Contains z var) (sym is) (at.0 ((tells var).1 (fact, (whole facts i fact le).1 has, e)))),
    )

pub no_key : (keys : BTreeSet ℕ) (n : ℕ) → keys.keys ≡ [] → IsTrue (contains nat_cmp keys n) → ⊥
no_key keys n is h =
    let k : Contains [] n = subst (λ (z : List ℕ). Contains z n) is ((btree_set_contains_iff nat_cmp_total exact_unsigned keys n).0 h) in
    absurd (omega (arith, k.1))
