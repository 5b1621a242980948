-- Lists of facts, built effect by effect and condition by condition.
use Rattle.std.proofs.Common.{◌≡◌, ◌⊎◌, ◌↔◌, ℕ, suc, ◌+◌, ◌<◌, List, [], ◌∷◌, ◌++◌, length, get_or, drop, IsTrue, IsFalse, Bool, true, false, inl, inr, refl, sym, ◌∙◌, ap, subst, arith, true≢false}
use Rattle.std.specs.List.{Contains}
use Rattle.std.specs.Ordering.{nat_cmp}
use Rattle.std.specs.BTreeSet.{BTreeSet, contains}
use Rattle.std.proofs.Math.Seq.{drop-cons, drop-length}
use Rattle.std.proofs.lemmas.Grind.{common_steps}
use Rattle.std.proofs.lemmas.List.{get_or_default, get_or_append_left, get_or_push}
use Rattle.symk_task.specs.declared.parts.Fact.{Fact}
use Rattle.symk_task.specs.declared.parts.Effect.{Effect}
use Rattle.symk_task.specs.declared.parts.Operator.{Operator}
use Rattle.var_order.specs.Layout.{Layout}
use Rattle.bdd_sets.specs.Placed.{IsPlaceOf, ArePlacesOf}
use Rattle.bdd_sets.specs.Steps.{AsksValue, SomeAsks, IsAsked, NotOn, AssignsFact, IsLeft, AreLast, AreFactsBy}

-- P holds of one of the first n elements
pub record SomeBelow {X : Type 0} (P : X → Type 0) (xs : List X) (n : ℕ) : Type 0 where
  pub at : ℕ
  pub before : at < n
  pub item : X
  pub is : get_or xs at item ≡ item
  pub holds : P item

below_or_at : (k n : ℕ) → k < n + 1 → (k < n) ⊎ (k ≡ n)
below_or_at k n h = grind arith

module _ {X : Type 0} (P : X → Type 0) (xs : List X) where
  pub some_none : SomeBelow P xs 0 → ⊥
  some_none h = (let lt = h.before in omega (arith, lt))

  pub some_more : (n : ℕ) (x : X) → n < length xs → x ≡ get_or xs n x → SomeBelow P xs (n + 1) ↔ (SomeBelow P xs n ⊎ P x)
  some_more n x lt is = (
    (λ h. elim (below_or_at h.at n h.before) [
      | inl before ↦ inl (record { at = h.at; before = before; item = h.item; is = h.is; holds = h.holds })
      | inr here ↦ inr (subst P (sym h.is ∙ ap (λ (k : ℕ). get_or xs k h.item) here ∙ get_or_default xs n h.item x lt ∙ sym is) h.holds)
    ]),
    (λ h. elim h [
      | inl s ↦ record { at = s.at; before = (let b = s.before in omega (arith, b)); item = s.item; is = s.is; holds = s.holds }
      | inr p ↦ record { at = n; before = omega arith; item = x; is = sym is; holds = p }
    ]),
  )

pub contains_below : {X : Type 0} (xs : List X) (x : X) → Contains xs x ↔ SomeBelow (λ (y : X). y ≡ x) xs (length xs)
contains_below {X} xs x = (
  (λ (k, lt, is). record { at = k; before = lt; item = x; is = is; holds = refl }),
  (λ h. (h.at, h.before, get_or_default xs h.at x h.item h.before ∙ h.is ∙ h.holds)),
)

-- one of all elements
pub some_of_all : {X : Type 0} (P : X → Type 0) (xs : List X) → SomeBelow P xs (length xs) ↔ ((x : X) × Contains xs x × P x)
some_of_all P xs = (
  (λ h. (h.item, (h.at, h.before, h.is), h.holds)),
  (λ (x, (k, lt, is), p). record { at = k; before = lt; item = x; is = is; holds = p }),
)

-- the places of the marks of facts

-- the places are those of the first n facts
pub record PlacedBelow (o : Layout) (starts : List ℕ) (facts : List Fact) (n : ℕ) (places : List ℕ) : Type 0 where
  pub each : (p : ℕ) → Contains places p ↔ SomeBelow (λ f. IsPlaceOf o starts f p) facts n

pub placed_none : (o : Layout) (starts : List ℕ) (facts : List Fact) → PlacedBelow o starts facts 0 []
placed_none o starts facts = record {
  each = λ p. ((λ (k, lt, is). absurd (omega (arith, lt))), (λ s. absurd (some_none (λ f. IsPlaceOf o starts f p) facts s)));
}

pub placed_more : (o : Layout) (starts : List ℕ) (facts : List Fact) (n : ℕ) (f : Fact) (old new : List ℕ)
    → n < length facts → f ≡ get_or facts n f → PlacedBelow o starts facts n old
    → ((p : ℕ) → Contains new p ↔ (Contains old p ⊎ IsPlaceOf o starts f p))
    → PlacedBelow o starts facts (n + 1) new
placed_more o starts facts n f old new lt is a add = record {
  each = λ p. (
      let next = some_more (λ g. IsPlaceOf o starts g p) facts n f lt is in (
        (λ h. next.1 (elim ((add p).0 h) [ inl c ↦ inl ((a.each p).0 c) | inr i ↦ inr i ])),
        (λ s. (add p).1 (elim (next.0 s) [ inl b ↦ inl ((a.each p).1 b) | inr i ↦ inr i ])),
      ));
}

pub placed_all : (o : Layout) (starts : List ℕ) (facts : List Fact) (places : List ℕ)
    → PlacedBelow o starts facts (length facts) places → ArePlacesOf o starts facts places
placed_all o starts facts places a p =
    let all = some_of_all (λ f. IsPlaceOf o starts f p) facts in
    ((λ h. all.0 ((a.each p).0 h)), (λ w. (a.each p).1 (all.1 w)))

-- what an operator asks for

pub record AskedBelow (old : Fact → Type 0) (effects : List Effect) (n : ℕ) (facts : List Fact) : Type 0 where
  pub each : (f : Fact) → Contains facts f ↔ (old f ⊎ SomeBelow (λ e. AsksValue e f) effects n)

pub asked_none : (old : Fact → Type 0) (effects : List Effect) (facts : List Fact) → ((f : Fact) → Contains facts f ↔ old f) → AskedBelow old effects 0 facts
asked_none old effects facts h = record {
  each = λ f. ((λ c. inl ((h f).0 c)), (λ o. elim o [ inl x ↦ (h f).1 x | inr s ↦ absurd (some_none (λ e. AsksValue e f) effects s) ]));
}

pub asked_more : (old : Fact → Type 0) (effects : List Effect) (n : ℕ) (facts more : List Fact) (e : Effect)
    → n < length effects → e ≡ get_or effects n e → AskedBelow old effects n facts
    → ((f : Fact) → Contains more f ↔ (Contains facts f ⊎ AsksValue e f)) → AskedBelow old effects (n + 1) more
asked_more old effects n facts more e lt is a add = record {
  each = λ f. (
      let next = some_more (λ e. AsksValue e f) effects n e lt is in (
        (λ c. elim ((add f).0 c) [
          | inl o ↦ (elim ((a.each f).0 o) [ inl x ↦ inl x | inr s ↦ inr (next.1 (inl s)) ])
          | inr asks ↦ inr (next.1 (inr asks))
        ]),
        (λ o. elim o [
          | inl x ↦ (add f).1 (inl ((a.each f).1 (inl x)))
          | inr s ↦ (elim (next.0 s) [ inl t ↦ (add f).1 (inl ((a.each f).1 (inr t))) | inr asks ↦ (add f).1 (inr asks) ])
        ]),
      ));
}

some_asks : (effects : List Effect) (f : Fact) → SomeBelow (λ e. AsksValue e f) effects (length effects) ↔ SomeAsks effects f
some_asks effects f = (
  (λ h. (h.at, h.before, (h.item, h.is, h.holds))),
  (λ (k, lt, (e, is, asks)). record { at = k; before = lt; item = e; is = is; holds = asks }),
)

pub asked_all : (o : Operator) (facts : List Fact) → AskedBelow (λ f. Contains o.prevail f) o.effects
    (length o.effects) facts → (f : Fact) → Contains facts f ↔ IsAsked o f
asked_all o facts a f = (
  (λ c. elim ((a.each f).0 c) [ inl x ↦ inl x | inr s ↦ inr ((some_asks o.effects f).0 s) ]),
  (λ h. elim h [ inl x ↦ (a.each f).1 (inl x) | inr s ↦ (a.each f).1 (inr ((some_asks o.effects f).1 s)) ]),
)

-- what its effects leave, from the last one on

pub last_none : (effects : List Effect) (n : ℕ) (facts : List Fact) (on : BTreeSet ℕ) → n ≡ length effects
    → ((f : Fact) → ¬ Contains facts f) → ((var : ℕ) → IsFalse (contains nat_cmp on var))
    → AreLast (drop n effects) facts on
last_none effects n facts on e none empty =
    subst (λ (es : List Effect). AreLast es facts on) (sym (ap (λ (k : ℕ). drop k effects) e ∙ drop-length effects)) (record {
      leaves = λ f. ((λ c. none f c), (λ l. absurd l));
      misses = λ var. ((λ h. tt), (λ h. empty var));
    })

is_true_or_false : (x : Bool) → (x ≡ true) ⊎ (x ≡ false)
is_true_or_false true = inl refl
is_true_or_false false = inr refl

last_cons : (e : Effect) (es : List Effect) (facts more : List Fact) (on over : BTreeSet ℕ) → AreLast es facts on
    → ((var : ℕ) → IsTrue (contains nat_cmp over var) ↔ (IsTrue (contains nat_cmp on var) ⊎ (var ≡ e.var)))
    → ((f : Fact) → Contains more f ↔ (Contains facts f ⊎ (AssignsFact e f × IsFalse (contains nat_cmp on f.var)))) → AreLast (e ∷ es) more over
last_cons e es facts more on over a vars add = record {
  leaves = λ f. (
    (λ c. elim ((add f).0 c) [ inl o ↦ inl ((a.leaves f).0 o) | inr x ↦ inr (x.0, (a.misses f.var).0 x.1) ]),
    (λ l. elim l [ inl rest ↦ (add f).1 (inl ((a.leaves f).1 rest)) | inr x ↦ (add f).1 (inr (x.0, (a.misses f.var).1 x.1)) ]),
  );
  misses = λ var. (
    (λ h. ((λ same. true≢false (sym ((vars var).1 (inr (sym same))) ∙ h)), (a.misses var).0 (off var h))),
    (λ n. not_over var n),
  );
}
  where
    off : (var : ℕ) → IsFalse (contains nat_cmp over var) → IsFalse (contains nat_cmp on var)
    off var h = elim (is_true_or_false (contains nat_cmp on var)) [
      | inl has ↦ absurd (true≢false (sym ((vars var).1 (inl has)) ∙ h))
      | inr lacks ↦ lacks
    ]

    not_over : (var : ℕ) → NotOn var (e ∷ es) → IsFalse (contains nat_cmp over var)
    not_over var n = elim (is_true_or_false (contains nat_cmp over var)) [
      | inl has ↦ (elim ((vars var).0 has) [
        | inl old ↦ absurd (true≢false (sym old ∙ (a.misses var).1 n.1))
        | inr same ↦ absurd (n.0 (sym same))
      ])
      | inr lacks ↦ lacks
    ]

pub last_more : (effects : List Effect) (at : ℕ) {next : ℕ} {e : Effect} {facts more : List Fact} {on over : BTreeSet ℕ}
    → next ≡ at + 1 → at < length effects → e ≡ get_or effects at e → AreLast (drop next effects) facts on
    → ((var : ℕ) → IsTrue (contains nat_cmp over var) ↔ (IsTrue (contains nat_cmp on var) ⊎ (var ≡ e.var)))
    → ((f : Fact) → Contains more f ↔ (Contains facts f ⊎ (AssignsFact e f × IsFalse (contains nat_cmp on f.var)))) → AreLast (drop at effects) more over
last_more effects at {next} {e} {facts} {more} {on} {over} step lt is a vars add =
    let same : drop at effects ≡ e ∷ drop next effects = drop-cons effects at e lt
    ∙ ap (λ (x : Effect). x ∷ drop (suc at) effects) (sym is)
    ∙ ap (λ (k : ℕ). e ∷ drop k effects) (let s : suc at ≡ next = omega (arith, step) in s) in
    subst (λ (es : List Effect). AreLast es more over) (sym same) (last_cons e (drop next effects) facts more on over a vars add)

-- and its conditions on other variables

pub record OthersBelow (old : Fact → Type 0) (prevail : List Fact) (on : BTreeSet ℕ) (n : ℕ) (facts : List Fact) : Type 0 where
  pub each : (f : Fact) → Contains facts f ↔ (old f ⊎ (SomeBelow (λ (p : Fact). p ≡ f) prevail n × IsFalse (contains nat_cmp on f.var)))

pub others_none : (prevail facts : List Fact) (on : BTreeSet ℕ) → OthersBelow (λ f. Contains facts f) prevail on 0 facts
others_none prevail facts on = record {
  each = λ f. (
    (λ c. inl c),
    (λ h. elim h [ inl x ↦ x | inr s ↦ absurd (some_none (λ (p : Fact). p ≡ f) prevail s.0) ]),
  );
}

pub others_more : (old : Fact → Type 0) (prevail facts more : List Fact) (on : BTreeSet ℕ) (n : ℕ) (d : Fact)
    → n < length prevail → OthersBelow old prevail on n facts
    → ((f : Fact) → Contains more f
    ↔ (Contains facts f ⊎ ((f ≡ get_or prevail n d) × IsFalse (contains nat_cmp on f.var))))
    → OthersBelow old prevail on (n + 1) more
others_more old prevail facts more on n d lt l add = record {
  each = λ f. (
      let p = get_or prevail n d in
      let next = some_more (λ (q : Fact). q ≡ f) prevail n p lt (get_or_default prevail n d p lt) in (
        (λ c. elim ((add f).0 c) [
          | inl o ↦ (elim ((l.each f).0 o) [ inl x ↦ inl x | inr s ↦ inr (next.1 (inl s.0), s.1) ])
          | inr x ↦ inr (next.1 (inr (sym x.0)), x.1)
        ]),
        (λ h. elim h [
          | inl x ↦ (add f).1 (inl ((l.each f).1 (inl x)))
          | inr s ↦ (elim (next.0 s.0) [
            | inl t ↦ (add f).1 (inl ((l.each f).1 (inr (t, s.1))))
            | inr same ↦ (add f).1 (inr (sym same, s.1))
          ])
        ]),
      ));
}

pub others_all : (old : Fact → Type 0) (prevail facts : List Fact) (on : BTreeSet ℕ)
    → OthersBelow old prevail on (length prevail) facts → (f : Fact) → Contains facts f
    ↔ (old f ⊎ (Contains prevail f × IsFalse (contains nat_cmp on f.var)))
others_all old prevail facts on l f = (
  (λ c. elim ((l.each f).0 c) [ inl x ↦ inl x | inr s ↦ inr ((contains_below prevail f).1 s.0, s.1) ]),
  (λ h. elim h [ inl x ↦ (l.each f).1 (inl x) | inr s ↦ (l.each f).1 (inr ((contains_below prevail f).0 s.0, s.1)) ]),
)

pub left_all : (o : Operator) (last facts : List Fact) (on : BTreeSet ℕ) → AreLast o.effects last on
    → ((f : Fact) → Contains facts f
    ↔ (Contains last f ⊎ (Contains o.prevail f × IsFalse (contains nat_cmp on f.var)))) → (f : Fact)
    → Contains facts f ↔ IsLeft o f
left_all o last facts on a h f = (
  (λ c. elim ((h f).0 c) [ inl x ↦ inl ((a.leaves f).0 x) | inr s ↦ inr (s.0, (a.misses f.var).0 s.1) ]),
  (λ l. elim l [ inl x ↦ (h f).1 (inl ((a.leaves f).1 x)) | inr s ↦ (h f).1 (inr (s.0, (a.misses f.var).1 s.1)) ]),
)

-- the value that an effect gives counts where no later effect is on its variable
pub ends_more : (e : Effect) (facts more : List Fact) (on : BTreeSet ℕ) → IsFalse (contains nat_cmp on e.var)
    → ((f : Fact) → Contains more f ↔ (Contains facts f ⊎ AssignsFact e f))
    → (f : Fact) → Contains more f ↔ (Contains facts f ⊎ (AssignsFact e f × IsFalse (contains nat_cmp on f.var)))
ends_more e facts more on off h f = (
  (λ c. elim ((h f).0 c) [ inl x ↦ inl x | inr s ↦ inr (s, subst (λ (var : ℕ). IsFalse (contains nat_cmp on var)) s.1 off) ]),
  (λ l. elim l [ inl x ↦ (h f).1 (inl x) | inr s ↦ (h f).1 (inr s.0) ]),
)

-- a list for each operator

pub record FactsBelow (Of : Operator → Fact → Type 0) (operators : List Operator) (lists : List (List Fact)) (n : ℕ) : Type 0 where
  pub each : length lists ≡ n
  pub facts : (op : ℕ) (d : Operator) (f : Fact) → op < n → Contains (get_or lists op []) f ↔ Of (get_or operators op d) f

pub facts_all : (Of : Operator → Fact → Type 0) (operators : List Operator) (lists : List (List Fact))
    → FactsBelow Of operators lists (length operators) → AreFactsBy Of operators lists
facts_all Of operators lists h = record { each = h.each; facts = h.facts }

pub facts_more : (Of : Operator → Fact → Type 0) (operators : List Operator) (lists : List (List Fact)) (n : ℕ)
    (o : Operator) (facts : List Fact) → n < length operators → o ≡ get_or operators n o
    → FactsBelow Of operators lists n → ((f : Fact) → Contains facts f ↔ Of o f)
    → FactsBelow Of operators (lists ++ facts ∷ []) (n + 1)
facts_more Of operators lists n o facts lt is h new = record {
  each = grind (arith, common_steps, h.each);
  facts = λ op d f less. elim (below_or_at op n less) [
    | inl before ↦ (
        let old : get_or (lists ++ facts ∷ []) op [] ≡ get_or lists op [] = get_or_append_left lists (facts ∷ []) [] op (omega (arith, before, h.each)) in
        subst (λ (xs : List Fact). Contains xs f ↔ Of (get_or operators op d) f) (sym old) (h.facts op d f before))
    | inr here ↦ (
        let last : get_or (lists ++ facts ∷ []) op [] ≡ facts = get_or_push lists facts [] op (h.each ∙ sym here) in
        let same : get_or operators op d ≡ o = ap (λ (k : ℕ). get_or operators k d) here ∙ get_or_default operators n d o lt ∙ sym is in
        subst (λ (xs : List Fact). Contains xs f ↔ Of (get_or operators op d) f) (sym last)
        (subst (λ (x : Operator). Contains facts f ↔ Of x f) (sym same) (new f)))
  ];
}
