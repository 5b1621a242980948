-- Sets of the states in which conditions have their values.
use Rattle.std.proofs.Common.{◌≡◌, ℕ, ◌+◌, ◌-◌, ◌<◌, ◌↔◌, ◌==◌, inl, inr, Bool, true, false, not, cond, ◌&&◌, List, length, get_or, Option, Some, None, IsSomeAnd, refl, sym, ap, subst, ◌∙◌, arith, true≢false}
use Rattle.std.specs.Option.{is_none, option_map_or}
use Rattle.std.proofs.lemmas.Bool.{cases_eq, eq-eqb, eqb-true, and_parts, and_from}
use Rattle.std.proofs.lemmas.List.{get_or_default}
use Rattle.std.proofs.lemmas.Option.{slice_get_read}
use Rattle.symk_task.specs.declared.parts.Fact.{Fact}
use Rattle.symk_task.specs.declared.parts.Variable.{Variable}
use Rattle.symk_task.specs.declared.parts.TaskParts.{TaskParts}
use Rattle.symk_task.specs.Variables.{IsBase, HasLayer, place, other_value}
use Rattle.symk_task.specs.Fits.{Fits, InRange}
use Rattle.symk_task.proofs.Layers.{two_values, fact_two}
use Rattle.task_run.specs.Values.{HasValue}
use Rattle.bdd_table.specs.declared.node.Node.{Node}
use Rattle.bdd_table.specs.Diagram.{Bits, means, Keeps}
use Rattle.var_order.specs.Layout.{Layout, IsOrderOf}
use Rattle.var_order.specs.Codes.{IsCode, coded_value}
use Rattle.var_order.proofs.Values.{base_slot}
use Rattle.axiom_layers.specs.Roots.{AreSets}
use Rattle.axiom_layers.specs.Raising.{values_of, IsTrueExactlyWhere}
use Rattle.axiom_layers.proofs.RootValues.{base_value, derived_value, kept_values}

-- a variable read from the task is a base variable or has a layer
pub read_base : (task : TaskParts) (vs : List Variable) (var : ℕ) (v : Variable) → vs ≡ task.variables
    → var < length task.variables → v ≡ get_or vs var v → is_none v.layer ≡ true → IsBase task var
read_base task vs var v same lt is none =
    let at : v ≡ get_or task.variables var v = is ∙ ap (λ (z : List Variable). get_or z var v) same in
    subst (λ (o : Option Variable). IsSomeAnd o (λ v. v.layer ≡ None))
    (sym (slice_get_read task.variables (length task.variables) var v refl lt at)) (of v.layer none)
  where
    of : (l : Option ℕ) → is_none l ≡ true → l ≡ None
    of None h = refl
    of (Some x) h = absurd (true≢false (sym h))

pub read_derived : (task : TaskParts) (vs : List Variable) (var : ℕ) (v : Variable) → vs ≡ task.variables
    → var < length task.variables → v ≡ get_or vs var v → is_none v.layer ≡ false → (layer : ℕ)
    × HasLayer task var layer
read_derived task vs var v same lt is none =
    let at : v ≡ get_or task.variables var v = is ∙ ap (λ (z : List Variable). get_or z var v) same in
    subst (λ (o : Option Variable). (layer : ℕ) × IsSomeAnd o (λ v. v.layer ≡ Some layer))
    (sym (slice_get_read task.variables (length task.variables) var v refl lt at)) (of v.layer none)
  where
    of : (l : Option ℕ) → is_none l ≡ false → (layer : ℕ) × (l ≡ Some layer)
    of None h = absurd (true≢false h)
    of (Some x) h = (x, refl)

-- a fact of a base variable
pub base_says : (task : TaskParts) (o : Layout) (xs : List Node) (roots : List ℕ) (fact : Fact) (id : ℕ) → IsOrderOf task o → IsBase task fact.var
    → ((s : List ℕ) (b : Bits) → IsCode o 0 s b → means xs id b ≡ (coded_value o s fact.var == fact.val))
    → IsTrueExactlyWhere task o xs roots (λ values. HasValue values fact) id
base_says task o xs roots fact id order base m s b state code =
    let at = base_value task xs roots s b fact.var base in
    let v : coded_value o s fact.var ≡ get_or s (place task fact.var) 0 =
    ap (λ (x : Option ℕ). option_map_or (λ slot. get_or s slot 0) x 0) (base_slot task o fact.var order base) in
    let e = m s b code in
    ((λ t. at ∙ sym v ∙ eqb-true (coded_value o s fact.var) fact.val (sym e ∙ t)), (λ h. e ∙ eq-eqb (coded_value o s fact.var) fact.val (v ∙ sym at ∙ h)))

cond_other : (t : Bool) (other default val : ℕ) → (other ≡ default → ⊥) → val ≡ other → (t ≡ true) ↔ (cond t other default ≡ val)
cond_other true other default val ne e = ((λ _. sym e), (λ _. refl))
cond_other false other default val ne e = ((λ h. absurd (true≢false (sym h))), (λ h. absurd (ne (sym (h ∙ e)))))

cond_default : (t : Bool) (other default val : ℕ) → (other ≡ default → ⊥) → val ≡ default → (not t ≡ true) ↔ (cond t other default ≡ val)
cond_default true other default val ne e = ((λ h. absurd (true≢false (sym h))), (λ h. absurd (ne (h ∙ e))))
cond_default false other default val ne e = ((λ _. sym e), (λ _. refl))

pub other_differs : (task : TaskParts) (var layer : ℕ) → Fits task → HasLayer task var layer → other_value task var ≡ get_or task.initial var 0 → ⊥
other_differs task var layer fits l e = (let t = two_values task var layer fits l in
    let k : 1 - get_or task.initial var 0 ≡ get_or task.initial var 0 = e in omega (arith, k, t.initial))

-- the other value of a derived variable
pub other_says : (task : TaskParts) (o : Layout) (xs : List Node) (roots : List ℕ) (fact : Fact) (layer : ℕ)
    → Fits task → HasLayer task fact.var layer → InRange task.variables fact
    → (fact.val ≡ get_or task.initial fact.var 0 → ⊥)
    → IsTrueExactlyWhere task o xs roots (λ values. HasValue values fact) (get_or roots fact.var 0)
other_says task o xs roots fact layer fits l within ne s b state code =
    let two = fact_two task fact layer fits within l in
    let t = two_values task fact.var layer fits l in
    let e : fact.val ≡ other_value task fact.var = (let k : fact.val ≡ 1 - get_or task.initial fact.var 0 = omega (arith, two, ne, t.initial) in k) in
    let k = cond_other (means xs (get_or roots fact.var 0) b) (other_value task fact.var)
    (get_or task.initial fact.var 0) fact.val (other_differs task fact.var layer fits l) e in
    let v = derived_value task xs roots s b fact.var layer l in
    ((λ h. v ∙ k.0 h), (λ h. k.1 (sym v ∙ h)))

-- the default value
pub default_says : {task : TaskParts} {o : Layout} {xs ys : List Node} {roots : List ℕ} (fact : Fact) (layer id : ℕ)
    → Fits task → HasLayer task fact.var layer → fact.val ≡ get_or task.initial fact.var 0
    → Keeps xs ys → AreSets task o xs roots → ((b : Bits) → means ys id b ≡ not
    (means xs (get_or roots fact.var 0) b)) → IsTrueExactlyWhere task o ys roots (λ values. HasValue values fact) id
default_says {task} {o} {xs} {ys} {roots} fact layer id fits l e keeps are m s b state code =
    let k = cond_default (means xs (get_or roots fact.var 0) b) (other_value task fact.var)
    (get_or task.initial fact.var 0) fact.val (other_differs task fact.var layer fits l) e in
    let v = ap (λ (vs : List ℕ). get_or vs fact.var 0) (kept_values task o xs ys roots s b keeps are) ∙ derived_value task xs roots s b fact.var layer l in
    ((λ h. v ∙ k.0 (sym (m b) ∙ h)), (λ h. m b ∙ k.1 (sym v ∙ h)))

-- no facts, and one more
pub none_says : (task : TaskParts) (o : Layout) (xs : List Node) (roots : List ℕ) (facts : List Fact) (id : ℕ)
    → ((b : Bits) → means xs id b ≡ true) → IsTrueExactlyWhere task o xs roots
    (λ values. (k : ℕ) (d : Fact) → k < 0 → HasValue values (get_or facts k d)) id
none_says task o xs roots facts id m s b state code = ((λ _ k d lt. absurd (omega (arith, lt))), (λ _. m b))

-- a diagram of the one table is true where both diagrams of the other are
pub record IsConj (ys zs : List Node) (f g id : ℕ) : Type 0 where
  pub both : (b : Bits) → means zs id b ≡ (means ys f b && means ys g b)

pub conj_says : {task : TaskParts} {o : Layout} {ys zs : List Node} {roots : List ℕ} {f g id : ℕ}
    (P Q R : List ℕ → Type 0) → Keeps ys zs → AreSets task o ys roots → IsTrueExactlyWhere task o ys roots P f
    → IsTrueExactlyWhere task o ys roots Q g → IsConj ys zs f g id → ((values : List ℕ) → (P values × Q values) ↔ R values)
    → IsTrueExactlyWhere task o zs roots R id
conj_says {task} {o} {ys} {zs} {roots} {f} {g} {id} P Q R keeps are p q conj r s b state code =
    let v = kept_values task o ys zs roots s b keeps are in
    let x = p s b state code in
    let y = q s b state code in
    let w = values_of task ys roots s b in (
      (λ h.
          let t = and_parts (means ys f b) (means ys g b) (sym (conj.both b) ∙ h) in
          subst R (sym v) ((r w).0 (x.0 t.0, y.0 t.1))),
      (λ h. let t = (r w).1 (subst R v h) in conj.both b ∙ and_from (means ys f b) (means ys g b) (x.1 t.0) (y.1 t.1)),
    )

pub facts_more : (values : List ℕ) (facts : List Fact) (i : ℕ) (e : Fact) → i < length facts → e ≡ get_or facts i e
    → (((k : ℕ) (d : Fact) → k < i → HasValue values (get_or facts k d)) × HasValue values e)
    ↔ ((k : ℕ) (d : Fact) → k < i + 1 → HasValue values (get_or facts k d))
facts_more values facts i e lt is = (
  (λ h k d below. elim (cases_eq k i) [
    | inl same ↦ (let at : get_or facts k d ≡ e = rw same (get_or_default facts i d e lt) ∙ sym is in subst (λ (f : Fact). HasValue values f) (sym at) h.1)
    | inr ne ↦ (let ne2 : k ≡ i → ⊥ = ne in h.0 k d (omega (arith, ne2, below)))
  ]),
  (λ h. ((λ k d below. h k d (omega (arith, below))), subst (λ (f : Fact). HasValue values f) (sym is) (h i e (omega arith)))),
)
