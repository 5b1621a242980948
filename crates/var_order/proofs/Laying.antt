-- An order of the first variables of a task, and of all.
use Rattle.std.proofs.Common.{◌≡◌, ℕ, ◌+◌, ◌<◌, ◌≤◌, ◌⊎◌, inl, inr, Bool, true, false, cond, List, [], ◌∷◌, ◌++◌, length, get_or, take, replicate, Option, Some, None, IsSome, IfSome, slice_get, refl, sym, ◌∙◌, ap, subst, arith, length-append}
use Rattle.std.specs.List.{count_by, sum_by}
use Rattle.std.specs.Option.{is_none}
use Rattle.std.proofs.lemmas.Bool.{cases_lt}
use Rattle.std.proofs.lemmas.List.{get_or_append_left, get_or_push, length_push, length-replicate, take_all}
use Rattle.std.proofs.lemmas.List.Sums.{sum_by_more}
use Rattle.std.proofs.lemmas.Option.{slice_get_within, slice_get-get_or, slice_get_cases, same_Some}
use Rattle.symk_task.specs.declared.parts.Variable.{Variable}
use Rattle.symk_task.specs.declared.parts.TaskParts.{TaskParts}
use Rattle.symk_task.specs.Variables.{is_base, range, width, place, IsState}
use Rattle.symk_task.specs.Fits.{bits_of}
use Rattle.var_order.specs.declared.block.Block.{Block}
use Rattle.var_order.specs.Layout.{Layout, IsLayout, IsLaid, IsOrderOf, no_block, slot_of, block_at, bits}
use Rattle.var_order.specs.Codes.{IsStateOf}
use Rattle.var_order.specs.Growth.{ExtendsLayout, with_base, with_derived}
use Rattle.var_order.proofs.Growing.{slot_within}

-- the layout is one of the first variables
pub record Lays (variables : List Variable) (i : ℕ) (o : Layout) : Type 0 where
  pub within : i ≤ length variables
  pub slots : length o.slots ≡ i
  pub blocks : length o.blocks ≡ count_by is_base (take i variables)
  pub bits : bits o ≡ sum_by bits_of (take i variables)
  pub each : (var : ℕ) → var < i → IfSome (slice_get variables var) (IsLaid o var (count_by is_base (take var variables)))

none_true : (x : Option ℕ) → x ≡ None → is_none x ≡ true
none_true None e = refl
none_true (Some y) e = absurd (let z : ⊥ = cc in z)

some_false : (x : Option ℕ) → IsSome x → is_none x ≡ false
some_false None h = absurd (let z : ⊥ = cc in z)
some_false (Some y) h = refl

some_none : (x : Option ℕ) → IsSome x → x ≡ None → ⊥
some_none None h e = cc
some_none (Some y) h e = cc

abbrev digit : Bool → ℕ
digit t = cond t 1 0

base_or_not : (x : Option ℕ) → (x ≡ None) ⊎ IsSome x
base_or_not None = inl refl
base_or_not (Some y) = inr refl

-- what is laid stays laid where slots and blocks are added at the end
laid_kept : (o : Layout) (new : Option ℕ) (blocks : List Block) (owners : List ℕ) (var k : ℕ) (v : Variable)
    → IsLayout o → var < length o.slots → IsLaid o var k v
    → IsLaid (record { slots = o.slots ++ new ∷ []; blocks = o.blocks ++ blocks; owners = owners }) var k v
laid_kept o new blocks owners var k v l lt laid =
    let same = get_or_append_left o.slots (new ∷ []) None var lt in
    record {
      base = λ e. same ∙ laid.base e;
      values = λ e. (ap (λ (b : Block). b.values) (get_or_append_left o.blocks blocks no_block k (l.slots var k (laid.base e))) ∙ laid.values e);
      derived = λ h. same ∙ laid.derived h;
    }

append_none : (xs : List Block) → xs ++ [] ≡ xs
append_none [] = refl
append_none (x ∷ xs) = ap (λ (ys : List Block). x ∷ ys) (append_none xs)

-- one variable more
abbrev One : List Variable → ℕ → Layout → Type 0
One variables i more = (var : ℕ) → var < i + 1 → IfSome (slice_get variables var) (IsLaid more var (count_by is_base (take var variables)))

each_more : (variables : List Variable) (i : ℕ) (v : Variable) (more : Layout) → i < length variables → v ≡ get_or variables i v
    → ((var : ℕ) → var < i → IfSome (slice_get variables var)
    (IsLaid more var (count_by is_base (take var variables))))
    → IsLaid more i (count_by is_base (take i variables)) v → One variables i more
each_more variables i v more lt is old new var before = elim (cases_lt var i) [
  | inl early ↦ old var early
  | inr late ↦ (let e : i ≡ var = omega (arith, late, before) in
      subst (λ (w : ℕ). IfSome (slice_get variables w) (IsLaid more w (count_by is_base (take w variables)))) e
      (subst (λ (x : Option Variable). IfSome x (IsLaid more i (count_by is_base (take i variables))))
      (sym (slice_get-get_or variables i v lt ∙ ap (λ (y : Variable). Some y) (sym is))) new))
]

if_each : {X : Type 0} (x : Option X) (P Q : X → Type 0) → ((y : X) → P y → Q y) → IfSome x P → IfSome x Q
if_each None P Q f h = tt
if_each (Some y) P Q f h = f y h

lays_base : (variables : List Variable) (i : ℕ) (o : Layout) (v : Variable) → IsLayout o → Lays variables i o
    → i < length variables → v ≡ get_or variables i v → v.layer ≡ None
    → Lays variables (i + 1) (with_base o (range v))
lays_base variables i o v l lays lt is base =
    let b : is_base v ≡ true = none_true v.layer base in
    let b2 : is_base (get_or variables i v) ≡ true = subst (λ (y : Variable). is_base y ≡ true) is b in
    let block : Block = record { first = length o.owners; width = width (range v); values = range v } in
    let count = sum_by_more (λ (y : Variable). cond (is_base y) 1 0) variables i v lt in
    let sum = sum_by_more bits_of variables i v lt in
    let one : digit (is_base (get_or variables i v)) ≡ 1 = ap digit b2 in
    let wide : bits_of (get_or variables i v) ≡ width (range v) = ap bits_of (sym is) ∙ ap (λ (t : Bool). cond t (width (range v)) 0) b in
    let slots = lays.slots in
    let blocks = lays.blocks in
    let all = length-append o.owners (replicate (width (range v)) (length o.blocks)) in
    let many = length-replicate (width (range v)) (length o.blocks) in
    let has = lays.bits in
    record {
      within = omega (arith, lt);
      slots = (let k = length_push o.slots (Some (length o.blocks)) in omega (arith, k, slots));
      blocks = (let k = length_push o.blocks block in omega (arith, k, blocks, count, one));
      bits = omega (arith, all, many, has, sum, wide);
      each = each_more variables i v (with_base o (range v)) lt is
          (λ var before. if_each (slice_get variables var) (IsLaid o var (count_by is_base (take var variables)))
          (IsLaid (with_base o (range v)) var (count_by is_base (take var variables)))
          (λ y laid. laid_kept o (Some (length o.blocks)) (block ∷ [])
          (o.owners ++ replicate (width (range v)) (length o.blocks)) var
          (count_by is_base (take var variables)) y l (omega (arith, before, slots)) laid)
          (lays.each var before))
          (record {
            base = λ e. (get_or_push o.slots (Some (length o.blocks)) None i slots ∙ ap (λ (k : ℕ). Some k) blocks);
            values = λ e. ap (λ (x : Block). x.values) (get_or_push o.blocks block no_block (count_by is_base (take i variables)) blocks);
            derived = λ h. absurd (some_none v.layer h base);
          });
    }

lays_derived : (variables : List Variable) (i : ℕ) (o : Layout) (v : Variable) → IsLayout o → Lays variables i o
    → i < length variables → v ≡ get_or variables i v → IsSome v.layer → Lays variables (i + 1) (with_derived o)
lays_derived variables i o v l lays lt is derived =
    let b : is_base v ≡ false = some_false v.layer derived in
    let b2 : is_base (get_or variables i v) ≡ false = subst (λ (y : Variable). is_base y ≡ false) is b in
    let count = sum_by_more (λ (y : Variable). cond (is_base y) 1 0) variables i v lt in
    let sum = sum_by_more bits_of variables i v lt in
    let none : digit (is_base (get_or variables i v)) ≡ 0 = ap digit b2 in
    let narrow : bits_of (get_or variables i v) ≡ 0 = ap (λ (t : Bool). cond t (width (range (get_or variables i v))) 0) b2 in
    let slots = lays.slots in
    let blocks = lays.blocks in
    let has = lays.bits in
    record {
      within = omega (arith, lt);
      slots = (let k = length_push o.slots None in omega (arith, k, slots));
      blocks = omega (arith, blocks, count, none);
      bits = omega (arith, has, sum, narrow);
      each = each_more variables i v (with_derived o) lt is
          (λ var before. if_each (slice_get variables var) (IsLaid o var (count_by is_base (take var variables)))
          (IsLaid (with_derived o) var (count_by is_base (take var variables)))
          (λ y laid. subst (λ (bs : List Block). IsLaid (record
          { slots = o.slots ++ None ∷ []; blocks = bs; owners = o.owners }) var
          (count_by is_base (take var variables)) y) (append_none o.blocks)
          (laid_kept o None [] o.owners var (count_by is_base (take var variables)) y l (omega (arith, before, slots)) laid)) (lays.each var before))
          (record {
            base = λ e. absurd (some_none v.layer derived e);
            values = λ e. absurd (some_none v.layer derived e);
            derived = λ h. get_or_push o.slots None None i slots;
          });
    }

lays_more : (variables : List Variable) (i : ℕ) (o more : Layout) (v : Variable) → IsLayout o → Lays variables i o
    → i < length variables → v ≡ get_or variables i v → ExtendsLayout o v more → Lays variables (i + 1) more
lays_more variables i o more v l lays lt is extends = elim (base_or_not v.layer) [
  | inl base ↦ subst (Lays variables (i + 1)) (sym (extends.base base)) (lays_base variables i o v l lays lt is base)
  | inr derived ↦ subst (Lays variables (i + 1)) (sym (extends.derived derived)) (lays_derived variables i o v l lays lt is derived)
]

-- a layout of all variables is one of the task
order_of : (task : TaskParts) (i : ℕ) (o : Layout) → IsLayout o → Lays task.variables i o → length task.variables ≤ i → IsOrderOf task o
order_of task i o l lays far =
    let all = take_all i task.variables far in
    record {
      layout = l;
      variables = same_length;
      blocks = lays.blocks ∙ ap (count_by is_base) all;
      bits = lays.bits ∙ ap (sum_by bits_of) all;
      each = λ var. each var (slice_get task.variables var) refl;
    }
  where
    same_length : length o.slots ≡ length task.variables
    same_length = (let e = lays.slots in let k = lays.within in omega (arith, e, k, far))

    each : (var : ℕ) (x : Option Variable) → slice_get task.variables var ≡ x → IfSome (slice_get task.variables var) (IsLaid o var (place task var))
    each var None e = subst (λ (y : Option Variable). IfSome y (IsLaid o var (place task var))) (sym e) tt
    each var (Some v) e = (let k = slice_get_within task.variables var v e in lays.each var (omega (arith, k, far)))

-- what is laid of a variable that is there
pub laid_at : (task : TaskParts) (o : Layout) (var : ℕ) (v : Variable) → IsOrderOf task o
    → slice_get task.variables var ≡ Some v → IsLaid o var (place task var) v
laid_at task o var v order e = subst (λ (x : Option Variable). IfSome x (IsLaid o var (place task var))) e (order.each var)

none_some : (v : Variable) → None ≡ Some v → ⊥
none_some v e = cc

-- a variable with a slot is a base variable, and the slot is its place
record Placed (task : TaskParts) (o : Layout) (var slot : ℕ) : Type 0 where
  v : Variable
  there : slice_get task.variables var ≡ Some v
  base : v.layer ≡ None
  here : place task var ≡ slot
  values : (block_at o slot).values ≡ range v

placed : (task : TaskParts) (o : Layout) (var slot : ℕ) → IsOrderOf task o → slot_of o var ≡ Some slot → Placed task o var slot
placed task o var slot order h = go (slice_get task.variables var) refl
  where
    go : (x : Option Variable) → slice_get task.variables var ≡ x → Placed task o var slot
    go None e =
        let lt = slot_within o.slots var slot h in
        let same = order.variables in
        let there = slice_get_cases task.variables var in
        absurd (elim there.1 [
          | inl some ↦ (let z : None ≡ Some some.0 = sym e ∙ some.2 in none_some some.0 z)
          | inr past ↦ (let far = past.0 in omega (arith, lt, same, far))
        ])
    go (Some v) e = elim (base_or_not v.layer) [
      | inl base ↦ (let laid = laid_at task o var v order e in
          let same : place task var ≡ slot = same_Some (place task var) slot (sym (laid.base base) ∙ h) in
          record { v = v; there = e; base = base; here = same; values = subst (λ (k : ℕ). (block_at o k).values ≡ range v) same (laid.values base) })
      | inr derived ↦ (let laid = laid_at task o var v order e in let none = sym (laid.derived derived) ∙ h in absurd (let z : ⊥ = cc in z))
    ]

-- the states of the task are those of the layout
pub state_of : (task : TaskParts) (o : Layout) (s : List ℕ) → IsOrderOf task o → IsState task s → IsStateOf o s
state_of task o s order state = record {
  each = state.each ∙ sym order.blocks;
  in_range = λ slot lt. (
      let used = order.layout.used slot lt in
      let p = placed task o used.0 slot order used.1 in
      let below : get_or s (place task used.0) 0 < range p.v =
      subst (λ (x : Option Variable). IfSome x (λ v. v.layer ≡ None → get_or s (place task used.0) 0 < range v))
      p.there (state.in_range used.0) p.base in
      let below2 : get_or s slot 0 < range p.v = subst (λ (k : ℕ). get_or s k 0 < range p.v) p.here below in
      let e = p.values in
      omega (arith, below2, e));
}

pub of_state : (task : TaskParts) (o : Layout) (s : List ℕ) → IsOrderOf task o → IsStateOf o s → IsState task s
of_state task o s order state = record {
  each = state.each ∙ order.blocks;
  in_range = λ var. go var (slice_get task.variables var) refl;
}
  where
    go : (var : ℕ) (x : Option Variable) → slice_get task.variables var ≡ x
        → IfSome (slice_get task.variables var) (λ v. v.layer ≡ None → get_or s (place task var) 0 < range v)
    go var None e = subst (λ (y : Option Variable). IfSome y (λ v. v.layer ≡ None → get_or s (place task var) 0 < range v)) (sym e) tt
    go var (Some v) e = subst (λ (y : Option Variable). IfSome y (λ v. v.layer ≡ None → get_or s (place task var) 0 < range v)) (sym e) (λ base.
        (let laid = laid_at task o var v order e in
        let below = state.in_range (place task var) (order.layout.slots var (place task var) (laid.base base)) in
        let f = laid.values base in
        omega (arith, below, f)))

-- the same of the list that the loop goes over

pub lays_next : {variables there : List Variable} {i : ℕ} {o more : Layout} {v : Variable} → there ≡ variables
    → IsLayout o → Lays variables i o → i < length there → v ≡ get_or there i v → ExtendsLayout o v more
    → Lays variables (i + 1) more
lays_next {variables} {there} {i} {o} {more} {v} same l lays lt is extends =
    lays_more variables i o more v l lays (subst (λ (x : List Variable). i < length x) same lt) (is ∙ ap (λ (x : List Variable). get_or x i v) same) extends

pub order_at : (task : TaskParts) (there : List Variable) (i : ℕ) (o : Layout) → there ≡ task.variables → IsLayout o
    → Lays task.variables i o → length there ≤ i → IsOrderOf task o
order_at task there i o same l lays far = order_of task i o l lays (subst (λ (x : List Variable). length x ≤ i) same far)
