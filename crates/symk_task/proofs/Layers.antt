-- What a variable is, and that a variable is raised by its own layer alone.
use Rattle.std.proofs.Common.{◌≡◌, ℕ, zero, suc, ◌+◌, ◌-◌, ◌<◌, ◌⊎◌, ◌↔◌, inl, inr, List, length, get_or, Option, Some, None, IsSomeAnd, IfSome, slice_get, refl, sym, subst, ◌∙◌, arith}
use Rattle.std.proofs.lemmas.Option.{get_or_from_slice_get, slice_get_within}
use Rattle.symk_task.specs.declared.parts.Fact.{Fact}
use Rattle.symk_task.specs.declared.parts.Variable.{Variable}
use Rattle.symk_task.specs.declared.parts.TaskParts.{TaskParts}
use Rattle.symk_task.specs.Variables.{IsBase, HasLayer, range}
use Rattle.symk_task.specs.Derived.{Raised, RaisedBelow}
use Rattle.symk_task.specs.Fits.{Fits, FitsVariable, InRange}

at_some : {X : Type 0} (P Q : X → Type 0) (o : Option X) → ((x : X) → P x → Q x → ⊥) → IsSomeAnd o P → IsSomeAnd o Q → ⊥
at_some P Q None f h k = h
at_some P Q (Some x) f h k = f x h k

-- a base variable is not derived
pub base_derived : (task : TaskParts) (var layer : ℕ) → IsBase task var → HasLayer task var layer → ⊥
base_derived task var layer h k = at_some (λ v. v.layer ≡ None) (λ v. v.layer ≡ Some layer)
    (slice_get task.variables var) (λ v a b. let e : None ≡ Some layer = sym a ∙ b in cc) h k

one : {X : Type 0} (P Q : X → Type 0) (R : Type 0) (o : Option X) → ((x : X) → P x → Q x → R) → IsSomeAnd o P → IsSomeAnd o Q → R
one P Q R None f h k = absurd h
one P Q R (Some x) f h k = f x h k

-- a derived variable has one layer
pub one_layer : (task : TaskParts) (var a b : ℕ) → HasLayer task var a → HasLayer task var b → a ≡ b
one_layer task var a b h k = one (λ v. v.layer ≡ Some a) (λ v. v.layer ≡ Some b) (a ≡ b)
    (slice_get task.variables var) (λ v x y. let e : Some a ≡ Some b = sym x ∙ y in cc) h k

-- a derived variable has two values
pub record Two (task : TaskParts) (var layer : ℕ) : Type 0 where
  pub v : Variable
  pub is : slice_get task.variables var ≡ Some v
  pub range : range v ≡ 2
  pub initial : get_or task.initial var 0 < 2
  pub within : var < length task.variables

pub two_values : (task : TaskParts) (var layer : ℕ) → Fits task → HasLayer task var layer → Two task var layer
two_values task var layer fits h = go (slice_get task.variables var) refl h
  where
    if_at : {X : Type 0} (P : X → Type 0) (o : Option X) (x : X) → o ≡ Some x → IfSome o P → P x
    if_at P o x e h = subst (λ z. IfSome z P) e h

    go : (o : Option Variable) → slice_get task.variables var ≡ o → IsSomeAnd o (λ v. v.layer ≡ Some layer) → Two task var layer
    go None e h = absurd h
    go (Some v) e h =
        let lt = slice_get_within task.variables var v e in
        let fit = subst FitsVariable (get_or_from_slice_get task.variables var v v e) (fits.each_variable var v lt) in
        let r : range v ≡ 2 = if_at (λ _. range v ≡ 2) v.layer layer h fit.range.derived in
        let i : get_or task.initial var 0 < range v = if_at (λ v. get_or task.initial var 0 < range v)
        (slice_get task.variables var) v e (fits.each_value var) in
        record { v = v; is = e; range = r; initial = omega (arith, i, r); within = lt }

-- the value of a fact on a derived variable is one of the two
pub fact_two : (task : TaskParts) (fact : Fact) (layer : ℕ) → Fits task → InRange task.variables fact → HasLayer task fact.var layer → fact.val < 2
fact_two task fact layer fits within h =
    let t = two_values task fact.var layer fits h in
    let k = subst (λ (z : Option Variable). IsSomeAnd z (λ v. fact.val < range v)) t.is within in
    omega (arith, k, t.range)

-- a variable that is there is base or derived
pub which : (task : TaskParts) (fact : Fact) → InRange task.variables fact → IsBase task fact.var ⊎ ((layer : ℕ) × HasLayer task fact.var layer)
which task fact within = go (slice_get task.variables fact.var) within
  where
    by_layer : (o : Option ℕ) → (o ≡ None) ⊎ ((layer : ℕ) × (o ≡ Some layer))
    by_layer None = inl refl
    by_layer (Some layer) = inr (layer, refl)

    go : (o : Option Variable) → IsSomeAnd o (λ v. fact.val < range v) → IsSomeAnd o (λ v. v.layer ≡ None)
        ⊎ ((layer : ℕ) × IsSomeAnd o (λ v. v.layer ≡ Some layer))
    go None h = absurd h
    go (Some v) h = by_layer v.layer

-- raised variables of lower layers stay what they were

-- a layer raises its own variables alone
pub down : (task : TaskParts) (s : List ℕ) (layer var at : ℕ) → HasLayer task var at → at < layer
    → RaisedBelow (suc layer) task s var → RaisedBelow layer task s var
unfolding RaisedBelow
down task s layer var at h lt (inl k) =
    let on : HasLayer task var layer = subst (λ (z : ℕ). HasLayer task z layer) k.2 k.3.1 in
    let e = one_layer task var at layer h on in
    absurd (omega (arith, e))
down task s layer var at h lt (inr k) = k

pub up : (task : TaskParts) (s : List ℕ) (layer var : ℕ) → RaisedBelow layer task s var → RaisedBelow (suc layer) task s var
unfolding RaisedBelow
up task s layer var h = inr h

pub below_up : (task : TaskParts) (s : List ℕ) (n layer var : ℕ) → RaisedBelow layer task s var → RaisedBelow (n + layer) task s var
below_up task s zero layer var h = subst (λ (z : ℕ). RaisedBelow z task s var) (let e : layer ≡ 0 + layer = omega arith in e) h
below_up task s (suc n) layer var h = subst (λ (z : ℕ). RaisedBelow z task s var)
    (let e : suc (n + layer) ≡ suc n + layer = omega arith in e)
    (up task s (n + layer) var (below_up task s n layer var h))

pub below_down : (task : TaskParts) (s : List ℕ) (n layer var at : ℕ) → HasLayer task var at → at < layer
    → RaisedBelow (n + layer) task s var → RaisedBelow layer task s var
below_down task s zero layer var at l lt h = subst (λ (z : ℕ). RaisedBelow z task s var) (let e : 0 + layer ≡ layer = omega arith in e) h
below_down task s (suc n) layer var at l lt h = below_down task s n layer var at l lt
    (down task s (n + layer) var at l (omega arith) (subst (λ (z : ℕ). RaisedBelow z task s var)
    (let e : suc n + layer ≡ suc (n + layer) = omega arith in e) h))

-- a raised variable has a layer
pub raised_layer : (layer : ℕ) (task : TaskParts) (s : List ℕ) (var : ℕ) → RaisedBelow layer task s var → (at : ℕ) × HasLayer task var at × (at < layer)
unfolding RaisedBelow
raised_layer zero task s var h = absurd h
raised_layer (suc layer) task s var (inl k) = (layer, subst (λ (z : ℕ). HasLayer task z layer) k.2 k.3.1, omega arith)
raised_layer (suc layer) task s var (inr k) = (let r = raised_layer layer task s var k in (r.0, r.1, omega (arith, r.2)))

-- what the layers below a number raise is what is raised, once the variable's layer is below it
pub raised_by : (task : TaskParts) (s : List ℕ) (n var layer : ℕ) → HasLayer task var layer → layer < n → RaisedBelow n task s var ↔ Raised task s var
raised_by task s n var layer on lt = (
  (λ h. (
    layer,
    on,
    below_down task s (n - (layer + 1)) (layer + 1) var layer on (omega arith)
        (subst (λ (z : ℕ). RaisedBelow z task s var) (let e : n ≡ (n - (layer + 1)) + (layer + 1) = omega
        (arith, lt) in e) h),
  )),
  (λ h.
      let e = one_layer task var layer h.0 on h.1 in
      subst (λ (z : ℕ). RaisedBelow z task s var) (let k : (n - (h.0 + 1)) + (h.0 + 1) ≡ n = omega
      (arith, lt, e) in k) (below_up task s (n - (h.0 + 1)) (h.0 + 1) var h.2)),
)
