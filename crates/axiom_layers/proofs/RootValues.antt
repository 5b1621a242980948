-- The values that sets of states give the variables.
use Rattle.std.proofs.Common.{◌≡◌, ℕ, ◌<◌, Bool, not, cond, List, length, get_or, Option, Some, None, IsSomeAnd, slice_get, refl, sym, ap, subst, ◌∙◌, arith}
use Rattle.std.specs.Prelude.{option_and_then}
use Rattle.std.proofs.lemmas.List.FromFn.{length-map-range_with_len, get_or-map-range_with_len, fill_by_all}
use Rattle.symk_task.specs.declared.parts.Variable.{Variable}
use Rattle.symk_task.specs.declared.parts.TaskParts.{TaskParts}
use Rattle.symk_task.specs.Variables.{IsBase, HasLayer, layer_of, place, other_value}
use Rattle.symk_task.proofs.Places.{within_some}
use Rattle.bdd_table.specs.declared.node.Node.{Node}
use Rattle.bdd_table.specs.Diagram.{Bits, means, Keeps}
use Rattle.var_order.specs.Layout.{Layout}
use Rattle.bdd_sets.specs.Sets.{IsSetOfStates}
use Rattle.bdd_sets.proofs.OfStates.{set_kept}
use Rattle.axiom_layers.specs.Roots.{AreSets}
use Rattle.axiom_layers.specs.Raising.{value_by_roots, values_of, IsTrueExactlyWhere}

pub values_length : (task : TaskParts) (xs : List Node) (roots s : List ℕ) (b : Bits) → length (values_of task xs roots s b) ≡ length task.variables
unfolding values_of
values_length task xs roots s b = length-map-range_with_len (λ var. value_by_roots task xs roots s b var (layer_of task var)) 0 (length task.variables)

pub value_there : (task : TaskParts) (xs : List Node) (roots s : List ℕ) (b : Bits) (var : ℕ)
    → var < length task.variables → get_or (values_of task xs roots s b) var 0 ≡ value_by_roots task xs roots s b var
    (layer_of task var)
unfolding values_of
value_there task xs roots s b var lt = get_or-map-range_with_len
    (λ var. value_by_roots task xs roots s b var (layer_of task var)) 0 (length task.variables) var var 0 lt (omega arith)

-- what a list of values must have to be these
pub values_are : (task : TaskParts) (xs : List Node) (roots s : List ℕ) (b : Bits) (values : List ℕ) → length values ≡ length task.variables
    → ((var : ℕ) → var < length task.variables → get_or values var 0 ≡ value_by_roots task xs roots s b var
    (layer_of task var)) → values ≡ values_of task xs roots s b
unfolding values_of
values_are task xs roots s b values e h = fill_by_all (λ var. value_by_roots task xs roots s b var (layer_of task var)) values (length task.variables) 0 e h

at_layer : (o : Option Variable) (l : Option ℕ) → IsSomeAnd o (λ v. v.layer ≡ l) → option_and_then (λ (v : Variable). v.layer) o ≡ l
at_layer None l h = absurd h
at_layer (Some v) l h = h

pub layer_is : (task : TaskParts) (var layer : ℕ) → HasLayer task var layer → layer_of task var ≡ Some layer
layer_is task var layer h = at_layer (slice_get task.variables var) (Some layer) h

pub base_value : (task : TaskParts) (xs : List Node) (roots s : List ℕ) (b : Bits) (var : ℕ) → IsBase task var
    → get_or (values_of task xs roots s b) var 0 ≡ get_or s (place task var) 0
base_value task xs roots s b var h =
    value_there task xs roots s b var (within_some (λ v. v.layer ≡ None) task.variables var h)
    ∙ ap (λ z. value_by_roots task xs roots s b var z) (at_layer (slice_get task.variables var) None h)

pub derived_value : (task : TaskParts) (xs : List Node) (roots s : List ℕ) (b : Bits) (var layer : ℕ) → HasLayer task var layer
    → get_or (values_of task xs roots s b) var 0 ≡ cond (means xs (get_or roots var 0) b) (other_value task var) (get_or task.initial var 0)
derived_value task xs roots s b var layer h =
    value_there task xs roots s b var (within_some (λ v. v.layer ≡ Some layer) task.variables var h)
    ∙ ap (λ z. value_by_roots task xs roots s b var z) (layer_is task var layer h)

-- roots that mean the same give the same values
pub same_values : (task : TaskParts) (xs ys : List Node) (roots more s : List ℕ) (b : Bits)
    → ((var : ℕ) → var < length task.variables → means ys (get_or more var 0) b ≡ means xs (get_or roots var 0) b)
    → values_of task ys more s b ≡ values_of task xs roots s b
same_values task xs ys roots more s b h = values_are task xs roots s b (values_of task ys more s b)
    (values_length task ys more s b) (λ var lt. value_there task ys more s b var lt ∙ each var (layer_of task var)
    (h var lt))
  where
    each : (var : ℕ) (l : Option ℕ) → means ys (get_or more var 0) b ≡ means xs (get_or roots var 0) b
        → value_by_roots task ys more s b var l ≡ value_by_roots task xs roots s b var l
    each var None e = refl
    each var (Some layer) e = ap (λ t. cond t (other_value task var) (get_or task.initial var 0)) e

-- a table that grows keeps sets, their values and what is said of them
pub kept_values : (task : TaskParts) (o : Layout) (xs ys : List Node) (roots s : List ℕ) (b : Bits) → Keeps xs ys
    → AreSets task o xs roots → values_of task ys roots s b ≡ values_of task xs roots s b
kept_values task o xs ys roots s b k a = same_values task xs ys roots roots s b
    (λ var lt. k.meaning (get_or roots var 0) b (a.known var (omega (arith, lt, a.each))))

pub kept_sets : (task : TaskParts) (o : Layout) (xs ys : List Node) (roots : List ℕ) → Keeps xs ys → AreSets task o xs roots → AreSets task o ys roots
kept_sets task o xs ys roots k a = record {
  each = a.each;
  known = λ var lt. (let h = a.known var lt in let l = k.known in omega (arith, h, l));
  of_states = λ var lt. set_kept o xs ys (get_or roots var 0) k (a.known var lt) (a.of_states var lt);
}

pub kept_says : (task : TaskParts) (o : Layout) (xs ys : List Node) (roots : List ℕ) (P : List ℕ → Type 0) (id : ℕ)
    → Keeps xs ys → AreSets task o xs roots → id < length xs → IsTrueExactlyWhere task o xs roots P id → IsTrueExactlyWhere task o ys roots P id
kept_says task o xs ys roots P id k a known says s b state code =
    let h = says s b state code in
    let e = k.meaning id b known in
    let v = kept_values task o xs ys roots s b k a in
    ((λ t. subst P (sym v) (h.0 (sym e ∙ t))), (λ p. e ∙ h.1 (subst P v p)))

pub keeps_on : (xs ys zs : List Node) → Keeps xs ys → Keeps ys zs → Keeps xs zs
keeps_on xs ys zs k l = record {
  known = (let a = k.known in let c = l.known in omega (arith, a, c));
  meaning = λ id b lt. l.meaning id b (let a = k.known in omega (arith, a, lt)) ∙ k.meaning id b lt;
}

pub keeps_itself : (xs : List Node) → Keeps xs xs
keeps_itself xs = record { known = omega arith; meaning = λ id b lt. refl }

-- what is made of sets of states point by point is one
pub constant_of_states : (o : Layout) (xs : List Node) (id : ℕ) (t : Bool) → ((b : Bits) → means xs id b ≡ t) → IsSetOfStates o xs id
constant_of_states o xs id t m b c agree = m b ∙ sym (m c)

pub neg_of_states : (o : Layout) (xs ys : List Node) (f id : ℕ) → IsSetOfStates o xs f
    → ((b : Bits) → means ys id b ≡ not (means xs f b)) → IsSetOfStates o ys id
neg_of_states o xs ys f id is m b c agree = m b ∙ ap not (is b c agree) ∙ sym (m c)

pub both_of_states : (op : Bool → Bool → Bool) (o : Layout) (xs ys : List Node) (f g id : ℕ) → IsSetOfStates o xs f
    → IsSetOfStates o xs g → ((b : Bits) → means ys id b ≡ op (means xs f b) (means xs g b)) → IsSetOfStates o ys id
both_of_states op o xs ys f g id is_f is_g m b c agree =
    m b ∙ ap (λ (t : Bool). op t (means xs g b)) (is_f b c agree) ∙ ap (λ (t : Bool). op (means xs f c) t) (is_g b c agree) ∙ sym (m c)
