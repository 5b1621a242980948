-- Sets whose values are those of the task say where variables are raised, and where facts hold.
use Rattle.std.proofs.Common.{◌≡◌, ℕ, ◌-◌, ◌<◌, ◌⊎◌, ◌↔◌, inl, inr, Bool, true, false, cond, List, length, get_or, replicate, Option, Some, IsSomeAnd, refl, sym, ap, subst, ◌∙◌, arith, true≢false}
use Rattle.std.specs.List.{All}
use Rattle.std.proofs.lemmas.List.{length-replicate, get_or-replicate}
use Rattle.symk_task.specs.declared.parts.Fact.{Fact}
use Rattle.symk_task.specs.declared.parts.Variable.{Variable}
use Rattle.symk_task.specs.declared.parts.TaskParts.{TaskParts}
use Rattle.symk_task.specs.Derived.{Raised}
use Rattle.symk_task.specs.Steps.{Holds}
use Rattle.symk_task.specs.Variables.{IsBase, HasLayer, range, other_value}
use Rattle.symk_task.specs.Fits.{Fits, InRange}
use Rattle.symk_task.proofs.Places.{within_some}
use Rattle.symk_task.proofs.Layers.{Two, two_values, fact_two, base_derived, which}
use Rattle.task_run.specs.Values.{HasValue, Valued}
use Rattle.task_run.proofs.Layers.{Below}
use Rattle.bdd_table.specs.declared.node.Node.{Node}
use Rattle.bdd_table.specs.Diagram.{Bits, means, Keeps, IsReduced}
use Rattle.bdd_table.specs.Collected.{IsMoved}
use Rattle.bdd_table.proofs.Meaning.{means_false}
use Rattle.var_order.specs.Layout.{Layout}
use Rattle.bdd_sets.specs.Sets.{IsSetOfStates}
use Rattle.axiom_layers.specs.Roots.{AreSets, AreRoots, EachState, IsTrueWhere}
use Rattle.axiom_layers.specs.Raising.{values_of, IsTrueExactlyWhere}
use Rattle.axiom_layers.proofs.RootValues.{values_length, base_value, derived_value, kept_sets, constant_of_states}
use Rattle.axiom_layers.proofs.FactSets.{other_differs}

-- Before any rule each set is empty.

none_there : (roots : List ℕ) (n var : ℕ) → roots ≡ replicate n 0 → var < n → get_or roots var 0 ≡ 0
none_there roots n var e lt = ap (λ (l : List ℕ). get_or l var 0) e ∙ get_or-replicate n var 0 0 lt

pub empty_sets : (task : TaskParts) (o : Layout) (xs : List Node) (roots : List ℕ) → IsReduced xs
    → roots ≡ replicate (length task.variables) 0 → AreSets task o xs roots
empty_sets task o xs roots r e = record {
  each = each;
  known = λ var lt. (let z = none var lt in let k = r.constants in omega (arith, z, k));
  of_states = λ var lt. subst (IsSetOfStates o xs) (sym (none var lt)) (constant_of_states o xs 0 false (means_false xs r));
}
  where
    each : length roots ≡ length task.variables
    each = ap (λ (l : List ℕ). length l) e ∙ length-replicate (length task.variables) 0

    none : (var : ℕ) → var < length roots → get_or roots var 0 ≡ 0
    none var lt = none_there roots (length task.variables) var e (omega (arith, lt, each))

pub empty_below : (task : TaskParts) (xs : List Node) (roots s : List ℕ) (b : Bits) → Fits task → IsReduced xs
    → roots ≡ replicate (length task.variables) 0 → Below task s 0 (values_of task xs roots s b)
empty_below task xs roots s b fits r e = record {
  each = values_length task xs roots s b;
  base = λ var h. base_value task xs roots s b var h;
  two = λ var at l. (let t = two_values task var at fits l in let d = default var at l in let i = t.initial in omega (arith, d, i));
  low = λ var at l lt. absurd (omega (arith, lt));
  high = λ var at l lt. default var at l;
}
  where
    default : (var at : ℕ) → HasLayer task var at → get_or (values_of task xs roots s b) var 0 ≡ get_or task.initial var 0
    default var at l =
        derived_value task xs roots s b var at l
        ∙ ap (λ t. cond t (other_value task var) (get_or task.initial var 0))
        (ap (λ (i : ℕ). means xs i b) (none_there roots (length task.variables) var e
        (within_some (λ v. v.layer ≡ Some at) task.variables var l)) ∙ means_false xs r b)

-- sets that give each state its values are roots
pub valued_roots : (task : TaskParts) (o : Layout) (xs : List Node) (roots : List ℕ) → Fits task
    → AreSets task o xs roots → EachState task o (λ s b. Valued task s (values_of task xs roots s b))
    → AreRoots task o xs roots
valued_roots task o xs roots fits sets valued = record { sets = sets; raised = λ var layer l s b state code. law var layer l s b (valued s b state code) }
  where
    law : (var layer : ℕ) → HasLayer task var layer → (s : List ℕ) (b : Bits)
        → Valued task s (values_of task xs roots s b) → (means xs (get_or roots var 0) b ≡ true) ↔ Raised task s var
    law var layer l s b v = (forth, back)
      where
        t : Two task var layer
        t = two_values task var layer fits l

        fact : Fact
        fact = record { var = var; val = other_value task var }

        within : InRange task.variables fact
        within = subst (λ (z : Option Variable). IsSomeAnd z (λ v. other_value task var < range v)) (sym t.is)
            (let r = t.range in let i = t.initial in
            let k : 1 - get_or task.initial var 0 < range t.v = omega (arith, r, i) in k)

        value : get_or (values_of task xs roots s b) var 0 ≡ cond (means xs (get_or roots var 0) b) (other_value task var) (get_or task.initial var 0)
        value = derived_value task xs roots s b var layer l

        holds_raised : Holds task s fact → Raised task s var
        holds_raised (inl k) = absurd (base_derived task var layer k.0 l)
        holds_raised (inr k) = k.2.0 refl

        forth : means xs (get_or roots var 0) b ≡ true → Raised task s var
        forth m = holds_raised ((v.holds fact within).1 (value ∙ ap (λ t. cond t (other_value task var) (get_or task.initial var 0)) m))

        by : (u : Bool) → cond u (other_value task var) (get_or task.initial var 0) ≡ other_value task var → u ≡ true
        by true e = refl
        by false e = absurd (other_differs task var layer fits l (sym e))

        back : Raised task s var → means xs (get_or roots var 0) b ≡ true
        back r = by (means xs (get_or roots var 0) b) (sym value ∙ (v.holds fact within).0 (inr (layer, l, ((λ _. r), (λ _. refl)))))

-- roots give each state its values
pub roots_valued : (task : TaskParts) (o : Layout) (xs : List Node) (roots : List ℕ) → Fits task
    → AreRoots task o xs roots → EachState task o (λ s b. Valued task s (values_of task xs roots s b))
roots_valued task o xs roots fits are s b state code = record
    { each = values_length task xs roots s b; holds = λ fact within. go fact within (which task fact within) }
  where
    go : (fact : Fact) → InRange task.variables fact → IsBase task fact.var
        ⊎ ((layer : ℕ) × HasLayer task fact.var layer) → Holds task s fact
        ↔ HasValue (values_of task xs roots s b) fact
    go fact within (inl base) = (to, (λ e. inl (base, sym (base_value task xs roots s b fact.var base) ∙ e)))
      where
        to : Holds task s fact → HasValue (values_of task xs roots s b) fact
        to (inl k) = base_value task xs roots s b fact.var base ∙ k.1
        to (inr k) = absurd (base_derived task fact.var k.0 base k.1)
    go fact within (inr (layer, on)) = by (means xs (get_or roots fact.var 0) b) refl
      where
        default : ℕ
        default = get_or task.initial fact.var 0

        two : Two task fact.var layer
        two = two_values task fact.var layer fits on

        val : fact.val < 2
        val = fact_two task fact layer fits within on

        raised : (means xs (get_or roots fact.var 0) b ≡ true) ↔ Raised task s fact.var
        raised = are.raised fact.var layer on s b state code

        value : get_or (values_of task xs roots s b) fact.var 0 ≡ cond (means xs (get_or roots fact.var 0) b)
            (other_value task fact.var) (get_or task.initial fact.var 0)
        value = derived_value task xs roots s b fact.var layer on

        by : (u : Bool) → means xs (get_or roots fact.var 0) b ≡ u → Holds task s fact ↔ HasValue (values_of task xs roots s b) fact
        by true m = (to, (λ e. inr (layer, on, ((λ _. raised.0 m), (λ _. sym e ∙ is)))))
          where
            is : get_or (values_of task xs roots s b) fact.var 0 ≡ other_value task fact.var
            is = value ∙ ap (λ t. cond t (other_value task fact.var) (get_or task.initial fact.var 0)) m

            to : Holds task s fact → HasValue (values_of task xs roots s b) fact
            to (inl k) = absurd (base_derived task fact.var layer k.0 on)
            to (inr k) = is ∙ sym (k.2.1 (raised.0 m))
        by false m = (to, (λ e. inr (layer, on, ((λ k. absurd (other_differs task fact.var layer fits on (sym k ∙ sym e ∙ is))), (λ r. absurd (none r))))))
          where
            is : get_or (values_of task xs roots s b) fact.var 0 ≡ get_or task.initial fact.var 0
            is = value ∙ ap (λ t. cond t (other_value task fact.var) (get_or task.initial fact.var 0)) m

            none : Raised task s fact.var → ⊥
            none r = true≢false (sym (raised.1 r) ∙ m)

            to : Holds task s fact → HasValue (values_of task xs roots s b) fact
            to (inl k) = absurd (base_derived task fact.var layer k.0 on)
            to (inr k) = (
                let ne : fact.val ≡ 1 - get_or task.initial fact.var 0 → ⊥ = (λ e. none (k.2.0 e)) in
                let i = two.initial in
                let d : fact.val ≡ get_or task.initial fact.var 0 = omega (arith, val, ne, i) in
                is ∙ sym d)

-- what is said of values is so of facts
pub fact_holds : (task : TaskParts) (o : Layout) (xs : List Node) (roots : List ℕ) (fact : Fact) (id : ℕ) → Fits task
    → AreRoots task o xs roots → InRange task.variables fact
    → IsTrueExactlyWhere task o xs roots (λ values. HasValue values fact) id → IsTrueWhere task o xs (λ s. Holds task s fact) id
fact_holds task o xs roots fact id fits are within says s b state code =
    let h = says s b state code in
    let v = (roots_valued task o xs roots fits are s b state code).holds fact within in
    ((λ t. v.1 (h.0 t)), (λ k. h.1 (v.0 k)))

pub facts_hold : (task : TaskParts) (o : Layout) (xs : List Node) (roots : List ℕ) (facts : List Fact) (id : ℕ)
    → Fits task → AreRoots task o xs roots → All (InRange task.variables) facts
    → IsTrueExactlyWhere task o xs roots (λ values. All (HasValue values) facts) id → IsTrueWhere task o xs (λ s. All (Holds task s) facts) id
facts_hold task o xs roots facts id fits are within says s b state code =
    let h = says s b state code in
    let v = roots_valued task o xs roots fits are s b state code in (
      (λ t k d lt. (v.holds (get_or facts k d) (within k d lt)).1 (h.0 t k d lt)),
      (λ all. h.1 (λ k d lt. (v.holds (get_or facts k d) (within k d lt)).0 (all k d lt))),
    )

-- roots stay roots where their table grows
pub roots_kept : (task : TaskParts) (o : Layout) (xs ys : List Node) (roots : List ℕ) → Keeps xs ys → AreRoots task o xs roots → AreRoots task o ys roots
roots_kept task o xs ys roots k are = record {
  sets = kept_sets task o xs ys roots k are.sets;
  raised = λ var layer on s b state code. (
      let each = are.sets.each in
      let within = within_some (λ v. v.layer ≡ Some layer) task.variables var on in
      let e = k.meaning (get_or roots var 0) b (are.sets.known var (omega (arith, within, each))) in
      let r = are.raised var layer on s b state code in
      ((λ t. r.0 (sym e ∙ t)), (λ h. e ∙ r.1 h)));
}

-- and where each is moved to what means the same
pub roots_moved : (task : TaskParts) (o : Layout) (xs ys : List Node) (roots more : List ℕ) → AreRoots task o xs roots → length more ≡ length roots
    → ((var : ℕ) → var < length roots → IsMoved xs ys (get_or roots var 0) (get_or more var 0)) → AreRoots task o ys more
roots_moved task o xs ys roots more are each moved = record {
  sets = record {
    each = each ∙ are.sets.each;
    known = λ var lt. (moved var (omega (arith, lt, each))).known;
    of_states = λ var lt b c agree. (
        let m = moved var (omega (arith, lt, each)) in
        m.meaning b ∙ are.sets.of_states var (omega (arith, lt, each)) b c agree ∙ sym (m.meaning c));
  };
  raised = λ var layer on s b state code. (
      let within = within_some (λ v. v.layer ≡ Some layer) task.variables var on in
      let all = are.sets.each in
      let e = (moved var (omega (arith, within, all))).meaning b in
      let r = are.raised var layer on s b state code in
      ((λ t. r.0 (sym e ∙ t)), (λ h. e ∙ r.1 h)));
}
