-- The bits of a step by an operator: each touched variable's next bits, and the bits of all others.
use Rattle.std.proofs.Common.{◌≡◌, ℕ, zero, suc, ◌+◌, ◌<◌, ◌==◌, ◌||◌, ◌⊎◌, inl, inr, Bool, true, false, List, [], ◌∷◌, length, get_or, Option, Some, None, IsSome, IsSomeAnd, slice_get, refl, sym, ◌∙◌, ap, subst, arith, eqb-true, true≢false}
use Rattle.std.specs.List.{All, list_any}
use Rattle.std.specs.Option.{option_map_or}
use Rattle.std.proofs.lemmas.Bool.{eq-eqb, or_cases}
use Rattle.std.proofs.lemmas.Option.{slice_get_cases, same_Some}
use Rattle.symk_task.specs.declared.parts.Variable.{Variable}
use Rattle.symk_task.specs.declared.parts.Effect.{Effect}
use Rattle.symk_task.specs.declared.parts.TaskParts.{TaskParts}
use Rattle.symk_task.specs.Variables.{IsBase, place}
use Rattle.symk_task.specs.Steps.{NoneOn, ValueAfter}
use Rattle.symk_task.proofs.OneState.{value_one}
use Rattle.bdd_table.specs.Diagram.{Bits}
use Rattle.bdd_ops.specs.Quantified.{is_in}
use Rattle.var_order.specs.Layout.{Layout, IsOrderOf, slot_of, block_at, bits}
use Rattle.var_order.specs.Codes.{value_at, IsCode}
use Rattle.var_order.proofs.Laying.{laid_at}
use Rattle.var_order.proofs.Spelling.{number_same}
use Rattle.var_order.proofs.Values.{base_slot}
use Rattle.transitions.specs.Levels.{stepped}
use Rattle.transitions.specs.Touched.{is_on, is_touched, touched_places}
use Rattle.transitions.proofs.TouchedPlaces.{in_filter}
use Rattle.transitions.proofs.ImageLaw.{true_or_false, stepped_in, stepped_out}

no_variable : (v : Variable) → None ≡ Some v → ⊥
no_variable v e = cc

none_some : (slot : ℕ) → None ≡ Some slot → ⊥
none_some slot e = cc

past_none : (slots : List (Option ℕ)) (var slot : ℕ) → get_or slots var None ≡ Some slot → var < length slots
past_none [] var slot h = absurd (none_some slot h)
past_none (x ∷ slots) zero slot h = omega arith
past_none (x ∷ slots) (suc var) slot h = (let k = past_none slots var slot h in omega (arith, k))

by_layer : (x : Option ℕ) → (x ≡ None) ⊎ IsSome x
by_layer None = inl refl
by_layer (Some y) = inr refl

-- a variable that has a value in a state is a base variable, and the value stands at its place
record IsPlaced (task : TaskParts) (var slot : ℕ) : Type 0 where
  base : IsBase task var
  here : place task var ≡ slot

placed : (task : TaskParts) (o : Layout) (var slot : ℕ) → IsOrderOf task o → slot_of o var ≡ Some slot → IsPlaced task var slot
placed task o var slot order h = go (slice_get task.variables var) refl
  where
    base_at : (v : Variable) → slice_get task.variables var ≡ Some v → v.layer ≡ None → IsBase task var
    base_at v e none = subst (λ (x : Option Variable). IsSomeAnd x (λ v. v.layer ≡ None)) (sym e) none

    go : (x : Option Variable) → slice_get task.variables var ≡ x → IsPlaced task var slot
    go None e =
        let lt = past_none o.slots var slot h in
        let same = order.variables in
        let there = slice_get_cases task.variables var in
        absurd (elim there.1 [
          | inl some ↦ (let z : None ≡ Some some.0 = sym e ∙ some.2 in no_variable some.0 z)
          | inr past ↦ (let far = past.0 in omega (arith, lt, same, far))
        ])
    go (Some v) e = elim (by_layer v.layer) [
      | inl none ↦ record { base = base_at v e none; here = same_Some (place task var) slot (sym (base_slot task o var order (base_at v e none)) ∙ h) }
      | inr derived ↦ (let laid = laid_at task o var v order e in absurd (none_some slot (sym (laid.derived derived) ∙ h)))
    ]

-- a test that holds of an element holds of one of the list, and the other way round
any_at : (test : Effect → Bool) (es : List Effect) → list_any test es ≡ true → (k : ℕ) × (k < length es) × ((d : Effect) → test (get_or es k d) ≡ true)
any_at test [] h = absurd (true≢false (sym h))
any_at test (e ∷ es) h = elim (or_cases (test e) (list_any test es) h) [
  | inl here ↦ (0, omega arith, (λ d. here))
  | inr later ↦ (let r = any_at test es later in (suc r.0, omega (arith, r.1), (λ d. r.2 d)))
]

any_has : (test : Effect → Bool) (es : List Effect) (k : ℕ) (d : Effect) → k < length es → test (get_or es k d) ≡ true → list_any test es ≡ true
any_has test [] k d lt h = absurd (omega (arith, lt))
any_has test (e ∷ es) zero d lt h = ap (λ (t : Bool). t || list_any test es) h
any_has test (e ∷ es) (suc k) d lt h = ap (λ (t : Bool). test e || t) (any_has test es k d (omega (arith, lt)) h) ∙ or_true (test e)
  where
    or_true : (x : Bool) → (x || true) ≡ true
    or_true true = refl
    or_true false = refl

none_on : (F : Effect → Type 0) (var : ℕ) (test : Effect → Bool) (es : List Effect)
    → ((e : Effect) → e.var ≡ var → test e ≡ true) → list_any test es ≡ false → NoneOn F var es
none_on F var test [] on h = tt
none_on F var test (e ∷ es) on h = (
  (λ same f. true≢false (sym (ap (λ (t : Bool). t || list_any test es) (on e same)) ∙ h)),
  none_on F var test
      es on (rest (test e) h),
)
  where
    rest : (x : Bool) → (x || list_any test es) ≡ false → list_any test es ≡ false
    rest true k = absurd (true≢false k)
    rest false k = k

module _ (task : TaskParts) (o : Layout) (order : IsOrderOf task o) (effects : List Effect) where
  on_value : (x : Option ℕ) (slot : ℕ) → option_map_or (λ k. k == slot) x false ≡ true → x ≡ Some slot
  on_value None slot h = absurd (true≢false (sym h))
  on_value (Some k) slot h = ap (λ (z : ℕ). Some z) (eqb-true k slot h)

  -- an effect that is on a value is on its variable
  on_variable : (e : Effect) (var slot : ℕ) → slot_of o var ≡ Some slot → is_on o slot e ≡ true → e.var ≡ var
  on_variable e var slot is h = order.layout.one e.var var slot (on_value (slot_of o e.var) slot h) is

  pub on_its_value : (e : Effect) (var slot : ℕ) → slot_of o var ≡ Some slot → e.var ≡ var → is_on o slot e ≡ true
  on_its_value e var slot is same = ap (λ (v : ℕ). option_map_or (λ k. k == slot) (slot_of o v) false) same
      ∙ ap (λ (x : Option ℕ). option_map_or (λ k. k == slot) x false) is ∙ eq-eqb slot slot refl

  -- whether one of the effects is on the value
  abbrev has_effect : ℕ → Bool
  has_effect slot = list_any (is_on o slot) effects

  -- the places of a value are touched where an effect is on it
  value_touched : (slot k : ℕ) → k < (block_at o slot).width → is_in (touched_places o effects) ((block_at o slot).first + k) ≡ has_effect slot
  value_touched slot k lt =
      let p = (block_at o slot).first + k in
      let owned = order.layout.owned slot p (record { from = omega arith; before = omega (arith, lt) }) in
      in_filter (is_touched o effects) (bits o) 0 p (omega arith) (let far = owned.0 in omega (arith, far)) ∙ ap has_effect owned.1

  -- the bits of a step say of a touched value what the next bits do
  pub value_next : (b : Bits) (slot : ℕ) → has_effect slot ≡ true → value_at o 0 (stepped (touched_places o effects) b) slot ≡ value_at o 1 b slot
  value_next b slot on = number_same (stepped (touched_places o effects) b) b 0 1 (block_at o slot).width (block_at o slot).first
      (λ k lt. stepped_in (touched_places o effects) b ((block_at o slot).first + k) (value_touched slot k lt ∙ on))

  -- and of any other what those of the state do
  pub value_stays : (b : Bits) (slot : ℕ) → has_effect slot ≡ false → value_at o 0 (stepped (touched_places o effects) b) slot ≡ value_at o 0 b slot
  value_stays b slot off = number_same (stepped (touched_places o effects) b) b 0 0 (block_at o slot).width (block_at o slot).first
      (λ k lt. stepped_out (touched_places o effects) b ((block_at o slot).first + k) (value_touched slot k lt ∙ off))

  -- A step to the values after the effects.
  module _ (F : Effect → Type 0) (s t : List ℕ) (b : Bits) (each : length t ≡ length s) (code : IsCode o 0 s b)
      (after : (var : ℕ) → IsBase task var → ValueAfter F effects var (get_or s (place task var) 0) (get_or t (place task var) 0)) where
    -- a value that no effect is on is the same
    untouched : (slot : ℕ) → slot < length o.blocks → has_effect slot ≡ false → get_or t slot 0 ≡ get_or s slot 0
    untouched slot lt off =
        let used = order.layout.used slot lt in
        let p = placed task o used.0 slot order used.1 in
        let none = none_on F used.0 (is_on o slot) effects (λ e same. on_its_value e used.0 slot used.1 same) off in
        let same = value_one F effects used.0 (get_or s (place task used.0) 0) (get_or t (place task used.0) 0)
        (get_or s (place task used.0) 0) (after used.0 p.base) (inr (none, refl)) in
        subst (λ (k : ℕ). get_or t k 0 ≡ get_or s k 0) p.here same

    -- the bits of the step are those of the state that it leads to, if the next bits spell each touched value
    pub step_code : ((slot : ℕ) → slot < length o.blocks → has_effect slot ≡ true
        → value_at o 1 b slot ≡ get_or t slot 0) → IsCode o 0 t (stepped (touched_places o effects) b)
    step_code next = record {
      each = each ∙ code.each;
      values = λ slot lt. elim (true_or_false (has_effect slot)) [
        | inl on ↦ value_next b slot on ∙ next slot lt on
        | inr off ↦ value_stays b slot off ∙ code.values slot lt ∙ sym (untouched slot lt off)
      ];
    }

  -- what holds of the variable of each effect holds of that of each touched value
  pub of_touched : (P : ℕ → Type 0) (slot : ℕ) → slot < length o.blocks → has_effect slot ≡ true
      → All (λ (e : Effect). P e.var) effects → (var : ℕ) × IsBase task var × (place task var ≡ slot) × P var
  of_touched P slot lt on all =
      let used = order.layout.used slot lt in
      let p = placed task o used.0 slot order used.1 in
      let h = any_at (is_on o slot) effects on in
      let d = get_or effects h.0 no_effect in
      (used.0, p.base, p.here, subst P (on_variable d used.0 slot used.1 (h.2 no_effect)) (all h.0 no_effect h.1))
    where
      no_effect : Effect
      no_effect = record { conds = []; var = 0; pre = None; post = 0 }

  -- the value of an effect's variable is touched
  pub effect_touches : (k : ℕ) (d : Effect) → k < length effects → IsBase task (get_or effects k d).var
      → has_effect (place task (get_or effects k d).var) ≡ true
  effect_touches k d lt base =
      let e = get_or effects k d in
      any_has (is_on o (place task e.var)) effects k d lt (on_its_value e e.var (place task e.var) (base_slot task o e.var order base) refl)
