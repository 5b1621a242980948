-- The list of places, variable by variable.
use Rattle.std.proofs.Common.{◌≡◌, ℕ, zero, suc, ◌+◌, ◌<◌, ◌≤◌, inl, inr, Bool, true, false, cond, List, [], ◌∷◌, ◌++◌, length, map, get_or, take, Option, Some, None, slice_get, is_none, refl, sym, ◌∙◌, ap, subst, arith, add-one, length-append}
use Rattle.std.specs.List.{flat_map, range_with_len, sum_by, All}
use Rattle.std.specs.Option.{option_map_or}
use Rattle.std.proofs.lemmas.List.{map-append, length-map, append_assoc, append-nil, take_all, get_or-map}
use Rattle.std.proofs.lemmas.Grind.{flat_map-append}
use Rattle.std.proofs.lemmas.List.FromFn.{length-map-range_with_len, get_or-map-range_with_len}
use Rattle.std.proofs.lemmas.List.Elements.{All-nil, All-append}
use Rattle.std.proofs.lemmas.List.Sums.{sum_by_more}
use Rattle.std.proofs.lemmas.Option.{slice_get_cases, slice_get-get_or}
use Rattle.symk_task.specs.declared.parts.Variable.{Variable}
use Rattle.symk_task.specs.declared.parts.TaskParts.{TaskParts}
use Rattle.symk_task.specs.Variables.{is_base, range, width}
use Rattle.symk_task.specs.Fits.{bits_of}
use Rattle.var_order.specs.declared.block.Block.{Block}
use Rattle.var_order.specs.Layout.{Layout, IsLayout, IsOrderOf, IsInside, no_block, slot_of, block_at, block_of, width_of, place_of, bits}
use Rattle.var_order.proofs.Values.{base_width}
use Rattle.certificates.specs.Texts.{state_width}
use Rattle.certificates.specs.Places.{variable_places, places_of}
use Rattle.certificates.proofs.Reading.{none_some, base_there, derived_width}

-- a variable's place is one of the order
place_below : (o : Layout) (var bit : ℕ) → IsLayout o → bit < width_of o var → place_of o var bit < bits o
place_below o var bit l h = go (slot_of o var) refl
  where
    go : (x : Option ℕ) → slot_of o var ≡ x → place_of o var bit < bits o
    go None e = absurd (let w : width_of o var ≡ 0 = ap (λ (y : Option ℕ). (option_map_or (block_at o) y no_block).width) e in omega (arith, h, w))
    go (Some slot) e =
        let block : block_of o var ≡ block_at o slot = ap (λ (y : Option ℕ). option_map_or (block_at o) y no_block) e in
        (l.owned slot (place_of o var bit) (subst (λ (b : Block). IsInside b (place_of o var bit)) block
        (record { from = omega arith; before = omega (arith, h) }))).0

range_push : (n a : ℕ) → range_with_len a (suc n) ≡ range_with_len a n ++ (a + n) ∷ []
range_push zero a = ap (λ (x : ℕ). x ∷ []) (let e : a ≡ a + 0 = omega arith in e)
range_push (suc n) a = ap (λ (xs : List ℕ). a ∷ xs) (range_push n (a + 1) ∙ ap
    (λ (x : ℕ). range_with_len (a + 1) n ++ x ∷ []) (let e : (a + 1) + n ≡ a + suc n = omega arith in e))

pub range_more : (n : ℕ) → range_with_len 0 (n + 1) ≡ range_with_len 0 n ++ n ∷ []
range_more n = ap (range_with_len 0) (add-one n) ∙ range_push n 0 ∙ ap (λ (x : ℕ). range_with_len 0 n ++ x ∷ []) (let e : 0 + n ≡ n = omega arith in e)

-- one place more
pub place_more : (o : Layout) (var bit : ℕ) (old now new : List ℕ)
    → now ≡ old ++ map (place_of o var) (range_with_len 0 bit) → new ≡ now ++ place_of o var bit ∷ []
    → new ≡ old ++ map (place_of o var) (range_with_len 0 (bit + 1))
place_more o var bit old now new h e =
    e ∙ ap (λ (xs : List ℕ). xs ++ place_of o var bit ∷ []) h ∙ append_assoc old (map (place_of o var) (range_with_len 0 bit)) (place_of o var bit ∷ [])
    ∙ ap (λ (xs : List ℕ). old ++ xs) (sym (ap (map (place_of o var)) (range_more bit) ∙ map-append (place_of o var) (range_with_len 0 bit) (bit ∷ [])))

-- none of a variable with no slot
pub place_none : (o : Layout) (var : ℕ) (old : List ℕ) → slot_of o var ≡ None → old ≡ old ++ variable_places o var
place_none o var old e = sym
    (ap (λ (x : Option ℕ). old ++ map (place_of o var) (range_with_len 0
    (option_map_or (block_at o) x no_block).width)) e ∙ append-nil old)

-- the places of one variable more
pub variable_more : (o : Layout) (var : ℕ) (now new : List ℕ)
    → now ≡ flat_map (variable_places o) (range_with_len 0 var) → new ≡ now ++ variable_places o var
    → new ≡ flat_map (variable_places o) (range_with_len 0 (var + 1))
variable_more o var now new h e =
    e ∙ ap (λ (xs : List ℕ). xs ++ variable_places o var) h
    ∙ sym (ap (flat_map (variable_places o)) (range_more var)
    ∙ flat_map-append (variable_places o) (range_with_len 0 var) (var ∷ [])
    ∙ ap (λ (xs : List ℕ). flat_map (variable_places o) (range_with_len 0 var) ++ xs)
    (append-nil (variable_places o var)))

module _ (task : TaskParts) (o : Layout) (order : IsOrderOf task o) where
  by_base : (var : ℕ) (v : Variable) → slice_get task.variables var ≡ Some v → (t : Bool) → is_base v ≡ t → width_of o var ≡ cond t (width (range v)) 0
  by_base var v there true t = base_width task o var v order there (none_some v.layer t)
  by_base var v there false t = derived_width task o order var v there t

  width_is : (var : ℕ) (v : Variable) → slice_get task.variables var ≡ Some v → width_of o var ≡ bits_of v
  width_is var v there = by_base var v there (is_base v) refl

  count_to : (n : ℕ) → n ≤ length task.variables → length (flat_map (variable_places o) (range_with_len 0 n)) ≡ sum_by bits_of (take n task.variables)
  count_to zero le = refl
  count_to (suc n) le = elim (slice_get_cases task.variables n).1 [
    | inl some ↦ (
        let v : Variable = some.0 in
        let there : slice_get task.variables n ≡ Some v = some.2 in
        let ih = count_to n (omega arith) in
        let list = ap (flat_map (variable_places o)) (ap (range_with_len 0) (sym (add-one n)) ∙ range_more n)
        ∙ flat_map-append (variable_places o) (range_with_len 0 n) (n ∷ [])
        ∙ ap (λ (xs : List ℕ). flat_map (variable_places o) (range_with_len 0 n) ++ xs)
        (append-nil (variable_places o n)) in
        let long = ap (λ (xs : List ℕ). length xs) list in
        let both = length-append (flat_map (variable_places o) (range_with_len 0 n)) (variable_places o n) in
        let one : length (variable_places o n) ≡ width_of o n = length-map-range_with_len (place_of o n) 0 (width_of o n) in
        let wide = width_is n v there in
        let same : bits_of (get_or task.variables n v) ≡ bits_of v = ap bits_of some.3 in
        let sum = sum_by_more bits_of task.variables n v (omega arith) in
        let e : sum_by bits_of (take (n + 1) task.variables) ≡ sum_by bits_of (take (suc n) task.variables) =
        ap (λ (k : ℕ). sum_by bits_of (take k task.variables)) (add-one n) in
        omega (arith, ih, long, both, one, wide, same, sum, e))
    | inr past ↦ (let far = past.0 in absurd (omega (arith, far, le)))
  ]

  -- there are as many as a state has bits
  pub count_is : length (places_of task o) ≡ state_width task
  unfolding places_of
  count_is = count_to (length task.variables) (omega arith) ∙ ap (sum_by bits_of) (take_all (length task.variables) task.variables (omega arith))

  pub count_most : length (places_of task o) ≤ 65536
  count_most = (let a = count_is in let b = order.bits in let c = order.layout.most in omega (arith, a, b, c))

  each_below : (var : ℕ) → All (λ p. p < bits o) (variable_places o var)
  each_below var k d lt =
      let long : length (variable_places o var) ≡ width_of o var = length-map-range_with_len (place_of o var) 0 (width_of o var) in
      let within : k < width_of o var = omega (arith, lt, long) in
      let e : get_or (variable_places o var) k d ≡ place_of o var k =
      get_or-map-range_with_len (place_of o var) 0 (width_of o var) k k d within (omega arith) in
      subst (λ (p : ℕ). p < bits o) (sym e) (place_below o var k order.layout within)

  all_below : (xs : List ℕ) → All (λ p. p < bits o) (flat_map (variable_places o) xs)
  all_below [] = All-nil (λ p. p < bits o)
  all_below (x ∷ xs) = All-append (λ p. p < bits o) (variable_places o x) (flat_map (variable_places o) xs) (each_below x) (all_below xs)

  -- and each is one of the order
  pub places_below : All (λ p. p < bits o) (places_of task o)
  unfolding places_of
  places_below = all_below (range_with_len 0 (length task.variables))

  -- the same of a list that is theirs
  pub record AreAll (places : List ℕ) : Type 0 where
    pub same : places ≡ places_of task o
    pub count : length places ≡ state_width task
    pub most : length places ≤ 65536
    pub below : All (λ p. p < bits o) places

  pub all_places : (places : List ℕ) (n : ℕ) → n ≡ length task.variables → places ≡ flat_map (variable_places o) (range_with_len 0 n) → AreAll places
  unfolding places_of
  all_places places n e h =
      let same : places ≡ places_of task o = h ∙ ap (λ (k : ℕ). flat_map (variable_places o) (range_with_len 0 k)) e in
      record {
        same = same;
        count = ap (λ (xs : List ℕ). length xs) same ∙ count_is;
        most = subst (λ (xs : List ℕ). length xs ≤ 65536) (sym same) count_most;
        below = subst (λ (xs : List ℕ). All (λ p. p < bits o) xs) (sym same) places_below;
      }

  pub all_there : (places : List ℕ) (n : ℕ) (there : List Variable) (t : TaskParts) → there ≡ t.variables → t ≡ task
      → n ≤ length there → length there ≤ n → places ≡ flat_map (variable_places o) (range_with_len 0 n)
      → AreAll places
  all_there places n there t e f low high h =
      let long : length there ≡ length task.variables = ap (λ (xs : List Variable). length xs) e ∙ ap (λ (x : TaskParts). length x.variables) f in
      all_places places n (omega (arith, low, high, long)) h
