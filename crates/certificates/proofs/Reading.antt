-- The bits of a state are read off the levels of their places.
use Rattle.std.proofs.Common.{◌≡◌, ℕ, zero, suc, ◌+◌, ◌-◌, ◌<◌, ◌≤◌, inl, inr, Bool, true, false, cond, eqb, List, [], ◌∷◌, ◌++◌, length, map, get_or, Option, Some, None, IsSome, IsSomeAnd, slice_get, is_none, refl, sym, ◌∙◌, ap, subst, arith, add-one}
use Rattle.std.specs.List.{flat_map, range_with_len, sum_by, All}
use Rattle.std.specs.Option.{option_map_or}
use Rattle.std.specs.Int.{bit_at}
use Rattle.std.proofs.lemmas.List.{map-append, length-map}
use Rattle.std.proofs.lemmas.Option.{slice_get_cases}
use Rattle.symk_task.specs.declared.parts.Variable.{Variable}
use Rattle.symk_task.specs.declared.parts.TaskParts.{TaskParts}
use Rattle.symk_task.specs.Variables.{IsBase, IsState, is_base, range, width, place}
use Rattle.bdd_table.specs.Diagram.{Bits}
use Rattle.var_order.specs.Layout.{Layout, IsOrderOf, no_block, slot_of, block_at, block_of, width_of, place_of, level_at}
use Rattle.var_order.specs.Codes.{number, spelt_value, IsCode}
use Rattle.var_order.proofs.Laying.{laid_at}
use Rattle.var_order.proofs.Spelling.{bit_number}
use Rattle.var_order.proofs.Values.{base_width, code_value}
use Rattle.certificates.specs.Meaning.{value_bits, variable_bits, state_bits}
use Rattle.certificates.specs.Places.{variable_places, places_of, bits_at}

-- equal at each number of a range
map_same : {A : Type 0} (f g : ℕ → A) (n a : ℕ) → ((i : ℕ) → a ≤ i → i < a + n → f i ≡ g i) → map f (range_with_len a n) ≡ map g (range_with_len a n)
map_same f g zero a h = refl
map_same {A} f g (suc n) a h =
    ap (λ (x : A). x ∷ map f (range_with_len (a + 1) n)) (h a (omega arith) (omega arith))
    ∙ ap (λ (xs : List A). g a ∷ xs) (map_same f g n (a + 1) (λ i lo hi. h i (omega (arith, lo)) (omega (arith, hi))))

flat_same : {A : Type 0} (f g : ℕ → List A) (n a : ℕ) → ((i : ℕ) → a ≤ i → i < a + n → f i ≡ g i)
    → flat_map f (range_with_len a n) ≡ flat_map g (range_with_len a n)
flat_same f g zero a h = refl
flat_same {A} f g (suc n) a h =
    ap (λ (x : List A). x ++ flat_map f (range_with_len (a + 1) n)) (h a (omega arith) (omega arith))
    ∙ ap (λ (xs : List A). g a ++ xs) (flat_same f g n (a + 1) (λ i lo hi. h i (omega (arith, lo)) (omega (arith, hi))))

map_flat : {A B : Type 0} (f : A → B) (g : ℕ → List A) (xs : List ℕ) → map f (flat_map g xs) ≡ flat_map (λ x. map f (g x)) xs
map_flat f g [] = refl
map_flat {A} {B} f g (x ∷ xs) = map-append f (g x) (flat_map g xs) ∙ ap (λ (ys : List B). map f (g x) ++ ys) (map_flat f g xs)

map_twice : {A B : Type 0} (f : A → B) (g : ℕ → A) (xs : List ℕ) → map f (map g xs) ≡ map (λ x. f (g x)) xs
map_twice f g [] = refl
map_twice {A} {B} f g (x ∷ xs) = ap (λ (ys : List B). f (g x) ∷ ys) (map_twice f g xs)

-- the bits of a number, one by one
bit_is : (x : Bool) (d : ℕ) → d ≡ cond x 1 0 → x ≡ eqb d 1
bit_is true d e = sym (ap (λ (n : ℕ). eqb n 1) e)
bit_is false d e = sym (ap (λ (n : ℕ). eqb n 1) e)

number_bits : (b : Bits) (w p x : ℕ) → number b 0 p w ≡ x → map (λ k. b (level_at 0 (p + k))) (range_with_len 0 w) ≡ value_bits w x
number_bits b w p x e = map_same (λ k. b (level_at 0 (p + k))) (λ k. eqb (bit_at x (w - 1 - k)) 1) w 0
    (λ i lo hi. bit_is (b (level_at 0 (p + i))) (bit_at x (w - 1 - i))
    (ap (λ (n : ℕ). bit_at n (w - 1 - i)) (sym e) ∙ bit_number b 0 w p i (omega (arith, hi))))

pub none_some : (x : Option ℕ) → (is_none x ≡ true → x ≡ None)
none_some None e = refl
none_some (Some n) e = cc

module _ (task : TaskParts) (o : Layout) (order : IsOrderOf task o) where
  pub base_there : (var : ℕ) (v : Variable) → slice_get task.variables var ≡ Some v → v.layer ≡ None → IsBase task var
  base_there var v there layer = subst (λ (x : Option Variable). IsSomeAnd x (λ v. v.layer ≡ None)) (sym there) layer

  -- a derived variable has no bits
  pub derived_width : (var : ℕ) (v : Variable) → slice_get task.variables var ≡ Some v → is_base v ≡ false → width_of o var ≡ 0
  derived_width var v there derived = ap (λ (x : Option ℕ). (option_map_or (block_at o) x no_block).width)
      ((laid_at task o var v order there).derived (some v.layer derived))
    where
      some : (x : Option ℕ) → is_none x ≡ false → IsSome x
      some None e = cc
      some (Some n) e = refl

  module _ (s : List ℕ) (b : Bits) (code : IsCode o 0 s b) where
    by_base : (var : ℕ) (v : Variable) → slice_get task.variables var ≡ Some v → (t : Bool) → is_base v ≡ t
        → bits_at (variable_places o var) b ≡ cond t (value_bits (width (range v)) (get_or s (place task var) 0)) []
    by_base var v there true t =
        let layer = none_some v.layer t in
        let base = base_there var v there layer in
        let w = base_width task o var v order there layer in
        let value : number b 0 (block_of o var).first (width_of o var) ≡ get_or s (place task var) 0 = code_value task o 0 s b var order code base in
        map_twice (λ p. b (level_at 0 p)) (place_of o var) (range_with_len 0 (width_of o var))
        ∙ number_bits b (width_of o var) (block_of o var).first (get_or s (place task var) 0) value
        ∙ ap (λ (n : ℕ). value_bits n (get_or s (place task var) 0)) w
    by_base var v there false t = ap (λ (n : ℕ). bits_at (map (place_of o var) (range_with_len 0 n)) b) (derived_width var v there t)

    by_variable : (var : ℕ) (x : Option Variable) → slice_get task.variables var ≡ x → var < length task.variables
        → bits_at (variable_places o var) b ≡ option_map_or (λ (v : Variable). cond (is_base v)
        (value_bits (width (range v)) (get_or s (place task var) 0)) []) x []
    by_variable var None e lt = absurd (elim (slice_get_cases task.variables var).1 [
      | inl some ↦ (let z : None ≡ Some some.0 = sym e ∙ some.2 in cc)
      | inr past ↦ (let far = past.0 in omega (arith, lt, far))
    ])
    by_variable var (Some v) e lt = by_base var v e (is_base v) refl

    -- the bits of a state are those at the levels of the places
    pub bits_read : bits_at (places_of task o) b ≡ state_bits task s
    unfolding places_of state_bits
    bits_read =
        map_flat (λ p. b (level_at 0 p)) (variable_places o) (range_with_len 0 (length task.variables))
        ∙ flat_same (λ var. bits_at (variable_places o var) b) (variable_bits task s) (length task.variables) 0
        (λ var lo hi. by_variable var (slice_get task.variables var) refl (omega (arith, hi)))
