-- Each place is that of a bit.
use Rattle.std.proofs.Common.{◌≡◌, ℕ, zero, suc, ◌+◌, ◌-◌, ◌<◌, List, [], ◌∷◌, length, get_or, take, Option, Some, None, refl, sym, ◌∙◌, ap, subst, arith}
use Rattle.std.specs.List.{flat_map, range_with_len}
use Rattle.std.specs.Option.{option_map_or}
use Rattle.std.proofs.lemmas.List.FromFn.{length-range_with_len, get_or-range_with_len, length-map-range_with_len, get_or-map-range_with_len}
use Rattle.std.proofs.lemmas.List.Concat.{get_or-flat_map}
use Rattle.std.proofs.lemmas.List.Folds.{length-flat_map-take}
use Rattle.symk_task.specs.declared.parts.TaskParts.{TaskParts}
use Rattle.var_order.specs.declared.block.Block.{Block}
use Rattle.var_order.specs.Layout.{Layout, IsOrderOf, no_block, block_at, block_of, owner_at, width_of, place_of, bits}
use Rattle.certificates.specs.Places.{variable_places, places_of}
use Rattle.certificates.specs.Levels.{IsIndex}

within : (xs : List (Option ℕ)) (i slot : ℕ) → get_or xs i None ≡ Some slot → i < length xs
within [] i slot e = absurd (let z : None ≡ Some slot = e in let n : ⊥ = cc in n)
within (x ∷ xs) zero slot e = omega arith
within (x ∷ xs) (suc i) slot e = (let h = within xs i slot e in omega (arith, h))

pub place_listed : (task : TaskParts) (o : Layout) (places : List ℕ) (p : ℕ) → IsOrderOf task o
    → places ≡ places_of task o → p < bits o → (i : ℕ) × (i < length places) × (get_or places i 0 ≡ p)
unfolding places_of
place_listed task o places p order is lt =
    let inside = order.layout.inside p lt in
    let slot = owner_at o p in
    let used = order.layout.used slot inside.0 in
    let var = used.0 in
    let in_slots = within o.slots var slot used.1 in
    let block : block_of o var ≡ block_at o slot = ap (λ (x : Option ℕ). option_map_or (block_at o) x no_block) used.1 in
    let first : (block_of o var).first ≡ (block_at o slot).first = ap (λ (b : Block). b.first) block in
    let width : (block_of o var).width ≡ (block_at o slot).width = ap (λ (b : Block). b.width) block in
    let from = inside.1.from in
    let before = inside.1.before in
    let k = p - (block_of o var).first in
    let k_in : k < width_of o var = omega (arith, from, before, first, width) in
    let there : place_of o var k ≡ p = omega (arith, from, first) in
    let n = length task.variables in
    let slots = order.variables in
    let v_in : var < n = omega (arith, in_slots, slots) in
    let f : ℕ → List ℕ = variable_places o in
    let all = range_with_len 0 n in
    let long = length-range_with_len 0 n in
    let v_all : var < length all = omega (arith, v_in, long) in
    let nth : get_or all var 0 ≡ var = get_or-range_with_len 0 n var 0 v_in ∙ (let e : 0 + var ≡ var = omega arith in e) in
    let wide : length (f (get_or all var 0)) ≡ width_of o var = ap (λ (v : ℕ). length (f v)) nth
    ∙ length-map-range_with_len (place_of o var) 0 (width_of o var) in
    let j_in : k < length (f (get_or all var 0)) = omega (arith, k_in, wide) in
    let at = length (flat_map f (take var all)) + k in
    let room = length-flat_map-take f all var 0 v_all in
    let value : get_or (flat_map f all) at 0 ≡ p =
    get_or-flat_map f all var k 0 0 v_all j_in
    ∙ ap (λ (v : ℕ). get_or (f v) k 0) nth
    ∙ get_or-map-range_with_len (place_of o var) 0 (width_of o var) k k 0 k_in (omega arith)
    ∙ there in
    subst (λ (ps : List ℕ). (i : ℕ) × (i < length ps) × (get_or ps i 0 ≡ p)) (sym is) (at, omega (arith, room, j_in), value)

-- so each has an index
pub index_there : (task : TaskParts) (o : Layout) (places : List ℕ) (p : ℕ) → IsOrderOf task o
    → places ≡ places_of task o → p < bits o → (x : Option ℕ) → IsIndex places p x → (i : ℕ) × (x ≡ Some i)
    × (i < length places) × (get_or places i 0 ≡ p)
index_there task o places p order is lt (Some i) h = (i, refl, h.0, h.1)
index_there task o places p order is lt None h = (let w = place_listed task o places p order is lt in absurd (h w.0 w.1 w.2))
