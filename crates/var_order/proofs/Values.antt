-- What an order says of the variables of its task.
use Rattle.std.proofs.Common.{◌≡◌, ℕ, ◌+◌, ◌-◌, ◌/◌, ◌^◌, ◌<◌, ◌≤◌, Bool, true, false, cond, eqb, List, length, get_or, Option, Some, None, IsSome, IsSomeAnd, slice_get, refl, sym, ◌∙◌, ap, subst, arith}
use Rattle.std.specs.Int.{bit_at}
use Rattle.std.specs.Int.RustNames.{bit_and}
use Rattle.std.specs.Option.{option_map_or, is_some}
use Rattle.std.proofs.lemmas.Bool.{true≢false}
use Rattle.std.proofs.lemmas.List.{get_or_read}
use Rattle.std.proofs.lemmas.Nat.Bits.{shr_and_one}
use Rattle.symk_task.specs.declared.parts.Variable.{Variable}
use Rattle.symk_task.specs.declared.parts.TaskParts.{TaskParts}
use Rattle.symk_task.specs.Variables.{IsBase, range, width, place}
use Rattle.symk_task.proofs.Widths.{width_least}
use Rattle.var_order.specs.declared.block.Block.{Block}
use Rattle.var_order.specs.Layout.{Layout, IsLayout, IsOrderOf, IsInside, no_block, slot_of, block_at, block_of, owner_at, bits, level_at}
use Rattle.var_order.specs.Codes.{number, coded_value, spelt_value, IsCode}
use Rattle.var_order.proofs.Laying.{laid_at}
use Rattle.var_order.proofs.Coding.{code_digit}

-- a value has at most 16 bits
pub narrow : (o : Layout) (slot : ℕ) → IsLayout o → slot < length o.blocks → (block_at o slot).width ≤ 16
narrow o slot l lt =
    let sized = l.sized slot lt in
    let few = width_least (block_at o slot).values 16 sized.most in
    let e = sized.bits in
    omega (arith, few, e)

-- a base variable's value in a state is at its place
pub base_slot : (task : TaskParts) (o : Layout) (var : ℕ) → IsOrderOf task o → IsBase task var → slot_of o var ≡ Some (place task var)
base_slot task o var order base = go (slice_get task.variables var) refl
  where
    go : (x : Option Variable) → slice_get task.variables var ≡ x → slot_of o var ≡ Some (place task var)
    go None e = absurd (subst (λ (x : Option Variable). IsSomeAnd x (λ v. v.layer ≡ None)) e base)
    go (Some v) e = (laid_at task o var v order e).base (subst (λ (x : Option Variable). IsSomeAnd x (λ v. v.layer ≡ None)) e base)

-- its bits are those of that value
pub base_block : (task : TaskParts) (o : Layout) (var : ℕ) → IsOrderOf task o → IsBase task var → block_of o var ≡ block_at o (place task var)
base_block task o var order base = ap (λ (x : Option ℕ). option_map_or (block_at o) x no_block) (base_slot task o var order base)

-- it has as many bits as its values need
pub base_width : (task : TaskParts) (o : Layout) (var : ℕ) (v : Variable) → IsOrderOf task o
    → slice_get task.variables var ≡ Some v → v.layer ≡ None → (block_of o var).width ≡ width (range v)
base_width task o var v order there layer =
    let base : IsBase task var = subst (λ (x : Option Variable). IsSomeAnd x (λ v. v.layer ≡ None)) (sym there) layer in
    let laid = laid_at task o var v order there in
    ap (λ (b : Block). b.width) (base_block task o var order base)
    ∙ (order.layout.sized (place task var) (order.layout.slots var (place task var) (laid.base layer))).bits
    ∙ ap width (laid.values layer)

-- a state's bits spell the value of each base variable
pub code_value : (task : TaskParts) (o : Layout) (next : ℕ) (s : List ℕ) (b : ℕ → Bool) (var : ℕ) → IsOrderOf task o
    → IsCode o next s b → IsBase task var → spelt_value o next b var ≡ get_or s (place task var) 0
code_value task o next s b var order code base =
    let slot = base_slot task o var order base in
    ap (λ (block : Block). number b next block.first block.width) (base_block task o var order base)
    ∙ code.values (place task var) (order.layout.slots var (place task var) slot)

-- a state's bits spell the value of each variable that has one
pub code_spells : (o : Layout) (next : ℕ) (s : List ℕ) (b : ℕ → Bool) (var : ℕ) → IsLayout o → IsCode o next s b
    → IsSome (slot_of o var) → spelt_value o next b var ≡ coded_value o s var
code_spells o next s b var l code some = go (slot_of o var) refl
  where
    go : (x : Option ℕ) → slot_of o var ≡ x → spelt_value o next b var ≡ coded_value o s var
    go None e = absurd (let z : is_some (slot_of o var) ≡ true = some in
        let w : is_some (slot_of o var) ≡ false = ap (λ (x : Option ℕ). is_some x) e in true≢false (sym z ∙ w))
    go (Some slot) e =
        ap (λ (x : Option ℕ). number b next (option_map_or (block_at o) x no_block).first (option_map_or (block_at o) x no_block).width) e
        ∙ code.values slot (l.slots var slot e)
        ∙ ap (λ (x : Option ℕ). option_map_or (λ (k : ℕ). get_or s k 0) x 0) (sym e)

-- the test of a bit
pub tested : (t : Bool) (x later : ℕ) → cond t 1 0 ≡ bit_at x later → t ≡ eqb (bit_and (x / 2 ^ later) 1) 1
tested true x later e = sym (ap (λ (d : ℕ). eqb d 1) (shr_and_one x later ∙ sym e))
tested false x later e = sym (ap (λ (d : ℕ). eqb d 1) (shr_and_one x later ∙ sym e))

-- What a read of the value at a place, and of its block, gives.
pub record Reads (o : Layout) (place slot : ℕ) (block : Block) : Type 0 where
  pub owner : slot ≡ owner_at o place
  pub is : block ≡ block_at o (owner_at o place)
  pub from : block.first ≤ place
  pub before : place < block.first + block.width
  pub narrow : block.width ≤ 16
  pub below : place < 65536

pub reads : (o : Layout) (place slot : ℕ) (block : Block) → IsLayout o → place < bits o
    → slot ≡ get_or o.owners place slot → block ≡ get_or o.blocks slot block → Reads o place slot block
reads o place slot block l lt is_slot is_block =
    let inside = l.inside place lt in
    let s : slot ≡ owner_at o place = get_or_read o.owners place slot lt is_slot 0 in
    let within : slot < length o.blocks = subst (λ (k : ℕ). k < length o.blocks) (sym s) inside.0 in
    let b : block ≡ block_at o (owner_at o place) = get_or_read o.blocks slot block within is_block no_block ∙ ap (block_at o) s in
    let here : IsInside block place = subst (λ (x : Block). IsInside x place) (sym b) inside.1 in
    let few : block.width ≤ 16 = subst (λ (x : Block). x.width ≤ 16) (sym b) (narrow o (owner_at o place) l inside.0) in
    let most = l.most in
    record { owner = s; is = b; from = here.from; before = here.before; narrow = few; below = omega (arith, lt, most) }

-- the bit that is read is the state's
pub bit_read : (o : Layout) (place slot : ℕ) (block : Block) (s : List ℕ) → IsLayout o → place < bits o → Reads o place slot block
    → (next : ℕ) (b : ℕ → Bool) → IsCode o next s b → b (level_at next place) ≡ eqb
    (bit_and (get_or s slot 0 / 2 ^ (block.first + block.width - 1 - place)) 1) 1
bit_read o place slot block s l lt r next b code =
    tested (b (level_at next place)) (get_or s slot 0) (block.first + block.width - 1 - place)
    (code_digit o next s b place l code lt
    ∙ ap (λ (k : ℕ). bit_at (get_or s k 0) ((block_at o (owner_at o place)).first + (block_at o (owner_at o place)).width - 1 - place)) (sym r.owner)
    ∙ ap (λ (x : Block). bit_at (get_or s slot 0) (x.first + x.width - 1 - place)) (sym r.is))
