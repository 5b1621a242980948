-- The blocks of a layout have few bits at early places.
use Rattle.std.proofs.Common.{◌≡◌, ℕ, ◌+◌, ◌-◌, ◌<◌, ◌≤◌, inl, inr, List, length, get_or, Option, Some, None, sym, subst, arith}
use Rattle.std.specs.Option.{option_map_or}
use Rattle.std.proofs.lemmas.Bool.{cases_lt}
use Rattle.std.proofs.lemmas.List.{get_or_past}
use Rattle.var_order.specs.declared.block.Block.{Block}
use Rattle.var_order.specs.Layout.{Layout, IsLayout, no_block, slot_of, block_at, block_of}
use Rattle.var_order.proofs.Values.{narrow}

-- a block fits among the places, and a value has at most 16 bits
pub record HasRoom (block : Block) : Type 0 where
  pub width : block.width ≤ 32
  pub place : 0 < block.width → block.first + block.width < 2147483648

none_room : HasRoom no_block
none_room = record { width = omega arith; place = λ some. absurd (omega (arith, some)) }

pub block_room : (o : Layout) → IsLayout o → (slot : ℕ) → HasRoom (block_at o slot)
block_room o l slot = elim (cases_lt slot (length o.blocks)) [
  | inl there ↦ (let few = narrow o slot l there in record {
    width = omega (arith, few);
    place = λ some. (
        let last = l.owned slot ((block_at o slot).first + ((block_at o slot).width - 1)) (record { from = omega arith; before = omega (arith, some) }) in
        let before = last.0 in
        let most = l.most in
        omega (arith, before, most, some));
  })
  | inr past ↦ subst HasRoom (sym (get_or_past o.blocks slot no_block past)) none_room
]

pub variable_room : (o : Layout) → IsLayout o → (var : ℕ) → HasRoom (block_of o var)
variable_room o l var = go (slot_of o var)
  where
    go : (x : Option ℕ) → HasRoom (option_map_or (block_at o) x no_block)
    go None = none_room
    go (Some slot) = block_room o l slot

pub room_there : (o : Layout) (blocks : List Block) (slot : ℕ) → IsLayout o → blocks ≡ o.blocks → HasRoom (get_or blocks slot no_block)
room_there o blocks slot l same = subst (λ (xs : List Block). HasRoom (get_or xs slot no_block)) (sym same) (block_room o l slot)
