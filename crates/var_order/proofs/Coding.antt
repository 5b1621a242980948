-- Each state has bits, and bits are those of one state.
use Rattle.std.proofs.Common.{◌≡◌, ℕ, zero, suc, ◌+◌, ◌-◌, ◌*◌, ◌/◌, ◌^◌, ◌<◌, Bool, cond, eqb, List, length, get_or, map, refl, sym, ◌∙◌, ap, subst, arith}
use Rattle.std.specs.Int.{bit_at}
use Rattle.std.proofs.lemmas.List.{ext_get_or, length-map, get_or-map}
use Rattle.std.proofs.lemmas.Nat.Bits.{bit_at-lt}
use Rattle.symk_task.proofs.Widths.{width_enough}
use Rattle.var_order.specs.declared.block.Block.{Block}
use Rattle.var_order.specs.Layout.{Layout, IsLayout, no_block, block_at, owner_at, bits, level_at}
use Rattle.var_order.specs.Codes.{number, value_at, IsCode, IsInRange, IsStateOf, HasCode}
use Rattle.var_order.proofs.Spelling.{bit_number, number_digits}

-- different states have different bits
pub one_state : (o : Layout) (next : ℕ) (s t : List ℕ) (b : ℕ → Bool) → IsCode o next s b → IsCode o next t b → s ≡ t
one_state o next s t b h k = ext_get_or 0 s t (h.each ∙ sym k.each)
    (λ i lt. (let within : i < length o.blocks = (let e = h.each in omega (arith, lt, e)) in sym (h.values i within)
    ∙ k.values i within))

-- the digit of the state that stands at a place
abbrev pub digit_of : Layout → List ℕ → ℕ → ℕ
digit_of o s place = bit_at (get_or s (owner_at o place) 0) ((block_at o (owner_at o place)).first + (block_at o (owner_at o place)).width - 1 - place)

-- bits that are those of the state at both kinds of level
abbrev state_bits : Layout → List ℕ → ℕ → Bool
state_bits o s level = eqb (digit_of o s (level / 2)) 1

is_digit : (x : ℕ) → x < 2 → cond (eqb x 1) 1 0 ≡ x
is_digit zero lt = refl
is_digit (suc zero) lt = refl
is_digit (suc (suc x)) lt = absurd (omega (arith, lt))

fits_width : (o : Layout) (s : List ℕ) (slot : ℕ) → IsLayout o → IsStateOf o s → slot < length o.blocks → get_or s slot 0 < 2 ^ (block_at o slot).width
fits_width o s slot l state lt =
    let sized = l.sized slot lt in
    let enough = width_enough (block_at o slot).values in
    let below = state.in_range slot lt in
    subst (λ (w : ℕ). get_or s slot 0 < 2 ^ w) (sym sized.bits) (omega (arith, enough, below))

digit_at : (o : Layout) (s : List ℕ) (slot i : ℕ) → IsLayout o → i < (block_at o slot).width
    → digit_of o s ((block_at o slot).first + i) ≡ bit_at (get_or s slot 0) ((block_at o slot).width - 1 - i)
digit_at o s slot i l lt =
    let here = l.owned slot ((block_at o slot).first + i) (record { from = omega arith; before = omega (arith, lt) }) in
    ap (λ (k : ℕ). bit_at (get_or s k 0) ((block_at o k).first + (block_at o k).width - 1 - ((block_at o slot).first + i))) here.1
    ∙ ap (bit_at (get_or s slot 0)) (let e : (block_at o slot).first + (block_at o slot).width - 1
    - ((block_at o slot).first + i) ≡ (block_at o slot).width - 1 - i = omega arith in e)

small : (o : Layout) (s : List ℕ) (p : ℕ) → digit_of o s p < 2
small o s p = bit_at-lt (get_or s (owner_at o p) 0) ((block_at o (owner_at o p)).first + (block_at o (owner_at o p)).width - 1 - p)

code_at : (o : Layout) (s : List ℕ) (next : ℕ) → next < 2 → IsLayout o → IsStateOf o s → IsCode o next s (state_bits o s)
code_at o s next side l state = record {
  each = state.each;
  values = λ slot lt. number_digits (state_bits o s) next (block_at o slot).width (block_at o slot).first
      (get_or s slot 0) (fits_width o s slot l state lt) (λ i below.
      let p = (block_at o slot).first + i in
      let e : (2 * p + next) / 2 ≡ p = omega (arith, side) in
      ap (λ (q : ℕ). cond (eqb (digit_of o s q) 1) 1 0) e
      ∙ is_digit (digit_of o s p) (small o s p)
      ∙ digit_at o s slot i l below);
}

pub coded : (o : Layout) (s : List ℕ) → IsLayout o → IsStateOf o s → HasCode o s
coded o s l state = (state_bits o s, code_at o s 0 (omega arith) l state, code_at o s 1 (omega arith) l state)

-- each bit of a state's code is the digit of its value
pub code_digit : (o : Layout) (next : ℕ) (s : List ℕ) (b : ℕ → Bool) (place : ℕ) → IsLayout o → IsCode o next s b
    → place < bits o → cond (b (level_at next place)) 1 0 ≡ digit_of o s place
code_digit o next s b place l code lt =
    let slot = owner_at o place in
    let block = block_at o slot in
    let here = l.inside place lt in
    let from = here.1.from in
    let before = here.1.before in
    let i = place - block.first in
    let at : block.first + i ≡ place = omega (arith, from) in
    let h = bit_number b next block.width block.first i (omega (arith, from, before)) in
    ap (λ (q : ℕ). cond (b (level_at next q)) 1 0) (sym at)
    ∙ sym h
    ∙ ap (λ (x : ℕ). bit_at x (block.width - 1 - i)) (code.values slot here.0)
    ∙ ap (bit_at (get_or s slot 0)) (let e : block.width - 1 - i ≡ block.first + block.width - 1 - place = omega (arith, from, before) in e)

-- bits in range are those of a state
pub decoded : (o : Layout) (next : ℕ) (b : ℕ → Bool) → IsInRange o next b → (s : List ℕ) × IsStateOf o s × IsCode o next s b
decoded o next b h =
    let f : Block → ℕ = λ block. number b next block.first block.width in
    let is : (slot : ℕ) → slot < length o.blocks → get_or (map f o.blocks) slot 0 ≡ value_at o next b slot =
    λ slot lt. get_or-map f o.blocks slot no_block 0 lt in (
      map f o.blocks,
      record { each = length-map o.blocks f; in_range = λ slot lt. subst (λ (x : ℕ). x < (block_at o slot).values) (sym (is slot lt)) (h slot lt) },
      record { each = length-map o.blocks f; values = λ slot lt. sym (is slot lt) },
    )

-- a state's bits are in range
pub code_in_range : (o : Layout) (next : ℕ) (s : List ℕ) (b : ℕ → Bool) → IsStateOf o s → IsCode o next s b → IsInRange o next b
code_in_range o next s b state code slot lt = subst (λ (x : ℕ). x < (block_at o slot).values) (sym (code.values slot lt)) (state.in_range slot lt)
