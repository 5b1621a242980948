-- The child that a bit chooses, and the bits of a value.
use Rattle.std.proofs.Common.{◌≡◌, ℕ, suc, ◌+◌, ◌-◌, ◌*◌, ◌/◌, ◌^◌, ◌<◌, Bool, true, false, cond, List, length, bit_and, eqb, refl, sym, ◌∙◌, ap, subst, arith, true≢false}
use Rattle.std.specs.Int.{bit_at}
use Rattle.std.proofs.Math.Nat.{pow-succ'}
use Rattle.std.proofs.lemmas.Grind.{pow_more}
use Rattle.bdd_table.specs.declared.node.Node.{Node}
use Rattle.bdd_table.specs.Diagram.{Bits, at, level_of, means, IsReduced}
use Rattle.bdd_table.proofs.Meaning.{means_chosen, means_false}
use Rattle.var_order.specs.declared.block.Block.{Block}
use Rattle.var_order.specs.Layout.{Layout, IsLayout, block_at}
use Rattle.var_order.specs.Codes.{number}
use Rattle.var_order.proofs.Spelling.{bit_number, number_more}
use Rattle.var_order.proofs.Values.{narrow, tested}
use Rattle.bdd_sets.specs.Marks.{block_value}
use Rattle.bdd_sets.specs.Ends.{CanPass}

pub child_same : (nodes : List Node) → IsReduced nodes → (id level child : ℕ) (bit : Bool) → id < length nodes
    → level_of nodes id ≡ level → child ≡ cond bit (at nodes id).hi (at nodes id).lo → (b : Bits) → b level ≡ bit
    → means nodes child b ≡ means nodes id b
child_same nodes r id level child bit lt there is b same =
    let chosen : cond (b (level_of nodes id)) (at nodes id).hi (at nodes id).lo ≡ child =
    ap (λ (t : Bool). cond t (at nodes id).hi (at nodes id).lo) (ap b there ∙ same) ∙ sym is in
    ap (λ (x : ℕ). means nodes x b) (sym chosen) ∙ sym (means_chosen nodes r b id lt)

-- where one child is false, each code goes to the other
pub only_hi : (nodes : List Node) → IsReduced nodes → (id level hi : ℕ) → id < length nodes
    → level_of nodes id ≡ level → (at nodes id).lo ≡ 0 → hi ≡ (at nodes id).hi → (b : Bits)
    → means nodes id b ≡ true → (b level ≡ true) × (means nodes hi b ≡ true)
only_hi nodes r id level hi lt there none is b m = by (b level) refl
  where
    by : (t : Bool) → b level ≡ t → (b level ≡ true) × (means nodes hi b ≡ true)
    by true e = (e, child_same nodes r id level hi true lt there is b e ∙ m)
    by false e = absurd (true≢false (sym m ∙ sym (child_same nodes r id level 0 false lt there (sym none) b e) ∙ means_false nodes r b))

pub only_lo : (nodes : List Node) → IsReduced nodes → (id level lo : ℕ) → id < length nodes
    → level_of nodes id ≡ level → (at nodes id).hi ≡ 0 → lo ≡ (at nodes id).lo → (b : Bits)
    → means nodes id b ≡ true → (b level ≡ false) × (means nodes lo b ≡ true)
only_lo nodes r id level lo lt there none is b m = by (b level) refl
  where
    by : (t : Bool) → b level ≡ t → (b level ≡ false) × (means nodes lo b ≡ true)
    by false e = (e, child_same nodes r id level lo false lt there is b e ∙ m)
    by true e = absurd (true≢false (sym m ∙ sym (child_same nodes r id level 0 true lt there (sym none) b e) ∙ means_false nodes r b))

twice : (v d p r : ℕ) → v * (2 * p) + (d * p + r) ≡ (2 * v + d) * p + r
twice v d p r = grind arith

-- the value so far, and the bits that are left
pub spelled_more : (b : Bits) (first width bit value level : ℕ) (t : Bool) → bit < width → level ≡ 2 * (first + bit) → b level ≡ t
    → number b 0 first width ≡ value * 2 ^ (width - bit) + number b 0 (first + bit) (width - bit)
    → number b 0 first width ≡ (2 * value + cond t 1 0) * 2 ^ (width - (bit + 1)) + number b 0 (first + (bit + 1)) (width - (bit + 1))
spelled_more b first width bit value level t lt at is so =
    let w = width - (bit + 1) in
    let left : width - bit ≡ suc w = omega arith in
    let here : level ≡ 2 * (first + bit) + 0 = omega (arith, at) in
    let digit : b (2 * (first + bit) + 0) ≡ t = ap b (sym here) ∙ is in
    let next : first + bit + 1 ≡ first + (bit + 1) = omega arith in
    so
    ∙ ap (λ (n : ℕ). value * 2 ^ n + number b 0 (first + bit) n) left
    ∙ ap (λ (n : ℕ). value * n + number b 0 (first + bit) (suc w)) (pow-succ' 2 w)
    ∙ ap (λ (n : ℕ). value * (2 * 2 ^ w) + n) (number_more b 0 (first + bit) w)
    ∙ ap (λ (x : Bool). value * (2 * 2 ^ w) + (cond x 1 0 * 2 ^ w + number b 0 (first + bit + 1) w)) digit
    ∙ twice value (cond t 1 0) (2 ^ w) (number b 0 (first + bit + 1) w)
    ∙ ap (λ (p : ℕ). (2 * value + cond t 1 0) * 2 ^ w + number b 0 p w) next

pub spelled_all : (b : Bits) (first width bit value : ℕ) → bit ≡ width
    → number b 0 first width ≡ value * 2 ^ (width - bit) + number b 0 (first + bit) (width - bit)
    → number b 0 first width ≡ value
unfolding number
spelled_all b first width bit value all so =
    let none : width - bit ≡ 0 = omega arith in
    let e : value * 2 ^ (width - bit) + number b 0 (first + bit) (width - bit) ≡ value * 1 + 0 =
    ap (λ (n : ℕ). value * 2 ^ n + number b 0 (first + bit) n) none in
    so ∙ e ∙ omega arith

-- the value stays small
pow_next : (n : ℕ) → 2 ^ (n + 1) ≡ 2 * 2 ^ n
pow_next n = omega (arith, pow_more 2 n)

pub small_more : (value bit : ℕ) (t : Bool) → value < 2 ^ bit → 2 * value + cond t 1 0 < 2 ^ (bit + 1)
small_more value bit true lt = let e : 2 ^ (bit + 1) ≡ 2 * 2 ^ bit = pow_next bit in omega (arith, e, lt)
small_more value bit false lt = let e : 2 ^ (bit + 1) ≡ 2 * 2 ^ bit = pow_next bit in omega (arith, e, lt)

-- the bit of the level is that of the value that the bits spell
pub bit_is : (b : Bits) (block : Block) (value bit level : ℕ) → block_value block b ≡ value → bit < block.width
    → level ≡ 2 * (block.first + bit) → b level ≡ eqb (bit_and (value / 2 ^ (block.width - 1 - bit)) 1) 1
bit_is b block value bit level is lt at =
    tested (b level) value (block.width - 1 - bit)
    (ap (λ (l : ℕ). cond (b l) 1 0) (let e : level ≡ 2 * (block.first + bit) + 0 = omega (arith, at) in e)
    ∙ sym (bit_number b 0 block.width block.first bit lt)
    ∙ ap (λ (v : ℕ). bit_at v (block.width - 1 - bit)) is)

-- a block of a layout can be passed
pub can_pass : (o : Layout) (slot start : ℕ) (block : Block) → IsLayout o → slot < length o.blocks
    → block ≡ block_at o slot → start < 2 ^ 63 → CanPass block start
can_pass o slot start block l lt is few =
    let sized = l.sized slot lt in
    let few_bits = narrow o slot l lt in
    subst (λ (x : Block). CanPass x start) (sym is) (record {
      width = omega (arith, few_bits);
      place = λ some. (
          let b = block_at o slot in
          let last = (l.owned slot (b.first + (b.width - 1)) (record { from = omega arith; before = omega (arith, some) })).0 in
          let most = l.most in
          omega (arith, last, most, some));
      marks = (let most = sized.most in omega (arith, most, few));
    })
