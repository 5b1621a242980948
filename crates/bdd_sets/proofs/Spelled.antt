-- The tests of the values of a state.
use Rattle.std.proofs.Common.{◌≡◌, ℕ, ◌-◌, ◌≤◌, ◌==◌, ◌↔◌, Bool, leb, eqb, List, length, get_or, ◌∙◌, ap, arith}
use Rattle.std.proofs.lemmas.Bool.{leb-true, le-leb, eqb-true, eq-eqb}
use Rattle.bdd_table.specs.Diagram.{Bits}
use Rattle.var_order.specs.declared.block.Block.{Block}
use Rattle.var_order.specs.Layout.{Layout, IsLayout, no_block, block_at}
use Rattle.var_order.specs.Codes.{number, value_at, IsCode}
use Rattle.var_order.proofs.Coding.{decoded, code_in_range}
use Rattle.bdd_sets.specs.Sets.{IsOfState}
use Rattle.bdd_sets.proofs.Conjunctions.{PassFrom}

-- the bits of the value spell it
abbrev pub spells : Layout → List ℕ → Bits → ℕ → Bool
spells o s b slot = value_at o 0 b slot == get_or s slot 0

-- the bits of the value spell one in its range
abbrev pub is_within : Layout → Bits → ℕ → Bool
is_within o b slot = leb (value_at o 0 b slot) ((block_at o slot).values - 1)

-- the same of lists that are those of the layout and of the state
pub spells_there : (o : Layout) (s : List ℕ) (blocks : List Block) (values : List ℕ) (b : Bits) (slot : ℕ) → blocks ≡ o.blocks → values ≡ s
    → eqb (number b 0 (get_or blocks slot no_block).first (get_or blocks slot no_block).width) (get_or values slot 0) ≡ spells o s b slot
spells_there o s blocks values b slot e f =
    ap (λ (xs : List Block). eqb (number b 0 (get_or xs slot no_block).first (get_or xs slot no_block).width) (get_or values slot 0)) e
    ∙ ap (λ (ys : List ℕ). eqb (value_at o 0 b slot) (get_or ys slot 0)) f

pub within_there : (o : Layout) (blocks : List Block) (b : Bits) (slot : ℕ) → blocks ≡ o.blocks
    → leb (number b 0 (get_or blocks slot no_block).first (get_or blocks slot no_block).width) ((get_or blocks slot no_block).values - 1) ≡ is_within o b slot
within_there o blocks b slot e = ap (λ (xs : List Block). leb
    (number b 0 (get_or xs slot no_block).first (get_or xs slot no_block).width)
    ((get_or xs slot no_block).values - 1)) e

-- all spell theirs exactly where the bits are the state's
pub all_spell : (o : Layout) (s : List ℕ) (b : Bits) (from : ℕ) → from ≤ 0 → length s ≡ length o.blocks
    → PassFrom (spells o s b) from (length o.blocks) ↔ IsCode o 0 s b
all_spell o s b from none each = (
  (λ pass. record { each = each; values = λ slot lt. eqb-true (value_at o 0 b slot) (get_or s slot 0) (pass slot (omega (arith, none)) lt) }),
  (λ code slot low lt. eq-eqb (value_at o 0 b slot) (get_or s slot 0) (code.values slot lt)),
)

-- all are in range exactly where the bits are some state's
pub all_within : (o : Layout) (b : Bits) (from : ℕ) → IsLayout o → from ≤ 0 → PassFrom (is_within o b) from (length o.blocks) ↔ IsOfState o b
all_within o b from l none = (
  (λ pass. decoded o 0 b (λ slot lt. (
      let some = (l.sized slot lt).some in
      let le = leb-true (value_at o 0 b slot) ((block_at o slot).values - 1) (pass slot (omega (arith, none)) lt) in
      omega (arith, some, le)))),
  (λ state slot low lt. (let below = code_in_range o 0 state.0 b state.1 state.2 slot lt in le-leb
      (value_at o 0 b slot) ((block_at o slot).values - 1) (omega (arith, below)))),
)

-- what holds of a meaning holds of what it is
pub through : {A B C : Type 0} → A ↔ B → B ↔ C → A ↔ C
through p q = ((λ a. q.0 (p.0 a)), (λ c. p.1 (q.1 c)))
