-- Sets whose bits are those of states alone.
use Rattle.std.proofs.Common.{◌≡◌, ℕ, ◌+◌, ◌<◌, ◌==◌, ◌↔◌, Bool, true, false, List, length, Option, Some, None, refl, sym, ◌∙◌, ap, arith, IsSome}
use Rattle.std.specs.Option.{option_map_or}
use Rattle.bdd_table.specs.declared.node.Node.{Node}
use Rattle.bdd_table.specs.Diagram.{Bits, means, Keeps}
use Rattle.var_order.specs.Layout.{Layout, IsLayout, no_block, slot_of, block_at, bits, level_at}
use Rattle.var_order.specs.Codes.{number, value_at, coded_value, spelt_value, IsCode}
use Rattle.var_order.proofs.Spelling.{number_same}
use Rattle.var_order.proofs.Values.{code_spells}
use Rattle.bdd_sets.specs.Sets.{IsOfState, IsSetOfStates}

-- the bits agree at the places of a state
abbrev Agree : Layout → Bits → Bits → Type 0
Agree o b c = (place : ℕ) → place < bits o → b (level_at 0 place) ≡ c (level_at 0 place)

same_value : (o : Layout) (b c : Bits) (slot : ℕ) → IsLayout o → Agree o b c → value_at o 0 b slot ≡ value_at o 0 c slot
same_value o b c slot l agree = number_same b c 0 0 (block_at o slot).width (block_at o slot).first
    (λ k below. agree ((block_at o slot).first + k) (l.owned slot ((block_at o slot).first + k)
    (record { from = omega arith; before = omega (arith, below) })).0)

same_number : (o : Layout) (b c : Bits) (var : ℕ) → IsLayout o → Agree o b c → spelt_value o 0 b var ≡ spelt_value o 0 c var
same_number o b c var l agree = go (slot_of o var)
  where
    go : (x : Option ℕ) → number b 0 (option_map_or (block_at o) x no_block).first
        (option_map_or (block_at o) x no_block).width ≡ number c 0 (option_map_or (block_at o) x no_block).first
        (option_map_or (block_at o) x no_block).width
    go None = number_same b c 0 0 0 0 (λ k lt. absurd (omega (arith, lt)))
    go (Some slot) = same_value o b c slot l agree

same_code : (o : Layout) (s : List ℕ) (b c : Bits) → IsLayout o → Agree o b c → IsCode o 0 s b → IsCode o 0 s c
same_code o s b c l agree code = record { each = code.each; values = λ slot lt. sym (same_value o b c slot l agree) ∙ code.values slot lt }

same_truth : (x y : Bool) → (x ≡ true → y ≡ true) → (y ≡ true → x ≡ true) → x ≡ y
same_truth true y f g = sym (f refl)
same_truth false true f g = g refl
same_truth false false f g = refl

turned : (o : Layout) (b c : Bits) → Agree o b c → Agree o c b
turned o b c agree place lt = sym (agree place lt)

-- the set of a fact, of one state, and of all
pub fact_of_states : (o : Layout) (nodes : List Node) (id var value : ℕ) → IsLayout o
    → ((b : Bits) → means nodes id b ≡ (spelt_value o 0 b var == value)) → IsSetOfStates o nodes id
fact_of_states o nodes id var value l is b c agree = is b ∙ ap (λ (x : ℕ). x == value) (same_number o b c var l agree) ∙ sym (is c)

pub state_of_states : (o : Layout) (nodes : List Node) (id : ℕ) (s : List ℕ) → IsLayout o
    → ((b : Bits) → (means nodes id b ≡ true) ↔ IsCode o 0 s b) → IsSetOfStates o nodes id
state_of_states o nodes id s l is b c agree = same_truth (means nodes id b) (means nodes id c)
    (λ h. (is c).1 (same_code o s b c l agree ((is b).0 h)))
    (λ h. (is b).1 (same_code o s c b l (turned o b c agree) ((is c).0 h)))

pub valid_of_states : (o : Layout) (nodes : List Node) (id : ℕ) → IsLayout o
    → ((b : Bits) → (means nodes id b ≡ true) ↔ IsOfState o b) → IsSetOfStates o nodes id
valid_of_states o nodes id l is b c agree = same_truth (means nodes id b) (means nodes id c)
    (λ h. (let s = (is b).0 h in (is c).1 (s.0, s.1, same_code o s.0 b c l agree s.2)))
    (λ h. (let s = (is c).0 h in (is b).1 (s.0, s.1, same_code o s.0 c b l (turned o b c agree) s.2)))

-- the set of a fact by states
pub fact_by_states : (o : Layout) (nodes : List Node) (id var value : ℕ) → IsLayout o → IsSome (slot_of o var)
    → ((b : Bits) → means nodes id b ≡ (spelt_value o 0 b var == value))
    → (s : List ℕ) (b : Bits) → IsCode o 0 s b → means nodes id b ≡ (coded_value o s var == value)
fact_by_states o nodes id var value l some is s b code = is b ∙ ap (λ (x : ℕ). x == value) (code_spells o 0 s b var l code some)

pub next_fact_by_states : (o : Layout) (nodes : List Node) (id var value : ℕ) → IsLayout o → IsSome (slot_of o var)
    → ((b : Bits) → means nodes id b ≡ (spelt_value o 1 b var == value))
    → (s : List ℕ) (b : Bits) → IsCode o 1 s b → means nodes id b ≡ (coded_value o s var == value)
next_fact_by_states o nodes id var value l some is s b code = is b ∙ ap (λ (x : ℕ). x == value) (code_spells o 1 s b var l code some)

-- a set stays one of states, with the same states, where its table grows
pub set_kept : (o : Layout) (old new : List Node) (set : ℕ) → Keeps old new → set < length old → IsSetOfStates o old set → IsSetOfStates o new set
set_kept o old new set kept lt is b c agree = kept.meaning set b lt ∙ is b c agree ∙ sym (kept.meaning set c lt)
