-- The bits that a walk down a diagram goes by.
use Rattle.std.proofs.Common.{◌≡◌, ℕ, zero, suc, ◌+◌, ◌*◌, ◌/◌, ◌%◌, ◌<◌, ◌≤◌, ◌&&◌, ◌↔◌, Bool, true, false, cond, ltb, eqb, List, length, sym, ◌∙◌, ap, subst, arith, IsTrue}
use Rattle.std.proofs.lemmas.Bool.{eq-eqb, lt-ltb}
use Rattle.bdd_table.specs.declared.node.Node.{Node}
use Rattle.bdd_table.specs.Diagram.{Bits, at, level_of, means, IsReduced}
use Rattle.bdd_table.proofs.Meaning.{means_chosen, means_false, means_true}
use Rattle.var_order.specs.Layout.{Layout, IsLayout, block_at, bits, level_at}
use Rattle.var_order.specs.Codes.{IsCode, IsStateOf}
use Rattle.var_order.proofs.Spelling.{number_same}
use Rattle.var_order.proofs.Coding.{coded}
use Rattle.bdd_sets.specs.Sets.{HasCodedState, IsSetOfStates, only_state_bits}

-- at the level of a place the only_state_bits bits are the bits
pub plain_at : (o : Layout) (b : Bits) (place : ℕ) → place < bits o → only_state_bits o b (level_at 0 place) ≡ b (level_at 0 place)
plain_at o b place lt =
    let even : (2 * place + 0) % 2 ≡ 0 = omega arith in
    let half : (2 * place + 0) / 2 ≡ place = omega arith in
    ap (λ (t : Bool). (t && ltb ((2 * place + 0) / 2) (bits o)) && b (level_at 0 place)) (eq-eqb ((2 * place + 0) % 2) 0 even)
    ∙ ap (λ (t : Bool). t && b (level_at 0 place)) (lt-ltb ((2 * place + 0) / 2) (bits o) (omega (arith, half, lt)))

-- they are those of the same state
pub plain_code : (o : Layout) (s : List ℕ) (b : Bits) → IsLayout o → IsCode o 0 s b → IsCode o 0 s (only_state_bits o b)
plain_code o s b l code = record {
  each = code.each;
  values = λ slot lt. number_same (only_state_bits o b) b 0 0 (block_at o slot).width (block_at o slot).first
      (λ k below. plain_at o b ((block_at o slot).first + k)
      (l.owned slot ((block_at o slot).first + k) (record { from = omega arith; before = omega (arith, below) })).0)
      ∙ code.values slot lt;
}

-- the bit of a level that has a place, and of one that has none
pub plain_even : (o : Layout) (b : Bits) (level : ℕ) (bit : Bool) → level % 2 ≡ 0 → level / 2 < bits o
    → b (level_at 0 (level / 2)) ≡ bit → only_state_bits o b level ≡ bit
plain_even o b level bit even lt is =
    let e : level_at 0 (level / 2) ≡ level = omega (arith, even) in
    subst (λ (x : ℕ). only_state_bits o b x ≡ bit) e (plain_at o b (level / 2) lt ∙ is)

-- one step down
step_down : (nodes : List Node) (b : Bits) (id : ℕ) (bit : Bool) → IsReduced nodes → id < length nodes
    → b (level_of nodes id) ≡ bit → means nodes id b ≡ means nodes (cond bit (at nodes id).hi (at nodes id).lo) b
step_down nodes b id bit r lt is = means_chosen nodes r b id lt ∙ ap (λ (t : Bool). means nodes (cond t (at nodes id).hi (at nodes id).lo) b) is

pub went_hi : {nodes there : List Node} (b : Bits) (id level next : ℕ) → there ≡ nodes → IsReduced nodes
    → id < length nodes → level ≡ level_of there id → b level ≡ true → next ≡ (at there id).hi
    → means nodes id b ≡ means nodes next b
went_hi {nodes} {there} b id level next same r lt is bit to =
    step_down nodes b id true r lt (ap b (sym (is ∙ ap (λ (xs : List Node). level_of xs id) same)) ∙ bit)
    ∙ ap (λ (x : ℕ). means nodes x b) (sym (to ∙ ap (λ (xs : List Node). (at xs id).hi) same))

pub went_lo : {nodes there : List Node} (b : Bits) (id level next : ℕ) → there ≡ nodes → IsReduced nodes
    → id < length nodes → level ≡ level_of there id → b level ≡ false → next ≡ (at there id).lo
    → means nodes id b ≡ means nodes next b
went_lo {nodes} {there} b id level next same r lt is bit to =
    step_down nodes b id false r lt (ap b (sym (is ∙ ap (λ (xs : List Node). level_of xs id) same)) ∙ bit)
    ∙ ap (λ (x : ℕ). means nodes x b) (sym (to ∙ ap (λ (xs : List Node). (at xs id).lo) same))

-- the end of the walk
ended : (nodes : List Node) (b : Bits) (id : ℕ) → IsReduced nodes → id ≤ 1 → means nodes id b ≡ eqb id 1
ended nodes b id r le = go id le
  where
    go : (id : ℕ) → id ≤ 1 → means nodes id b ≡ eqb id 1
    go zero h = means_false nodes r b
    go (suc zero) h = means_true nodes r b
    go (suc (suc id)) h = absurd (omega (arith, h))

-- what the walk ends with
pub walked : (o : Layout) (nodes : List Node) (set id : ℕ) (s : List ℕ) → IsReduced nodes → id ≤ 1
    → ((b : Bits) → IsCode o 0 s b → means nodes set (only_state_bits o b) ≡ means nodes id (only_state_bits o b)) → (b : Bits)
    → IsCode o 0 s b → means nodes set (only_state_bits o b) ≡ eqb id 1
walked o nodes set id s r le same b code = same b code ∙ ended nodes (only_state_bits o b) id r le

-- of a set of states the only_state_bits bits tell what it has
pub walked_states : (o : Layout) (nodes : List Node) (set : ℕ) (s : List ℕ) (holds : Bool) → IsLayout o → IsStateOf o s
    → ((b : Bits) → IsCode o 0 s b → means nodes set (only_state_bits o b) ≡ holds) → IsSetOfStates o nodes set → IsTrue holds ↔ HasCodedState o nodes set s
walked_states o nodes set s holds l state is of_states = (
  (λ yes b code. of_states b (only_state_bits o b) (λ place lt. sym (plain_at o b place lt)) ∙ is b code ∙ yes),
  (λ has. (let some = coded o s l state in sym (is some.0 some.1) ∙ has (only_state_bits o some.0) (plain_code o s some.0 l some.1))),
)
