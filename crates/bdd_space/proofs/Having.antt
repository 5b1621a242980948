-- Which states an Id has, and that each operation has those that it should.
use Rattle.std.proofs.Common.{◌≡◌, ◌↔◌, ℕ, zero, suc, ◌/◌, ◌<◌, ◌==◌, Bool, true, false, not, ◌&&◌, ◌||◌, cond, List, [], ◌∷◌, length, get_or, nat_lt, refl, sym, ◌∙◌, ap, arith, lt-ltb, ltb-true, true≢false}
use Rattle.std.proofs.lemmas.Bool.{and_parts, and_from}
use Rattle.bdd_table.specs.declared.node.Node.{Node}
use Rattle.bdd_table.specs.Diagram.{Bits, means, leads, IsReduced, Keeps}
use Rattle.bdd_table.proofs.Canonical.{canonical}
use Rattle.var_order.specs.declared.block.Block.{Block}
use Rattle.var_order.specs.Layout.{Layout, IsLayout, no_block, level_at}
use Rattle.var_order.specs.Codes.{IsCode, IsStateOf}
use Rattle.var_order.proofs.Coding.{coded, code_digit}
use Rattle.transitions.specs.Relations.{HoldsForState, IsSet}
use Rattle.transitions.proofs.SameBits.{same_code}
use Rattle.transitions.proofs.Using.{set_of_names, member_named, set_alike, set_by}
use Rattle.bdd_space.specs.Members.{digit, code_of, is_state, has_state, IsKnownSet, HasThose, MeansAs}

-- the test of a state

module _ (blocks : List Block) (s : List ℕ) where
  -- one value for each block, in its range
  pub record Fills : Type 0 where
    pub each : length s ≡ length blocks
    pub in_range : (slot : ℕ) → slot < length blocks → get_or s slot 0 < (get_or blocks slot no_block).values

fills : (blocks : List Block) (s : List ℕ) → is_state blocks s ≡ true → Fills blocks s
unfolding is_state
fills [] [] h = record { each = refl; in_range = λ slot lt. absurd (omega arith) }
fills [] (x ∷ s) h = absurd (true≢false (sym h))
fills (block ∷ blocks) [] h = absurd (true≢false (sym h))
fills (block ∷ blocks) (x ∷ s) h =
    let both = and_parts (nat_lt x block.values) (is_state blocks s) h in
    let rest = fills blocks s both.1 in
    record {
      each = ap suc rest.each;
      in_range = λ slot. at slot (ltb-true x block.values both.0) rest;
    }
  where
    at : (slot : ℕ) → x < block.values → Fills blocks s → slot < length (block ∷ blocks)
        → get_or (x ∷ s) slot 0 < (get_or (block ∷ blocks) slot no_block).values
    at zero first rest lt = first
    at (suc slot) first rest lt = rest.in_range slot (omega arith)

filled : (blocks : List Block) (s : List ℕ) → Fills blocks s → is_state blocks s ≡ true
unfolding is_state
filled [] [] f = refl
filled [] (x ∷ s) f = absurd (let e = f.each in omega (arith, e))
filled (block ∷ blocks) [] f = absurd (let e = f.each in omega (arith, e))
filled (block ∷ blocks) (x ∷ s) f =
    and_from (nat_lt x block.values) (is_state blocks s) (lt-ltb x block.values (f.in_range 0 (omega arith)))
    (filled blocks s (record { each = (let e = f.each in omega (arith, e)); in_range = λ slot lt. f.in_range (suc slot) (omega (arith, lt)) }))

pub is_state_of : (o : Layout) (s : List ℕ) → is_state o.blocks s ≡ true → IsStateOf o s
is_state_of o s h = let f = fills o.blocks s h in record { each = f.each; in_range = f.in_range }

pub state_is : (o : Layout) (s : List ℕ) → IsStateOf o s → is_state o.blocks s ≡ true
state_is o s h = filled o.blocks s (record { each = h.each; in_range = h.in_range })

-- the code of a state

is_one : (x : Bool) (d : ℕ) → cond x 1 0 ≡ d → (d == 1) ≡ x
is_one true d e = ap (λ (n : ℕ). n == 1) (sym e)
is_one false d e = ap (λ (n : ℕ). n == 1) (sym e)

pub code_law : (o : Layout) (s : List ℕ) → IsLayout o → IsStateOf o s → IsCode o 0 s (code_of o s)
unfolding code_of
code_law o s l state =
    let code = coded o s l state in
    same_code o s code.0 (code_of o s) l
    (λ p lt. ap (λ (q : ℕ). digit o s q == 1) (let e : level_at 0 p / 2 ≡ p = omega arith in e)
    ∙ is_one (code.0 (level_at 0 p)) (digit o s p) (code_digit o 0 s code.0 p l code.1 lt))
    code.1

-- which states an Id has

pub has_parts : (o : Layout) (nodes : List Node) (id : ℕ) (s : List ℕ) → has_state o nodes id s ≡ true → IsStateOf o s × (means nodes id (code_of o s) ≡ true)
unfolding has_state
has_parts o nodes id s h = let both = and_parts (is_state o.blocks s) (means nodes id (code_of o s)) h in (is_state_of o s both.0, both.1)

pub has_from : (o : Layout) (nodes : List Node) (id : ℕ) (s : List ℕ) → IsStateOf o s → means nodes id (code_of o s) ≡ true → has_state o nodes id s ≡ true
unfolding has_state
has_from o nodes id s state m = and_from (is_state o.blocks s) (means nodes id (code_of o s)) (state_is o s state) m

-- a set has the states for some bits of which it holds
pub has_member : (o : Layout) (nodes : List Node) (id : ℕ) (s : List ℕ) → IsLayout o → has_state o nodes id s ≡ true → HoldsForState o (means nodes id) s
has_member o nodes id s l h = let both = has_parts o nodes id s h in (code_of o s, code_law o s l both.0, both.1)

pub member_has : (o : Layout) (nodes : List Node) (id : ℕ) (s : List ℕ) → IsLayout o → IsSet o (means nodes id)
    → IsStateOf o s → HoldsForState o (means nodes id) s → has_state o nodes id s ≡ true
member_has o nodes id s l set state member = has_from o nodes id s state ((set (code_of o s)).1 (s, state, code_law o s l state, member))

-- an Id that has those states is a set, and has them
pub set_of_those : (o : Layout) (nodes : List Node) (P : List ℕ → Type 0) (id : ℕ) → HasThose o nodes P id → IsKnownSet o nodes id
set_of_those o nodes P id h = record { known = h.known; set = set_of_names o P (means nodes id) h.names }

pub those_has : (o : Layout) (nodes : List Node) (P : List ℕ → Type 0) (id : ℕ) (s : List ℕ) → IsLayout o
    → HasThose o nodes P id → has_state o nodes id s ≡ true → IsStateOf o s × P s
those_has o nodes P id s l h has = let member = has_member o nodes id s l has in (
  (has_parts o nodes id s has).0,
  member_named o P (means nodes id) s h.names member,
)

pub has_those : (o : Layout) (nodes : List Node) (P : List ℕ → Type 0) (id : ℕ) (s : List ℕ) → IsLayout o
    → HasThose o nodes P id → IsStateOf o s → P s → has_state o nodes id s ≡ true
has_those o nodes P id s l h state p = has_from o nodes id s state ((h.names (code_of o s)).1 (s, state, code_law o s l state, p))

-- an Id that means the same has the same states

pub alike_has : (o : Layout) (old new : List Node) (id place : ℕ) (s : List ℕ) → MeansAs old id new place → has_state o new place s ≡ has_state o old id s
unfolding has_state
alike_has o old new id place s m = ap (λ (x : Bool). is_state o.blocks s && x) (m.meaning (code_of o s))

pub alike_set : (o : Layout) (old new : List Node) (id place : ℕ) → MeansAs old id new place → IsKnownSet o old id → IsKnownSet o new place
alike_set o old new id place m k = record { known = m.known; set = set_alike o (means old id) (means new place) m.meaning k.set }

pub alike_those : (o : Layout) (old new : List Node) (P : List ℕ → Type 0) (id place : ℕ) → MeansAs old id new place
    → HasThose o old P id → HasThose o new P place
alike_those o old new P id place m h = record {
  known = m.known;
  names = λ b. ((λ t. (h.names b).0 (sym (m.meaning b) ∙ t)), (λ x. m.meaning b ∙ (h.names b).1 x));
}

pub kept_alike : (old new : List Node) (id : ℕ) → Keeps old new → id < length old → MeansAs old id new id
kept_alike old new id k lt = record { known = (let more = k.known in omega (arith, more, lt)); meaning = λ b. k.meaning id b lt }

-- the operations

module _ (o : Layout) (old new : List Node) (f g id : ℕ) (l : IsLayout o) (sf : IsKnownSet o old f) (sg : IsKnownSet o old g) (known : id < length new) where
  pub conj_set : ((b : Bits) → means new id b ≡ (means old f b && means old g b)) → IsKnownSet o new id
  conj_set is = record { known = known; set = set_by o ◌&&◌ (means old f) (means old g) (means new id) l refl sf.set sg.set is }

  pub disj_set : ((b : Bits) → means new id b ≡ (means old f b || means old g b)) → IsKnownSet o new id
  disj_set is = record { known = known; set = set_by o ◌||◌ (means old f) (means old g) (means new id) l refl sf.set sg.set is }

  pub minus_set : ((b : Bits) → means new id b ≡ (means old f b && not (means old g b))) → IsKnownSet o new id
  minus_set is = record { known = known; set = set_by o (λ x y. x && not y) (means old f) (means old g) (means new id) l refl sf.set sg.set is }

both_and : (t x y : Bool) → (t && (x && y)) ≡ ((t && x) && (t && y))
both_and true x y = refl
both_and false x y = refl

both_or : (t x y : Bool) → (t && (x || y)) ≡ ((t && x) || (t && y))
both_or true x y = refl
both_or false x y = refl

both_not : (t x y : Bool) → (t && (x && not y)) ≡ ((t && x) && not (t && y))
both_not true x y = refl
both_not false x y = refl

module _ (o : Layout) (old new : List Node) (f g id : ℕ) (s : List ℕ) where
  pub conj_has : ((b : Bits) → means new id b ≡ (means old f b && means old g b)) → has_state o new id s ≡ (has_state o old f s && has_state o old g s)
  unfolding has_state
  conj_has is = ap (λ (x : Bool). is_state o.blocks s && x) (is (code_of o s))
      ∙ both_and (is_state o.blocks s) (means old f (code_of o s)) (means old g (code_of o s))

  pub disj_has : ((b : Bits) → means new id b ≡ (means old f b || means old g b)) → has_state o new id s ≡ (has_state o old f s || has_state o old g s)
  unfolding has_state
  disj_has is = ap (λ (x : Bool). is_state o.blocks s && x) (is (code_of o s))
      ∙ both_or (is_state o.blocks s) (means old f (code_of o s)) (means old g (code_of o s))

  pub minus_has : ((b : Bits) → means new id b ≡ (means old f b && not (means old g b)))
      → has_state o new id s ≡ (has_state o old f s && not (has_state o old g s))
  unfolding has_state
  minus_has is = ap (λ (x : Bool). is_state o.blocks s && x) (is (code_of o s))
      ∙ both_not (is_state o.blocks s) (means old f (code_of o s)) (means old g (code_of o s))

-- the Id that is false

none_and : (t : Bool) → (t && false) ≡ false
none_and true = refl
none_and false = refl

pub false_means : (nodes : List Node) (b : Bits) → means nodes 0 b ≡ false
unfolding means leads
false_means nodes b = refl

pub false_has : (o : Layout) (nodes : List Node) (s : List ℕ) → has_state o nodes 0 s ≡ false
unfolding has_state
false_has o nodes s = ap (λ (x : Bool). is_state o.blocks s && x) (false_means nodes (code_of o s)) ∙ none_and (is_state o.blocks s)

pub false_set : (o : Layout) (nodes : List Node) → IsReduced nodes → IsKnownSet o nodes 0
false_set o nodes r = record {
  known = (let two = r.constants in omega (arith, two));
  set = λ b. ((λ h. absurd (true≢false (sym h ∙ false_means nodes b))), (λ x. absurd (true≢false (sym x.3.2 ∙ false_means nodes x.3.0))));
}

-- sets are equal exactly where they have the same states

pub both_true : (x y : Bool) → (x ≡ true → y ≡ true) → (y ≡ true → x ≡ true) → x ≡ y
both_true true y f g = sym (f refl)
both_true false true f g = g refl
both_true false false f g = refl

pub same_sets : (o : Layout) (nodes : List Node) (f g : ℕ) → IsLayout o → IsReduced nodes → IsKnownSet o nodes f
    → IsKnownSet o nodes g → ((s : List ℕ) → has_state o nodes f s ≡ has_state o nodes g s) → f ≡ g
same_sets o nodes f g l r sf sg same = canonical nodes r f g sf.known sg.known
    (λ b. both_true (means nodes f b) (means nodes g b) (to f g sf sg same b) (to g f sg sf (λ s. sym (same s)) b))
  where
    to : (f g : ℕ) → IsKnownSet o nodes f → IsKnownSet o nodes g
        → ((s : List ℕ) → has_state o nodes f s ≡ has_state o nodes g s) → (b : Bits) → means nodes f b ≡ true
        → means nodes g b ≡ true
    to f g sf sg same b h =
        let x = (sf.set b).0 h in
        let has = member_has o nodes f x.0 l sf.set x.1 x.3 in
        (sg.set b).1 (x.0, x.1, x.2, has_member o nodes g x.0 l (sym (same x.0) ∙ has))

pub empty_is : (o : Layout) (nodes : List Node) (f : ℕ) → IsLayout o → IsReduced nodes → IsKnownSet o nodes f
    → (f ≡ 0) ↔ ((s : List ℕ) → has_state o nodes f s ≡ false)
empty_is o nodes f l r sf = (
  (λ e s. ap (λ (id : ℕ). has_state o nodes id s) e ∙ false_has o nodes s),
  (λ none. same_sets o nodes f 0 l r sf (false_set o nodes r) (λ s. none s ∙ sym (false_has o nodes s))),
)
