-- What the effects of an operator ask of the next bits of a variable, seen in one state.
use Rattle.std.proofs.Common.{◌≡◌, ℕ, zero, suc, ◌+◌, ◌-◌, ◌^◌, ◌<◌, ◌==◌, ◌↔◌, inl, inr, Bool, true, false, cond, ◌&&◌, List, [], length, get_or, take, refl, sym, ◌∙◌, ap, subst, arith, eqb-true, true≢false}
use Rattle.std.proofs.lemmas.Bool.{eq-eqb, ne_eqb, cases_eq}
use Rattle.symk_task.specs.declared.parts.Effect.{Effect}
use Rattle.symk_task.specs.declared.parts.TaskParts.{TaskParts}
use Rattle.symk_task.specs.Variables.{IsBase, place}
use Rattle.symk_task.specs.Steps.{Fires}
use Rattle.symk_task.proofs.OneState.{value_one}
use Rattle.task_run.proofs.Effects.{changed, unchanged, one_more}
use Rattle.bdd_table.specs.Diagram.{Bits}
use Rattle.var_order.specs.declared.block.Block.{Block}
use Rattle.var_order.specs.Layout.{Layout, IsOrderOf, IsInside, block_at, block_of, level_at}
use Rattle.var_order.specs.Codes.{number, spelt_value}
use Rattle.var_order.proofs.Spelling.{number_below}
use Rattle.var_order.proofs.Values.{base_block}
use Rattle.transitions.specs.NextValues.{agree, EffectTurn, IsNextValue, Arrives}
use Rattle.transitions.proofs.Gathering.{StandsAt}

-- numbers of one bit more are equal where that bit is the same and the rest are equal
same_both : (x : Bool) (m u v : ℕ) → ((cond x m 0 + u) == (cond x m 0 + v)) ≡ (u == v)
same_both x m u v = elim (cases_eq u v) [
  | inl e ↦ eq-eqb (cond x m 0 + u) (cond x m 0 + v) (ap (λ (z : ℕ). cond x m 0 + z) e) ∙ sym (eq-eqb u v e)
  | inr ne ↦ ne_eqb (cond x m 0 + u) (cond x m 0 + v) (λ e. let other : u ≡ v → ⊥ = ne in omega (arith, e, other)) ∙ sym (ne_eqb u v ne)
]

split : (x y : Bool) (m u v : ℕ) → u < m → v < m → ((cond y m 0 + u) == (cond x m 0 + v)) ≡ (agree x y && (u == v))
split true true m u v hu hv = same_both true m u v
split false false m u v hu hv = same_both false m u v
split true false m u v hu hv = ne_eqb (0 + u) (m + v) (λ e. omega (arith, e, hu))
split false true m u v hu hv = ne_eqb (m + u) (0 + v) (λ e. omega (arith, e, hv))

pub stays_none : (b : Bits) (p w : ℕ) → w ≡ 0 → (number b 1 p w == number b 0 p w) ≡ true
unfolding number
stays_none b p zero h = refl
stays_none b p (suc w) h = absurd (omega (arith, h))

pub stays_more : (b : Bits) (p w below : ℕ) → w ≡ below + 1
    → (number b 1 p w == number b 0 p w) ≡ (agree (b (level_at 0 p)) (b (level_at 1 p)) && (number b 1 (p + 1) below == number b 0 (p + 1) below))
unfolding number
stays_more b p zero below h = absurd (omega (arith, h))
stays_more b p (suc w) below h =
    split (b (level_at 0 p)) (b (level_at 1 p)) (2 ^ w) (number b 1 (p + 1) w) (number b 0 (p + 1) w) (number_below b 1 (p + 1) w) (number_below b 0 (p + 1) w)
    ∙ ap (λ (z : ℕ). agree (b (level_at 0 p)) (b (level_at 1 p)) && (number b 1 (p + 1) z == number b 0 (p + 1) z)) (let e : w ≡ below = omega (arith, h) in e)

-- no effects: the value stays
pub next_start : (task : TaskParts) (o : Layout) (var : ℕ) (s : List ℕ) (b : Bits) (t : Bool)
    → spelt_value o 0 b var ≡ get_or s (place task var) 0 → t ≡ (spelt_value o 1 b var == spelt_value o 0 b var)
    → IsNextValue task o [] var s b t
next_start task o var s b t code e = (get_or s (place task var) 0, inr (tt, refl), e ∙ ap (λ (z : ℕ). spelt_value o 1 b var == z) code)

-- one more effect
pub next_more : {es : List Effect} {i : ℕ} {e : Effect} (task : TaskParts) (o : Layout) (var : ℕ) (s : List ℕ)
    (b : Bits) (t u : Bool) → StandsAt es i e
    → IsNextValue task o (take i es) var s b t → EffectTurn task o e var s b t u → IsNextValue task o (take (i + 1) es) var s b u
next_more {es} {i} {e} task o var s b t u at (new, after, k) (inl (on, fires, m)) = (
  e.post,
  one_more (Fires task s) es i e var (get_or s (place task var) 0) e.post at.within at.is
      (changed (Fires task s) (take i es) e var (get_or s (place task var) 0) on fires),
  m,
)
next_more {es} {i} {e} task o var s b t u at (new, after, k) (inr (idle, m)) = (
  new,
  one_more (Fires task s) es i e var (get_or s (place task var) 0) new at.within at.is
      (unchanged (Fires task s) (take i es) e var (get_or s (place task var) 0) new idle after),
  m ∙ k,
)

-- where it fires, the next bits must spell the effect's value; elsewhere what they had to spell before
pub record IsChoice (o : Layout) (e : Effect) (var : ℕ) (b : Bits) (fires old new : Bool) : Type 0 where
  pub post : Bool
  pub is : post ≡ (spelt_value o 1 b var == e.post)
  pub chosen : new ≡ cond fires post old

-- what a choice by the effect's conditions gives
pub effect_chosen : {o : Layout} {e : Effect} {var : ℕ} {b : Bits} {old new : Bool} (task : TaskParts) (s : List ℕ)
    (fires : Bool) → e.var ≡ var → ((fires ≡ true) ↔ Fires task s e) → IsChoice o e var b fires old new
    → EffectTurn task o e var s b old new
effect_chosen task s true on fires choice = inl (on, fires.0 refl, choice.chosen ∙ choice.is)
effect_chosen task s false on fires choice = inr ((λ _ f. true≢false (sym (fires.1 f))), choice.chosen)

-- the diagram of a next value is true where the next bits spell it
pub arrives : (task : TaskParts) (o : Layout) (es : List Effect) (var : ℕ) (s : List ℕ) (b : Bits) (t : Bool)
    → IsNextValue task o es var s b t → t ≡ true → Arrives task o es var s b
arrives task o es var s b t (value, after, e) h = (value, after, eqb-true (spelt_value o 1 b var) value (sym e ∙ h))

pub arrived : (task : TaskParts) (o : Layout) (es : List Effect) (var : ℕ) (s : List ℕ) (b : Bits) (t : Bool)
    → IsNextValue task o es var s b t → Arrives task o es var s b → t ≡ true
arrived task o es var s b t (value, after, e) (other, also, is) =
    e ∙ eq-eqb (spelt_value o 1 b var) value (is ∙ value_one (Fires task s) es var (get_or s (place task var) 0) other value also after)

-- the bits of a base variable stand at early places
pub base_room : (task : TaskParts) (o : Layout) (var : ℕ) (block : Block) → IsOrderOf task o → IsBase task var
    → block ≡ block_of o var → 0 < block.width → block.first + block.width < 2147483648
base_room task o var block order base is some =
    let here : block ≡ block_at o (place task var) = is ∙ base_block task o var order base in
    let owned = order.layout.owned (place task var) (block.first + (block.width - 1))
    (subst (λ (x : Block). IsInside x (block.first + (block.width - 1))) here (record { from = omega arith; before = omega (arith, some) })) in
    let before = owned.0 in
    let most = order.layout.most in
    omega (arith, before, most, some)
