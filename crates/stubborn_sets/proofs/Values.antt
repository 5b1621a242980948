-- What a variable has after effects.
use Rattle.std.proofs.Common.{◌≡◌, ◌≢◌, ℕ, ◌⊎◌, inl, inr, Bool, true, false, cond, ◌==◌, List, [], ◌∷◌, ◌++◌, fold, refl, subst}
use Rattle.std.specs.Bool.{Decides}
use Rattle.std.specs.List.{All, AllByRecursion, list_all}
use Rattle.std.proofs.lemmas.Bool.{cases_eq}
use Rattle.std.proofs.lemmas.Bool.Decides.{Decides-eqb, Decides-and, Decides-by_and, not_from_Decides}
use Rattle.symk_task.specs.declared.parts.Fact.{Fact}
use Rattle.symk_task.specs.declared.parts.Effect.{Effect}
use Rattle.symk_task.specs.Steps.{LastOn, ValueAfter}
use Rattle.task_run.proofs.Effects.{parts}
use Rattle.stubborn_sets.specs.Reading.{fires_at, value_after}

-- no effect is on var
abbrev pub Unwritten : ℕ → List Effect → Type 0
Unwritten var effects = AllByRecursion (λ effect. effect.var ≢ var) effects

-- either none is, or what holds of the variable of each effect holds of var
pub at_written : (P : ℕ → Type 0) (effects : List Effect) (var : ℕ) → AllByRecursion (λ effect. P effect.var) effects → Unwritten var effects ⊎ P var
at_written P [] var h = inl tt
at_written P (e ∷ effects) var h = elim (cases_eq e.var var) [
  | inl same ↦ inr (subst P same h.0)
  | inr off ↦ elim (at_written P effects var h.1) [ inl none ↦ inl (off, none) | inr p ↦ inr p ]
]

on_none : (var : ℕ) (before later : List Effect) (last : Effect) → Unwritten var (before ++ last ∷ later) → last.var ≡ var → ⊥
on_none var [] later last h on = h.0 on
on_none var (e ∷ before) later last h on = on_none var before later last h.1 on

-- what no effect is on stays
pub unwritten : (F : Effect → Type 0) (effects : List Effect) (var old new : ℕ) → Unwritten var effects → ValueAfter F effects var old new → new ≡ old
unwritten F effects var old new none (inl (last, l, e)) = absurd (on_none var l.before l.later last (subst (Unwritten var) l.here none) l.on)
unwritten F effects var old new none (inr h) = h.1

-- what holds of each holds of one
pub at_last : (P : Effect → Type 0) (before later : List Effect) (last : Effect) → AllByRecursion P (before ++ last ∷ later) → P last
at_last P before later last h = (parts P before later last h).0

-- Effects by one value.

-- each condition is on the value
abbrev pub FiresAt : ℕ → Effect → Type 0
FiresAt val effect = All (λ fact. fact.val ≡ val) effect.conds

conds_decide : (val : ℕ) (facts : List Fact) → Decides (list_all (λ (fact : Fact). fact.val == val) facts) (All (λ (fact : Fact). fact.val ≡ val) facts)
conds_decide val facts = Decides-by_and (λ (fact : Fact). fact.val == val) (λ (fact : Fact). fact.val ≡ val)
    (list_all (λ (fact : Fact). fact.val == val)) (λ fact. Decides-eqb fact.val val) refl (λ _ _. refl) facts

fires_decides : (var val : ℕ) (effect : Effect) → Decides (fires_at var val effect) ((effect.var ≡ var) × FiresAt val effect)
fires_decides var val effect = Decides-and (effect.var == var)
    (list_all (λ (fact : Fact). fact.val == val) effect.conds) (Decides-eqb effect.var var)
    (conds_decide val effect.conds)

longer : (F : Effect → Type 0) (var : ℕ) (effects : List Effect) (e last : Effect) → LastOn F var effects last → LastOn F var (e ∷ effects) last
longer F var effects e last l = record { before = e ∷ l.before; later = l.later; here = (let h = l.here in cc); on = l.on; fires = l.fires; none = l.none }

-- one effect before the others
one_before : (e : Effect) (effects : List Effect) (var val old : ℕ) (b : Bool) → fires_at var val e ≡ b
    → ((start : ℕ) → ValueAfter (FiresAt val) effects var start (fold (λ new (effect : Effect). cond (fires_at var val effect) effect.post new) start effects))
    → ValueAfter (FiresAt val) (e ∷ effects) var old
    (fold (λ new (effect : Effect). cond (fires_at var val effect) effect.post new) (cond b e.post old) effects)
one_before e effects var val old true t later = elim (later e.post) [
  | inl p ↦ inl (p.0, longer (FiresAt val) var effects e p.0 p.1, p.2)
  | inr q ↦ (let on = (fires_decides var val e).0 t in inl (e, record { before = []; later = effects; here = refl; on = on.0; fires = on.1; none = q.0 }, q.1))
]
one_before e effects var val old false t later = elim (later old) [
  | inl p ↦ inl (p.0, longer (FiresAt val) var effects e p.0 p.1, p.2)
  | inr q ↦ inr (((λ on fires. not_from_Decides _ (fires_decides var val e) t (on, fires)), q.0), q.1)
]

folded : (effects : List Effect) (var val old : ℕ) → ValueAfter (FiresAt val) effects var old
    (fold (λ new (effect : Effect). cond (fires_at var val effect) effect.post new) old effects)
folded [] var val old = inr (tt, refl)
folded (e ∷ effects) var val old = one_before e effects var val old (fires_at var val e) refl (λ start. folded effects var val start)

-- the computed value is what var has
pub computed : (effects : List Effect) (var val : ℕ) → ValueAfter (FiresAt val) effects var val (value_after effects var val)
unfolding value_after
computed effects var val = folded effects var val val
