-- What effects do, one after the other.
use Rattle.std.proofs.Common.{◌≡◌, ℕ, ◌+◌, ◌<◌, ◌≢◌, ◌↔◌, inl, inr, List, [], ◌∷◌, ◌++◌, length, take, get_or, refl, sym, ap, subst, ◌∙◌, append_assoc}
use Rattle.std.proofs.Math.ListN.{set}
use Rattle.std.proofs.lemmas.Bool.{cases_eq}
use Rattle.std.proofs.lemmas.List.{get_or-set_same, get_or-set_other, take_more}
use Rattle.std.specs.List.{AllByRecursion}
use Rattle.symk_task.specs.declared.parts.Effect.{Effect}
use Rattle.symk_task.specs.Steps.{NoneOn, ValueAfter}

none_append : (F : Effect → Type 0) (var : ℕ) (es : List Effect) (e : Effect) → NoneOn F var es → (e.var ≡ var → F e → ⊥) → NoneOn F var (es ++ e ∷ [])
none_append F var [] e h k = (k, tt)
none_append F var (x ∷ es) e h k = (h.0, none_append F var es e h.1 k)

pub changed : (F : Effect → Type 0) (es : List Effect) (e : Effect) (var old : ℕ) → e.var ≡ var → F e → ValueAfter F (es ++ e ∷ []) var old e.post
changed F es e var old on fires = inl (e, record { before = es; later = []; here = refl; on = on; fires = fires; none = tt }, refl)

pub unchanged : (F : Effect → Type 0) (es : List Effect) (e : Effect) (var old new : ℕ) → (e.var ≡ var → F e → ⊥)
    → ValueAfter F es var old new → ValueAfter F (es ++ e ∷ []) var old new
unchanged F es e var old new idle (inl p) =
    let l = p.1 in
    inl (
      p.0,
      record {
        before = l.before;
        later = l.later ++ e ∷ [];
        here = ap (λ (z : List Effect). z ++ e ∷ []) l.here ∙ append_assoc l.before (p.0 ∷ l.later) (e ∷ []);
        on = l.on;
        fires = l.fires;
        none = none_append F var l.later e l.none idle;
      },
      p.2,
    )
unchanged F es e var old new idle (inr p) = inr (none_append F var es e p.0 idle, p.1)

pub written : (F : Effect → Type 0) (es : List Effect) (e : Effect) (var old : ℕ) (next : List ℕ) → F e
    → e.var < length next → ValueAfter F es var old (get_or next var 0)
    → ValueAfter F (es ++ e ∷ []) var old (get_or (set next e.var e.post) var 0)
written F es e var old next fires within h =
    elim (cases_eq var e.var) [
      | inl same ↦ (let on : get_or (set next e.var e.post) var 0 ≡ e.post =
          rw same (get_or-set_same next e.var e.post 0 within) in rw on (changed F es e var old (sym same) fires))
      | inr other ↦ (let ne : var ≢ e.var = other in
          let off : get_or (set next e.var e.post) var 0 ≡ get_or next var 0 =
          get_or-set_other next e.var var e.post 0 ne in rw off
          (unchanged F es e var old (get_or next var 0) (λ on _. other (sym on)) h))
    ]

-- what was found of the first i effects, and the effect at i
pub one_more : (F : Effect → Type 0) (es : List Effect) (i : ℕ) (e : Effect) (var old new : ℕ) → i < length es
    → e ≡ get_or es i e → ValueAfter F (take i es ++ e ∷ []) var old new
    → ValueAfter F (take (i + 1) es) var old new
one_more F es i e var old new within is h =
    let t : take (i + 1) es ≡ take i es ++ e ∷ [] = take_more es i e within ∙ ap (λ (z : Effect). take i es ++ z ∷ []) (sym is) in
    subst (λ (z : List Effect). ValueAfter F z var old new) (sym t) h

-- The same, where effects fire under both facts alike.

pub parts : (P : Effect → Type 0) (before later : List Effect) (last : Effect) → AllByRecursion P (before ++ last ∷ later) → P last × AllByRecursion P later
parts P [] later last h = h
parts P (e ∷ before) later last h = parts P before later last h.1

none_like : (F G : Effect → Type 0) (effects : List Effect) (var : ℕ)
    → AllByRecursion (λ effect. effect.var ≡ var → F effect ↔ G effect) effects
    → NoneOn F var effects → NoneOn G var effects
none_like F G [] var like h = tt
none_like F G (e ∷ effects) var like h = ((λ on g. h.0 on ((like.0 on).1 g)), none_like F G effects var like.1 h.1)

-- where the effects on var fire alike, it has the same
pub after_like : (F G : Effect → Type 0) (effects : List Effect) (var old new : ℕ)
    → AllByRecursion (λ effect. effect.var ≡ var → F effect ↔ G effect) effects → ValueAfter F effects var old new
    → ValueAfter G effects var old new
after_like F G effects var old new like (inl (last, l, e)) =
    let both = parts (λ (effect : Effect). effect.var ≡ var → F effect ↔ G effect) l.before l.later last
    (subst (AllByRecursion (λ (effect : Effect). effect.var ≡ var → F effect ↔ G effect)) l.here like) in
    inl (
      last,
      record {
        before = l.before;
        later = l.later;
        here = l.here;
        on = l.on;
        fires =
            (both.0 l.on).0 l.fires;
        none = none_like F G l.later var both.1 l.none;
      },
      e,
    )
after_like F G effects var old new like (inr h) = inr (none_like F G effects var like h.0, h.1)
