-- An operator leads from a state to one state.
use Rattle.std.proofs.Common.{◌≡◌, ℕ, inl, inr, List, [], ◌∷◌, ◌++◌, get_or, Option, Some, None, IsSomeAnd, slice_get, sym, ap, subst, ◌∙◌}
use Rattle.symk_task.specs.declared.parts.Effect.{Effect}
use Rattle.symk_task.specs.declared.parts.Operator.{Operator}
use Rattle.symk_task.specs.declared.parts.TaskParts.{TaskParts}
use Rattle.symk_task.specs.Variables.{IsBase, IsState, place}
use Rattle.symk_task.specs.Steps.{Fires, NoneOn, LastOn, ValueAfter, After}
use Rattle.symk_task.proofs.Places.{same_states}

none_at : (F : Effect → Type 0) (var : ℕ) (before later : List Effect) (e : Effect) → NoneOn F var (before ++ e ∷ later) → e.var ≡ var → F e → ⊥
none_at F var [] later e h on f = h.0 on f
none_at F var (x ∷ before) later e h on f = none_at F var before later e h.1 on f

-- The effect changes var, and none of the later ones does.
record IsLast (F : Effect → Type 0) (var : ℕ) (last : Effect) (later : List Effect) : Type 0 where
  on : last.var ≡ var
  fires : F last
  none : NoneOn F var later

is_last : {F : Effect → Type 0} {var : ℕ} {effects : List Effect} {last : Effect} → (a : LastOn F var effects last)
    → IsLast F var last a.later
is_last a = record { on = a.on; fires = a.fires; none = a.none }

last_one : {F : Effect → Type 0} {var : ℕ} (b1 : List Effect) {r1 : List Effect} (b2 : List Effect) {r2 : List Effect}
    {l1 l2 : Effect} → b1 ++ l1 ∷ r1 ≡ b2 ++ l2 ∷ r2 → IsLast F var l1 r1 → IsLast F var l2 r2 → l1 ≡ l2
last_one {F} {var} [] {r1} [] {r2} {l1} {l2} e h k = (let same : l1 ≡ l2 = cc in same)
last_one {F} {var} [] {r1} (x ∷ b2) {r2} {l1} {l2} e h k =
    let t : r1 ≡ b2 ++ l2 ∷ r2 = cc in absurd (none_at F var b2 r2 l2 (subst (NoneOn F var) t h.none) k.on k.fires)
last_one {F} {var} (x ∷ b1) {r1} [] {r2} {l1} {l2} e h k =
    let t : r2 ≡ b1 ++ l1 ∷ r1 = cc in absurd (none_at F var b1 r1 l1 (subst (NoneOn F var) t k.none) h.on h.fires)
last_one {F} {var} (x ∷ b1) {r1} (y ∷ b2) {r2} {l1} {l2} e h k =
    let t : b1 ++ l1 ∷ r1 ≡ b2 ++ l2 ∷ r2 = cc in last_one b1 b2 t h k

pub value_one : (F : Effect → Type 0) (es : List Effect) (var old x y : ℕ) → ValueAfter F es var old x → ValueAfter F es var old y → x ≡ y
value_one F es var old x y (inl p) (inl q) =
    let a = p.1 in let b = q.1 in
    p.2 ∙ ap (λ (z : Effect). z.post) (last_one a.before b.before (sym a.here ∙ b.here) (is_last a) (is_last b))
    ∙ sym q.2
value_one F es var old x y (inl p) (inr q) = (let a = p.1 in absurd (none_at F var a.before a.later p.0 (subst (NoneOn F var) a.here q.0) a.on a.fires))
value_one F es var old x y (inr p) (inl q) = (let a = q.1 in absurd (none_at F var a.before a.later q.0 (subst (NoneOn F var) a.here p.0) a.on a.fires))
value_one F es var old x y (inr p) (inr q) = p.1 ∙ sym q.1

-- the successor is one state
pub one_state : (task : TaskParts) (s x y : List ℕ) (a : ℕ) → IsState task s → After task s a x → After task s a y → x ≡ y
one_state task s x y a state p q =
    same_states task x y (p.each ∙ state.each) (q.each ∙ sym p.each) (λ var base. same_at (slice_get task.operators a) var base p.values q.values)
  where
    Says : List ℕ → Operator → Type 0
    Says t operator = (var : ℕ) → IsBase task var → ValueAfter (Fires task s) operator.effects var (get_or s (place task var) 0) (get_or t (place task var) 0)

    same_at : (o : Option Operator) (var : ℕ) → IsBase task var → IsSomeAnd o (Says x) → IsSomeAnd o (Says y)
        → get_or x (place task var) 0 ≡ get_or y (place task var) 0
    same_at None var base h k = absurd h
    same_at (Some operator) var base h k = value_one (Fires task s) operator.effects var (get_or s (place task var) 0)
        (get_or x (place task var) 0) (get_or y (place task var) 0) (h var base) (k var base)
