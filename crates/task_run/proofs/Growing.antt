-- Passes over the rules of a layer.
use Rattle.std.proofs.Common.{◌≡◌, ℕ, zero, suc, ◌+◌, ◌<◌, inl, inr, Bool, true, false, cond, ◌==◌, List, [], ◌∷◌, ◌++◌, take, length, get_or, Contains, refl, sym, ap, subst, ◌∙◌, arith}
use Rattle.std.proofs.Math.ListN.{set}
use Rattle.std.proofs.lemmas.Bool.{eq-eqb, ne_eqb, cases_eq}
use Rattle.symk_task.specs.declared.parts.Rule.{Rule}
use Rattle.symk_task.specs.declared.parts.Variable.{Variable}
use Rattle.symk_task.specs.declared.parts.TaskParts.{TaskParts}
use Rattle.symk_task.specs.Variables.{is_base}
use Rattle.std.specs.List.{count_by}
use Rattle.std.proofs.lemmas.Option.{slice_get_read}
use Rattle.symk_task.specs.Fits.{Fits, FitsRule}
use Rattle.symk_task.proofs.Places.{within_some}
use Rattle.task_run.specs.Layer.{Grows, at_default, start_value}
use Rattle.task_run.specs.Layer.Grows.{done, by}

pub at_default_falls : (initial values : List ℕ) (var new : ℕ) → var < length values → var < length initial
    → get_or values var 0 ≡ get_or initial var 0 → (new ≡ get_or initial var 0 → ⊥)
    → at_default initial (set values var new) < at_default initial values
at_default_falls [] values var new lt within e ne = absurd (omega arith)
at_default_falls (x ∷ initial) [] var new lt within e ne = absurd (omega arith)
at_default_falls (x ∷ initial) (y ∷ values) zero new lt within e ne =
    let a : (new == x) ≡ false = ne_eqb new x ne in
    let b : (y == x) ≡ true = eq-eqb y x e in
    rw (a, b) (omega arith)
at_default_falls (x ∷ initial) (y ∷ values) (suc var) new lt within e ne =
    omega (arith, at_default_falls initial values var new (omega arith) (omega arith) e ne)

pub grows_on : (task : TaskParts) (layer : ℕ) (a b c : List ℕ) → Grows task layer a b → Grows task layer b c → Grows task layer a c
grows_on task layer a b c g (done v) = g
grows_on task layer a b c g (by v more rule h in_rules raises) = by a more rule (grows_on task layer a b more g h) in_rules raises

pub rule_within : (task : TaskParts) (rules : List Rule) (i : ℕ) (rule : Rule) → Fits task → rules ≡ task.rules
    → i < length task.rules → rule ≡ get_or rules i rule → FitsRule task rule × (rule.var < length task.variables)
    × Contains task.rules rule
rule_within task rules i rule fits same lt is =
    let at : rule ≡ get_or task.rules i rule = is ∙ ap (λ (z : List Rule). get_or z i rule) same in
    let fit = subst (FitsRule task) (sym at) (fits.each_rule i rule lt) in
    (fit, within_some (λ v. v.layer ≡ Rattle.std.proofs.Common.Some fit.layer) task.variables rule.var fit.on, (i, lt, sym at))

-- the values before any rule
get_or_push : (xs : List ℕ) (y k : ℕ) → k < length xs → get_or (xs ++ y ∷ []) k 0 ≡ get_or xs k 0
get_or_push [] y k lt = absurd (omega arith)
get_or_push (x ∷ xs) y zero lt = refl
get_or_push (x ∷ xs) y (suc k) lt = get_or_push xs y k (omega arith)

get_or_pushed : (xs : List ℕ) (y : ℕ) → get_or (xs ++ y ∷ []) (length xs) 0 ≡ y
get_or_pushed [] y = refl
get_or_pushed (x ∷ xs) y = get_or_pushed xs y

pub length_push : (xs : List ℕ) (y : ℕ) → length (xs ++ y ∷ []) ≡ length xs + 1
length_push [] y = omega arith
length_push (x ∷ xs) y = omega (arith, length_push xs y)

pub start_push : (f : ℕ → ℕ) (values : List ℕ) (i y : ℕ) → length values ≡ i → f i ≡ y
    → ((k : ℕ) → k < i → get_or values k 0 ≡ f k) → (k : ℕ) → k < i + 1 → get_or (values ++ y ∷ []) k 0 ≡ f k
start_push f values i y e at h k lt = elim (cases_eq k i) [
  | inl same ↦ (let n : k ≡ length values = omega (arith, same, e) in rw n (get_or_pushed values y) ∙ sym (ap f same ∙ at))
  | inr ne ↦ (let ne2 : k ≡ i → ⊥ = ne in get_or_push values y k (omega (arith, ne2, e)) ∙ h k (omega (arith, ne2)))
]

pub start_at : (variables : List Variable) (defaults s : List ℕ) (i : ℕ) (v : Variable) (b : Bool)
    → i < length variables → v ≡ get_or variables i v → is_base v ≡ b
    → start_value variables defaults s i ≡ cond b (get_or s (count_by is_base (take i variables)) 0)
    (get_or defaults i 0)
start_at variables defaults s i v b lt is t =
    let e = slice_get_read variables (length variables) i v refl lt is in
    rw e (rw t refl)
