-- A run of operators leads from a state to one state, along one trace.
use Rattle.std.proofs.Common.{◌≡◌, ℕ, ◌<◌, inl, inr, List, [], ◌∷◌, ◌++◌, get_or, Option, Some, None, IsSomeAnd, IfSome, slice_get, refl, sym, ap, subst, ◌∙◌, arith}
use Rattle.std.specs.List.{AllByRecursion}
use Rattle.std.proofs.lemmas.List.Elements.{recursion_from_All}
use Rattle.std.proofs.lemmas.Option.{get_or_from_slice_get, slice_get_within}
use Rattle.symk_task.specs.declared.parts.Variable.{Variable}
use Rattle.symk_task.specs.declared.parts.Effect.{Effect}
use Rattle.symk_task.specs.declared.parts.Operator.{Operator}
use Rattle.symk_task.specs.declared.parts.TaskParts.{TaskParts}
use Rattle.symk_task.specs.Variables.{IsBase, IsState, place, range}
use Rattle.symk_task.specs.Steps.{Fires, ValueAfter, Step}
use Rattle.symk_task.specs.Plans.{Runs, Trace}
use Rattle.symk_task.specs.Fits.{FitsEffect, FitsOperator, Fits}
use Rattle.symk_task.proofs.OneState.{one_state}

-- the operator of a number fits
pub fits_operator : (task : TaskParts) (a : ℕ) (operator : Operator) → Fits task
    → slice_get task.operators a ≡ Some operator → FitsOperator task.variables operator
fits_operator task a operator fits is =
    subst (FitsOperator task.variables) (get_or_from_slice_get task.operators a operator operator is)
    (fits.each_operator a operator (slice_get_within task.operators a operator is))

all_parts : {X : Type 0} (P : X → Type 0) (xs : List X) (x : X) (ys : List X) → AllByRecursion P (xs ++ x ∷ ys) → P x
all_parts P [] x ys h = h.0
all_parts P (y ∷ xs) x ys h = all_parts P xs x ys h.1

new_in_range : (F : Effect → Type 0) (variables : List Variable) (effects : List Effect) (var old new : ℕ)
    (v : Variable) → AllByRecursion (FitsEffect variables) effects → slice_get variables var ≡ Some v
    → old < range v → ValueAfter F effects var old new → new < range v
new_in_range F variables effects var old new v fit is lt (inl h) =
    let l = h.1 in
    let f = all_parts (FitsEffect variables) l.before h.0 l.later (subst (AllByRecursion (FitsEffect variables)) l.here fit) in
    let e : slice_get variables h.0.var ≡ Some v = ap (λ (z : ℕ). slice_get variables z) l.on ∙ is in
    let k = subst (λ (z : Option Variable). IsSomeAnd z (λ v. (v.layer ≡ None) × (h.0.post < range v))) e f.on in
    omega (arith, h.2, k.1)
new_in_range F variables effects var old new v fit is lt (inr h) = omega (arith, h.1)

-- an operator that applies leads from a state to a state
pub step_state : (task : TaskParts) (s : List ℕ) (a : ℕ) (t : List ℕ) → Fits task → IsState task s → Step task s a t → IsState task t
step_state task s a t fits state h = go (slice_get task.operators a) refl h.1.values
  where
    go : (o : Option Operator) → slice_get task.operators a ≡ o
        → IsSomeAnd o (λ operator. (var : ℕ) → IsBase task var
        → ValueAfter (Fires task s) operator.effects var (get_or s (place task var) 0)
        (get_or t (place task var) 0)) → IsState task t
    go None e k = absurd k
    go (Some operator) e k = record { each = h.1.each ∙ state.each; in_range = λ var. at var (slice_get task.variables var) refl (state.in_range var) }
      where
        at : (var : ℕ) (o : Option Variable) → slice_get task.variables var ≡ o
            → IfSome o (λ v. v.layer ≡ None → get_or s (place task var) 0 < range v)
            → IfSome o (λ v. v.layer ≡ None → get_or t (place task var) 0 < range v)
        at var None is old = old
        at var (Some v) is old = (λ base.
            let b : IsBase task var = subst (λ (z : Option Variable). IsSomeAnd z (λ v. v.layer ≡ None)) (sym is) base in
            let fit = fits_operator task a operator fits e in
            new_in_range (Fires task s) task.variables operator.effects var (get_or s (place task var) 0) (get_or t (place task var) 0) v
            (recursion_from_All (FitsEffect task.variables) operator.effects fit.each) is (old base) (k var b))

-- a run leads from a state to a state
pub run_state : (task : TaskParts) (p s t : List ℕ) → Fits task → IsState task s → Runs task s p t → IsState task t
unfolding Runs
run_state task [] s t fits state h = subst (IsState task) h state
run_state task (a ∷ p) s t fits state (next, first, rest) = run_state task p next t fits (step_state task s a next fits state first) rest

-- from one state it leads to one state
pub one_end : (task : TaskParts) (p s t u : List ℕ) → Fits task → IsState task s → Runs task s p t → Runs task s p u → t ≡ u
unfolding Runs
one_end task [] s t u fits state h k = sym h ∙ k
one_end task (a ∷ p) s t u fits state (m, first, rest) (n, second, last) =
    let same : m ≡ n = one_state task s m n a state first.1 second.1 in
    one_end task p m t u fits (step_state task s a m fits state first) rest (subst (λ (z : List ℕ). Runs task z p u) (sym same) last)

-- and along one trace
pub one_trace : (task : TaskParts) (p s : List ℕ) (xs ys : List (List ℕ)) → Fits task → IsState task s → Trace task s p xs → Trace task s p ys → xs ≡ ys
unfolding Trace
one_trace task [] s xs ys fits state h k = h ∙ sym k
one_trace task (a ∷ p) s xs ys fits state (m, rest, first, is, h) (n, others, second, from, k) =
    let same : m ≡ n = one_state task s m n a state first.1 second.1 in
    let tails : rest ≡ others = one_trace task p m rest others fits (step_state task s a m fits state first) h
    (subst (λ (z : List ℕ). Trace task z p others) (sym same) k) in
    is ∙ ap (λ (z : List (List ℕ)). s ∷ z) tails ∙ sym from

-- a run has a trace
pub has_trace : (task : TaskParts) (p s t : List ℕ) → Runs task s p t → (passed : List (List ℕ)) × Trace task s p passed
unfolding Runs Trace
has_trace task [] s t h = (s ∷ [], refl)
has_trace task (a ∷ p) s t (next, first, rest) = (let k = has_trace task p next t rest in (s ∷ k.0, (next, k.0, first, refl, k.1)))

-- what has a trace runs
pub trace_runs : (task : TaskParts) (p s : List ℕ) (passed : List (List ℕ)) → Trace task s p passed → (t : List ℕ) × Runs task s p t
unfolding Runs Trace
trace_runs task [] s passed h = (s, refl)
trace_runs task (a ∷ p) s passed (next, rest, first, is, h) = (let k = trace_runs task p next rest h in (k.0, (next, first, k.1)))
