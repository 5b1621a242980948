-- The states that are listed are those of the task, each once.
use Rattle.std.proofs.Common.{◌≡◌, ℕ, zero, suc, ◌+◌, ◌<◌, ◌↔◌, inl, inr, Bool, true, false, cond, List, [], ◌∷◌, length, get_or, take, Option, Some, None, IfSome, slice_get, refl, sym, ap, subst, ◌∙◌, arith}
use Rattle.std.specs.List.{count_by}
use Rattle.std.specs.Option.{is_none}
use Rattle.std.proofs.lemmas.Bool.{false≢true}
use Rattle.std.proofs.lemmas.List.Sums.{sum_by-cons}
use Rattle.symk_task.specs.declared.parts.Variable.{Variable}
use Rattle.symk_task.specs.declared.parts.TaskParts.{TaskParts}
use Rattle.symk_task.specs.Variables.{is_base, range, IsState}
use Rattle.symk_task.specs.Plans.{AllDifferent}
use Rattle.task_system.specs.System.{Listed}
use Rattle.task_system.specs.Computed.{assignments}
use Rattle.task_system.proofs.Listing.{all_before, listed_all, all_listed, all_different}

-- a state of these variables
record StateOf (variables : List Variable) (s : List ℕ) : Type 0 where
  each : length s ≡ count_by is_base variables
  in_range : (var : ℕ) → IfSome (slice_get variables var) (λ v. v.layer ≡ None → get_or s (count_by is_base (take var variables)) 0 < range v)

count_more : (v : Variable) (variables : List Variable) (b : Bool) → is_base v ≡ b → count_by is_base (v ∷ variables) ≡ cond b 1 0 + count_by is_base variables
count_more v variables b t = sum_by-cons (λ (y : Variable). cond (is_base y) 1 0) v variables ∙ ap (λ (z : Bool). cond z 1 0 + count_by is_base variables) t

-- One variable more, or less.

more_base : (v : Variable) (variables : List Variable) (x : ℕ) (s : List ℕ) → is_base v ≡ true → x < range v
    → StateOf variables s → StateOf (v ∷ variables) (x ∷ s)
more_base v variables x s t lt h = record {
  each = omega (arith, count_more v variables true t, h.each);
  in_range = at;
}
  where
    at : (var : ℕ) → IfSome (slice_get (v ∷ variables) var) (λ w. w.layer ≡ None → get_or (x ∷ s) (count_by is_base (take var (v ∷ variables))) 0 < range w)
    at zero = (λ _. lt)
    at (suc var) =
        let n : suc (count_by is_base (take var variables)) ≡ count_by is_base (v ∷ take var variables) =
        omega (arith, count_more v (take var variables) true t) in
        subst (λ (k : ℕ). IfSome (slice_get variables var) (λ w. w.layer ≡ None → get_or (x ∷ s) k 0 < range w)) n (h.in_range var)

less_base : (v : Variable) (variables : List Variable) (x : ℕ) (s : List ℕ) → is_base v ≡ true → StateOf (v ∷ variables) (x ∷ s) → StateOf variables s
less_base v variables x s t h = record {
  each = (let k : suc (length s) ≡ count_by is_base (v ∷ variables) = h.each in omega (arith, count_more v variables true t));
  in_range = λ var.
      let n : count_by is_base (v ∷ take var variables) ≡ suc (count_by is_base (take var variables)) =
      omega (arith, count_more v (take var variables) true t) in
      subst (λ (k : ℕ). IfSome (slice_get variables var) (λ w. w.layer ≡ None → get_or (x ∷ s) k 0 < range w)) n (h.in_range (suc var));
}

none_is : (o : Option ℕ) → is_none o ≡ true → o ≡ None
none_is None e = refl
none_is (Some x) e = cc

none_true : (o : Option ℕ) → o ≡ None → is_none o ≡ true
none_true None e = refl
none_true (Some x) e = cc

more_derived : (v : Variable) (variables : List Variable) (s : List ℕ) → is_base v ≡ false → StateOf variables s → StateOf (v ∷ variables) s
more_derived v variables s t h = record {
  each = omega (arith, count_more v variables false t, h.each);
  in_range = at;
}
  where
    at : (var : ℕ) → IfSome (slice_get (v ∷ variables) var) (λ w. w.layer ≡ None → get_or s (count_by is_base (take var (v ∷ variables))) 0 < range w)
    at zero = (λ b. absurd (false≢true (sym t ∙ none_true v.layer b)))
    at (suc var) =
        let n : count_by is_base (take var variables) ≡ count_by is_base (v ∷ take var variables) = omega (arith, count_more v (take var variables) false t) in
        subst (λ (k : ℕ). IfSome (slice_get variables var) (λ w. w.layer ≡ None → get_or s k 0 < range w)) n (h.in_range var)

less_derived : (v : Variable) (variables : List Variable) (s : List ℕ) → is_base v ≡ false → StateOf (v ∷ variables) s → StateOf variables s
less_derived v variables s t h = record {
  each = omega (arith, count_more v variables false t, h.each);
  in_range = λ var.
      let n : count_by is_base (v ∷ take var variables) ≡ count_by is_base (take var variables) = omega (arith, count_more v (take var variables) false t) in
      subst (λ (k : ℕ). IfSome (slice_get variables var) (λ w. w.layer ≡ None → get_or s k 0 < range w)) n (h.in_range (suc var));
}

-- Each state is listed, and nothing else.

listed_of : (variables : List Variable) (s : List ℕ) → StateOf variables s → Listed (assignments variables) s
unfolding assignments
listed_of [] [] h = inl refl
listed_of [] (x ∷ s) h = (let z : suc (length s) ≡ 0 = h.each in absurd (omega arith))
listed_of (v ∷ variables) s h = go (is_base v) refl s h (listed_of variables)
  where
    go : (b : Bool) → is_base v ≡ b → (s : List ℕ) → StateOf (v ∷ variables) s → ((s : List ℕ) → StateOf variables s → Listed (assignments variables) s)
        → Listed (cond b (all_before 0 (range v) (assignments variables)) (assignments variables)) s
    go true t [] h ih = (let z : 0 ≡ count_by is_base (v ∷ variables) = h.each in absurd (omega (arith, count_more v variables true t)))
    go true t (x ∷ s) h ih = listed_all (range v) 0 x (assignments variables) s (omega arith)
        (let k = h.in_range 0 (none_is v.layer t) in omega (arith, k)) (ih s (less_base v variables x s t h))
    go false t s h ih = ih s (less_derived v variables s t h)

of_listed : (variables : List Variable) (s : List ℕ) → Listed (assignments variables) s → StateOf variables s
unfolding assignments
of_listed [] s (inl e) = subst (StateOf []) e (record { each = refl; in_range = λ var. tt })
of_listed [] s (inr h) = absurd h
of_listed (v ∷ variables) s h = go (is_base v) refl h (of_listed variables)
  where
    go : (b : Bool) → is_base v ≡ b → Listed (cond b (all_before 0 (range v) (assignments variables)) (assignments variables)) s
        → ((s : List ℕ) → Listed (assignments variables) s → StateOf variables s) → StateOf (v ∷ variables) s
    go true t h ih = (let b = all_listed (range v) 0 (assignments variables) s h in subst (StateOf (v ∷ variables))
        (sym b.is) (more_base v variables b.x b.rest t (omega (arith, b.most)) (ih b.rest b.listed)))
    go false t h ih = more_derived v variables s t (ih s h)

-- the states law: each state is listed, and nothing else
pub states_law : (task : TaskParts) (s : List ℕ) → IsState task s ↔ Listed (assignments task.variables) s
states_law task s = (
  (λ h. listed_of task.variables s (record { each = h.each; in_range = h.in_range })),
  (λ h. let k = of_listed task.variables s h in record { each = k.each; in_range = k.in_range }),
)

-- and each once
pub states_differ : (variables : List Variable) → AllDifferent (assignments variables)
unfolding assignments
states_differ [] = ((λ k d lt. absurd (omega arith)), tt)
states_differ (v ∷ variables) = go (is_base v) (states_differ variables)
  where
    go : (b : Bool) → AllDifferent (assignments variables) → AllDifferent (cond b (all_before 0 (range v) (assignments variables)) (assignments variables))
    go true ih = all_different (range v) 0 (assignments variables) ih
    go false ih = ih
