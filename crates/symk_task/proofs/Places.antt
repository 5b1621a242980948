-- The places of base variables in a state.
use Rattle.std.proofs.Common.{◌≡◌, ℕ, zero, suc, ◌+◌, ◌<◌, Bool, true, false, not, cond, List, [], ◌∷◌, ◌++◌, length, get_or, take, drop, Option, Some, None, IsSomeAnd, slice_get, refl, sym, ap, subst, ◌∙◌, append_assoc, arith, drop-cons, add-one}
use Rattle.std.specs.List.{count_by}
use Rattle.std.specs.Option.{is_none, is_some}
use Rattle.std.proofs.lemmas.List.Sums.{sum_by-cons}
use Rattle.symk_task.specs.declared.parts.Variable.{Variable}
use Rattle.symk_task.specs.declared.parts.TaskParts.{TaskParts}
use Rattle.symk_task.specs.Variables.{is_base, IsBase, place, base_values}

-- what is there has a number below the length
pub within_some : {X : Type 0} (P : X → Type 0) (xs : List X) (i : ℕ) → IsSomeAnd (slice_get xs i) P → i < length xs
within_some P [] i h = absurd h
within_some P (x ∷ xs) zero h = omega arith
within_some P (x ∷ xs) (suc i) h = (let k = within_some P xs i h in omega arith)

-- each place is that of a base variable
record At (variables : List Variable) (k : ℕ) : Type 0 where
  var : ℕ
  base : IsSomeAnd (slice_get variables var) (λ v. v.layer ≡ None)
  here : count_by is_base (take var variables) ≡ k

none_is : (o : Option ℕ) → is_none o ≡ true → o ≡ None
none_is None e = refl
none_is (Some x) e = cc

count : (v : Variable) (variables : List Variable) (b : Bool) → is_base v ≡ b → (var : ℕ)
    → count_by is_base (v ∷ take var variables) ≡ cond b 1 0 + count_by is_base (take var variables)
count v variables b t var = rw (sum_by-cons (λ (y : Variable). cond (is_base y) 1 0) v (take var variables), t) refl

first : (v : Variable) (variables : List Variable) → ((k : ℕ) → k < count_by is_base variables → At variables k)
    → (b : Bool) → is_base v ≡ b → (k : ℕ) → k < cond b 1 0 + count_by is_base variables → At (v ∷ variables) k
first v variables ih true t zero lt = record { var = 0; base = none_is v.layer t; here = refl }
first v variables ih true t (suc k) lt =
    let a = ih k (omega arith) in
    record { var = suc a.var; base = a.base; here = count v variables true t a.var ∙ omega (arith, a.here) }
first v variables ih false t k lt =
    let a = ih k (omega arith) in
    record { var = suc a.var; base = a.base; here = count v variables false t a.var ∙ omega (arith, a.here) }

base_at : (variables : List Variable) (k : ℕ) → k < count_by is_base variables → At variables k
base_at [] k lt = absurd (omega arith)
base_at (v ∷ variables) k lt = first v variables (base_at variables) (is_base v) refl k
    (subst (λ z. k < z) (sum_by-cons (λ (y : Variable). cond (is_base y) 1 0) v variables) lt)

same_lists : (x y : List ℕ) → length x ≡ length y → ((k : ℕ) → k < length x → get_or x k 0 ≡ get_or y k 0) → x ≡ y
same_lists [] [] e h = refl
same_lists [] (b ∷ y) e h = (let z : 0 ≡ suc (length y) = e in absurd (omega arith))
same_lists (a ∷ x) [] e h = (let z : suc (length x) ≡ 0 = e in absurd (omega arith))
same_lists (a ∷ x) (b ∷ y) e h =
    let z : suc (length x) ≡ suc (length y) = e in
    let head : a ≡ b = h 0 (omega arith) in
    let tail : x ≡ y = same_lists x y (omega arith) (λ k lt. h (suc k) (omega arith)) in cc

-- states that agree on each base variable are equal
pub same_states : (task : TaskParts) (x y : List ℕ) → length x ≡ count_by is_base task.variables → length y ≡ length x
    → ((var : ℕ) → IsBase task var → get_or x (place task var) 0 ≡ get_or y (place task var) 0) → x ≡ y
same_states task x y full far h =
    same_lists x y (sym far) (λ k lt.
    let lt2 : k < count_by is_base task.variables = omega (arith, full) in
    let at = base_at task.variables k lt2 in
    subst (λ z. get_or x z 0 ≡ get_or y z 0) at.here (h at.var at.base))

-- The values of the base variables among all values.

pub base_length : (variables : List Variable) (values : List ℕ) → length values ≡ length variables
    → length (base_values variables values) ≡ count_by is_base variables
base_length [] values e = refl
base_length (v ∷ variables) [] e = (let z : 0 ≡ suc (length variables) = e in absurd (omega arith))
base_length (v ∷ variables) (x ∷ values) e =
    let z : suc (length values) ≡ suc (length variables) = e in
    let ih = base_length variables values (omega arith) in
    let s = sum_by-cons (λ (y : Variable). cond (is_base y) 1 0) v variables in
    later (is_base v) refl ih
  where
    later : (b : Bool) → is_base v ≡ b → length (base_values variables values) ≡ count_by is_base variables
        → length (cond b (x ∷ base_values variables values) (base_values variables values)) ≡ count_by
        is_base (v ∷ variables)
    later true t ih = rw (sum_by-cons (λ (y : Variable). cond (is_base y) 1 0) v variables, t) (omega (arith, ih))
    later false t ih = rw (sum_by-cons (λ (y : Variable). cond (is_base y) 1 0) v variables, t) (omega (arith, ih))

none_true : (o : Option ℕ) → o ≡ None → is_none o ≡ true
none_true None e = refl
none_true (Some x) e = cc

pub base_by : (o : Option ℕ) (r : Bool) → is_some o ≡ not r → is_none o ≡ r
base_by None true e = refl
base_by None false e = cc
base_by (Some x) true e = cc
base_by (Some x) false e = refl

pub value_at : (variables : List Variable) (values : List ℕ) (var : ℕ) → length values ≡ length variables
    → IsSomeAnd (slice_get variables var) (λ v. v.layer ≡ None)
    → get_or (base_values variables values) (count_by is_base (take var variables)) 0 ≡ get_or values var 0
value_at [] values var e h = absurd h
value_at (v ∷ variables) [] var e h = (let z : 0 ≡ suc (length variables) = e in absurd (omega arith))
value_at (v ∷ variables) (x ∷ values) zero e h = (let b : is_none v.layer ≡ true = none_true v.layer h in rw b refl)
value_at (v ∷ variables) (x ∷ values) (suc var) e h =
    let z : suc (length values) ≡ suc (length variables) = e in
    let ih = value_at variables values var (omega arith) h in
    later (is_base v) refl ih
  where
    later : (b : Bool) → is_base v ≡ b → get_or (base_values variables values) (count_by is_base (take var variables))
        0 ≡ get_or values var 0 → get_or (cond b (x ∷ base_values variables values) (base_values variables values))
        (count_by is_base (v ∷ take var variables)) 0 ≡ get_or values var 0
    later true t ih =
        let n : count_by is_base (v ∷ take var variables) ≡ suc (count_by is_base (take var variables)) =
        (rw (sum_by-cons (λ (y : Variable). cond (is_base y) 1 0) v (take var variables), t) (omega arith)) in
        rw n ih
    later false t ih =
        let n : count_by is_base (v ∷ take var variables) ≡ count_by is_base (take var variables) =
        (rw (sum_by-cons (λ (y : Variable). cond (is_base y) 1 0) v (take var variables), t) (omega arith)) in
        rw n ih

-- the next variable, and its value if it is a base variable
pub base_more : (variables : List Variable) (values : List ℕ) (i : ℕ) (v : Variable) (base : List ℕ) (total : List ℕ)
    → i < length variables → length values ≡ length variables → v ≡ get_or variables i v
    → base ++ base_values (drop i variables) (drop i values) ≡ total
    → cond (is_base v) (base ++ get_or values i 0 ∷ []) base ++ base_values (drop (i + 1) variables)
    (drop (i + 1) values) ≡ total
base_more variables values i v base total within same is h =
    let inner : i < length values = omega arith in
    let e1 : drop i variables ≡ v ∷ drop (i + 1) variables = drop-cons variables i v within ∙ rw (← is) (ap (λ z. v ∷ drop z variables) (sym (add-one i))) in
    let e2 : drop i values ≡ get_or values i 0 ∷ drop (i + 1) values = drop-cons values i 0 inner
    ∙ ap (λ z. get_or values i 0 ∷ drop z values) (sym (add-one i)) in
    go (is_base v) refl (sym (ap (λ (z : List Variable). base ++ base_values z (drop i values)) e1
    ∙ ap (λ (z : List ℕ). base ++ base_values (v ∷ drop (i + 1) variables) z) e2) ∙ h)
  where
    go : (b : Bool) → is_base v ≡ b → base ++ cond (is_base v)
        (get_or values i 0 ∷ base_values (drop (i + 1) variables) (drop (i + 1) values))
        (base_values (drop (i + 1) variables) (drop (i + 1) values)) ≡ total
        → cond b (base ++ get_or values i 0 ∷ []) base ++ base_values (drop (i + 1) variables)
        (drop (i + 1) values) ≡ total
    go true t k = append_assoc base (get_or values i 0 ∷ []) (base_values (drop (i + 1) variables) (drop (i + 1) values)) ∙ (rw t at k)
    go false t k = rw t at k
