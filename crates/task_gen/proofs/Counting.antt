-- Lists that have a member for each number below a bound.
use Rattle.std.proofs.Common.{◌≡◌, ℕ, zero, suc, ◌+◌, ◌<◌, ◌≤◌, ◌⊎◌, inl, inr, [], ◌∷◌, ◌++◌, length, get_or, refl, sym, ap, ◌∙◌, subst, arith, add-one, zero-add, ◌*◌}
use Rattle.std.specs.Prelude.{All, sum_by}
use Rattle.std.proofs.lemmas.Bool.{cases_lt}
use Rattle.std.proofs.lemmas.List.{get_or_append_left, get_or_push, length_push}
use Rattle.std.proofs.lemmas.List.Elements.{All-nil, All-push}
use Rattle.std.proofs.lemmas.List.Sums.{sum_by-append}
use Rattle.task_gen.specs.Switches.{up_to}

pub length_up_to : {X : Type 0} (f : ℕ → X) (n : ℕ) → length (up_to f n) ≡ n
length_up_to f zero = refl
length_up_to f (suc n) = length_push (up_to f n) (f n) ∙ ap (λ k. k + 1) (length_up_to f n) ∙ add-one n

get_push : {X : Type 0} (f : ℕ → X) (n i : ℕ) (d : X) → (i < n → get_or (up_to f n) i d ≡ f i) → i < n + 1 → (i < n)
    ⊎ (n ≤ i) → get_or (up_to f n ++ f n ∷ []) i d ≡ f i
get_push f n i d below h (inl lt) =
    let within : i < length (up_to f n) = subst (λ (k : ℕ). i < k) (sym (length_up_to f n)) lt in
    get_or_append_left (up_to f n) (f n ∷ []) d i within ∙ below lt
get_push f n i d below h (inr ge) =
    let same : i ≡ n = omega arith in
    get_or_push (up_to f n) (f n) d i (length_up_to f n ∙ sym same) ∙ ap f (sym same)

pub get_up_to : {X : Type 0} (f : ℕ → X) (n i : ℕ) (d : X) → i < n → get_or (up_to f n) i d ≡ f i
get_up_to f zero i d h = absurd (omega arith)
get_up_to f (suc n) i d h = get_push f n i d (get_up_to f n i d) (omega arith) (cases_lt i n)

pub All_up_to : {X : Type 0} (P : X → Type 0) (f : ℕ → X) (n : ℕ) → ((i : ℕ) → i < n → P (f i)) → All P (up_to f n)
All_up_to P f zero each = All-nil P
All_up_to P f (suc n) each = All-push P (up_to f n) (f n) (All_up_to P f n (λ i h. each i (omega arith))) (each n (omega arith))

pub sum_up_to : {X : Type 0} (g : X → ℕ) (f : ℕ → X) (n c : ℕ) → ((i : ℕ) → g (f i) ≤ c) → sum_by g (up_to f n) ≤ n * c
sum_up_to g f zero c each = omega arith
sum_up_to g f (suc n) c each =
    let one : sum_by g (f n ∷ []) ≡ g (f n) = zero-add (g (f n)) in
    let rest = sum_up_to g f n c each in
    let last = each n in
    rw (sum_by-append g (up_to f n) (f n ∷ [])) (omega (arith, one, rest, last))
