-- Texts that grow piece by piece.
use Rattle.std.proofs.Common.{◌≡◌, ℕ, ◌+◌, ◌<◌, List, [], ◌∷◌, ◌++◌, length, get_or, take, Some, refl, sym, ap, ◌∙◌, subst, append_assoc}
use Rattle.std.specs.Prelude.{Result, Ok, Err, OnOk, slice_get}
use Rattle.std.specs.Option.{option_map_or}
use Rattle.std.specs.List.{flat_map}
use Rattle.std.proofs.lemmas.Option.{slice_get_read}
use Rattle.symk_task.specs.declared.parts.Operator.{Operator}
use Rattle.std.proofs.lemmas.List.{take_more, append-nil}

flat_map-append : {X A : Type 0} (f : X → List A) (xs ys : List X) → flat_map f (xs ++ ys) ≡ flat_map f xs ++ flat_map f ys
flat_map-append f [] ys = refl
flat_map-append f (x ∷ xs) ys = ap (λ t. f x ++ t) (flat_map-append f xs ys) ∙ sym (append_assoc (f x) (flat_map f xs) (flat_map f ys))

-- one item more of a list that is spelled item by item
pub one_more : {X A : Type 0} (f : X → List A) (before : List A) (xs : List X) (i : ℕ) (d : X) → i < length xs
    → before ++ flat_map f (take (i + 1) xs) ≡ (before ++ flat_map f (take i xs)) ++ f (get_or xs i d)
one_more f before xs i d lt =
    ap (λ t. before ++ flat_map f t) (take_more xs i d lt)
    ∙ ap (λ t. before ++ t) (flat_map-append f (take i xs) (get_or xs i d ∷ []))
    ∙ ap (λ t. before ++ (flat_map f (take i xs) ++ t)) (append-nil (f (get_or xs i d)))
    ∙ sym (append_assoc before (flat_map f (take i xs)) (f (get_or xs i d)))

-- a piece after a piece
pub step : (t a b : List ℕ) {t1 t2 : List ℕ} → t1 ≡ t ++ a → t2 ≡ t1 ++ b → t2 ≡ t ++ (a ++ b)
step t a b {t1} {t2} e f = f ∙ ap (λ x. x ++ b) e ∙ append_assoc t a b

-- what is known after an Ok leads to what is wanted after it
pub on_ok : {T E : Type 0} (r : Result T E) (P Q : Type 0) → (P → Q) → OnOk r P → OnOk r Q
on_ok (Ok x) P Q f h = f h
on_ok (Err e) P Q f h = h

-- the name of the operator that was read
pub named : (ops xs : List Operator) (op : ℕ) (o : Operator) → xs ≡ ops → op < length ops → o ≡ get_or xs op o
    → o.name ≡ option_map_or (λ operator. operator.name) (slice_get ops op) []
named ops xs op o e lt is =
    let here : o ≡ get_or ops op o = subst (λ (ys : List Operator). o ≡ get_or ys op o) e is in
    let at : slice_get ops op ≡ Some o = slice_get_read ops (length ops) op o refl lt here in
    ap (λ x. option_map_or (λ operator. operator.name) x []) (sym at)
