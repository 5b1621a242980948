-- Texts that grow line by line.
use Rattle.std.proofs.Common.{◌≡◌, ℕ, ◌+◌, ◌<◌, List, [], ◌∷◌, ◌++◌, length, get_or, take, map, refl, sym, ap, ◌∙◌, append_assoc}
use Rattle.std.specs.List.{flat_map}
use Rattle.std.specs.Prelude.{Result, Ok, Err, OnOk}
use Rattle.std.proofs.lemmas.List.{take_more, map-append, append-nil}
use Rattle.sas_writer.specs.Spelling.{text_of}

pub text_of_append : (xs ys : List (List ℕ)) → text_of (xs ++ ys) ≡ text_of xs ++ text_of ys
text_of_append [] ys = refl
text_of_append (x ∷ xs) ys = ap (λ t. x ++ 10 ∷ t) (text_of_append xs ys) ∙ sym (append_assoc x (10 ∷ text_of xs) (text_of ys))

flat_map-append : {X A : Type 0} (f : X → List A) (xs ys : List X) → flat_map f (xs ++ ys) ≡ flat_map f xs ++ flat_map f ys
flat_map-append f [] ys = refl
flat_map-append f (x ∷ xs) ys = ap (λ t. f x ++ t) (flat_map-append f xs ys) ∙ sym (append_assoc (f x) (flat_map f xs) (flat_map f ys))

-- one item more of a list that is spelled item by item
pub one_more : {X A : Type 0} (f : X → List A) (before : List A) (xs : List X) (i : ℕ) (x : X) → i < length xs → x ≡ get_or xs i x
    → before ++ flat_map f (take (i + 1) xs) ≡ (before ++ flat_map f (take i xs)) ++ f x
one_more f before xs i x lt e =
    ap (λ t. before ++ flat_map f t) (take_more xs i x lt)
    ∙ ap (λ t. before ++ t) (flat_map-append f (take i xs) (get_or xs i x ∷ []))
    ∙ ap (λ y. before ++ (flat_map f (take i xs) ++ (f y ++ []))) (sym e)
    ∙ ap (λ t. before ++ (flat_map f (take i xs) ++ t)) (append-nil (f x))
    ∙ sym (append_assoc before (flat_map f (take i xs)) (f x))

-- one line more, of a list with a line for each item
pub line_more : {X : Type 0} (f : X → List ℕ) (before : List ℕ) (xs : List X) (i : ℕ) (x : X) → i < length xs → x ≡ get_or xs i x
    → before ++ text_of (map f (take (i + 1) xs)) ≡ (before ++ text_of (map f (take i xs))) ++ (f x ++ 10 ∷ [])
line_more f before xs i x lt e =
    ap (λ t. before ++ text_of (map f t)) (take_more xs i x lt)
    ∙ ap (λ t. before ++ text_of t) (map-append f (take i xs) (get_or xs i x ∷ []))
    ∙ ap (λ t. before ++ t) (text_of_append (map f (take i xs)) (f (get_or xs i x) ∷ []))
    ∙ ap (λ y. before ++ (text_of (map f (take i xs)) ++ (f y ++ 10 ∷ []))) (sym e)
    ∙ sym (append_assoc before (text_of (map f (take i xs))) (f x ++ 10 ∷ []))

-- some lines more, of a list with several lines for each item
pub lines_more : {X : Type 0} (f : X → List (List ℕ)) (before : List ℕ) (xs : List X) (i : ℕ) (x : X) → i < length xs → x ≡ get_or xs i x
    → before ++ text_of (flat_map f (take (i + 1) xs)) ≡ (before ++ text_of (flat_map f (take i xs))) ++ text_of (f x)
lines_more f before xs i x lt e =
    ap (λ t. before ++ text_of t) (one_more f [] xs i x lt e)
    ∙ ap (λ t. before ++ t) (text_of_append (flat_map f (take i xs)) (f x))
    ∙ sym (append_assoc before (text_of (flat_map f (take i xs))) (text_of (f x)))

-- what is known after an Ok leads to what is wanted after it
pub on_ok : {T E : Type 0} (r : Result T E) (P Q : Type 0) → (P → Q) → OnOk r P → OnOk r Q
on_ok (Ok x) P Q f h = f h
on_ok (Err e) P Q f h = h

-- lines after lines
pub then : (t : List ℕ) (a b : List (List ℕ)) {t1 t2 : List ℕ} → t1 ≡ t ++ text_of a → t2 ≡ t1 ++ text_of b → t2 ≡ t ++ text_of (a ++ b)
then t a b {t1} {t2} e f = f ∙ ap (λ x. x ++ text_of b) e ∙ append_assoc t (text_of a) (text_of b) ∙ ap (λ x. t ++ x) (sym (text_of_append a b))
