-- Readings that are joined are exact if their parts are.
use Rattle.std.proofs.Common.{◌≡◌, ℕ, zero, suc, ◌≤◌, List, [], ◌∷◌, ◌++◌, length, Option, Ok, refl, sym, ap, subst, ◌∙◌, arith}
use Rattle.std.proofs.lemmas.List.{append-nil}
use Rattle.std.specs.List.{flat_map}
use Rattle.line_grammar.specs.Reading.{Reading, row_at, many_at, both_at, made_at, after_at, before_at, counted_at}
use Rattle.line_grammar.proofs.Exact as grammar

abbrev pub Always : {X : Type 0} → X → Type 0
Always _ = Unit {0}

module _ {R S : Type 0} (shape_of : R → S) (IsSpelled : R → List ℕ → Type 0) where
  abbrev Exact : {A : Type 0} → Reading S A → (A → List R) → (A → Type 0) → Type 0
  Exact = grammar.Exact shape_of IsSpelled

  pub exact_made : {A B : Type 0} (make : A → B) (parts : B → A) → ((a : A) → parts (make a) ≡ a)
      → ((b : B) → make (parts b) ≡ b) → (p : Reading S A) (rows : A → List R) (F : A → Type 0)
      → Exact p rows F → Exact (made_at make p) (λ b. rows (parts b)) (λ b. F (parts b))
  exact_made {A} {B} make parts there back p rows F ep =
      grammar.exact_bind shape_of IsSpelled p (λ a ls. Ok (make a, ls)) rows F (λ _ _. []) (λ a b. make a ≡ b) (λ b. rows (parts b)) (λ b. F (parts b))
      ep
      (λ a f. grammar.exact_done shape_of IsSpelled (make a) (λ _. []) (λ b. make a ≡ b) refl (λ b e. (e, refl)))
      (record {
        join = λ a b f e. (let same : a ≡ parts b = sym (there a) ∙ ap parts e in (subst F same f, sym (ap rows same) ∙ sym (append-nil (rows a))));
        split = λ b f. (parts b, f, back b, sym (append-nil (rows (parts b))));
      })

  -- the second of two, kept beside the first
  exact_beside : {A B : Type 0} (a : A) (q : Reading S B) (rows : B → List R) (F : B → Type 0) → Exact q rows F
      → Exact (made_at (λ b. (a, b)) q) (λ (x : A × B). rows x.1) (λ x. (a ≡ x.0) × F x.1)
  exact_beside {A} {B} a q rows F eq =
      grammar.exact_bind shape_of IsSpelled q (λ b ls. Ok ((a, b), ls)) rows F (λ _ _. []) (λ b x. (a, b) ≡ x) (λ x. rows x.1) (λ x. (a ≡ x.0) × F x.1)
      eq
      (λ b f. grammar.exact_done shape_of IsSpelled (a, b) (λ _. []) (λ x. (a, b) ≡ x) refl (λ x e. (e, refl)))
      (record {
        join = λ b x f e. (let two : b ≡ x.1 = ap (λ (z : A × B). z.1)
            e in ((ap (λ (z : A × B). z.0) e, subst F two f), sym (ap rows two) ∙ sym (append-nil (rows b))));
        split = λ x f. (x.1, f.1, ap (λ (z : A). (z, x.1)) f.0, sym (append-nil (rows x.1)));
      })

  pub exact_both : {A B : Type 0} (p : Reading S A) (q : A → Reading S B) (rows1 : A → List R) (F1 : A → Type 0) (rows2 : A → B → List R) (F2 : A → B → Type 0)
      → Exact p rows1 F1 → ((a : A) → F1 a → Exact (q a) (rows2 a) (F2 a)) → Exact (both_at p q) (λ x. rows1 x.0 ++ rows2 x.0 x.1) (λ x. F1 x.0 × F2 x.0 x.1)
  exact_both {A} {B} p q rows1 F1 rows2 F2 ep eq =
      grammar.exact_bind shape_of IsSpelled p (λ a. made_at (λ b. (a, b)) (q a)) rows1 F1 (λ a x. rows2 a x.1)
      (λ a x. (a ≡ x.0) × F2 a x.1) (λ x. rows1 x.0 ++ rows2 x.0 x.1) (λ x. F1 x.0 × F2 x.0 x.1)
      ep
      (λ a f. exact_beside a (q a) (rows2 a) (F2 a) (eq a f))
      (record {
        join = λ a x f g. ((subst F1 g.0 f, subst (λ (z : A). F2 z x.1) g.0 g.1), sym (ap (λ (z : A). rows1 z ++ rows2 z x.1) g.0));
        split = λ x f. (x.0, f.0, (refl, f.1), refl);
      })

  pub exact_after : {A : Type 0} (shape : S) (test : List ℕ → Option (Unit {0})) (row : R) (p : Reading S A) (rows : A → List R) (F : A → Type 0)
      → grammar.RowIs shape_of IsSpelled shape test (λ _. row) Always → Exact p rows F → Exact (after_at shape test p) (λ a. row ∷ rows a) F
  exact_after shape test row p rows F is ep =
      grammar.exact_row_then shape_of IsSpelled is (λ _. p) (λ _. tt) rows (λ _ a. F a) F
      (λ _ _. ep) (record { join = λ _ a _ f. (refl, f); split = λ a f. (tt, f) })

  pub exact_before : {A : Type 0} (p : Reading S A) (shape : S) (test : List ℕ → Option (Unit {0})) (row : R) (rows : A → List R) (F : A → Type 0)
      → grammar.RowIs shape_of IsSpelled shape test (λ _. row) Always → Exact p rows F → Exact (before_at p shape test) (λ a. rows a ++ row ∷ []) F
  exact_before {A} p shape test row rows F is ep =
      grammar.exact_bind shape_of IsSpelled p (λ a. grammar.then_at shape_of IsSpelled (row_at shape test)
      (λ _ ls. Ok (a, ls))) rows F (λ _ _. row ∷ []) (λ a b. a ≡ b) (λ a. rows a ++ row ∷ []) F
      ep
      (λ a f. grammar.exact_row_then shape_of IsSpelled is (λ _ ls. Ok (a, ls)) (λ _. tt) (λ _. [])
      (λ _ b. a ≡ b) (λ b. a ≡ b)
      (λ _ _. grammar.exact_done shape_of IsSpelled a (λ _. []) (λ b. a ≡ b) refl (λ b e. (e, refl)))
      (record { join = λ _ b _ e. (refl, e); split = λ b e. (tt, e) }))
      (record {
        join = λ a b f e. (subst F e f, sym (ap (λ (z : A). rows z ++ row ∷ []) e));
        split = λ a f. (a, f, refl, refl);
      })

  module _ {X T : Type 0} (item : T → Reading S X) (next : T → X → T) (rows : X → List R) (F : T → X → Type 0) (I : T → Type 0)
      (each : (state : T) → I state → Exact (item state) rows (F state)) (keeps : (state : T) (x : X) → I state → F state x → I (next state x)) where
    -- where none is asked for, the state need not be good
    exact_some : (n : ℕ) (state : T) → (1 ≤ n → I state) → Exact (many_at item next n state) (flat_map rows) (grammar.ManyFit shape_of IsSpelled F next n state)
    unfolding many_at
    exact_some zero state i = grammar.exact_done shape_of IsSpelled [] (flat_map rows)
        (grammar.ManyFit shape_of IsSpelled F next zero state) (refl, tt) (λ b f. none_at b f.0)
      where
        none_at : (b : List X) → length b ≡ 0 → ([] ≡ b) × (flat_map rows b ≡ [])
        none_at [] f = (refl, refl)
        none_at (x ∷ xs) f = absurd (omega arith)
    exact_some (suc n) state i = grammar.exact_many shape_of IsSpelled item next rows F I each keeps (suc n) state (i (omega arith))

    pub exact_counted : (shape : S) (test : List ℕ → Option ℕ) (row : ℕ → R) (N : ℕ → Type 0) (state : T)
        → grammar.RowIs shape_of IsSpelled shape test row N → ((n : ℕ) → N n → 1 ≤ n → I state)
        → Exact (counted_at shape test item next state) (λ xs. row (length xs) ∷ flat_map rows xs)
        (λ xs. N (length xs) × grammar.FitFrom shape_of IsSpelled F next state xs)
    exact_counted shape test row N state is good =
        grammar.exact_row_then shape_of IsSpelled is (λ n. many_at item next n state) (λ xs. length xs)
        (flat_map rows) (λ n xs. grammar.ManyFit shape_of IsSpelled F next n state xs)
        (λ xs. N (length xs) × grammar.FitFrom shape_of IsSpelled F next state xs)
        (λ n f. exact_some n state (good n f))
        (record { join = λ n xs f g. (g.0, (subst N (sym g.0) f, g.1)); split = λ xs f. (f.0, (refl, f.1)) })
