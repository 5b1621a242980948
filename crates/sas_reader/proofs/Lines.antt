-- Single lines are read exactly.
use Rattle.std.proofs.Common.{◌≡◌, ℕ, ◌≤◌, ◌<◌, Bool, true, eqb, nat_le, ◌^◌, List, [], ◌∷◌, Option, Some, None, refl, ap, subst, ◌∙◌, arith}
use Rattle.std.proofs.lemmas.Option.{cond_some}
use Rattle.std.proofs.lemmas.Bool.Decides.{nat_tests}
use Rattle.std.proofs.lemmas.Slice.Eq.{bytes_eq-Decides}
use Rattle.std.specs.Option.{option_map, option_and_then}
use Rattle.std.specs.Str.{bytes_eq}
use Rattle.std.specs.List.{AllByRecursion}
use Rattle.symk_text.specs.Lines.{IsLine}
use Rattle.sas_reader.specs.declared.fault.Shape.{Shape}
use Rattle.sas_reader.specs.declared.fault.Shape.TheVariants as shape
use Rattle.line_grammar.proofs.Exact as grammar
use Rattle.line_grammar.proofs.Joining.{Always}
use Rattle.sas_reader.specs.Numbers.{numbers_of, only_number}
use Rattle.sas_reader.specs.Rows.{Row, word, name, numbers, one_number, shape_of, IsSpelled}
use Rattle.sas_reader.specs.Reading.{exactly, a_name, if_passes, number_that, three}
use Rattle.sas_reader.proofs.Spelling.{line_for, IsSmall, numbers_spelled}
use Rattle.sas_reader.proofs.NameLines.{line_is_name, name_is_line}

abbrev pub RowIs : {X : Type 0} → Shape → (List ℕ → Option X) → (X → Row) → (X → Type 0) → Type 0
RowIs = grammar.RowIs shape_of IsSpelled

pub word_is : (shape : Shape) (bytes : List ℕ) → RowIs shape (exactly bytes) (λ _. word shape bytes) Always
word_is shape bytes = record {
  shaped = λ x. refl;
  reads = λ l x e. (tt, (bytes_eq-Decides l bytes).0 (cond_some (bytes_eq l bytes) tt x e).0);
  again = λ l x f h. (let t : bytes_eq l bytes ≡ true = (bytes_eq-Decides l bytes).1 h in rw t refl);
  sample = (bytes, tt, (let t : bytes_eq bytes bytes ≡ true = (bytes_eq-Decides bytes bytes).1 refl in rw t refl));
}

empty_line : IsLine []
empty_line k = absurd (omega (arith, k.1))

pub name_is : RowIs shape.Name a_name name IsLine
name_is = record {
  shaped = λ x. refl;
  reads = λ l x e. name_is_line l x e;
  again = λ l x f h. ap a_name h ∙ line_is_name x f;
  sample = ([], [], line_is_name [] empty_line);
}

abbrev pub Small : List (Option ℕ) → Type 0
Small = AllByRecursion IsSmall

-- a line of numbers, of which a test gives a value, and which the value's numbers are
pub numbers_are : {X : Type 0} (shape : Shape) (test : List (Option ℕ) → Option X) (ns : X → List (Option ℕ)) (F : X → Type 0)
    → ((l : List (Option ℕ)) (x : X) → test l ≡ Some x → F x × (l ≡ ns x)) → ((x : X) → F x → test (ns x) ≡ Some x) → (x : X) → F x → Small (ns x)
    → RowIs shape (λ line. option_and_then test (numbers_of line)) (λ x. numbers shape (ns x)) F
numbers_are {X} shape test ns F taken again x f small = record {
  shaped = λ y. refl;
  reads = λ k y h. found (numbers_of k) y h;
  again = λ k y g h. ap (option_and_then test) h ∙ again y g;
  sample = (line_for (ns x), x, ap (option_and_then test) (numbers_spelled (ns x) small) ∙ again x f);
}
  where
    found : (o : Option (List (Option ℕ))) (y : X) → option_and_then test o ≡ Some y → F y × (o ≡ Some (ns y))
    found None y h = cc
    found (Some k) y h = (let t = taken k y h in (t.0, ap (λ (z : List (Option ℕ)). Some z) t.1))

-- the same, where the test looks at some of the numbers first
pub picked_are : {X Y : Type 0} (shape : Shape) (pick : List (Option ℕ) → Option Y) (test : Y → Option X) (ns : X → List (Option ℕ)) (F : X → Type 0)
    → ((l : List (Option ℕ)) (x : X) → option_and_then test (pick l) ≡ Some x → F x × (l ≡ ns x))
    → ((x : X) → F x → option_and_then test (pick (ns x)) ≡ Some x) → (x : X) → F x → Small (ns x)
    → RowIs shape (λ line. option_and_then test (option_and_then pick (numbers_of line))) (λ x. numbers shape (ns x)) F
picked_are {X} {Y} shape pick test ns F taken again x f small = record {
  shaped = λ y. refl;
  reads = λ k y h. found (numbers_of k) y h;
  again = λ k y g h. ap (λ (o : Option (List (Option ℕ))). option_and_then test (option_and_then pick o)) h ∙ again y g;
  sample = (
    line_for (ns x),
    x,
    ap (λ (o : Option (List (Option ℕ))). option_and_then test (option_and_then pick o))
        (numbers_spelled (ns x) small) ∙ again x f,
  );
}
  where
    found : (o : Option (List (Option ℕ))) (y : X) → option_and_then test (option_and_then pick o) ≡ Some y → F y × (o ≡ Some (ns y))
    found None y h = cc
    found (Some k) y h = (let t = taken k y h in (t.0, ap (λ (z : List (Option ℕ)). Some z) t.1))

-- a line of one one_number that passes
number_taken : (p : ℕ → Bool) (l : List (Option ℕ)) (x : ℕ) → option_and_then (λ n. if_passes p n) (only_number l) ≡ Some x → (p x ≡ true) × (l ≡ Some x ∷ [])
number_taken p [] x e = cc
number_taken p (None ∷ []) x e = cc
number_taken p (Some n ∷ []) x e = (let k = cond_some (p n) n x e in (subst (λ (z : ℕ). p z ≡ true) k.1 k.0, ap (λ (z : ℕ). Some z ∷ []) k.1))
number_taken p (n ∷ m ∷ ns) x e = cc

pub number_is : (shape : Shape) (p : ℕ → Bool) (N : ℕ → Type 0) → ((n : ℕ) → p n ≡ true → N n)
    → ((n : ℕ) → N n → p n ≡ true) → (n : ℕ) → N n → n < 2 ^ 64 → RowIs shape (number_that p) (one_number shape) N
number_is shape p N to from n good small =
    picked_are shape only_number (λ n. if_passes p n) (λ x. Some x ∷ []) N
    (λ l x e. (let t = number_taken p l x e in (to x t.0, t.1))) (λ x f. (let t = from x f in rw t refl)) n good (small, tt)

pub count_is : (shape : Shape) (most : ℕ) → RowIs shape (number_that (λ n. nat_le n most)) (one_number shape) (λ n. n ≤ most)
count_is shape most = number_is shape (λ n. nat_le n most) (λ n. n ≤ most) (λ n e. grind (arith, nat_tests))
    (λ n le. grind (arith, nat_tests)) 0 (omega arith) (omega arith)

three_passes : (o : Option ℕ) (x : Unit {0}) → option_map (λ _. tt) o ≡ Some x → (n : ℕ) × (o ≡ Some n)
three_passes None x e = cc
three_passes (Some n) x e = (n, refl)

pub three_is : RowIs shape.Three three (λ _. one_number shape.Three 3) Always
three_is =
    let is = number_is shape.Three (λ n. eqb n 3) (λ n. n ≡ 3) (λ n e. grind (arith, nat_tests)) (λ n e. grind (arith, nat_tests)) 3 refl (omega arith) in
    record {
      shaped = λ x. refl;
      reads = λ l x e. (let t = three_passes (number_that (λ n. eqb n 3) l) x e in
          let r = is.reads l t.0 t.1 in (tt, subst (λ (z : ℕ). numbers_of l ≡ Some (Some z ∷ [])) r.0 r.1));
      again = λ l x f h. ap (option_map (λ _. tt)) (is.again l 3 refl h);
      sample = (is.sample.0, tt, ap (option_map (λ _. tt)) is.sample.2);
    }
