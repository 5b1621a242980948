-- Lawful words ask for something.
use Rattle.std.proofs.Common.{◌≡◌, ◌∙◌, ap, sym, refl, subst, ℕ, Bool, true, false, cond, ◌&&◌, ◌==◌, nat_le, List, [], ◌∷◌, length, Option, Some, None, IsSome, option_and_then, option_map, arith}
use Rattle.std.specs.List.{list_all}
use Rattle.std.specs.Char.{is_ascii_digit}
use Rattle.std.proofs.lemmas.Bool.Decides.{nat_tests}
use Rattle.symk_text.specs.Numbers.{value_of}
use Rattle.symk_io.specs.View.{Bytes}
use Rattle.symk_task.specs.declared.parts.Mode.{Mode}
use Rattle.symk_words.specs.Texts.{Texts, texts_asked, plan, check, demo, prove, refute}
use Rattle.symk_words.specs.Lawful.{Plain, PlainIfSome}
use Rattle.symk_words.proofs.LawfulWords.{plan_law, check_law, demo_law, prove_law, refute_law}
use Rattle.plan_run.specs.declared.options.Direction.{Direction}
use Rattle.symk_cli.specs.Wishes.{number_within, mode_named, mode_of, direction_named, direction_of, reach_of, lists_if_served, ask_of, spelled, wish_of}
use Rattle.plan_run.specs.declared.options.Reach.{Reach}
use Rattle.plan_run.specs.declared.options.Reach.TheVariants.{UpTo, Percent}
use Rattle.symk_cli.proofs.Asked.{mode_part, direction_part, reach_part}
use Rattle.symk_cli.specs.LawfulWords.{AreWordsOf, AreLawful}

no_some : (A : Type 0) → IsSome {T = A} None → ⊥
no_some A h = absurd (cc)

-- a digit is no `-`
digit_plain : (c : ℕ) (more : Bool) → (is_ascii_digit c && more) ≡ true → (c == 45) ≡ false
digit_plain c more h = grind (arith, nat_tests)

and_first : (a b : Bool) → (a && b) ≡ true → a ≡ true
and_first true b h = refl
and_first false b h = absurd (cc)

some_test : (b : Bool) (v : ℕ) → IsSome (cond b (Some v) None) → b ≡ true
some_test true v h = refl
some_test false v h = absurd (no_some ℕ h)

-- a number's word is plain
pub plain_number : (least most : ℕ) (word : Bytes) → IsSome (number_within least most word) → Plain word
unfolding number_within
plain_number least most [] h = absurd (no_some ℕ h)
plain_number least most (c ∷ cs) h =
    let word = c ∷ cs in
    let all = some_test (list_all is_ascii_digit word && nat_le 1 (length word) && nat_le (length word) 20 && nat_le least (value_of word) && nat_le (value_of word) most) (value_of word) h in
    let digits = and_first (list_all is_ascii_digit word) (nat_le 1 (length word)) (and_first _ _ (and_first _ _ (and_first _ _ all))) in
    digit_plain c (list_all is_ascii_digit cs) digits

dash_mode : (c : ℕ) (cs : Bytes) → c ≡ 45 → IsSome (mode_named (c ∷ cs)) → ⊥
unfolding mode_named
dash_mode c cs e h = no_some Mode (subst (λ (x : ℕ). IsSome (mode_named (x ∷ cs))) e h)

dash_direction : (c : ℕ) (cs : Bytes) → c ≡ 45 → IsSome (direction_named (c ∷ cs)) → ⊥
unfolding direction_named
dash_direction c cs e h = no_some Direction (subst (λ (x : ℕ). IsSome (direction_named (x ∷ cs))) e h)

is_dash : (c : ℕ) → (c == 45) ≡ true → c ≡ 45
is_dash c h = grind (arith, nat_tests)

not_dash : (c : ℕ) (b : Bool) → (c == 45) ≡ b → (c ≡ 45 → ⊥) → b ≡ false
not_dash c true e never = absurd (never (is_dash c e))
not_dash c false e never = refl

-- so are the words of modes and directions
pub plain_mode : (word : Option Bytes) → IsSome (mode_of word) → PlainIfSome word
unfolding mode_named
plain_mode None h = tt
plain_mode (Some []) h = absurd (no_some Mode h)
plain_mode (Some (c ∷ cs)) h = not_dash c (c == 45) refl (λ e. dash_mode c cs e h)

pub plain_direction : (word : Option Bytes) → IsSome (direction_of word) → PlainIfSome word
unfolding direction_named
plain_direction None h = tt
plain_direction (Some []) h = absurd (no_some Direction h)
plain_direction (Some (c ∷ cs)) h = not_dash c (c == 45) refl (λ e. dash_direction c cs e h)

-- what is there of the parts of something that is there
then_first : {A B : Type 0} (o : Option A) (f : A → Option B) → IsSome (option_and_then f o) → IsSome o
then_first {B = B} None f h = absurd (no_some B h)
then_first (Some a) f h = refl

then_second : {A B C : Type 0} (o : Option A) (q : Option B) (f : A → B → Option C) → IsSome (option_and_then (λ a. option_and_then (f a) q) o) → IsSome q
then_second {C = C} None q f h = absurd (no_some C h)
then_second (Some a) q f h = then_first q (f a) h

then_third : {A B C D : Type 0} (o : Option A) (q : Option B) (r : Option C) (f : A → B → C → Option D) → IsSome (option_and_then (λ a. option_and_then (λ b. option_and_then (f a b) r) q) o) → IsSome r
then_third {D = D} None q r f h = absurd (no_some D h)
then_third (Some a) q r f h = then_second q r (f a) h

then_fourth : {A B C D E : Type 0} (o : Option A) (q : Option B) (r : Option C) (u : Option D) (f : A → B → C → D → Option E)
    → IsSome (option_and_then (λ a. option_and_then (λ b. option_and_then (λ c. option_and_then (f a b c) u) r) q) o) → IsSome u
then_fourth {E = E} None q r u f h = absurd (no_some E h)
then_fourth (Some a) q r u f h = then_third q r u (f a) h

map_first : {A B : Type 0} (f : A → B) (o : Option A) → IsSome (option_map f o) → IsSome o
map_first {B = B} f None h = absurd (no_some B h)
map_first f (Some a) h = refl

-- so are the words of the greatest cost
pub plain_bound : (bound quality : Option Bytes) → IsSome (reach_of bound quality) → PlainIfSome bound
plain_bound None quality h = tt
plain_bound (Some bound) None h = plain_number 0 18446744073709551615 bound (map_first (λ most. UpTo most) (number_within 0 18446744073709551615 bound) h)
plain_bound (Some bound) (Some quality) h = absurd (no_some Reach h)

pub plain_quality : (bound quality : Option Bytes) → IsSome (reach_of bound quality) → PlainIfSome quality
plain_quality bound None h = tt
plain_quality None (Some quality) h = plain_number 100 10000 quality (map_first (λ percent. Percent percent) (number_within 100 10000 quality) h)
plain_quality (Some bound) (Some quality) h = absurd (no_some Reach h)

asked : (words : List Bytes) (texts : Texts) → texts_asked words ≡ Some texts → IsSome (spelled texts) → IsSome (wish_of words)
unfolding wish_of
asked words texts e h = subst (λ (o : Option Texts). IsSome (option_and_then spelled o)) (sym e) h

by_texts : (texts : Texts) (words : List Bytes) → AreWordsOf texts words → IsSome (spelled texts) → texts_asked words ≡ Some texts
unfolding spelled
by_texts (plan t) words form h =
    let number = then_first (number_within 1 1000000000 t.k) (λ count. mode_part t count (mode_of t.mode)) h in
    let m = then_second (number_within 1 1000000000 t.k) (mode_of t.mode) (λ count m. direction_part t count m (direction_of t.search)) h in
    let d = then_third (number_within 1 1000000000 t.k) (mode_of t.mode) (direction_of t.search) (λ count m d. reach_part t count m d (reach_of t.bound t.quality)) h in
    let r = then_fourth (number_within 1 1000000000 t.k) (mode_of t.mode) (direction_of t.search) (reach_of t.bound t.quality) (λ count m d r. lists_if_served t.after (ask_of t count m d r)) h in
    ap texts_asked form.1 ∙ plan_law form.0 t (record {
      file = form.2;
      k = plain_number 1 1000000000 t.k number;
      mode = plain_mode t.mode m;
      search = plain_direction t.search d;
      bound = plain_bound t.bound t.quality r;
      quality = plain_quality t.bound t.quality r;
      after = form.3;
    })
by_texts (check file plans mode) words form h =
    ap texts_asked form.1 ∙ check_law form.0 file plans mode form.2 form.3 (plain_mode mode (map_first _ (mode_of mode) h))
by_texts (demo n) words form h =
    ap texts_asked form.1 ∙ demo_law form.0 n (plain_number 1 64 n (map_first _ (number_within 1 64 n) h))
by_texts (prove file) words form h = ap texts_asked form.1 ∙ prove_law form.0 file form.2
by_texts (refute file cert) words form h = ap texts_asked form.1 ∙ refute_law form.0 file cert form.2 form.3

-- lawful words ask for something
pub lawful_asks : (words : List Bytes) → AreLawful words → IsSome (wish_of words)
lawful_asks words lawful = asked words lawful.texts (by_texts lawful.texts words lawful.form lawful.request) lawful.request
