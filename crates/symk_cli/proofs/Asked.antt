-- What the words ask for, from what is read of them.
use Rattle.std.proofs.Common.{◌≡◌, ◌∙◌, ap, sym, refl, subst, ℕ, ◌+◌, ◌^◌, ◌<◌, ◌≤◌, Bool, true, false, cond, ◌&&◌, ◌==◌, nat_le, nat_lt, List, [], ◌∷◌, length, Option, Some, None, arith, option_and_then, option_map}
use Rattle.std.specs.List.{list_all, take_while}
use Rattle.std.specs.Char.{is_ascii_digit}
use Rattle.std.proofs.lemmas.List.Sums.{take_while-cons}
use Rattle.std.proofs.lemmas.Bool.Decides.{nat_tests}
use Rattle.symk_text.specs.Numbers.{value_of, number_at}
use Rattle.symk_io.specs.View.{Bytes}
use Rattle.symk_task.specs.declared.parts.Mode.{Mode}
use Rattle.symk_words.specs.Texts.{Texts, PlanTexts, texts_asked, plan, check, demo, prove, refute}
use Rattle.plan_run.specs.declared.options.Direction.{Direction}
use Rattle.plan_run.specs.declared.options.Reach.{Reach}
use Rattle.symk_cli.specs.Wishes.{Wish, checks, shows, proves, refutes, number_within, mode_of, direction_of, reach_of, serves, lists_after, lists_if_served, ask_of, spelled, wish_of}

and_step : (b : Bool) (x : ℕ) (xs rest : List ℕ) (all : Bool) → (b && all) ≡ true → (all ≡ true → rest ≡ xs) → cond b (x ∷ rest) [] ≡ x ∷ xs
and_step true x xs rest all h r = ap (λ z. x ∷ z) (r h)
and_step false x xs rest all h r = absurd (cc)

-- where each passes, the run is all
run_all : (p : ℕ → Bool) (xs : List ℕ) → list_all p xs ≡ true → take_while p xs ≡ xs
run_all p [] h = refl
run_all p (x ∷ xs) h = take_while-cons p x xs ∙ and_step (p x) x xs (take_while p xs) (list_all p xs) h (run_all p xs)

less_step : (b : Bool) (x : ℕ) (xs rest : List ℕ) (all : Bool) → (b && all) ≡ false → (all ≡ false → length rest < length xs) → length (cond b (x ∷ rest) []) < length (x ∷ xs)
less_step true x xs rest all h r = let shorter : length rest < length xs = r h in omega (arith, shorter)
less_step false x xs rest all h r = omega arith

-- where one doesn't, it is shorter
run_less : (p : ℕ → Bool) (xs : List ℕ) → list_all p xs ≡ false → length (take_while p xs) < length xs
run_less p [] h = absurd (cc)
run_less p (x ∷ xs) h =
    subst (λ (r : List ℕ). length r < length (x ∷ xs)) (sym (take_while-cons p x xs)) (less_step (p x) x xs (take_while p xs) (list_all p xs) h (run_less p xs))

-- the number that was read, if it is the whole word and within the bounds
abbrev pub whole_number : ℕ → ℕ → ℕ → Option (ℕ × ℕ) → Option ℕ
whole_number least most end None = None
whole_number least most end (Some read) = cond (read.1 == end && nat_le least read.0 && nat_le read.0 most) (Some read.0) None

same_if : (b : Bool) (o : Option ℕ) → o ≡ cond b o o
same_if true o = refl
same_if false o = refl

digits_number : (some few small least most whole : Bool) (v : ℕ) → whole ≡ true → (most ≡ true → small ≡ true) → cond (true && some && few && least && most) (Some v) None ≡ cond (some && few && small) (cond (whole && least && most) (Some v) None) None
digits_number false few small least most whole v w s = refl
digits_number true false small least most whole v w s = refl
digits_number true true small false most true v w s = same_if small None
digits_number true true true true most true v w s = refl
digits_number true true false true false true v w s = refl
digits_number true true false true true true v w s = let bad : false ≡ true = s refl in absurd (cc)
digits_number true true small least most false v w s = absurd (cc)

other_number : (read whole least most : Bool) (v : ℕ) → whole ≡ false → None ≡ cond read (cond (whole && least && most) (Some v) None) None
other_number false whole least most v w = refl
other_number true true least most v w = absurd (cc)
other_number true false least most v w = refl

whole_if : (b : Bool) (least most end : ℕ) (read : ℕ × ℕ) → whole_number least most end (cond b (Some read) None) ≡ cond b (cond (read.1 == end && nat_le least read.0 && nat_le read.0 most) (Some read.0) None) None
whole_if true least most end read = refl
whole_if false least most end read = refl

same_length : (n : ℕ) → (0 + n == n) ≡ true
same_length n = grind (arith, nat_tests)

other_length : (m n : ℕ) → m < n → (0 + m == n) ≡ false
other_length m n h = grind (arith, nat_tests)

within : (v most : ℕ) → most < 2 ^ 64 → nat_le v most ≡ true → nat_lt v (2 ^ 64) ≡ true
within v most h e = grind (arith, nat_tests)

by_digits : (least most : ℕ) (word : Bytes) (all : Bool) → list_all is_ascii_digit word ≡ all → most < 2 ^ 64 → cond (all && nat_le 1 (length word) && nat_le (length word) 20 && nat_le least (value_of word) && nat_le (value_of word) most) (Some (value_of word)) None ≡ whole_number least most (length word) (number_at word 0)
by_digits least most word true all small =
    let v = value_of word in
    let n = length word in
    rw (run_all is_ascii_digit word all)
    (digits_number (nat_le 1 n) (nat_le n 20) (nat_lt v (2 ^ 64)) (nat_le least v) (nat_le v most) (0 + n == n) v (same_length n) (within v most small)
    ∙ sym (whole_if (nat_le 1 n && nat_le n 20 && nat_lt v (2 ^ 64)) least most n (v, 0 + n)))
by_digits least most word false all small =
    let run = take_while is_ascii_digit word in
    let v = value_of run in
    let n = length run in
    other_number (nat_le 1 n && nat_le n 20 && nat_lt v (2 ^ 64)) (0 + n == length word) (nat_le least v) (nat_le v most) v (other_length n (length word) (run_less is_ascii_digit word all))
    ∙ sym (whole_if (nat_le 1 n && nat_le n 20 && nat_lt v (2 ^ 64)) least most (length word) (v, 0 + n))

-- the number within the bounds is the one that was read
pub number_read : (least most : ℕ) (word : Bytes) → most < 2 ^ 64 → number_within least most word ≡ whole_number least most (length word) (number_at word 0)
unfolding number_within
number_read least most word small = by_digits least most word (list_all is_ascii_digit word) refl small

-- what the texts of a `plan` spell, part after part
abbrev pub reach_part : PlanTexts → ℕ → Mode → Direction → Option Reach → Option Wish
reach_part t count m d o = option_and_then (λ r. lists_if_served t.after (ask_of t count m d r)) o

abbrev pub direction_part : PlanTexts → ℕ → Mode → Option Direction → Option Wish
direction_part t count m o = option_and_then (λ d. reach_part t count m d (reach_of t.bound t.quality)) o

abbrev pub mode_part : PlanTexts → ℕ → Option Mode → Option Wish
mode_part t count o = option_and_then (λ m. direction_part t count m (direction_of t.search)) o

abbrev number_part : PlanTexts → Option ℕ → Option Wish
number_part t o = option_and_then (λ count. mode_part t count (mode_of t.mode)) o

plan_parts : (t : PlanTexts) (o : Option ℕ) → number_within 1 1000000000 t.k ≡ o → spelled (plan t) ≡ number_part t o
unfolding spelled
plan_parts t o e = ap (number_part t) e

pub plan_no_number : (t : PlanTexts) → number_within 1 1000000000 t.k ≡ None → spelled (plan t) ≡ None
plan_no_number t e = plan_parts t None e

pub plan_no_mode : (t : PlanTexts) (count : ℕ) → number_within 1 1000000000 t.k ≡ Some count → mode_of t.mode ≡ None → spelled (plan t) ≡ None
plan_no_mode t count e m = plan_parts t (Some count) e ∙ ap (mode_part t count) m

plan_direction : (t : PlanTexts) (count : ℕ) (m : Mode) (o : Option Direction) → number_within 1 1000000000 t.k ≡ Some count → mode_of t.mode ≡ Some m → direction_of t.search ≡ o → spelled (plan t) ≡ direction_part t count m o
plan_direction t count m o e is d = plan_parts t (Some count) e ∙ ap (mode_part t count) is ∙ ap (direction_part t count m) d

pub plan_no_direction : (t : PlanTexts) (count : ℕ) (m : Mode) → number_within 1 1000000000 t.k ≡ Some count → mode_of t.mode ≡ Some m → direction_of t.search ≡ None → spelled (plan t) ≡ None
plan_no_direction t count m e is d = plan_direction t count m None e is d

plan_reach : (t : PlanTexts) (count : ℕ) (m : Mode) (d : Direction) (o : Option Reach) → number_within 1 1000000000 t.k ≡ Some count → mode_of t.mode ≡ Some m → direction_of t.search ≡ Some d → reach_of t.bound t.quality ≡ o
    → spelled (plan t) ≡ reach_part t count m d o
plan_reach t count m d o e is dir r = plan_direction t count m (Some d) e is dir ∙ ap (reach_part t count m d) r

pub plan_no_reach : (t : PlanTexts) (count : ℕ) (m : Mode) (d : Direction) → number_within 1 1000000000 t.k ≡ Some count → mode_of t.mode ≡ Some m → direction_of t.search ≡ Some d → reach_of t.bound t.quality ≡ None
    → spelled (plan t) ≡ None
plan_no_reach t count m d e is dir r = plan_reach t count m d None e is dir r

pub plan_spelled : (t : PlanTexts) (count : ℕ) (m : Mode) (d : Direction) (r : Reach) (served : Bool) → number_within 1 1000000000 t.k ≡ Some count → mode_of t.mode ≡ Some m → direction_of t.search ≡ Some d → reach_of t.bound t.quality ≡ Some r → serves m d ≡ served
    → spelled (plan t) ≡ cond served (lists_after t.after (ask_of t count m d r)) None
plan_spelled t count m d r served e is dir re s =
    plan_reach t count m d (Some r) e is dir re ∙ ap (λ b. cond b (lists_after t.after (ask_of t count m d r)) None) s

-- those of a `check`, and of a `demo`
pub check_spelled : (file plans : Bytes) (mode : Option Bytes) (o : Option Mode) → mode_of mode ≡ o → spelled (check file plans mode) ≡ option_map (λ m. checks file plans m) o
unfolding spelled
check_spelled file plans mode o e = ap (λ x. option_map (λ m. checks file plans m) x) e

pub demo_spelled : (n : Bytes) (o : Option ℕ) → number_within 1 64 n ≡ o → spelled (demo n) ≡ option_map (λ number. shows number) o
unfolding spelled
demo_spelled n o e = ap (λ x. option_map (λ number. shows number) x) e

-- those of a `prove`, and of a `refute`
pub prove_spelled : (file : Bytes) → spelled (prove file) ≡ Some (proves file)
unfolding spelled
prove_spelled file = refl

pub refute_spelled : (file cert : Bytes) → spelled (refute file cert) ≡ Some (refutes file cert)
unfolding spelled
refute_spelled file cert = refl

is_equal : (m n : ℕ) → m ≡ n → (m == n) ≡ true
is_equal m n e = grind (arith, nat_tests)

equal_is : (m n : ℕ) → (m == n) ≡ true → m ≡ n
equal_is m n e = grind (arith, nat_tests)

is_le : (m n : ℕ) → m ≤ n → nat_le m n ≡ true
is_le m n h = grind (arith, nat_tests)

le_is : (m n : ℕ) → nat_le m n ≡ true → m ≤ n
le_is m n e = grind (arith, nat_tests)

all_true : (a b c : Bool) (v : ℕ) → a ≡ true → b ≡ true → c ≡ true → cond (a && b && c) (Some v) None ≡ Some v
all_true true true true v p q r = refl
all_true true true false v p q r = absurd (cc)
all_true true false c v p q r = absurd (cc)
all_true false b c v p q r = absurd (cc)

not_all : (a b c : Bool) (v : ℕ) → (a ≡ true → b ≡ true → c ≡ true → ⊥) → cond (a && b && c) (Some v) None ≡ None
not_all true true true v never = absurd (never refl refl refl)
not_all true true false v never = refl
not_all true false c v never = refl
not_all false b c v never = refl

-- no number was read
pub read_none : (least most : ℕ) (word : Bytes) → most < 2 ^ 64 → number_at word 0 ≡ None → number_within least most word ≡ None
read_none least most word small e = number_read least most word small ∙ ap (whole_number least most (length word)) e

-- one was read, and is so
pub read_some : (least most : ℕ) (word : Bytes) (value end : ℕ) → most < 2 ^ 64 → number_at word 0 ≡ Some (value, end) → end ≡ length word → least ≤ value → value ≤ most → number_within least most word ≡ Some value
read_some least most word value end small e whole low high =
    number_read least most word small ∙ ap (whole_number least most (length word)) e
    ∙ all_true (end == length word) (nat_le least value) (nat_le value most) value (is_equal end (length word) whole) (is_le least value low) (is_le value most high)

-- one was read, and is not so
pub read_other : (least most : ℕ) (word : Bytes) (value end : ℕ) → most < 2 ^ 64 → number_at word 0 ≡ Some (value, end) → (end ≡ length word → least ≤ value → value ≤ most → ⊥) → number_within least most word ≡ None
read_other least most word value end small e never =
    number_read least most word small ∙ ap (whole_number least most (length word)) e
    ∙ not_all (end == length word) (nat_le least value) (nat_le value most) value (λ a b c. never (equal_is end (length word) a) (le_is least value b) (le_is value most c))

-- what the words ask for, from the texts that they give
pub asks : (words : List Bytes) (texts : Texts) (o : Option Wish) → texts_asked words ≡ Some texts → o ≡ spelled texts → wish_of words ≡ o
unfolding wish_of
asks words texts o e is = ap (λ x. option_and_then spelled x) e ∙ sym is

pub asks_none : (words : List Bytes) → texts_asked words ≡ None → wish_of words ≡ None
unfolding wish_of
asks_none words e = ap (λ x. option_and_then spelled x) e
