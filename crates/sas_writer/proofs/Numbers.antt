-- Lines of numbers spell those numbers.
use Rattle.std.proofs.Common.{◌≡◌, ℕ, ◌-◌, ◌^◌, ◌<◌, true, false, nat_lt, List, [], ◌∷◌, ◌++◌, length, filter, Option, Some, None, sym, ap, subst, ◌∙◌, append_assoc, arith, codes, decimal}
use Rattle.std.proofs.lemmas.List.Splits.{slice_split_none}
use Rattle.std.proofs.lemmas.List.Elements.{All-from_recursion}
use Rattle.std.proofs.lemmas.Bool.Decides.{nat_tests}
use Rattle.std.specs.Option.{option_and_then}
use Rattle.std.specs.List.{flat_map, AllByRecursion}
use Rattle.std.specs.Char.{is_ascii_digit}
use Rattle.symk_task.specs.declared.parts.Fact.{Fact}
use Rattle.symk_task.specs.declared.parts.Effect.{Effect}
use Rattle.symk_task.specs.declared.parts.Rule.{Rule}
use Rattle.sas_reader.specs.Numbers.{is_blank_byte, words_of, numbers_of_words, numbers_of, with_first}
use Rattle.sas_reader.specs.Format.{fact_numbers, effect_numbers, head_numbers}
use Rattle.sas_reader.proofs.Spelling.{IsSmall}
use Rattle.sas_writer.specs.Spelling.{or_minus_one, fact_line, condition, effect_line}
use Rattle.sas_writer.specs.TaskLines.{head_line}
use Rattle.sas_writer.proofs.Pieces.{Plain, AllByRecursion-append}
use Rattle.sas_reader.proofs.Spelling.{Word, decimal_spells, number_word, minus_word, keep_word, word_then}

-- a word that stands alone, the number that it is, and no CR and no LF in it
pub record IsWord (n : Option ℕ) (word : List ℕ) : Type 0 where
  pub reads : Word n word
  pub plain : Plain word

digit_plain : (d : ℕ) → is_ascii_digit d ≡ true → 13 < d
digit_plain d e = grind (arith, nat_tests)

digits_plain : (digits : List ℕ) → AllByRecursion (λ d. is_ascii_digit d ≡ true) digits → Plain digits
digits_plain [] h = tt
digits_plain (d ∷ digits) h = (digit_plain d h.0, digits_plain digits h.1)

decimal_is_word : (n : ℕ) → n < 2 ^ 64 → IsWord (Some n) (decimal n)
decimal_is_word n lt = record { reads = number_word n lt; plain = digits_plain (decimal n) (decimal_spells n lt).each }

minus_is_word : IsWord None (codes "-1")
minus_is_word = record { reads = minus_word; plain = (omega arith, (omega arith, tt)) }

pub or_minus_one_is_word : (n : Option ℕ) → IsSmall n → IsWord n (or_minus_one n)
unfolding or_minus_one
or_minus_one_is_word None h = minus_is_word
or_minus_one_is_word (Some n) h = decimal_is_word n h

-- the line spells these numbers, and has no CR and no LF
pub record IsLineOf (ns : List (Option ℕ)) (line : List ℕ) : Type 0 where
  pub numbers : numbers_of line ≡ Some ns
  pub plain : Plain line

pub word_alone : (n : Option ℕ) (word : List ℕ) → IsWord n word → IsLineOf (n ∷ []) word
unfolding numbers_of numbers_of_words words_of
word_alone n word w = record {
  numbers =
      ap (λ (words : List (List ℕ)). numbers_of_words (filter (λ (w : List ℕ). nat_lt 0 (length w)) words))
      (slice_split_none is_blank_byte word (All-from_recursion (λ b. is_blank_byte b ≡ false) word
      w.reads.inked))
      ∙ ap numbers_of_words (keep_word word [] w.reads.some)
      ∙ ap (λ (o : Option (Option ℕ)). option_and_then (λ (m : Option ℕ). with_first m (Some [])) o) w.reads.is;
  plain = w.plain;
}

word_first : (n : Option ℕ) (word : List ℕ) (ns : List (Option ℕ)) (rest : List ℕ) → IsWord n word → IsLineOf ns rest → IsLineOf (n ∷ ns) (word ++ 32 ∷ rest)
word_first n word ns rest w r = record {
  numbers = word_then n word rest w.reads ∙ ap (with_first n) r.numbers;
  plain = AllByRecursion-append (λ byte. 13 < byte) word (32 ∷ rest) w.plain (omega arith, r.plain);
}

pub number_line : (n : ℕ) → n < 2 ^ 64 → IsLineOf (Some n ∷ []) (decimal n)
number_line n lt = word_alone (Some n) (decimal n) (decimal_is_word n lt)

-- both numbers of a fact can be read back
pub record IsSmallFact (fact : Fact) : Type 0 where
  pub var : fact.var < 2 ^ 64
  pub val : fact.val < 2 ^ 64

pub fact_is_line : (fact : Fact) → IsSmallFact fact → IsLineOf (fact_numbers fact) (fact_line fact)
fact_is_line fact h = word_first (Some fact.var) (decimal fact.var) (Some fact.val ∷ []) (decimal fact.val)
    (decimal_is_word fact.var h.var) (number_line fact.val h.val)

regroup : (var val conds rest : List ℕ) → (((var ++ 32 ∷ val) ++ 32 ∷ []) ++ conds) ++ rest ≡ var ++ 32 ∷ (val ++ 32 ∷ (conds ++ rest))
regroup var val conds rest = simp append_assoc

conditions_first : (facts : List Fact) (ns : List (Option ℕ)) (rest : List ℕ) → AllByRecursion IsSmallFact facts
    → IsLineOf ns rest → IsLineOf (flat_map fact_numbers facts ++ ns) (flat_map condition facts ++ rest)
conditions_first [] ns rest h r = r
conditions_first (f ∷ facts) ns rest h r =
    subst (IsLineOf (Some f.var ∷ Some f.val ∷ (flat_map fact_numbers facts ++ ns)))
    (sym (regroup (decimal f.var) (decimal f.val) (flat_map condition facts) rest))
    (word_first (Some f.var) (decimal f.var) (Some f.val ∷ (flat_map fact_numbers facts ++ ns))
    (decimal f.val ++ 32 ∷ (flat_map condition facts ++ rest)) (decimal_is_word f.var h.0.var)
    (word_first (Some f.val) (decimal f.val) (flat_map fact_numbers facts ++ ns) (flat_map condition facts ++ rest)
    (decimal_is_word f.val h.0.val) (conditions_first facts ns rest h.1 r)))

-- all numbers of an effect can be read back
pub record IsSmallEffect (e : Effect) : Type 0 where
  pub few : length e.conds < 2 ^ 64
  pub conds : AllByRecursion IsSmallFact e.conds
  pub var : e.var < 2 ^ 64
  pub pre : IsSmall e.pre
  pub post : e.post < 2 ^ 64

regroup_effect : (count conds var pre post : List ℕ) → (((count ++ 32 ∷ conds) ++ var) ++ 32 ∷ pre) ++ 32 ∷ post
    ≡ count ++ 32 ∷ (conds ++ (var ++ 32 ∷ (pre ++ 32 ∷ post)))
regroup_effect count conds var pre post = simp append_assoc

pub effect_is_line : (e : Effect) → IsSmallEffect e → IsLineOf (effect_numbers e) (effect_line e)
unfolding effect_line
effect_is_line e h =
    let count = decimal (length e.conds) in
    let conds = flat_map condition e.conds in
    let ending = decimal e.var ++ 32 ∷ (or_minus_one e.pre ++ 32 ∷ decimal e.post) in
    subst (IsLineOf (effect_numbers e)) (sym (regroup_effect count conds (decimal e.var) (or_minus_one e.pre) (decimal e.post)))
    (word_first (Some (length e.conds)) count (flat_map fact_numbers e.conds ++ Some e.var ∷ e.pre ∷ Some e.post ∷ [])
    (conds ++ ending) (decimal_is_word (length e.conds) h.few)
    (conditions_first e.conds (Some e.var ∷ e.pre ∷ Some e.post ∷ []) ending h.conds
    (word_first (Some e.var) (decimal e.var) (e.pre ∷ Some e.post ∷ []) (or_minus_one e.pre ++ 32 ∷ decimal e.post) (decimal_is_word e.var h.var)
    (word_first e.pre (or_minus_one e.pre) (Some e.post ∷ []) (decimal e.post) (or_minus_one_is_word e.pre h.pre) (number_line e.post h.post)))))

pub head_is_line : (rule : Rule) → rule.var < 2 ^ 64 → rule.new < 2 ^ 64 → IsLineOf (head_numbers rule) (head_line rule)
unfolding head_line
head_is_line rule var new =
    subst (IsLineOf (head_numbers rule)) (sym (append_assoc (decimal rule.var) (32 ∷ decimal (1 - rule.new)) (32 ∷ decimal rule.new)))
    (word_first (Some rule.var) (decimal rule.var) (Some (1 - rule.new) ∷ Some rule.new ∷ [])
    (decimal (1 - rule.new) ++ 32 ∷ decimal rule.new) (decimal_is_word rule.var var)
    (word_first (Some (1 - rule.new)) (decimal (1 - rule.new)) (Some rule.new ∷ []) (decimal rule.new)
    (decimal_is_word (1 - rule.new) (omega arith)) (number_line rule.new new)))
