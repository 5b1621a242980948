use Rattle.std.proofs.Common.{◌∙◌, length, sym, true, false}
use Rattle.std.proofs.lemmas.List.{take_rest}
use Rattle.sas_reader.proofs.NumbersLeft.{number_first, no_number_first, nothing_first, is_empty_word, is_some_word}
use Rattle.sas_reader.proofs.numbers.first_number.Goals as goal

pub returns-then-is_empty : goal.returns-then-is_empty
returns-then-is_empty c = nothing_first c.args.line.now c.without_blanks-from_word.result.now
    c.first_word-word.result.now c.without_blanks-from_word.ensures c.first_word-word.ensures.word
    (let t = c.if-is_empty.true in is_empty_word c.first_word-word.result.now (sym c.is_empty.ensures ∙ t))

pub returns-in-Some : goal.returns-in-Some
returns-in-Some c = rw (take_rest c.without_blanks-from_word.result.now (length c.first_word-word.result.now))
    (number_first c.args.line.now c.without_blanks-from_word.result.now c.first_word-word.result.now
    c.in-Some.number c.without_blanks-from_word.ensures c.first_word-word.ensures.word
    (let t = c.if-is_empty.false in is_some_word c.first_word-word.result.now (sym c.is_empty.ensures ∙ t))
    (sym c.in-Some.ensures))

pub returns-in-None : goal.returns-in-None
returns-in-None c = no_number_first c.args.line.now c.without_blanks-from_word.result.now c.first_word-word.result.now
    c.without_blanks-from_word.ensures c.first_word-word.ensures.word
    (let t = c.if-is_empty.false in is_some_word c.first_word-word.result.now (sym c.is_empty.ensures ∙ t))
    (sym c.in-None.ensures)
