use Rattle.std.proofs.Common.{◌∙◌, sym}
use Rattle.sas_reader.specs.Numbers.{numbers_of}
use Rattle.sas_reader.proofs.NumbersLeft.{only_is, not_only, none_at_blank, some_at_ink}
use Rattle.sas_reader.proofs.numbers.only_number.Goals as goal

pub returns-then-is_blank : goal.returns-then-is_blank
returns-then-is_blank c = only_is (numbers_of c.args.line.now) (numbers_of c.in_ok-number.rest.now)
    c.in_ok-number.number c.in_ok-number.ensures (let t = c.if-is_blank.true in none_at_blank
    c.in_ok-number.rest.now (sym c.is_blank.ensures ∙ t))

pub returns-else-is_blank : goal.returns-else-is_blank
returns-else-is_blank c = not_only (numbers_of c.args.line.now) (numbers_of c.in_ok-number.rest.now)
    c.in_ok-number.number c.in_ok-number.ensures (let t = c.if-is_blank.false in some_at_ink c.in_ok-number.rest.now
    (sym c.is_blank.ensures ∙ t))
