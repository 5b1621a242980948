use Rattle.std.proofs.Common.{◌∙◌, sym}
use Rattle.sas_reader.specs.Numbers.{numbers_of}
use Rattle.sas_reader.proofs.NumbersLeft.{three_are, not_three, none_at_blank, some_at_ink}
use Rattle.sas_reader.proofs.numbers.three_numbers.Goals as goal

pub returns-then-is_blank : goal.returns-then-is_blank
returns-then-is_blank c = three_are (numbers_of c.args.line.now) (numbers_of c.in_ok-one.rest.now)
    (numbers_of c.in_ok-two.rest.now) (numbers_of c.in_ok-three.rest.now) c.in_ok-one.one c.in_ok-two.two
    c.in_ok-three.three c.in_ok-one.ensures c.in_ok-two.ensures c.in_ok-three.ensures
    (let t = c.if-is_blank.true in none_at_blank c.in_ok-three.rest.now (sym c.is_blank.ensures ∙ t))

pub returns-else-is_blank : goal.returns-else-is_blank
returns-else-is_blank c = not_three (numbers_of c.args.line.now) (numbers_of c.in_ok-one.rest.now)
    (numbers_of c.in_ok-two.rest.now) (numbers_of c.in_ok-three.rest.now) c.in_ok-one.one c.in_ok-two.two
    c.in_ok-three.three c.in_ok-one.ensures c.in_ok-two.ensures c.in_ok-three.ensures
    (let t = c.if-is_blank.false in some_at_ink c.in_ok-three.rest.now (sym c.is_blank.ensures ∙ t))
