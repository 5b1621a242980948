use Rattle.std.proofs.Common.{◌∙◌, sym}
use Rattle.sas_reader.specs.Numbers.{numbers_of}
use Rattle.sas_reader.proofs.NumbersLeft.{none_at_blank, some_at_ink}
use Rattle.sas_reader.proofs.EffectLines.{ending_is, not_ending}
use Rattle.sas_reader.proofs.effects.ending_numbers.Goals as goal

pub returns-then-is_blank : goal.returns-then-is_blank
returns-then-is_blank c = ending_is (numbers_of c.args.line.now) (numbers_of c.in_ok-var.rest.now)
    (numbers_of c.in_ok-pre.rest.now) (numbers_of c.in_ok-post.rest.now) c.in_ok-var.var c.in_ok-pre.pre
    c.in_ok-post.post c.in_ok-var.ensures c.in_ok-pre.ensures c.in_ok-post.ensures
    (let t = c.if-is_blank.true in none_at_blank c.in_ok-post.rest.now (sym c.is_blank.ensures ∙ t))

pub returns-else-is_blank : goal.returns-else-is_blank
returns-else-is_blank c = not_ending (numbers_of c.args.line.now) (numbers_of c.in_ok-var.rest.now)
    (numbers_of c.in_ok-pre.rest.now) (numbers_of c.in_ok-post.rest.now) c.in_ok-var.var c.in_ok-pre.pre
    c.in_ok-post.post c.in_ok-var.ensures c.in_ok-pre.ensures c.in_ok-post.ensures
    (let t = c.if-is_blank.false in some_at_ink c.in_ok-post.rest.now (sym c.is_blank.ensures ∙ t))
