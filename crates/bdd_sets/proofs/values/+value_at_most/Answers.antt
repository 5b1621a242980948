use Rattle.std.proofs.Common.{◌+◌, ◌*◌, ◌-◌, ◌&&◌, ◌||◌, Bool, ℕ, cond, not, leb, sym, ◌∙◌, ap, arith}
use Rattle.std.proofs.lemmas.Bool.{le-leb}
use Rattle.bdd_table.specs.Diagram.{means}
use Rattle.bdd_table.proofs.Meaning.{means_true}
use Rattle.bdd_table.proofs.Adding.{ok_by}
use Rattle.bdd_sets.proofs.Splitting.{number_none, most_split}
use Rattle.bdd_sets.proofs.values.+value_at_most.Goals as goal

pub returns-then-width-eq0-clause-meaning : goal.returns-then-width-eq0-clause-meaning
returns-then-width-eq0-clause-meaning t c = λ b. means_true c.args.ops.now c.table.ensures.reduced b
    ∙ sym (ap (λ (x : ℕ). leb x c.args.most) (number_none b c.args.next c.args.place c.args.width c.if-width-eq0.true) ∙ le-leb 0 c.args.most (omega arith))

pub returns-clause-meaning : goal.returns-clause-meaning
returns-clause-meaning t c = ok_by c.bounded.result _ _ c.bounded.ensures.meaning (λ id m b.
    let bit = c.split-bit.result.0 in
    m b
    ∙ ap (λ (x : Bool). cond bit (x || means c.literal.new.self c.in_ok-rest.rest b)
    (x && means c.literal.new.self c.in_ok-rest.rest b)) (c.in_ok-off.ensures.meaning b)
    ∙ ap (λ (x : Bool). cond bit (not (b (2 * c.args.place + c.args.next)) || x)
    (not (b (2 * c.args.place + c.args.next)) && x)) (c.literal.ensures.kept.meaning c.in_ok-rest.rest b
    c.in_ok-rest.ensures.known ∙ c.in_ok-rest.ensures.meaning b)
    ∙ most_split b c.args.next c.args.place c.args.width (c.args.width - 1) c.args.most bit c.split-bit.result.1
    (omega (arith, c.if-width-eq0.false)) c.split-bit.ensures)
