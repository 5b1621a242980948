use Rattle.std.proofs.Common.{◌+◌, ◌*◌, ◌-◌, ◌&&◌, Bool, ℕ, cond, not, eqb, sym, ◌∙◌, ap, arith}
use Rattle.std.proofs.lemmas.Bool.{eq-eqb, ne_eqb}
use Rattle.bdd_table.specs.Diagram.{means}
use Rattle.bdd_table.proofs.Meaning.{means_true, means_false}
use Rattle.bdd_table.proofs.Adding.{ok_by}
use Rattle.bdd_sets.proofs.Splitting.{number_none, value_split}
use Rattle.bdd_sets.proofs.values.+value_is.Goals as goal

pub returns-then-value-eq0-clause-meaning : goal.returns-then-value-eq0-clause-meaning
returns-then-value-eq0-clause-meaning t c = λ b. means_true c.args.ops.now c.table.ensures.reduced b
    ∙ sym (ap (λ (x : ℕ). eqb x c.args.value) (number_none b c.args.next c.args.place c.args.width
    c.if-width-eq0.true) ∙ eq-eqb 0 c.args.value (sym c.if-value-eq0.true))

pub returns-else-value-eq0-clause-meaning : goal.returns-else-value-eq0-clause-meaning
returns-else-value-eq0-clause-meaning t c = λ b. means_false c.args.ops.now c.table.ensures.reduced b
    ∙ sym (ap (λ (x : ℕ). eqb x c.args.value) (number_none b c.args.next c.args.place c.args.width
    c.if-width-eq0.true) ∙ ne_eqb 0 c.args.value (λ e. c.if-value-eq0.false (sym e)))

pub returns-clause-meaning : goal.returns-clause-meaning
returns-clause-meaning t c = ok_by c.conj.result _ _ c.conj.ensures.meaning (λ id m b.
    let level = 2 * c.args.place + c.args.next in
    m b
    ∙ ap (λ (x : Bool). x && means c.literal.new.self c.in_ok-rest.rest b) (c.in_ok-first.ensures.meaning b)
    ∙ ap (λ (x : Bool). cond c.split-bit.result.0 (b level) (not (b level)) && x)
    (c.literal.ensures.kept.meaning c.in_ok-rest.rest b c.in_ok-rest.ensures.known
    ∙ c.in_ok-rest.ensures.meaning b)
    ∙ value_split b c.args.next c.args.place c.args.width (c.args.width - 1) c.args.value c.split-bit.result.0
    c.split-bit.result.1 (omega (arith, c.if-width-eq0.false)) c.split-bit.ensures)
