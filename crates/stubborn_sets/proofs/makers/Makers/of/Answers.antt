use Rattle.std.proofs.Common.{List, ℕ, Vec, Global, sym, subst, ap, ◌∙◌}
use Rattle.std.proofs.lemmas.Bool.{false≢true}
use Rattle.stubborn_sets.specs.Kept.{AreMakers, givers_of, list_at, list_in, number_of}
use Rattle.stubborn_sets.proofs.KeptLaw.{makers_given, makers_changers}
use Rattle.stubborn_sets.proofs.makers.Makers.of.Goals as goal

pub returns-then-is_base : goal.returns-then-is_base
returns-then-is_base c =
    let task = c.args.parts.now in
    let makers = c.args.self.now in
    subst (AreMakers task c.args.fact)
    (sym (c.at.ensures ∙ ap (list_at makers.given) (c.number_of.ensures ∙ ap
    (λ (z : List ℕ). number_of z c.args.fact) c.deref.ensures.value)))
    (makers_given task (givers_of makers.firsts.items makers.given) c.args.fact c.requires.known.given (c.is_base.ensures.0 c.if-is_base.true))

pub returns-else-is_base : goal.returns-else-is_base
returns-else-is_base c =
    let task = c.args.parts.now in
    let makers = c.args.self.now in
    subst (AreMakers task c.args.fact)
    (sym (c.list_of.ensures ∙ ap (λ (z : List (Vec ℕ Global)). list_in z c.args.fact.var)
    c.deref-else-is_base.ensures.value))
    (makers_changers task (list_in makers.changers.items c.args.fact.var) c.args.fact
    (c.requires.known.changers c.args.fact.var c.requires.within)
    (λ base. false≢true (sym c.if-is_base.false ∙ c.is_base.ensures.1 base)))
