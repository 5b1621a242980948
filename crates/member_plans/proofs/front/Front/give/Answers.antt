use Rattle.std.proofs.Common.{◌∙◌, ap, sym, subst, List}
use Rattle.selectors.specs.Members.{GaveMember}
use Rattle.prefix_tree.specs.Tree.{path_at}
use Rattle.prefix_tree.specs.declared.tree.Node.{Node}
use Rattle.member_laws.specs.Nodes.{PendsNode}
use Rattle.member_plans.specs.Front.{opened}
use Rattle.member_plans.proofs.Opening.{regiven_steady}
use Rattle.member_plans.proofs.Turning.{give_gives}
use Rattle.member_plans.proofs.front.Front.give.Goals as goal

pub open-requires-clause-steady : goal.open-requires-clause-steady
open-requires-clause-steady g c = regiven_steady (g.S.Space.view c.args.space.now) c.args.search.now c.args.most
    c.args.self.now c.note.new.self c.requires.steady

pub returns-in_err-note-clause-steady : goal.returns-in_err-note-clause-steady
returns-in_err-note-clause-steady g c = regiven_steady (g.S.Space.view c.args.space.now) c.args.search.now c.args.most
    c.args.self.now c.note.new.self c.requires.steady

pub returns-clause-ok : goal.returns-clause-ok
returns-clause-ok g c =
    let v = g.S.Space.view c.args.space.now in
    let x = c.args.self.now in
    let z = c.open.new.self in
    let plan = c.of.ensures ∙ c.in_ok-operators.ensures ∙ ap (λ (l : List Node). path_at l c.args.entry.node) c.deref.ensures.value in
    subst (GaveMember v.system c.args.most (PendsNode v.system (opened x)) (PendsNode v.system (opened z))) (sym plan)
    (give_gives v c.args.search.now c.args.most x z c.args.entry c.requires.steady c.requires.due c.in_ok-open.ensures.ok)
