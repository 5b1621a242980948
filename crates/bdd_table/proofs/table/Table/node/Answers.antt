use Rattle.std.proofs.Common.{rules}
use Rattle.bdd_table.specs.Diagram.{node_of}
use Rattle.bdd_table.proofs.Adding.{IsAbove, reduced_after, kept_after, meaning_after}
use Rattle.bdd_table.proofs.table.Table.node.Goals as goal

pub invariant_of-self : goal.invariant_of-self
invariant_of-self c =
    let above : IsAbove c.self.inside.nodes.keys (node_of c.args.level c.args.lo c.args.hi) = record {
      lo = rw c.self.view_is c.requires.lo_known;
      hi = rw c.self.view_is c.requires.hi_known;
      differ = search rules;
      lo_below = rw c.self.view_is c.requires.lo_below;
      hi_below = rw c.self.view_is c.requires.hi_below;
    } in
    reduced_after c.self.inside.nodes.keys _ _ _ c.self.invariant above c.add.ensures.ok c.add.ensures.err

pub returns-clause-reduced : goal.returns-clause-reduced
returns-clause-reduced c = invariant_of-self c

pub returns-clause-meaning : goal.returns-clause-meaning
returns-clause-meaning c = meaning_after c.self.inside.nodes.keys _ _ _ _ _ (invariant_of-self c) c.add.ensures.ok

pub returns-clause-kept : goal.returns-clause-kept
returns-clause-kept c = rw (← c.self.view_is) (kept_after c.self.inside.nodes.keys _ _ _ c.self.invariant c.add.ensures.ok c.add.ensures.err)
