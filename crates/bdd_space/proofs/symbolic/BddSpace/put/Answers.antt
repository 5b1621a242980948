use Rattle.std.proofs.Common.{rules}
use Rattle.bdd_space.proofs.Calls.{put_space, put_kept, put_gives, put_none}
use Rattle.bdd_space.proofs.symbolic.BddSpace.put.Goals as goal

pub invariant_of-self : goal.invariant_of-self
invariant_of-self c = put_space _ _ _ c.self.invariant c.self.view_is c.args.id c.put.new.self.slots.items
    c.put.result c.put.ensures.ok c.put.ensures.err c.requires

pub returns : goal.returns
returns c = record {
  kept = put_kept _ _ _ c.self.invariant c.self.view_is c.args.id c.put.new.self.slots.items c.put.result c.put.ensures.ok c.put.ensures.err;
  ok = put_gives _ _ _ c.self.invariant c.self.view_is c.args.id c.put.new.self.slots.items c.put.result c.put.ensures.ok c.put.ensures.err;
  err = put_none _ _ _ c.self.invariant c.self.view_is c.args.id c.put.new.self.slots.items c.put.result c.put.ensures.ok c.put.ensures.err;
  last = search rules;
  task = search rules;
}
