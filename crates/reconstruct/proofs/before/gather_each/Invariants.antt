use Rattle.std.proofs.Common.{◌++◌, take}
use Rattle.cost_layers.specs.Layers.{Held}
use Rattle.cost_layers.specs.declared.layers.Layers.{Layers}
use Rattle.reconstruct.specs.Entries.{MakesEntries}
use Rattle.reconstruct.specs.Ways.{IsWay}
use Rattle.reconstruct.specs.declared.entries.Entry.TheVariants.{Before}
use Rattle.reconstruct.proofs.Gathering.{SofarFrom}
use Rattle.reconstruct.proofs.before.gather_each.Given as goal

abbrev pub invariant-operators : goal.invariant-operators
invariant-operators g l =
    let view = g.S.Space.view in
    let u = view l.fn.space in
    let v = view l.space in
    record {
      way : IsWay l.front l.prefix.cost l.way;
      makes : MakesEntries u v (l.children.level.items ++ l.children.falling.items);
      sofar : (back : Layers _) → Held u back → SofarFrom u v l.front back (Before l.prefix)
          (take l.op-index l.ops) l.children.level.items l.children.falling.items;
    }
