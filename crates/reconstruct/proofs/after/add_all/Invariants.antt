use Rattle.std.proofs.Common.{◌++◌, take}
use Rattle.space_api.specs.View.{View}
use Rattle.cost_layers.specs.declared.layers.Layers.{Layers}
use Rattle.reconstruct.specs.Entries.{EntryOk}
use Rattle.reconstruct.specs.Grown.{MakesMoves}
use Rattle.reconstruct.specs.Moves.{ops_of, AreMoves}
use Rattle.reconstruct.specs.declared.entries.Entry.TheVariants.{After}
use Rattle.reconstruct.proofs.Gathering.{SofarFrom}
use Rattle.reconstruct.proofs.after.add_all.Given as goal

abbrev pub invariant-moves : goal.invariant-moves
invariant-moves g l =
    let e = l.suffix in
    record {
      makes : MakesMoves e l.moves (l.children.level.items ++ l.children.falling.items);
      sofar : (v : View _) (front back : Layers _) → EntryOk v (After e) → AreMoves v back e.cost e.state l.moves
          → SofarFrom v v front back (After e) (take l.step-index (ops_of l.moves)) l.children.level.items l.children.falling.items;
    }
