use Rattle.std.proofs.Common.{refl}
use Rattle.reconstruct.specs.declared.expansions.Expansions.{Expansions}
use Rattle.reconstruct.proofs.Remembering.{moved_from}
use Rattle.reconstruct.proofs.expansions.Expansions.make_places.Goals as goal

pub returns-in-Ok : goal.returns-in-Ok
returns-in-Ok c =
    let y : Expansions = record { places = c.replace-before.new.dest; kept = 0; alloc = c.args.self.now.alloc } in
    moved_from c.args.self.now y c.put_back.new.self c.replace-before.result.items
    (rw c.replace-before.ensures.value refl) (rw c.replace-before.ensures.after c.in-Ok.ensures)
    c.put_back.ensures
