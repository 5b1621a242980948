use Rattle.std.proofs.Common.{refl, Some}
use Rattle.std.proofs.Math.ListN.{set}
use Rattle.reconstruct.proofs.Remembering.{puts_place}
use Rattle.reconstruct.proofs.expansions.Expansions.put.Goals as goal

pub returns : goal.returns
returns c = puts_place c.args.self.now (set c.args.self.now.places.items c.place_of-place.result
    (Some c.args.expansion)) c.place_of-place.result c.args.expansion refl
