use Rattle.std.proofs.Common.{arith, refl}
use Rattle.reconstruct.proofs.Remembering.{place_has}
use Rattle.reconstruct.proofs.expansions.Expansions.expansion_of.Goals as goal

pub returns-then-is_of : goal.returns-then-is_of
returns-then-is_of c =
    let is = c.is_of.ensures c.if-is_of.true in (
      c.in-Some.expansion,
      place_has c.args.self.now.places.items c.place_of.result c.index.result.now
          c.in-Some.expansion (omega (arith, c.place_of.ensures, c.len-count.ensures)) c.index.ensures c.in-Some.is,
      is.0,
      is.1,
      refl,
      refl,
    )
