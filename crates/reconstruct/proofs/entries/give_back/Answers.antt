use Rattle.std.proofs.Common.{refl}
use Rattle.space_api.proofs.Keeping.{stays_refl}
use Rattle.space_api.proofs.Trading.{trades_forgot, trades_stays}
use Rattle.reconstruct.proofs.entries.give_back.Goals as goal

pub forget-requires : goal.forget-requires
forget-requires g c = (rw c.in-Before.is at c.requires) c.in-Before.prefix.set refl

pub returns-in-Before : goal.returns-in-Before
returns-in-Before g c = rw c.in-Before.is (trades_forgot c.in-Before.prefix.set c.forget.ensures)

pub returns-in-After : goal.returns-in-After
returns-in-After g c =
    let v = g.S.Space.view c.args.space.now in
    rw c.in-After.is (trades_stays v v (λ a. ⊥) (stays_refl v) (λ a h. absurd h))

pub forget-requires-in-Partial : goal.forget-requires-in-Partial
forget-requires-in-Partial g c = (rw c.in-Partial.is at c.requires) c.in-Partial.partial.prefix.set refl

pub returns-in-Partial : goal.returns-in-Partial
returns-in-Partial g c = rw c.in-Partial.is (trades_forgot c.in-Partial.partial.prefix.set c.forget-in-Partial.ensures)
