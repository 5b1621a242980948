use Rattle.std.proofs.Common.{Option, refl, sym, subst}
use Rattle.space_api.specs.Owned.{Trades}
use Rattle.space_api.proofs.Trading.{trades_forgot, trades_stays}
use Rattle.space_api.proofs.Keeping.{stays_refl}
use Rattle.goal_ranks.specs.Giving.{InSlot}
use Rattle.goal_ranks.proofs.release.forget_slot.Goals as goal

pub forget-requires : goal.forget-requires
forget-requires g c = c.requires c.in-Some.waiting.set (subst (λ (o : Option _). InSlot o c.in-Some.waiting.set) (sym c.in-Some.is) refl)

pub returns-in-Some : goal.returns-in-Some
returns-in-Some g c =
    let view = g.S.Space.view in
    subst (λ (o : Option _). Trades (view c.args.space.now) (view c.forget.new.self) (InSlot o) (λ a. ⊥))
    (sym c.in-Some.is) (trades_forgot c.in-Some.waiting.set c.forget.ensures)

pub returns-in-None : goal.returns-in-None
returns-in-None g c =
    let v = g.S.Space.view c.args.space.now in
    subst (λ (o : Option _). Trades v v (InSlot o) (λ a. ⊥)) (sym c.in-None.is) (trades_stays v v (λ a. ⊥) (stays_refl v) (λ a h. absurd h))
