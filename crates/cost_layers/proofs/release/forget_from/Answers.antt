use Rattle.std.proofs.Common.{◌≡◌, List, ltb, length, subst, arith}
use Rattle.space_api.specs.Owned.{Trades}
use Rattle.cost_layers.specs.Parts.{IsRingFrom}
use Rattle.cost_layers.proofs.PartsBack.{union_valid, parts_back, two_of}
use Rattle.cost_layers.proofs.release.forget_from.Goals as goal

pub give_back-requires : goal.give_back-requires
give_back-requires g c =
    let view = g.S.Space.view in
    let t = subst (λ (xs : List _). Trades (view c.args.space.now) (view c.forget_rings.new.space)
    (IsRingFrom c.args.start xs) (λ a. ⊥)) c.deref.ensures.value c.forget_rings.ensures in
    let e : c.len.result ≡ length c.args.layer.now.rings.items = grind (arith, c.len.ensures) in
    λ own. union_valid c.args.start c.args.layer.now.rings.items c.args.layer.now.whole t c.requires.apart
    c.requires.parts ((two_of c.len.result (length c.args.layer.now.rings.items) e).0 own)

pub returns : goal.returns
returns g c =
    let view = g.S.Space.view in
    let t = subst (λ (xs : List _). Trades (view c.args.space.now) (view c.forget_rings.new.space)
    (IsRingFrom c.args.start xs) (λ a. ⊥)) c.deref.ensures.value c.forget_rings.ensures in
    let e : c.len.result ≡ length c.args.layer.now.rings.items = grind (arith, c.len.ensures) in
    parts_back c.args.start c.args.layer.now.rings.items c.args.layer.now.whole t (ltb 1 c.len.result)
    (two_of c.len.result (length c.args.layer.now.rings.items) e) c.give_back.ensures
