use Rattle.std.proofs.Common.{◌≡◌, Bool, true, false, arith, below_more}
use Rattle.space_api.proofs.Keeping.{stays_trans}
use Rattle.cost_layers.specs.Rings.{MeetsRing}
use Rattle.cost_layers.proofs.Rows.{meeting, valid_read, none_meets}
use Rattle.cost_layers.proofs.meeting.first_meeting.Goals as goal

clash : (b : Bool) → b ≡ false → b ≡ true → ⊥
clash b e f = cc

pub meets-requires-clause-a : goal.meets-requires-clause-a
meets-requires-clause-a g c =
    c.loop-i.invariant.stays.kept.valid _ (valid_read (g.S.Space.view c.args.space.now) c.args.rings.now c.loop-i.i
    c.index-rings-i.result c.loop-i-test.true c.index-rings-i.is c.requires.each)

pub returns-then-branch-clause-ok : goal.returns-then-branch-clause-ok
returns-then-branch-clause-ok g c =
    let view = g.S.Space.view in
    let i = c.loop-i.invariant in
    let both = c.in_ok-meets.ensures.ok.0 c.if-branch.true in (
      (meeting (view c.args.space.now) (view c.loop-i.space) c.args.rings.now c.loop-i.i c.index-rings-i.result
          c.args.set i.stays c.requires.each c.requires.set c.loop-i-test.true c.index-rings-i.is).0 both,
      i.none,
    )

pub loop-i-preserved : goal.loop-i-preserved
loop-i-preserved g c =
    let view = g.S.Space.view in
    let i = c.loop-i.invariant in
    record {
      stays = stays_trans i.stays c.meets.ensures.stays;
      none = below_more (λ j. MeetsRing (view c.args.space.now) c.args.rings.now c.args.set j → ⊥) _ i.none
          (λ h. clash c.in_ok-meets.field-0 c.if-branch.false
          (c.in_ok-meets.ensures.ok.1
          ((meeting (view c.args.space.now) (view c.loop-i.space) c.args.rings.now c.loop-i.i c.index-rings-i.result
          c.args.set i.stays c.requires.each c.requires.set c.loop-i-test.true c.index-rings-i.is).1 h)));
    }

pub returns-clause-ok : goal.returns-clause-ok
returns-clause-ok g c = none_meets (g.S.Space.view c.args.space.now) c.args.rings.now c.args.set
    (λ j b. c.loop-i.invariant.none j (omega (arith, b, c.loop-i-test.false)))
