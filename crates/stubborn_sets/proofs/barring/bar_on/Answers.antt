use Rattle.stubborn_sets.proofs.GrowingLaw.{adds_trans}
use Rattle.stubborn_sets.proofs.Marks.{further}
use Rattle.stubborn_sets.proofs.Stopping.{barring_on}
use Rattle.stubborn_sets.proofs.barring.bar_on.Goals as goal

pub barring-preserved : goal.barring-preserved
barring-preserved c =
    let bars = c.barring.barred in
    let next = c.bar_rules.new.barred in
    record {
      grows = further c.args.barred.now.marks.items bars.marks.items next.marks.items c.barring.invariant.grows c.in_ok-bar_rules.ensures.spreads.grows;
      adds = adds_trans c.args.set.now c.barring.set c.bar_rules.new.set c.barring.invariant.adds c.in_ok-bar_rules.ensures.adds;
      barring = barring_on c.bar_rules.new.set c.pop.new.self c.in-Some.var
          c.barring.invariant.barring c.in-Some.ensures.items
          c.in_ok-bar_rules.ensures.spreads c.in_ok-bar_rules.ensures.adds.grows (c.in_ok-bar_rules.ensures.bars c.if-not-branch.false);
    }
