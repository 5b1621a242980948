use Rattle.certificates.proofs.Ranges.{index_none, index_more, index_all}
use Rattle.certificates.proofs.levels.indexes_of.Goals as goal

pub loop-place-init : goal.loop-place-init
loop-place-init c = index_none c.args.places.now c.new-indexes.result.items c.new-indexes.ensures.items

pub loop-place-preserved : goal.loop-place-preserved
loop-place-preserved c = index_more c.args.places.now c.loop-place.place c.loop-place.indexes.items
    c.push.new.self.items c.index_of.result c.loop-place.invariant c.index_of.ensures c.in_ok-push.ensures.items

pub returns : goal.returns
returns c = index_all c.args.places.now c.loop-place.place c.args.count c.loop-place.indexes.items
    c.loop-place.auto.place-end c.loop-place-test.false c.loop-place.invariant
