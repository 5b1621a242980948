use Rattle.bidirectional.proofs.Advancing.{goes_refl, goes_stays, goes_trans}
use Rattle.search_tests.proofs.both.refusals.stays_refused.Goals as goal

pub returns-then-cut : goal.returns-then-cut
returns-then-cut g c =
    let view = g.S.Space.view in
    let once = c.is_refused-once.new in
    let again = c.is_refused-again.new in
    let end = view c.ends_by_a_fault-cut.new.space in
    let twice = goes_trans (view c.args.space.now) (view once.space) (view again.space) c.args.both.now once.both again.both c.is_refused-once.ensures c.is_refused-again.ensures in
    goes_trans (view c.args.space.now) (view again.space) end c.args.both.now again.both again.both twice (goes_stays (view again.space) end again.both twice.both c.ends_by_a_fault-cut.ensures)

pub returns-else-cut : goal.returns-else-cut
returns-else-cut g c =
    let view = g.S.Space.view in
    let once = c.is_refused-once.new in
    let again = c.is_refused-again.new in
    let end = view c.ends_by_a_fault-cut.new.space in
    let twice = goes_trans (view c.args.space.now) (view once.space) (view again.space) c.args.both.now once.both again.both c.is_refused-once.ensures c.is_refused-again.ensures in
    goes_trans (view c.args.space.now) (view again.space) end c.args.both.now again.both again.both twice (goes_stays (view again.space) end again.both twice.both c.ends_by_a_fault-cut.ensures)

pub returns-in_default : goal.returns-in_default
returns-in_default g c = goes_refl (g.S.Space.view c.args.space.now) c.args.both.now c.requires
