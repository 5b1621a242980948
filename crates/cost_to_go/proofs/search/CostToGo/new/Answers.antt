use Rattle.cost_to_go.proofs.Opening.{all_reached, all_two, wide_kept, all_made, all_gone, all_still}
use Rattle.cost_to_go.proofs.search.CostToGo.new.Goals as goal

pub begin-requires-clause-within : goal.begin-requires-clause-within
begin-requires-clause-within g c = c.all.ensures.makes.kept.valid c.args.within c.requires.within

pub begin-requires-clause-wide : goal.begin-requires-clause-wide
begin-requires-clause-wide g c =
    let view = g.S.Space.view in
    wide_kept (view c.args.space.now) (view c.all.new.self) c.in_ok-everywhere.everywhere c.args.within
    c.all.ensures.makes.kept c.in_ok-everywhere.ensures.makes.ok c.requires.within c.requires.wide

pub begin-requires-clause-all : goal.begin-requires-clause-all
begin-requires-clause-all g c =
    let view = g.S.Space.view in
    all_reached (view c.args.space.now) (view c.all.new.self) c.in_ok-everywhere.everywhere c.args.within
    c.all.ensures.makes.kept c.in_ok-everywhere.ensures.makes.ok c.in_ok-everywhere.ensures.reached

pub begin-requires-clause-two : goal.begin-requires-clause-two
begin-requires-clause-two g c =
    let view = g.S.Space.view in
    all_two (view c.args.space.now) (view c.all.new.self) c.in_ok-everywhere.everywhere c.args.within
    c.all.ensures.makes.kept c.in_ok-everywhere.ensures.makes.ok c.requires.within

pub returns-in-Ok-clause-trades : goal.returns-in-Ok-clause-trades
returns-in-Ok-clause-trades g c =
    let view = g.S.Space.view in
    all_made (view c.args.space.now) (view c.all.new.self) c.in_ok-everywhere.everywhere c.args.within
    c.all.ensures.makes.kept c.in_ok-everywhere.ensures.makes.ok c.in-Ok.ensures.trades

pub forget-requires : goal.forget-requires
forget-requires g c =
    let view = g.S.Space.view in
    all_still (view c.args.space.now) (view c.all.new.self) c.in_ok-everywhere.everywhere c.args.within
    c.all.ensures.makes.kept c.in_ok-everywhere.ensures.makes.ok (view c.begin.new.space) c.in-Err.ensures.err

pub returns-in-Err-clause-err : goal.returns-in-Err-clause-err
returns-in-Err-clause-err g c =
    let view = g.S.Space.view in
    all_gone (view c.args.space.now) (view c.all.new.self) c.in_ok-everywhere.everywhere c.args.within
    c.all.ensures.makes.kept c.in_ok-everywhere.ensures.makes.ok (view c.begin.new.space)
    (view c.forget.new.self) c.in-Err.ensures.err c.forget.ensures
