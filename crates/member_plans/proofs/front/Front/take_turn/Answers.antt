use Rattle.std.proofs.Common.{refl}
use Rattle.prefix_plans.specs.Left.{known_to_go}
use Rattle.member_plans.proofs.Walking.{rearranged_follows, follows_then, empty_ends, halts_after, if_turned}
use Rattle.member_plans.proofs.front.Front.take_turn.Goals as goal

pub returns-in-None-clause-follows : goal.returns-in-None-clause-follows
returns-in-None-clause-follows g c =
    let v = g.S.Space.view c.args.space.now in
    let f = c.args.search.now in
    let x = c.args.self.now in
    let m = rearranged_follows v f c.args.most x c.turn_to_first.new.self c.turn_to_first.ensures.rearranged c.requires.steady in
    m

pub returns-in-None-clause-ok : goal.returns-in-None-clause-ok
returns-in-None-clause-ok g c =
    let v = g.S.Space.view c.args.space.now in
    let f = c.args.search.now in
    let x = c.args.self.now in
    let m = rearranged_follows v f c.args.most x c.turn_to_first.new.self c.turn_to_first.ensures.rearranged c.requires.steady in
    empty_ends v f c.args.most c.turn_to_first.new.self m.steady c.in-None.ensures.none

pub end-requires-clause-steady : goal.end-requires-clause-steady
end-requires-clause-steady g c =
    let v = g.S.Space.view c.args.space.now in
    let f = c.args.search.now in
    let x = c.args.self.now in
    let m = rearranged_follows v f c.args.most x c.turn_to_first.new.self c.turn_to_first.ensures.rearranged c.requires.steady in
    m.steady

pub act-requires-clause-steady : goal.act-requires-clause-steady
act-requires-clause-steady g c =
    let v = g.S.Space.view c.args.space.now in
    let f = c.args.search.now in
    let x = c.args.self.now in
    let m = rearranged_follows v f c.args.most x c.turn_to_first.new.self c.turn_to_first.ensures.rearranged c.requires.steady in
    m.steady

pub returns-in_err-halt-in-Some-clause-follows : goal.returns-in_err-halt-in-Some-clause-follows
returns-in_err-halt-in-Some-clause-follows g c =
    let v = g.S.Space.view c.args.space.now in
    let f = c.args.search.now in
    let x = c.args.self.now in
    let m = rearranged_follows v f c.args.most x c.turn_to_first.new.self c.turn_to_first.ensures.rearranged c.requires.steady in
    follows_then c.end.ensures.system m c.end.ensures.follows

pub returns-then-entry-top_of-clause-follows : goal.returns-then-entry-top_of-clause-follows
returns-then-entry-top_of-clause-follows g c =
    let v = g.S.Space.view c.args.space.now in
    let f = c.args.search.now in
    let x = c.args.self.now in
    let m = rearranged_follows v f c.args.most x c.turn_to_first.new.self c.turn_to_first.ensures.rearranged c.requires.steady in
    follows_then c.end.ensures.system m c.end.ensures.follows

pub returns-then-entry-top_of-clause-ok : goal.returns-then-entry-top_of-clause-ok
returns-then-entry-top_of-clause-ok g c =
    let v = g.S.Space.view c.args.space.now in
    let f = c.args.search.now in
    let x = c.args.self.now in
    let m = rearranged_follows v f c.args.most x c.turn_to_first.new.self c.turn_to_first.ensures.rearranged c.requires.steady in
    halts_after v.system (known_to_go f) c.args.most x c.turn_to_first.new.self c.end.new.self m.more c.in_ok-halt-in-Some.halt c.in_ok-halt-in-Some.ensures.ok

pub returns-else-entry-top_of-clause-follows : goal.returns-else-entry-top_of-clause-follows
returns-else-entry-top_of-clause-follows g c =
    let v = g.S.Space.view c.args.space.now in
    let f = c.args.search.now in
    let x = c.args.self.now in
    let m = rearranged_follows v f c.args.most x c.turn_to_first.new.self c.turn_to_first.ensures.rearranged c.requires.steady in
    follows_then refl m c.act.ensures.follows

pub returns-else-entry-top_of-clause-ok : goal.returns-else-entry-top_of-clause-ok
returns-else-entry-top_of-clause-ok g c =
    let v = g.S.Space.view c.args.space.now in
    let f = c.args.search.now in
    let x = c.args.self.now in
    let m = rearranged_follows v f c.args.most x c.turn_to_first.new.self c.turn_to_first.ensures.rearranged c.requires.steady in
    let same = c.turn_to_first.ensures.rearranged.entries in
    if_turned v.system (known_to_go f) c.args.most x c.turn_to_first.new.self c.act.new.self same m.more c.act.result c.act.ensures.ok
