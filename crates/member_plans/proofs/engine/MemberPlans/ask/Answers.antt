use Rattle.std.proofs.Common.{◌∙◌, refl}
use Rattle.member_plans.proofs.Asking.{follows_tidied, stopped, refused, ended, given}
use Rattle.member_plans.proofs.engine.MemberPlans.ask.Goals as goal

pub returns-in-Err-clause-answers : goal.returns-in-Err-clause-answers
returns-in-Err-clause-answers g c =
    let me = c.args.self.now in
    let r = c.walk.ensures in
    rw c.stop.ensures.answer (stopped (g.S.Space.view me.space) (g.S.Space.view c.walk.new.space) c.walk.new.search me.within me.front
    c.walk.new.self me.shell r.system r.within (rw c.most-most.ensures at r.follows) c.requires.engine.free c.stop.new.self c.in-Err.stop
    (rw (c.most-most.ensures, c.in-Err.is) at r.ok) c.stop.ensures.hands)

pub returns-in-Err-tidy-clause-answers : goal.returns-in-Err-tidy-clause-answers
returns-in-Err-tidy-clause-answers g c =
    let me = c.args.self.now in
    let w = g.S.Space.view c.walk.new.space in
    let x = g.S.Space.view c.tidy.new.self in
    let r = c.walk.ensures in
    let t = c.tidy.ensures.stays in
    let follows = follows_tidied w x c.walk.new.search me.shell.most me.front c.walk.new.self t (rw c.most-most.ensures at r.follows) in
    rw c.stop-in-Err-tidy.ensures.answer (refused (g.S.Space.view me.space) x c.walk.new.search me.within me.front c.walk.new.self me.shell
    (t.kept.system ∙ r.system) r.within follows c.requires.engine.free c.stop-in-Err-tidy.new.self
    c.walk.new.self follows.steady refl c.stop-in-Err-tidy.ensures.hands)

pub returns-in-None-clause-answers : goal.returns-in-None-clause-answers
returns-in-None-clause-answers g c =
    let me = c.args.self.now in
    let w = g.S.Space.view c.walk.new.space in
    let x = g.S.Space.view c.tidy.new.self in
    let r = c.walk.ensures in
    let t = c.tidy.ensures.stays in
    let follows = follows_tidied w x c.walk.new.search me.shell.most me.front c.walk.new.self t (rw c.most-most.ensures at r.follows) in
    let s = rw c.in-None.is at (rw (c.most-most.ensures, c.in-Ok.is) at r.ok) in
    rw c.hand_out.ensures.answer (ended (g.S.Space.view me.space) x c.walk.new.search me.within me.front c.walk.new.self me.shell
    (t.kept.system ∙ r.system) r.within follows c.hand_out.new.self s c.hand_out.ensures.hands c.in-Ok-tidy.ensures.ok.few)

pub returns-in-Err-give-clause-answers : goal.returns-in-Err-give-clause-answers
returns-in-Err-give-clause-answers g c =
    let me = c.args.self.now in
    let w = g.S.Space.view c.walk.new.space in
    let x = g.S.Space.view c.tidy.new.self in
    let r = c.walk.ensures in
    let t = c.tidy.ensures.stays in
    let follows = follows_tidied w x c.walk.new.search me.shell.most me.front c.walk.new.self t (rw c.most-most.ensures at r.follows) in
    rw c.stop-in-Err-give.ensures.answer (refused (g.S.Space.view me.space) x c.walk.new.search me.within me.front c.walk.new.self me.shell
    (t.kept.system ∙ r.system) r.within follows c.requires.engine.free c.stop-in-Err-give.new.self c.give.new.self
    (rw c.most-most.ensures at c.give.ensures.steady) c.in-Err-give.ensures.err c.stop-in-Err-give.ensures.hands)

pub returns-in-Ok-give-clause-answers : goal.returns-in-Ok-give-clause-answers
returns-in-Ok-give-clause-answers g c =
    let me = c.args.self.now in
    let w = g.S.Space.view c.walk.new.space in
    let x = g.S.Space.view c.tidy.new.self in
    let r = c.walk.ensures in
    let t = c.tidy.ensures.stays in
    let follows = follows_tidied w x c.walk.new.search me.shell.most me.front c.walk.new.self t (rw c.most-most.ensures at r.follows) in
    rw c.hand_out-in-Ok-give.ensures.answer (given (g.S.Space.view me.space) x c.walk.new.search me.within me.front c.walk.new.self me.shell
    (t.kept.system ∙ r.system) r.within follows c.hand_out-in-Ok-give.new.self c.give.new.self c.in-Ok-give.plan
    (rw c.most-most.ensures at c.give.ensures.steady) (rw c.most-most.ensures at c.in-Ok-give.ensures.ok)
    c.hand_out-in-Ok-give.ensures.hands c.in-Ok-tidy.ensures.ok.few)

pub give-requires-clause-steady : goal.give-requires-clause-steady
give-requires-clause-steady g c =
    let w = g.S.Space.view c.walk.new.space in
    let x = g.S.Space.view c.tidy.new.self in
    (follows_tidied w x c.walk.new.search c.most-most.result c.args.self.now.front c.walk.new.self c.tidy.ensures.stays
    c.walk.ensures.follows).steady
