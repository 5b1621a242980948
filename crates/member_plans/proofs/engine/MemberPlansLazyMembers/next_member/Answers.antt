use Rattle.std.proofs.Common.{sym, ◌∙◌}
use Rattle.member_laws.proofs.Calls.{again}
use Rattle.member_plans.specs.Engine.{member_system, member_most, PendsMember}
use Rattle.member_plans.proofs.engine.MemberPlansLazyMembers.next_member.Goals as goal

pub returns-in-Some-clause-law : goal.returns-in-Some-clause-law
returns-in-Some-clause-law g c =
    let me = c.args.self.now in
    again (member_system g.S.Space.view me) (member_most me) (PendsMember g.S.Space.view me) c.answer.result c.in-Some.ending
    c.answer.ensures (rw (sym c.ended.ensures ∙ c.in-Some.is) at c.requires.said)
