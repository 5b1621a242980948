use Rattle.member_plans.proofs.Keeping.{got_read}
use Rattle.member_plans.proofs.kept.has_at.Goals as goal

pub returns-in-Some-Some : goal.returns-in-Some-Some
returns-in-Some-Some c =
    let l = c.in-Some-Some.ensures.lookup in
    λ h. (
      c.in-Some-Some.marked,
      got_read c.args.kept.now c.args.number c.in-Some-Some.field-0.now
          c.in-Some-Some.marked l.3.0 l.1 c.in-Some-Some.field-0-is,
      c.is_of.ensures h,
    )
