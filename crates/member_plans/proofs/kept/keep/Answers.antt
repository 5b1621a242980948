use Rattle.std.proofs.Common.{inl, inr, arith}
use Rattle.member_plans.proofs.Keeping.{kept_here, got_else}
use Rattle.member_plans.proofs.kept.keep.Goals as goal

pub returns-clause-kept : goal.returns-clause-kept
returns-clause-kept c = kept_here c.places.kept.items c.args.number c.args.marked (omega (arith, c.places-test.false, c.len.ensures, c.places.kept.ok.0))

pub returns-clause-puts : goal.returns-clause-puts
returns-clause-puts c = λ n m h. elim (got_else c.places.kept.items c.args.number c.args.marked n m h)
    [ inl was ↦ inl (c.places.invariant n m was) | inr is ↦ inr is ]
