use Rattle.std.proofs.Common.{◌≡◌, false, refl, sym, ◌∙◌, IsTrue}
use Rattle.std.proofs.lemmas.Bool.{false≢true}
use Rattle.explicit_space.specs.Members.{has_explicit_state}
use Rattle.explicit_space.proofs.Gathering.{all_in, all_members, member_at}
use Rattle.explicit_space.proofs.members.is_subset.Goals as goal

pub returns-then-not-contains : goal.returns-then-not-contains
returns-then-not-contains c =
    let f = c.loop-member.invariant.so_far in
    let m = c.in-Some.member.now in
    let out : has_explicit_state c.args.b.now m ≡ false = sym c.contains.ensures ∙ c.if-not-contains.true in
    ((λ e. absurd (false≢true e)), (λ h. absurd (false≢true (sym out ∙ h m (member_at c.args.a.now f.0 c.loop-member.member-iterator c.next.new.self m f.1 c.in-Some.ensures.steps)))))

pub loop-member-preserved : goal.loop-member-preserved
loop-member-preserved c =
    let f = c.loop-member.invariant.so_far in
    let m = c.in-Some.member.now in
    let more = all_in c.args.a.now (λ s. IsTrue
    (has_explicit_state c.args.b.now s)) f.0 c.loop-member.member-iterator c.next.new.self m f.1 c.in-Some.ensures.steps f.2 (sym c.contains.ensures ∙ c.if-not-contains.false) in
    record { can_next = tt; is_finite = tt; so_far = (_, more.0, more.1) }

pub returns : goal.returns
returns c =
    let f = c.loop-member.invariant.so_far in (
      (λ e. all_members c.args.a.now (λ s. IsTrue
          (has_explicit_state c.args.b.now s)) f.0 c.loop-member.member-iterator f.1 c.in-None.ensures.steps.0 f.2),
      (λ h. refl),
    )
