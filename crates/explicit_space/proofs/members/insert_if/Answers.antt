use Rattle.std.proofs.Common.{◌≡◌, sym, ◌∙◌, IsTrue}
use Rattle.explicit_space.specs.Members.{IsIf}
use Rattle.explicit_space.proofs.Gathering.{one_more, grows_as}
use Rattle.explicit_space.proofs.members.insert_if.Goals as goal

pub returns-in_ok-insert : goal.returns-in_ok-insert
returns-in_ok-insert c =
    grows_as c.args.set.now c.insert.new.self (λ s. s ≡ c.in_ok-copy.field-0) (IsIf (IsTrue c.args.wanted) c.args.state.now)
    (λ s. ((λ e. (c.if-wanted.true, e ∙ c.in_ok-copy.ensures)), (λ h. h.1 ∙ sym c.in_ok-copy.ensures)))
    (one_more c.args.set.now c.insert.new.self c.in_ok-copy.field-0 c.in_ok-insert.ensures.updates.0)
