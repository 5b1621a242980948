use Rattle.std.proofs.lemmas.Slice.Eq.{bytes_eq-Decides}
use Rattle.selectors.proofs.Present.{present_told}
use Rattle.member_plans.proofs.Meeting.{noted_insert}
use Rattle.member_plans.proofs.opened.Opened.note.Goals as goal

pub returns-clause-ok : goal.returns-clause-ok
returns-clause-ok c =
    let key = c.in_ok-key.key in (
      key.items,
      c.in_ok-key.ensures,
      noted_insert _ c.args.self.now.plans.keys c.insert.new.self.keys key
          (present_told _ key.items (λ k. bytes_eq-Decides key.items k.items) c.args.self.now.plans.keys)
          c.in_ok-insert.ensures.keys,
    )
