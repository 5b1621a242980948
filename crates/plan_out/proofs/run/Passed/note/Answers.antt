use Rattle.std.proofs.Common.{sym, ◌∙◌}
use Rattle.plan_out.proofs.Returning.{note_kept, note_found, note_new}
use Rattle.plan_out.proofs.run.Passed.note.Goals as goal

pub returns-then-is_some : goal.returns-then-is_some
returns-then-is_some c = (λ left is h.
    note_kept c.args.self.now.back c.args.self.now.left c.args.self.now.left left c.args.from c.args.to.now (sym c.is_some.ensures ∙ c.if-is_some.true) h)

pub returns-then-contains : goal.returns-then-contains
returns-then-contains c = (λ left is h.
    note_found c.args.self.now.left c.insert.new.self left c.args.from c.args.to.now c.in_ok-insert.ensures.updates.0
    c.args.self.now.back (sym c.is_some.ensures ∙ c.if-is_some.false)
    (sym c.contains.ensures ∙ c.if-contains.true) is h)

pub returns-else-contains : goal.returns-else-contains
returns-else-contains c = (λ left is h.
    note_new c.args.self.now.left c.insert.new.self left c.args.from c.args.to.now c.in_ok-insert.ensures.updates.0
    c.args.self.now.back (sym c.is_some.ensures ∙ c.if-is_some.false) (sym c.contains.ensures ∙ c.if-contains.false) h)
