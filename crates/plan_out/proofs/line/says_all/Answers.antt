use Rattle.std.proofs.Common.{◌≡◌, ◌∙◌, sym, Bool, true, false, ◌||◌}
use Rattle.plan_out.proofs.line.says_all.Goals as goal

-- where the first of two tests fails, the second decides
by_last : (t u r : Bool) → t ≡ false → r ≡ u → r ≡ (t || u)
by_last true u r e f = absurd (cc)
by_last false u r e f = f

pub returns-else-is_numbered : goal.returns-else-is_numbered
returns-else-is_numbered c = by_last _ _ _ (sym c.is_numbered.ensures ∙ c.if-is_numbered.false) c.is_numbered-else-is_numbered.ensures
