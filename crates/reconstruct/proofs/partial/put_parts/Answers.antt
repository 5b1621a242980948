use Rattle.std.proofs.Common.{◌++◌, ◌∷◌, [], List, ap, ◌∙◌}
use Rattle.reconstruct.specs.declared.entries.Entry.{Entry}
use Rattle.reconstruct.specs.declared.entries.Entry.TheVariants.{Before}
use Rattle.reconstruct.proofs.partial.put_parts.Goals as goal

pub returns-clause-ok : goal.returns-clause-ok
returns-clause-ok g c =
    let put = rw (c.deref.ensures.value, c.requires.empty) at c.in_ok-put_partial.ensures.ok in (
      put.0,
      c.in_ok-child.child,
      put.1,
      c.in_ok-child.ensures,
      c.in_ok-push.ensures.items ∙ ap (λ (es : List (Entry _)). es ++ Before c.in_ok-child.child ∷ []) put.2,
    )
