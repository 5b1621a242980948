use Rattle.std.proofs.Common.{All, List, ℕ, get_or, sym, ◌∙◌, ap, subst, Vec, Global}
use Rattle.std.proofs.lemmas.List.Elements.{All-push}
use Rattle.mutex_use.specs.Groups.{IsBaseGroup}
use Rattle.mutex_use.proofs.joining.of_several.Goals as goal
use Rattle.mutex_use.proofs.joining.of_several.Goals.{then-are_of_several+in_ok-push, else-are_of_several}

pub groups-preserved : goal.groups-preserved
groups-preserved c =
    let P : List ℕ → Type 0 = All (IsBaseGroup c.args.task.now) in
    let x = get_or c.args.groups.now c.groups.i 0 in
    elim c.if-are_of_several.branch [
      | then-are_of_several+in_ok-push w ↦ subst P (sym (ap (λ (u : Vec ℕ Global). u.items) w.left-is ∙ w.in_ok-push.ensures.items))
          (All-push (IsBaseGroup c.args.task.now) c.groups.left.items x c.groups.invariant (c.requires c.groups.i 0 c.groups-test.true))
      | else-are_of_several w ↦ subst P (sym (ap (λ (u : Vec ℕ Global). u.items) w.left-is)) c.groups.invariant
    ]
