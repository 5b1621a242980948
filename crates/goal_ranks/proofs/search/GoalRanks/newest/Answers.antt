use Rattle.std.proofs.Common.{◌≡◌, ◌-◌, List, Some, slice_get, length, refl, sym, ◌∙◌, ap, subst}
use Rattle.std.specs.Option.{option_copied}
use Rattle.goal_ranks.proofs.search.GoalRanks.newest.Goals as goal

pub returns-in-Some : goal.returns-in-Some
returns-in-Some g c =
    let r = c.in-Some.ranked.now in
    (r, subst (λ (xs : List _). slice_get xs (length xs - 1) ≡ Some r) c.deref.ensures.value (sym c.last.ensures.value ∙ ap option_copied c.in-Some.is), refl)
