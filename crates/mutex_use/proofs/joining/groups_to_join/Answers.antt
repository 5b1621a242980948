use Rattle.std.proofs.Common.{All, List, ℕ, get_or, sym, subst}
use Rattle.std.proofs.lemmas.List.Elements.{Contains-get_or}
use Rattle.std.proofs.lemmas.List.Sorted.{All-permutation}
use Rattle.mutex_use.specs.Groups.{IsBaseGroup}
use Rattle.mutex_use.proofs.joining.groups_to_join.Goals as goal

pub of_several-requires : goal.of_several-requires
of_several-requires c =
    let base = c.in_ok-base.base.items in
    let P : List ℕ → Type 0 = All (IsBaseGroup c.args.task.now) in
    subst P (sym c.deref.ensures.value) (λ k d lt. (c.in_ok-base.ensures.each (get_or base k d)).0 (Contains-get_or base k d lt))

pub returns : goal.returns
returns c = All-permutation (IsBaseGroup c.args.task.now) c.in_ok-groups.groups.items c.sort_by_key.new.self.items
    c.sort_by_key.ensures.permutation c.in_ok-groups.ensures
