use Rattle.std.proofs.Common.{◌==◌, ◌∙◌, sym, refl}
use Rattle.std.specs.Cmp.Lexicographic.{pointwise}
use Rattle.std.proofs.lemmas.Bool.Decides.{Decides-eqb}
use Rattle.std.proofs.lemmas.Slice.Eq.{slice_eq-Decides}
use Rattle.std.proofs.lemmas.List.Sorted.{IsNonDecreasingBy-from_sort}
use Rattle.member_plans.proofs.Forking.{rearranged_from}
use Rattle.member_plans.proofs.joining.are_rearranged.Goals as goal

pub returns : goal.returns
returns c on =
    let r = c.sort_unstable.new.self.items in
    let s = c.sort_unstable-2.new.self.items in
    rearranged_from c.args.one.items c.args.two.items r s c.sort_unstable.ensures.permutation c.sort_unstable-2.ensures.permutation
    (IsNonDecreasingBy-from_sort (λ x. x) _ c.sort_unstable.ensures.sorted) (IsNonDecreasingBy-from_sort (λ x. x) _ c.sort_unstable-2.ensures.sorted)
    ((slice_eq-Decides Decides-eqb r s (pointwise ◌==◌ r s) refl).0 (sym c.eq.ensures ∙ on))
