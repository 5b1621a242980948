use Rattle.std.proofs.Common.{sym, subst}
use Rattle.lazy_plans.specs.SelectorsOwe.{IsClassKey}
use Rattle.lazy_plans.proofs.Keyed.{listed_by_key, key_by_listed, longer_unlisted}
use Rattle.selectors.proofs.after.is_listed.Goals as goal

pub returns-then-capacity-operators-clause-listed :
    goal.returns-then-capacity-operators-clause-listed
returns-then-capacity-operators-clause-listed c =
    let longer = rw (c.capacity.ensures, c.as_slice-operators.ensures) at c.if-capacity-operators.true in
    ((λ e. cc), (λ h. absurd (longer_unlisted c.args.mode _ c.args.keys.now c.args.plan.now c.requires.short longer h)))

pub returns-in-Unordered-clause-listed : goal.returns-in-Unordered-clause-listed
returns-in-Unordered-clause-listed c =
    let key = c.sort_into.new.room.items in
    let moved = rw c.as_slice-operators.ensures at c.sort_into.ensures.permutation in
    let is : IsClassKey c.args.mode c.args.plan.now key = subst (λ m. IsClassKey m c.args.plan.now key)
    (sym c.in-Unordered.is) (moved, c.sort_into.ensures.rising) in
    let has = rw c.deref.ensures.value at c.has-in-Unordered.ensures in (
      (λ e. listed_by_key c.args.mode c.args.keys.now c.args.plan.now key is (has.0 e)),
      (λ h. has.1 (key_by_listed c.args.mode c.args.keys.now c.args.plan.now key c.requires.keyed is h)),
    )
