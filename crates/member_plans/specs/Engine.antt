-- An engine as its callers see it.
use Rattle.std.specs.Prelude.{◌≡◌, ℕ, Bool, List, Option, Some, None, Result, IfOk}
use Rattle.task_system.specs.System.{System}
use Rattle.space_api.specs.View.{View, Valid}
use Rattle.lazy_plans.specs.Law.{Last, Ended, last_of}
use Rattle.lazy_plans.specs.Shell.{shell_most, shell_held, shell_ended}
use Rattle.lazy_plans.specs.declared.shell.Shell.{Shell}
use Rattle.lazy_plans.specs.declared.stop.Stop.{Stop}
use Rattle.lazy_plans.specs.declared.stop.Ending.TheVariants.{Exhausted}
use Rattle.cost_to_go.specs.Standing.{to_go_within}
use Rattle.cost_to_go.specs.declared.search.CostToGo.{CostToGo}
use Rattle.selectors.specs.Members.{TurnedMembers, HasEachClass}
use Rattle.member_laws.specs.Nodes.{PendsNode}
use Rattle.member_laws.specs.Told.{pends_node}
use Rattle.prefix_plans.specs.Owned.{IsTidyEndSpace}
use Rattle.prefix_plans.specs.EndStanding.{IsBeneathToGo}
use Rattle.member_plans.specs.Front.{opened, IsSteady}
use Rattle.member_plans.specs.declared.front.Front.{Front}
use Rattle.member_plans.specs.declared.engine.MemberPlans.{MemberPlans}

abbrev pub member_system : {S Set : Type 0} → (S → View Set) → MemberPlans S Set → System
member_system view x = (view x.space).system

-- the greatest cost that is wanted, or none
abbrev pub member_most : {S Set : Type 0} → MemberPlans S Set → Option ℕ
member_most x = shell_most x.shell

-- the answer that ended it, which every later call repeats; none, while it goes on
abbrev pub member_ended : {S Set : Type 0} → MemberPlans S Set → Last
member_ended x = shell_ended x.shell

-- the plans that join no prefix that was opened, and the same computed
abbrev pub PendsMember : {S Set : Type 0} → (S → View Set) → MemberPlans S Set → List ℕ → Type 0
PendsMember view x p = PendsNode (view x.space).system (opened x.front) p

abbrev pub member_tells : {S Set : Type 0} → (S → View Set) → MemberPlans S Set → List ℕ → Bool
member_tells view x p = pends_node (view x.space).system (opened x.front) p

-- what every engine meets between two calls: its prefixes stand, it holds no plan, what was answered last still holds, and where
-- no plan was left the space is tidy
pub record IsMemberSound {Set : Type 0} (v : View Set) (f : CostToGo Set) (within : Set) (x : Front) (s : Shell) : Type 0 where
  pub steady : IsSteady v f (shell_most s) x
  pub kept : within ≡ to_go_within f
  pub free : shell_held s ≡ None
  pub said : Ended v.system (shell_most s) (PendsNode v.system (opened x)) (shell_ended s)
  pub room : shell_ended s ≡ Some Exhausted → IsTidyEndSpace v

-- what one call gives: a sound engine of the same system, the law, and a tidy space after a plan or None
pub record AnsweredByMembers {Set : Type 0} (v w : View Set) (f : CostToGo Set) (within : Set) (x t : Front) (s z : Shell)
    (result : Result (Option (List ℕ)) Stop) : Type 0 where
  pub engine : IsMemberSound w f within t z
  pub system : w.system ≡ v.system
  pub law : TurnedMembers v.system (shell_most s) (PendsNode v.system (opened x)) (PendsNode w.system (opened t)) result
  pub last : shell_ended z ≡ last_of result
  pub room : IfOk result (λ o. IsTidyEndSpace w)

-- what it meets between two calls
abbrev pub IsMemberEngine : {S Set : Type 0} → (S → View Set) → MemberPlans S Set → Type 0
IsMemberEngine view x = IsMemberSound (view x.space) x.search x.within x.front x.shell

-- every valid set is one of the search, or the one that it is kept to
abbrev pub KeepsAllMember : {S Set : Type 0} → (S → View Set) → MemberPlans S Set → Type 0
KeepsAllMember {S} {Set} view x = (a : Set) → Valid (view x.space) a → IsBeneathToGo x.search a

-- no more is held than twice what was needed last, and 1,000
abbrev pub HasMemberRoom : {S Set : Type 0} → (S → View Set) → MemberPlans S Set → Type 0
HasMemberRoom view x = IsTidyEndSpace (view x.space)

-- one call of it
abbrev pub AnswersByMember : {S Set : Type 0} → (S → View Set) → MemberPlans S Set → MemberPlans S Set → Result (Option (List ℕ)) Stop → Type 0
AnswersByMember view x z result = AnsweredByMembers (view x.space) (view z.space) z.search z.within x.front z.front x.shell z.shell result

-- each plan of the system pends
abbrev pub HasAllPlans : {S Set : Type 0} → (S → View Set) → System → MemberPlans S Set → Type 0
HasAllPlans view y x = HasEachClass y (PendsMember view x)
