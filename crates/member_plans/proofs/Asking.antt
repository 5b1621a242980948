-- One call, by how it ends, and an engine before its first call.
use Rattle.std.proofs.Common.{◌≡◌, ℕ, List, [], ◌∷◌, Option, Some, None, Result, Ok, Err, refl, sym, ◌∙◌, ap, subst}
use Rattle.std.specs.Prelude.{IfOk}
use Rattle.task_system.specs.System.{System, IsSystemPlan}
use Rattle.space_api.specs.View.{View}
use Rattle.space_api.specs.Frames.{Stays as SameSets}
use Rattle.lazy_plans.specs.Law.{Last, MayStop, NoneLeft, last_of}
use Rattle.lazy_plans.specs.Shell.{shell_most, shell_held, IsNewShell, HandsOut}
use Rattle.lazy_plans.specs.declared.shell.Shell.{Shell}
use Rattle.lazy_plans.specs.declared.stop.Stop.{Stop}
use Rattle.lazy_plans.specs.declared.stop.Stop.TheVariants.{Memory}
use Rattle.lazy_plans.specs.declared.stop.Ending.TheVariants.{Exhausted, StoppedBy}
use Rattle.lazy_plans.proofs.Given.{stays_trans}
use Rattle.cost_to_go.specs.Standing.{to_go_within}
use Rattle.cost_to_go.specs.declared.search.CostToGo.{CostToGo}
use Rattle.selectors.specs.Members.{GaveMember, TurnedMembers, HasEachClass}
use Rattle.member_laws.specs.Nodes.{CoversOpened, PendsNode}
use Rattle.member_laws.proofs.Calls.{call_gives, call_ends, call_stops, call_refused, ended_by}
use Rattle.member_laws.proofs.Pending.{covers_first, pends_first}
use Rattle.prefix_tree.specs.Entries.{prefixes}
use Rattle.prefix_plans.specs.Owned.{IsTidyEndSpace}
use Rattle.prefix_plans.specs.EndStanding.{IsEndReady}
use Rattle.member_plans.specs.Moves.{Serves}
use Rattle.member_plans.specs.Opened.{keys_of, opened_of}
use Rattle.member_plans.specs.Front.{waiting_members, opened_places, opened, IsSteady, SamePends, FollowsTurns}
use Rattle.member_plans.specs.Engine.{IsMemberSound, AnsweredByMembers}
use Rattle.member_plans.specs.declared.front.Front.{Front}
use Rattle.member_plans.proofs.Table.{table_none}
use Rattle.member_plans.proofs.Turning.{stays_same}
use Rattle.member_plans.proofs.Walking.{steady_stays}

-- what holds of the plans that pend after turns holds after the space was tidied
pub follows_tidied : {Set : Type 0} (v w : View Set) (f : CostToGo Set) (most : Option ℕ) (x z : Front) → SameSets v w
    → FollowsTurns v f most x z → FollowsTurns w f most x z
follows_tidied v w f most x z s k = record {
  steady = steady_stays v w f most z s k.steady;
  same = subst (λ (y : System). SamePends y x z) (sym s.kept.system) k.same;
  more = k.more;
}

none_some : ◌≡◌ {A = Last} None (Some Exhausted) → ⊥
none_some e = cc

none_left : (s : Stop) → Some (StoppedBy s) ≡ Some Exhausted → ⊥
none_left s e = cc

-- the engine began with x and the shell s, which held no plan, and turns came to z
module _ {Set : Type 0} (v w : View Set) (h : CostToGo Set) (within : Set) (x z : Front) (s : Shell)
    (system : w.system ≡ v.system) (kept : within ≡ to_go_within h) (follows : FollowsTurns w h (shell_most s) x z) where
  -- what the call answers, where t is what it came to and k the shell then
  answered : (t : Front) (k : Shell) (r : Result (Option (List ℕ)) Stop) → IsSteady w h (shell_most s) t
      → TurnedMembers w.system (shell_most s) (PendsNode w.system (opened x)) (PendsNode w.system (opened t)) r
      → HandsOut s k r None → (last_of r ≡ Some Exhausted → IsTidyEndSpace w) → IfOk r (λ o. IsTidyEndSpace w)
      → AnsweredByMembers v w h within x t s k r
  answered t k r steady turned hands room tidy =
      let law = subst (λ (y : System). TurnedMembers y (shell_most s) (PendsNode y (opened x)) (PendsNode w.system (opened t)) r) system turned in
      record {
        engine = record {
          steady = subst (λ (most : Option ℕ). IsSteady w h most t) (sym hands.wanted) steady;
          kept = kept;
          free = hands.holds;
          said = rw (hands.last, hands.wanted) (ended_by w.system (shell_most s) (PendsNode w.system (opened x)) (PendsNode w.system (opened t)) r turned);
          room = λ e. room (sym hands.last ∙ e);
        };
        system = system;
        law = law;
        last = hands.last;
        room = tidy;
      }

  -- it held no plan, and holds none
  module _ (free : shell_held s ≡ None) (k : Shell) where
    none_kept : (stop : Stop) → HandsOut s k (Err stop) (shell_held s) → HandsOut s k (Err stop) None
    none_kept stop hands = subst (λ (held : Option (List ℕ)). HandsOut s k (Err stop) held) free hands

    pub stopped : (stop : Stop) → MayStop v.system (shell_most s) (PendsNode v.system (opened z)) stop
        → HandsOut s k (Err stop) (shell_held s) → AnsweredByMembers v w h within x z s k (Err stop)
    stopped stop may hands = answered z k (Err stop) follows.steady (call_stops w.system (shell_most s) (opened x) (opened z) follows.same stop
        (subst (λ (y : System). MayStop y (shell_most s) (PendsNode y (opened z)) stop) (sym system) may)) (none_kept stop hands)
        (λ e. absurd (none_left stop e)) tt

    -- memory is refused, and no more was opened than was
    pub refused : (t : Front) → IsSteady w h (shell_most s) t → opened t ≡ opened z → HandsOut s k (Err Memory) (shell_held s)
        → AnsweredByMembers v w h within x t s k (Err Memory)
    refused t steady same hands = answered t k (Err Memory) steady (call_refused w.system (shell_most s) (opened x) (opened t)
        (stays_trans (PendsNode w.system (opened x)) (PendsNode w.system (opened z)) (PendsNode w.system (opened t)) follows.same
        (stays_same w.system (opened z) (opened t) same))) (none_kept Memory hands) (λ e. absurd (none_left Memory e)) tt

  pub ended : (k : Shell) → NoneLeft v.system (shell_most s) (PendsNode v.system (opened z)) → HandsOut s k (Ok None) None
      → IsTidyEndSpace w → AnsweredByMembers v w h within x z s k (Ok None)
  ended k none hands few = answered z k (Ok None) follows.steady (call_ends w.system (shell_most s) (opened x) (opened z) follows.same
      (subst (λ (y : System). NoneLeft y (shell_most s) (PendsNode y (opened z))) (sym system) none)) hands (λ e. few) few

  pub given : (k : Shell) (t : Front) (p : List ℕ) → IsSteady w h (shell_most s) t
      → GaveMember w.system (shell_most s) (PendsNode w.system (opened z)) (PendsNode w.system (opened t)) p
      → HandsOut s k (Ok (Some p)) None → IsTidyEndSpace w → AnsweredByMembers v w h within x t s k (Ok (Some p))
  given k t p steady gave hands few = answered t k (Ok (Some p)) steady
      (call_gives w.system (shell_most s) (opened x) (opened z) follows.same (opened t) p gave) hands (λ e. few) few

-- before the first call
module _ {Set : Type 0} (v : View Set) (f : CostToGo Set) (within : Set) (x : Front)
    (ready : IsEndReady v f x.graph x.tree.items (waiting_members x)) (serves : Serves x.moves v.system) (none : opened_places x ≡ [])
    (keys : keys_of x.opened ≡ []) (first : prefixes x.tree.items (waiting_members x) ≡ [] ∷ []) where
  bare : opened x ≡ []
  bare = ap (opened_of x.tree.items) none

  pub begun_sound : (most : Option ℕ) (s : Shell) → IsNewShell most s → within ≡ to_go_within f → IsMemberSound v f within x s
  begun_sound most s new kept = record {
    steady = record {
      ready = ready;
      serves = serves;
      table = table_none v.system (shell_most s) x.tree.items (opened_places x) (keys_of x.opened) none keys;
      covers = subst (λ (o : List (List ℕ)). CoversOpened v.system o (prefixes x.tree.items (waiting_members x))) (sym bare)
          (subst (CoversOpened v.system []) (sym first) (covers_first v.system));
    };
    kept = kept;
    free = new.free;
    said = rw new.goes_on tt;
    room = λ e. absurd (none_some (sym new.goes_on ∙ e));
  }

  pub begun_all : (y : System) → v.system ≡ y → HasEachClass y (PendsNode v.system (opened x))
  begun_all y same p plan = record {
    member = p;
    alike = λ a. refl;
    pending = subst (λ (o : List (List ℕ)). PendsNode v.system o p) (sym bare)
        (pends_first v.system p (subst (λ (k : System). IsSystemPlan k p) (sym same) plan));
  }
