-- An engine of all plans of its mode keeps a member of each class.
use Rattle.std.proofs.Common.{ℕ, List, Option, Some, None, Result, Ok, Err, sym, subst}
use Rattle.symk_task.specs.declared.parts.Mode.{Mode}
use Rattle.symk_task.specs.declared.parts.Mode.TheVariants.{TopK, Loopless, Unordered}
use Rattle.symk_task.specs.Plans.{Same}
use Rattle.task_system.specs.System.{System, same}
use Rattle.task_system.proofs.SameLaw.{same_law}
use Rattle.lazy_plans.specs.Law.{Gave, PendsAlike, Turned}
use Rattle.lazy_plans.specs.declared.stop.Stop.{Stop}
use Rattle.lazy_plans.proofs.Keyed.{same_self}
use Rattle.selectors.specs.Members.{HasPendingMember, GaveMember, KeepsMembers, TurnedMembers}
use Rattle.selectors.proofs.Sifting.{off, apart}

-- what counts as one in a mode is a rearrangement
rearranged : (m : Mode) (p q : List ℕ) → Same m p q → Same Unordered p q
rearranged TopK p q e = subst (λ (z : List ℕ). Same Unordered p z) e (same_self Unordered p)
rearranged Loopless p q e = subst (λ (z : List ℕ). Same Unordered p z) e (same_self Unordered p)
rearranged Unordered p q h = h

-- what pends is a member of its own class
pub own_member : (pends : List ℕ → Type 0) (q : List ℕ) → pends q → HasPendingMember pends q
own_member pends q h = record { member = q; alike = same_self Unordered q; pending = h }

keeps_whole : (before after : List ℕ → Type 0) → PendsAlike before after → KeepsMembers before after
keeps_whole before after s = record {
  fewer = λ q h. (s q).0 h;
  members = λ q h. own_member after q ((s q).1 h);
}

gave_whole : (y : System) (m : Mode) (most : Option ℕ) (before after : List ℕ → Type 0) (p : List ℕ)
    → Gave y m most before after p → GaveMember y most before after p
gave_whole y m most before after p gave = record {
  pended = gave.pended;
  fits = gave.fits;
  least = gave.least;
  fewer = λ q h. let k = (gave.rest q).0 h in (k.0, λ e. apart (same m q p) (same_law m q p) k.1 (subst (λ (z : List ℕ). Same m z p) (sym e) (same_self m p)));
  members = λ q h n. own_member after q ((gave.rest q).1 (h, off (same m q p) (same_law m q p) (λ s. n (rearranged m q p s))));
}

pub turned_whole : (y : System) (m : Mode) (most : Option ℕ) (before after : List ℕ → Type 0)
    (r : Result (Option (List ℕ)) Stop) → Turned y m most before after r → TurnedMembers y most before after r
turned_whole y m most before after (Ok (Some p)) h = gave_whole y m most before after p h
turned_whole y m most before after (Ok None) h = (h.0, keeps_whole before after h.1)
turned_whole y m most before after (Err stop) h = (h.0, keeps_whole before after h.1)
