-- What is known of the members of a set and of the roots, as the nodes that nothing needs are thrown away.
use Rattle.std.proofs.Common.{◌≡◌, ℕ, ◌+◌, ◌<◌, ◌⊎◌, inl, inr, List, [], ◌∷◌, ◌++◌, length, get_or, sym, ◌∙◌, ap, subst, arith, length-append}
use Rattle.std.proofs.Math.ListN.{get_or-append}
use Rattle.std.proofs.Math.Seq.{get_or-append_seam}
use Rattle.symk_task.specs.declared.parts.TaskParts.{TaskParts}
use Rattle.symk_task.specs.Fits.{Fits}
use Rattle.bdd_table.specs.declared.node.Node.{Node}
use Rattle.bdd_table.specs.Diagram.{Bits, means, Keeps}
use Rattle.bdd_table.specs.Collected.{IsMoved}
use Rattle.var_order.specs.Layout.{Layout}
use Rattle.axiom_layers.specs.Roots.{AreRoots}
use Rattle.axiom_layers.proofs.Raised.{roots_kept, roots_moved}
use Rattle.transitions.specs.Relations.{IsSet, HoldsForState}
use Rattle.transitions.proofs.Using.{set_alike}
use Rattle.certificates.specs.Inductive.{ClosedBy}
use Rattle.cert_check.specs.Carried.{AreCarried}
use Rattle.cert_check.specs.Judging.{LeavesBy, FirstLeaves}
use Rattle.cert_check.proofs.Judged.{member_alike, closed_alike, leaves_alike}
use Rattle.cert_check.proofs.Answering.{kept_set, closed_more}

-- where the roots, and the members behind them, were moved together
pub carried_by : {old new : List Node} {roots more : List ℕ} {place : ℕ} (derived : List ℕ) (members : ℕ)
    (places : List ℕ) → roots ≡ derived ++ members ∷ []
    → ((i : ℕ) → i < length roots → IsMoved old new (get_or roots i 0) (get_or places i 0))
    → length more ≡ length derived → ((var : ℕ) → var < length derived → get_or more var 0 ≡ get_or places var 0)
    → place ≡ get_or places (length derived) 0 → AreCarried old derived members new more place
carried_by {old} {new} {roots} {more} {place} derived members places is moved count each last =
    let long : length roots ≡ length derived + 1 = ap (λ (xs : List ℕ). length xs) is ∙ length-append derived (members ∷ []) in
    record {
      count = count;
      each = λ var lt. (
          let from : get_or roots var 0 ≡ get_or derived var 0 = ap (λ (xs : List ℕ). get_or xs var 0) is ∙ get_or-append derived (members ∷ []) 0 var lt in
          subst (λ (id : ℕ). IsMoved old new id (get_or more var 0)) from
          (subst (IsMoved old new (get_or roots var 0)) (sym (each var lt))
          (moved var (omega (arith, lt, long)))));
      set = (
          let from : get_or roots (length derived) 0 ≡ members = ap (λ (xs : List ℕ). get_or xs (length derived) 0) is
          ∙ get_or-append_seam derived members [] 0 in
          subst (λ (id : ℕ). IsMoved old new id place) from (subst (IsMoved old new (get_or roots (length derived) 0))
          (sym last) (moved (length derived) (omega (arith, long)))));
    }

-- all of them are known
pub all_known : (nodes : List Node) (derived : List ℕ) (members : ℕ) (roots : List ℕ)
    → roots ≡ derived ++ members ∷ [] → ((var : ℕ) → var < length derived → get_or derived var 0 < length nodes)
    → members < length nodes
    → (i : ℕ) → i < length roots → get_or roots i 0 < length nodes
all_known nodes derived members roots is each known i lt =
    let long : length roots ≡ length derived + 1 = ap (λ (xs : List ℕ). length xs) is ∙ length-append derived (members ∷ []) in
    subst (λ (xs : List ℕ). get_or xs i 0 < length nodes) (sym is) (elim (below_or_at i (length derived) (omega (arith, lt, long))) [
      | inl less ↦ subst (λ (id : ℕ). id < length nodes) (sym (get_or-append derived (members ∷ []) 0 i less)) (each i less)
      | inr at ↦ subst (λ (k : ℕ). get_or (derived ++ members ∷ []) k 0 < length nodes) (sym at)
          (subst (λ (id : ℕ). id < length nodes) (sym (get_or-append_seam derived members [] 0)) known)
    ])
  where
    below_or_at : (i n : ℕ) → i < n + 1 → (i < n) ⊎ (i ≡ n)
    below_or_at i n h = grind arith

-- What is known while the operators are looked at, where this many were.
pub record AreWatched (task : TaskParts) (o : Layout) (start : List Node) (set : ℕ) (now : List Node) (derived : List ℕ) (members op : ℕ) : Type 0 where
  pub known : members < length now
  pub same : (b : Bits) → means now members b ≡ means start set b
  pub is_set : IsSet o (means now members)
  pub roots : AreRoots task o now derived
  pub closed : (a : ℕ) → a < op → ClosedBy task (HoldsForState o (means start set)) a

module _ (task : TaskParts) (o : Layout) (fits : Fits task) (start : List Node) (set : ℕ) (now : List Node)
    (derived : List ℕ) (members op : ℕ) (watched : AreWatched task o start set now derived members op) where
  -- the operator leads to members from members alone
  pub watched_more : (next : List Node) → Keeps now next → ClosedBy task (HoldsForState o (means now members)) op
      → (new : List Node) (more : List ℕ) (place : ℕ) → AreCarried next derived members new more place → AreWatched task o start set new more place (op + 1)
  watched_more next kept closed new more place carried = record {
    known = carried.set.known;
    same = λ b. carried.set.meaning b ∙ kept.meaning members b watched.known ∙ watched.same b;
    is_set = set_alike o (means next members) (means new place) carried.set.meaning (kept_set o now next members kept watched.known watched.is_set);
    roots = roots_moved task o next new derived more (roots_kept task o now next derived kept watched.roots) carried.count carried.each;
    closed = closed_more task (HoldsForState o (means start set)) op watched.closed
        (closed_alike task fits (HoldsForState o (means now members)) (HoldsForState o (means start set))
        (λ s state. member_alike o (means now members) (means start set) s (λ b. sym (watched.same b))) op
        closed);
  }

  -- or it leads out of them
  pub leaves_first : LeavesBy task (HoldsForState o (means now members)) op → FirstLeaves task (HoldsForState o (means start set)) op
  leaves_first leaves = (
    watched.closed,
    leaves_alike task fits (HoldsForState o (means now members)) (HoldsForState o (means start set))
        (λ s state. member_alike o (means now members) (means start set) s (λ b. sym (watched.same b))) op leaves,
  )

  pub leaves_set : (next : List Node) → Keeps now next → IsSet o (means next members)
  leaves_set next kept = kept_set o now next members kept watched.known watched.is_set

  pub leaves_roots : (next : List Node) → Keeps now next → AreRoots task o next derived
  leaves_roots next kept = roots_kept task o now next derived kept watched.roots
