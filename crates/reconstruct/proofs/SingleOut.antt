-- A queue whose last entry is made to stand for itself alone: what is left to find, and what is owed.
use Rattle.std.proofs.Common.{◌≡◌, ℕ, ◌<◌, ◌≤◌, ◌⊎◌, ◌↔◌, inl, inr, Bool, true, false, cond, List, [], ◌∷◌, ◌++◌, length, length-append, append-nil, append_assoc, Option, Some, None, refl, sym, ◌∙◌, ap, subst, arith}
use Rattle.std.specs.List.{AllByRecursion}
use Rattle.space_api.specs.View.{View}
use Rattle.space_api.specs.Owned.{Trades}
use Rattle.space_api.proofs.Trading.{trades_beside}
use Rattle.cost_layers.specs.Layers.{Held}
use Rattle.cost_layers.specs.declared.layers.Layers.{Layers}
use Rattle.plan_cuts.specs.declared.Cut.{Cut}
use Rattle.plan_cuts.specs.Entries.{PlainEntry}
use Rattle.reconstruct.specs.Entries.{EntryOk, IsSingle, SetIn, member_in}
use Rattle.reconstruct.specs.Turned.{IsQueue, IsLast, HasSingle, Replaces}
use Rattle.reconstruct.specs.Parts.{StandsForSame}
use Rattle.reconstruct.specs.Walked.{AreEntriesApart, IsLawful, IsOwed}
use Rattle.reconstruct.specs.declared.entries.Partial.{Partial as PartialPrefix}
use Rattle.reconstruct.specs.declared.entries.Entry.{Entry}
use Rattle.reconstruct.specs.declared.entries.Entry.TheVariants.{Before, After, Partial}
use Rattle.plan_cuts.specs.Drawing.{undrawn}
use Rattle.bidirectional.specs.Both.{IsBeneath, IsOwnOf, front_layers, back_layers}
use Rattle.bidirectional.specs.declared.search.Both.{Both}
use Rattle.bidirectional.proofs.Ends.{valid_ends, owned_ends, keeps_ends}
use Rattle.reconstruct.specs.Sides.{AreRightLayers}
use Rattle.reconstruct.specs.Listing.{IsListing}
use Rattle.reconstruct.specs.Working.{IsAt, IsWorking, MovesAgenda}
use Rattle.reconstruct.specs.declared.drawing.Place.{Place}
use Rattle.reconstruct.specs.declared.next_plan.Agenda.{Agenda}
use Rattle.reconstruct.proofs.Ends.{right_ends}
use Rattle.reconstruct.proofs.AgendaMoves.{listing_some}
use Rattle.reconstruct.proofs.Walked.{walked_working}
use Rattle.reconstruct.proofs.Sets.{all_split}
use Rattle.reconstruct.proofs.Staying.{traded, member_same, right_there}
use Rattle.reconstruct.proofs.Turning.{last_split}
use Rattle.reconstruct.proofs.Parting.{ends_made}
use Rattle.reconstruct.proofs.Walks.{LawfulAt, OwedAt, to_view, owed_at}

abbrev pub is_partial : {Set : Type 0} → Entry Set → Bool
is_partial (Before e) = false
is_partial (After e) = false
is_partial (Partial e) = true

abbrev pub ends_partial : {Set : Type 0} → List (Entry Set) → Bool
ends_partial [] = false
ends_partial (e ∷ []) = is_partial e
ends_partial (e ∷ x ∷ es) = ends_partial (x ∷ es)

-- the entries, where a prefix stands last whose children are still to be found
abbrev pub parts_left : {Set : Type 0} → List (Entry Set) → ℕ
parts_left es = cond (ends_partial es) (length es) 0

ends_at : {Set : Type 0} (others : List (Entry Set)) (e : Entry Set) → ends_partial (others ++ e ∷ []) ≡ is_partial e
ends_at [] e = refl
ends_at (x ∷ []) e = refl
ends_at (x ∷ z ∷ others) e = ends_at (z ∷ others) e

few_left : {Set : Type 0} (es : List (Entry Set)) → parts_left es ≤ length es
few_left es = by (ends_partial es)
  where
    by : (b : Bool) → cond b (length es) 0 ≤ length es
    by true = omega arith
    by false = omega arith

made_partial : {Set : Type 0} (e : Entry Set) → IsSingle e → is_partial e ≡ false
made_partial (Before e) m = refl
made_partial (After e) m = refl
made_partial (Partial e) m = absurd m

none_left : {Set : Type 0} (es : List (Entry Set)) → HasSingle es → parts_left es ≡ 0
none_left es h =
    let s = last_split es h.0 in
    ap (λ (b : Bool). cond b (length es) 0) (ap ends_partial s.2 ∙ ends_at s.0 s.1 ∙ made_partial s.1 (h.1 s.1 (s.0, s.2)))

all_left : {Set : Type 0} (es : List (Entry Set)) (e : PartialPrefix Set) → IsLast es (Partial e) → parts_left es ≡ length es
all_left es e last = ap (λ (b : Bool). cond b (length es) 0) (ap ends_partial last.1 ∙ ends_at last.0 (Partial e))

-- parts in place of the last entry
pub parts_fewer : {Set : Type 0} (u v : View Set) (old new es : List (Entry Set)) (e : PartialPrefix Set)
    (o : Option (List ℕ)) → IsLast old (Partial e) → Replaces u v old new es false o → (es ≡ []) ⊎ HasSingle es
    → parts_left new < parts_left old
parts_fewer u v old new es e o last r (inl none) = omega (
  arith,
  all_left old e last,
  few_left new,
  ap length r.2,
  length-append r.0 (r.1 ∷ []),
  ap length (r.3 ∙ ap (λ (q : List (Entry _)). r.0 ++ q) none ∙ append-nil r.0),
)
parts_fewer u v old new es e o last r (inr some) =
    let s = last_split es some.0 in
    let is : new ≡ (r.0 ++ s.0) ++ s.1 ∷ [] = r.3 ∙ ap (λ (q : List (Entry _)). r.0 ++ q) s.2 ∙ sym (append_assoc r.0 s.0 (s.1 ∷ [])) in
    let made = some.1 s.1 (s.0, s.2) in
    let none = none_left new (
      rw is (omega (arith, length-append (r.0 ++ s.0) (s.1 ∷ []))),
      rw is (ends_made (r.0 ++ s.0) s.1 made),
    ) in
    omega (arith, none, all_left old e last, ap length r.2, length-append r.0 (r.1 ∷ []))

-- the last entry is one of the queue
pub last_ok : {Set : Type 0} {v : View Set} {es : List (Entry Set)} {e : Entry Set} → IsQueue v es → IsLast es e → EntryOk v e
last_ok {v = v} {e = e} q last = (all_split (EntryOk v) last.0 (e ∷ []) (subst (λ (xs : List (Entry _)). AllByRecursion (EntryOk v) xs) last.1 q.each)).1.0

pub last_some : {Set : Type 0} {es : List (Entry Set)} {e : Entry Set} → IsLast es e → 0 < length es
last_some {e = e} last = omega (arith, ap length last.1, length-append last.0 (e ∷ []))

-- what is owed of a queue that stands for the same
module _ {Set : Type 0} {u v : View Set} (front back : Layers Set) (old new : List (Entry Set)) (hf : Held u front) (hb : Held u back)
    (af : AreEntriesApart old front) (ab : AreEntriesApart old back) (t : Trades u v (SetIn old) (SetIn new))
    (same : StandsForSame u v front old new) where
  mf : member_in v front ≡ member_in u front
  mf = member_same u v front hf (traded u v old new t front hf af)

  mb : member_in v back ≡ member_in u back
  mb = member_same u v back hb (traded u v old new t back hb ab)

  pub single_lawful : (listed : ℕ) (undrawn : Cut → Bool) → IsLawful u front back listed old undrawn → IsLawful v front back listed new undrawn
  single_lawful listed undrawn l = to_view u v front back t.system mf mb listed new undrawn
      (subst (λ (es : List PlainEntry). LawfulAt u front back old listed es undrawn) (sym same) l)

  pub single_owed : (listed : ℕ) (undrawn : Cut → Bool) (p : List ℕ) → IsOwed v front back listed new undrawn p
      ↔ IsOwed u front back listed old undrawn p
  single_owed listed undrawn p =
      let iff = owed_at u v front back t.system mf mb listed new undrawn p in
      subst (λ (es : List PlainEntry). IsOwed v front back listed new undrawn p ↔ OwedAt u front back old listed es undrawn p)
      same (iff.1, iff.0)

-- an engine with such a queue
module _ {Set P : Type 0} {v : View Set} {both : Both Set P} (agenda : Agenda Set) (z : IsWorking v both agenda)
    (some : 0 < length agenda.queue) where
  abbrev pub front : Layers Set
  front = front_layers both

  abbrev pub back : Layers Set
  back = back_layers both

  listing : (place : Place) → agenda.listed ≡ Some place → IsListing v (IsBeneath both) front back place agenda.queue
  listing place is = listing_some v (IsBeneath both) front back place agenda.queue some (rw is at z.at)

  not_none : agenda.listed ≡ None → ⊥
  not_none is =
      let at : IsAt v (IsBeneath both) front back None agenda.queue =
      subst (λ (l : Option Place). IsAt v (IsBeneath both) front back l agenda.queue) is z.at in
      omega (arith, some, ap length at)

  entries_apart : (listed : Option Place) → agenda.listed ≡ listed → (a : Set) → SetIn agenda.queue a → ¬ IsBeneath both a
  entries_apart None is a s = absurd (not_none is)
  entries_apart (Some place) is a s = (listing place is).apart a s

  pub front_apart : AreEntriesApart agenda.queue front
  front_apart a s k = entries_apart agenda.listed refl a s (keeps_ends both a (inl k))

  back_apart : AreEntriesApart agenda.queue back
  back_apart a s k = entries_apart agenda.listed refl a s (keeps_ends both a (inr k))

  module _ {w : View Set} (queue2 : List (Entry Set)) (t : Trades v w (SetIn agenda.queue) (SetIn queue2)) (q : IsQueue w queue2)
      (same : StandsForSame v w front agenda.queue queue2) where
    abbrev pub singled : Agenda Set
    singled = record agenda { queue = queue2 }

    ends : AreRightLayers v front back
    ends = right_ends v both z.stands

    by : (listed : Option Place) → agenda.listed ≡ listed → IsWorking w both singled × MovesAgenda v w both both agenda singled
    by None is = absurd (not_none is)
    by (Some place) is =
        let l = listing place is in
        let un = undrawn place.left place.after in
        let lawful = single_lawful front back agenda.queue queue2 ends.front_held ends.back_held front_apart back_apart t same
        place.cost un l.lawful in
        let right = right_there v w agenda.queue queue2 t back ends.back_held back_apart agenda.memo z.moves in
        let working = walked_working singled is z.stands l t q lawful right in (
          working,
          record {
            at = working.at;
            trades = trades_beside (IsOwnOf both) t (λ a u. (valid_ends v both z.stands a (owned_ends both a u), λ s. l.apart a s (owned_ends both a u)));
            owes = λ p. rw is (single_owed front back agenda.queue queue2 ends.front_held ends.back_held front_apart back_apart t
                same place.cost un p);
          },
        )

    pub single_working : IsWorking w both singled × MovesAgenda v w both both agenda singled
    single_working = by agenda.listed refl
