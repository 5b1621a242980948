-- A prefix whose children are found one after the other: what stands for them before and after.
use Rattle.std.proofs.Common.{◌≡◌, ℕ, zero, suc, ◌-◌, ◌<◌, ◌≤◌, inl, inr, Bool, true, false, IsFalse, List, [], ◌∷◌, ◌++◌, take, slice_index, get_or, length, length-append, append-nil, Option, Some, None, IfSome, Result, Ok, Err, IfOk, OnOk, refl, sym, ◌∙◌, ap, subst, arith, add-one}
use Rattle.std.specs.List.{All}
use Rattle.std.proofs.lemmas.List.Elements.{All-take}
use Rattle.task_system.specs.System.{State, System, Listed}
use Rattle.space_api.specs.View.{View, Valid, HasMember}
use Rattle.space_api.specs.Frames.{Kept, Stays}
use Rattle.space_api.specs.Listing.{ListsReached}
use Rattle.space_api.specs.Operators.{LeadInto}
use Rattle.space_api.specs.Costs.{costs_of}
use Rattle.space_api.proofs.CostList.{are_costs}
use Rattle.std.specs.List.Sorted.{IsStrictlyIncreasing}
use Rattle.space_api.proofs.Keeping.{kept_refl, kept_trans}
use Rattle.cost_layers.specs.Layers.{union_at, Held}
use Rattle.cost_layers.specs.declared.layers.Layers.{Layers}
use Rattle.plan_cuts.specs.Entries.{PlainEntry, Head, into}
use Rattle.plan_cuts.proofs.Adding.{gathered}
use Rattle.reconstruct.specs.Entries.{as_plain_entry, plains_of, plains, children_by, child_by, EntryOk, LeadOn, IsSingle, MakesEntries, member_in}
use Rattle.reconstruct.specs.Ways.{IsNewSet, FoundBefore, IsWay, IsLayerTo}
use Rattle.reconstruct.specs.Grown.{GathersBefore}
use Rattle.plan_cuts.specs.Growing.{Gathered}
use Rattle.reconstruct.specs.Turned.{EndsSingle, HasSingle}
use Rattle.reconstruct.specs.Going.{HasMore}
use Rattle.reconstruct.specs.Listing.{PutsOne}
use Rattle.reconstruct.specs.declared.drawing.Place.{Place}
use Rattle.reconstruct.specs.declared.drawing.Drawn.{Drawn}
use Rattle.reconstruct.specs.Parts.{CostsSome, IsPartialOf, before_by, FindsChild, children_left, FindsLast, GrownFirst, PartsInto, ArePartsOf}
use Rattle.reconstruct.specs.declared.entries.Prefix.{Prefix}
use Rattle.reconstruct.specs.declared.entries.Partial.{Partial as PartialPrefix}
use Rattle.reconstruct.specs.declared.entries.Entry.{Entry}
use Rattle.reconstruct.specs.declared.entries.Entry.TheVariants.{Before, Partial}
use Rattle.reconstruct.specs.declared.partial.Found.{Found}
use Rattle.reconstruct.specs.declared.ways.Way.{Way}
use Rattle.reconstruct.proofs.Sets.{makes_first, makes_last, new_before, new_partial, lead_same}
use Rattle.reconstruct.proofs.Kept.{member_kept}
use Rattle.reconstruct.proofs.Barren.{off_by}
use Rattle.reconstruct.proofs.Leading.{misses_none}
use Rattle.reconstruct.proofs.Adding.{only_within, none_nowhere}
use Rattle.reconstruct.proofs.OneChild.{leads_on, has}
use Rattle.reconstruct.proofs.Turning.{same_last}
use Rattle.reconstruct.proofs.ChildrenBy.{children_append, no_child_by, one_child_by, children_sofar}

nothing_made : {Set : Type 0} (u : View Set) → MakesEntries u u []
nothing_made u = record { kept = kept_refl u; each = tt; distinct = tt; fresh = λ a h. absurd h; only = λ a h. inr h }

-- the prefix with a set of its own
module _ {Set : Type 0} {v w : View Set} {e : Prefix Set} {left : List ℕ} (c : PartialPrefix Set) (k : Kept v w)
    (p : IsPartialOf v w e left c) (ok : EntryOk v (Before e)) (known : All (λ n. n < v.system.operators) left) where
  pub partial_ok : EntryOk w (Partial c)
  partial_ok = (
    p.new.valid,
    rw p.operators_are (λ s h. let r = ok.1 s (sym (p.same s) ∙ h) in (r.0, rw k.system r.1)),
    rw (p.left_are, k.system) known,
  )

  pub partial_made : MakesEntries v w (Partial c ∷ [])
  partial_made = makes_last v v w [] [] (Partial c) (nothing_made v) k (new_partial v w c p.new) partial_ok

  pub partial_stands : (fr : ℕ → State → Bool) → plains_of w fr (Partial c)
      ≡ children_by v.system fr (v.has e.set) e.cost e.operators.items e.after left
  partial_stands fr = λ i. children_by (k.system i) fr (λ s. p.same s i) (p.cost_is i) (p.operators_are i) (p.after_is i) (p.left_are i)

-- a set that is new after a call that left all sets is new
new_earlier : {Set : Type 0} {u v w : View Set} {a : Set} → Stays u v → IsNewSet v w a → IsNewSet u w a
new_earlier {u = u} {v = v} {w = w} {a = a} s n = record {
  fresh = by (u.valid a) refl;
  valid = n.valid;
  only = λ b h. elim (n.only b h) [ inl o ↦ inl (s.only b o) | inr is ↦ inr is ];
}
  where
    differ : (x : Bool) → x ≡ true → x ≡ false → ⊥
    differ x h k = cc

    by : (b : Bool) → u.valid a ≡ b → IsFalse b
    by true is = absurd (differ (v.valid a) (s.kept.valid a is) n.fresh)
    by false is = refl

pub partial_earlier : {Set : Type 0} {u v w : View Set} {e : Prefix Set} {left : List ℕ} {c : PartialPrefix Set} → Stays u v
    → Valid u e.set → IsPartialOf v w e left c → IsPartialOf u w e left c
partial_earlier {e = e} s valid p = record {
  new = new_earlier s p.new;
  same = λ t. p.same t ∙ s.kept.same e.set valid t;
  cost_is = p.cost_is;
  operators_are = p.operators_are;
  after_is = p.after_is;
  left_are = p.left_are;
}

-- it stands for all children, where each operator costs something
pub partial_gathers : {Set : Type 0} {v w : View Set} {front : Layers Set} {e : Prefix Set} {ops : List ℕ}
    (c : PartialPrefix Set) → Kept v w → IsPartialOf v w e ops c → EntryOk v (Before e) → LeadInto v e.set ops
    → ListsReached v.system → CostsSome v.system → GathersBefore v w front e [] (Partial c ∷ [])
partial_gathers {v = v} {w = w} {front = front} {e = e} {ops = ops} c k p ok lead lists costs back held f b listed ready =
    let y = v.system in
    let fr = member_in v front in
    let bk = member_in v back in
    let sofar = children_sofar y fr bk (v.has e.set) e.cost e.ring e.after e.operators.items ops f b lists costs
    ready.sides.tables ready.stands.4 lead.known in
    let all = gathered y fr bk (as_plain_entry v (Before e)) ops [] _ (misses_none v front back f b listed e ops ok lead ready) sofar in
    let is = append-nil (plains_of w fr (Partial c)) ∙ partial_stands c k p ok lead.known fr in
    subst (λ (es : List PlainEntry). Gathered y fr bk (as_plain_entry v (Before e)) [] es) (sym is) all

-- the child by one operator
module _ {Set : Type 0} {v w : View Set} (front : Layers Set) (e : Prefix Set) (op : ℕ) (number : op < v.system.operators)
    (ok : EntryOk v (Before e)) where
  pub no_layer_finds : (way : Way Set) → way.cost ≡ v.system.cost op → IsWay front e.cost way → way.layer ≡ None
      → Stays v w → FindsChild v w front e op None
  no_layer_finds way cost is none stays = (
    stays,
    off_by v front front op number e (none_nowhere v front front (Before e) op [] [] way.cost cost
        (subst (λ (o : Option Set). IsLayerTo front e.cost way.cost o) none is)),
  )

  pub finds : (way : Way Set) → way.cost ≡ v.system.cost op → IsWay front e.cost way → (within : Set)
      → way.layer ≡ Some within → Held v front → Kept v w → (o : Option Set) → FoundBefore v w e op within o
      → IfSome o (HasMember w) → FindsChild v w front e op o
  finds way cost is within some held k None found member =
      let to = subst (λ (o : Option Set). IsLayerTo front e.cost way.cost o) some is in (
        found.0,
        off_by v front front op number e (only_within v front front (Before e) op [] [] within way.cost cost to.1 found.1),
      )
  finds way cost is within some held k (Some a) found member =
      let to = subst (λ (o : Option Set). IsLayerTo front e.cost way.cost o) some is in
      let le : v.system.cost op ≤ e.cost = omega (arith, cost, to.0) in
      let at : union_at front (e.cost - v.system.cost op) ≡ Some within =
      subst (λ (n : ℕ). union_at front (e.cost - n) ≡ Some within) cost to.1 in (
        found.new,
        member,
        leads_on number k (kept_refl w) front ok le at held found,
        le,
        has number k (kept_refl w) front ok le at held found,
      )

pub finds_of : {X E : Type 0} {P Q R : X → Type 0} (r : Result X E) → ((x : X) → P x → Q x → R x) → IfOk r P → IfOk r Q → IfOk r R
finds_of (Ok x) f p q = f x p q
finds_of (Err e) f p q = tt

-- the last child, where those by the operators after it were looked for
module _ {Set : Type 0} {u v : View Set} (front : Layers Set) (e : Prefix Set) (held : Held u front) (ok : EntryOk u (Before e))
    (s : Stays u v) where
  same_before : (op : ℕ) → before_by v front e op ≡ before_by u front e op
  same_before op = λ i. into (s.kept.system i) (member_kept u v s.kept front held i) (λ t. s.kept.same e.set ok.0 t i) e.cost op

  pub earlier : (w : View Set) (op : ℕ) (o : Option Set) → FindsChild v w front e op o → FindsChild u w front e op o
  earlier w op None f = (
    record { kept = kept_trans s.kept f.0.kept; only = λ a h. s.only a (f.0.only a h) },
    (λ t. sym (ap (λ (g : State → Bool). g t) (same_before op)) ∙ f.1 t),
  )
  earlier w op (Some a) f = (
    new_earlier s f.0,
    f.1,
    f.2,
    subst (λ (y : System). y.cost op ≤ e.cost) s.kept.system f.3,
    (λ t. f.4 t ∙ ap (λ (g : State → Bool). g t) (same_before op)),
  )

-- operators left, and the last of them
module _ {Set : Type 0} (v : View Set) (front : Layers Set) (e : Prefix Set) where
  abbrev last_by : ℕ → List PlainEntry
  last_by op = child_by v.system (member_in v front) (v.has e.set) e.cost e.operators.items e.after op

  pub left_split : (left before : List ℕ) (op : ℕ) → left ≡ before ++ op ∷ []
      → children_left v front e left ≡ children_left v front e before ++ last_by op
  left_split left before op is = ap (children_left v front e) is
      ∙ children_append v.system (member_in v front) (v.has e.set) e.cost e.after e.operators.items before (op ∷ [])
      ∙ ap (λ (q : List PlainEntry). children_left v front e before ++ q) (append-nil (last_by op))

  pub left_shorter : (left before : List ℕ) (op : ℕ) → left ≡ before ++ op ∷ [] → ((s : State) → before_by v front e op s ≡ false)
      → children_left v front e left ≡ children_left v front e before
  left_shorter left before op is off = left_split left before op is
      ∙ ap (λ (q : List PlainEntry). children_left v front e before ++ q)
      (no_child_by v.system (member_in v front) (v.has e.set) e.cost e.after e.operators.items op off)
      ∙ append-nil (children_left v front e before)

-- the beginning of a list
pub part_take : (all left before : List ℕ) (op : ℕ) → take (length left) all ≡ left → left ≡ before ++ op ∷ []
    → take (length before) all ≡ before
part_take all left before op part is = take_less (length before) (length left) all (omega (arith, ap length is, length-append before (op ∷ [])))
    ∙ ap (take (length before)) (part ∙ is) ∙ take_front before (op ∷ [])
  where
    take_less : (m n : ℕ) (xs : List ℕ) → m ≤ n → take m xs ≡ take m (take n xs)
    take_less zero n xs h = refl
    take_less (suc m) zero xs h = absurd (omega (arith, h))
    take_less (suc m) (suc n) [] h = refl
    take_less (suc m) (suc n) (x ∷ xs) h = ap (λ (q : List ℕ). x ∷ q) (take_less m n xs (omega (arith, h)))

    take_front : (xs ys : List ℕ) → take (length xs) (xs ++ ys) ≡ xs
    take_front [] ys = refl
    take_front (x ∷ xs) ys = ap (λ (q : List ℕ). x ∷ q) (take_front xs ys)

pub known_last : (P : ℕ → Type 0) (all left before : List ℕ) (op : ℕ) → All P all → take (length left) all ≡ left
    → left ≡ before ++ op ∷ [] → P op
known_last P all left before op known part is =
    let some : All P (before ++ op ∷ []) = subst (All P) (part ∙ is) (All-take P (length left) all known) in
    subst P (at_end before) (some (length before) 0 (omega (arith, length-append before (op ∷ []))))
  where
    at_end : (xs : List ℕ) → get_or (xs ++ op ∷ []) (length xs) 0 ≡ op
    at_end [] = refl
    at_end (x ∷ xs) = at_end xs

pub ends_made : {Set : Type 0} (others : List (Entry Set)) (e : Entry Set) → IsSingle e → EndsSingle (others ++ e ∷ [])
ends_made others e made x last = subst (λ (z : Entry _). IsSingle z) (sym (same_last (others ++ e ∷ []) others x e last refl)) made

pub one_made : {Set : Type 0} {queue : List (Entry Set)} (e : Entry Set) → queue ≡ e ∷ [] → IsSingle e → HasSingle queue
one_made e is made = rw is (omega arith, ends_made [] e made)

-- an entry was put, or none is left
pub put_more : {Set E : Type 0} (v w : View Set) (place place2 : Place) (queue : List (Entry Set)) (d : Drawn Set)
    (r : Result (Unit {0}) E) → OnOk r (PutsOne v w place place2 queue d) → IsSingle d.entry → OnOk r (HasMore queue (Some place2))
put_more v w place place2 queue d (Ok x) put made = inl (one_made d.entry put.queue made)
put_more v w place place2 queue d (Err x) put made = tt

-- a queue that isn't empty
pub more_made : {Set : Type 0} {queue : List (Entry Set)} (listed : Option Place) → 0 < length queue → HasMore queue listed → HasSingle queue
more_made listed some (inl made) = made
more_made listed some (inr none) = absurd (omega (arith, some, ap length none.0))

pub ends_none : {Set : Type 0} → EndsSingle {Set = Set} []
ends_none x last = absurd (omega (arith, ap length last.1, length-append last.0 (x ∷ [])))

-- what was found stands for the same
module _ {Set : Type 0} {u v : View Set} (front : Layers Set) (e : PartialPrefix Set) (ok : EntryOk u (Partial e)) where
  pub none_parts : FindsLast u v front e None → ArePartsOf u v front e []
  none_parts f = (
    record { kept = f.0.kept; each = tt; distinct = tt; fresh = λ a h. absurd h; only = λ a h. inr (f.0.only a h) },
    sym f.1,
    inl refl,
  )

  module _ {w : View Set} (d : Found Set) (f : FindsLast u v front e (Some d)) (k : Kept u v) (k2 : Kept v w) (es : List (Entry Set))
      (p : PartsInto v w e d.set d.op d.before es) where
    abbrev r : PartialPrefix Set
    r = p.0

    abbrev c : Prefix Set
    c = p.1

    abbrev g : GrownFirst v e.prefix d.op d.set c
    g = p.3

    child_ok : EntryOk v (Before c)
    child_ok = (
      subst (λ (z : Set). Valid v z) (sym g.set_is) f.0.0.valid,
      subst (λ (z : List ℕ). LeadOn v c.set z) (sym g.operators_are)
          (subst (λ (z : Set). LeadOn v z (d.op ∷ e.prefix.operators.items)) (sym g.set_is) f.0.2),
    )

    child_made : MakesEntries u v (Before c ∷ [])
    child_made = makes_last u u v [] [] (Before c) (nothing_made u) k
        (new_before u v c (subst (λ (z : Set). IsNewSet u v z) (sym g.set_is) f.0.0)) child_ok

    prefix_ok : EntryOk v (Before e.prefix)
    prefix_ok = (k.valid e.prefix.set ok.0, lead_same u v e.prefix.set e.prefix.operators.items k.system (λ s. k.same e.prefix.set ok.0 s) ok.1)

    left_known : All (λ n. n < v.system.operators) (take d.before e.left.items)
    left_known = rw k.system (All-take (λ n. n < u.system.operators) d.before e.left.items ok.2)

    pub some_parts : ArePartsOf u w front e es
    some_parts =
        let fr = member_in u front in
        let set_same : (s : State) → w.has c.set s ≡ before_by u front e.prefix d.op s =
        λ s. rw g.set_is (k2.same d.set f.0.0.valid s ∙ f.0.4 s) in
        let there = f.0.1 in
        let one = one_child_by u.system fr (u.has e.prefix.set) e.prefix.cost e.prefix.after e.prefix.operators.items d.op
        (w.has c.set) set_same there.0 (subst (λ (y : System). Listed y.states there.0) k.system there.1)
        (rw g.set_is (k2.same d.set f.0.0.valid there.0 ∙ there.2)) in
        let cost : c.cost ≡ e.prefix.cost - u.system.cost d.op = g.cost_is ∙ ap (λ (y : System). e.prefix.cost - y.cost d.op) k.system in
        let child : as_plain_entry w (Before c) ≡ Head (w.has c.set) (e.prefix.cost - u.system.cost d.op) 0
        (d.op ∷ e.prefix.operators.items) e.prefix.after =
        λ i. Head (w.has c.set) (cost i) (g.ring_is i) (g.operators_are i) (g.after_is i) in
        let rest = partial_stands r k2 p.2 prefix_ok left_known fr in
        let old : children_by v.system fr (v.has e.prefix.set) e.prefix.cost e.prefix.operators.items e.prefix.after
        (take d.before e.left.items) ≡ children_left u front e.prefix (take d.before e.left.items) =
        λ i. children_by (k.system i) fr (λ s. k.same e.prefix.set ok.0 s i) e.prefix.cost e.prefix.operators.items
        e.prefix.after (take d.before e.left.items) in
        let all : plains w fr (Partial r ∷ Before c ∷ []) ≡ plains_of u fr (Partial e) =
        (λ i. (rest ∙ old) i ++ child i ∷ [])
        ∙ ap (λ (q : List PlainEntry). children_left u front e.prefix (take d.before e.left.items) ++ q) (sym one)
        ∙ sym f.3 in (
          rw p.4 (makes_first u v w [] (Before c ∷ []) (Partial r) child_made k2
              (new_partial v w r p.2.new) (partial_ok r k2 p.2 prefix_ok left_known)),
          rw p.4 all,
          inr (rw p.4 (omega arith), rw p.4 (ends_made (Partial r ∷ []) (Before c) tt)),
        )

-- each cost is at least the first one
pub costs_some : (y : System) (least : ℕ) → least ≡ slice_index (costs_of y) 0 → 0 < least → CostsSome y
costs_some y least is some k lt =
    let costs = are_costs y in
    let at = costs.all k lt in
    omega (arith, first_least (costs_of y) at.0 (costs.rising) at.1, is, some, at.2)
  where
    first_least : (xs : List ℕ) (i : ℕ) → IsStrictlyIncreasing xs → i < length xs → slice_index xs 0 ≤ slice_index xs i
    first_least xs zero rises lt = omega arith
    first_least xs (suc i) rises lt = omega (arith, first_least xs i rises (omega arith), simp add-one at (rises i (omega arith)))
