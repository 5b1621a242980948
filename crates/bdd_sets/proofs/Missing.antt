-- The operators all of whose facts occur miss none that leads.
use Rattle.std.proofs.Common.{◌≡◌, ◌⊎◌, ℕ, zero, suc, ◌+◌, ◌<◌, Bool, true, List, [], ◌∷◌, ◌++◌, length, take, get_or, Option, Some, None, IsSome, IsSomeAnd, unwrap_or, slice_get, inl, inr, refl, sym, ◌∙◌, ap, subst, arith}
use Rattle.std.proofs.lemmas.List.{take_more}
use Rattle.std.specs.List.{All, AllZip, Contains}
use Rattle.std.proofs.lemmas.List.Elements.{Contains-get_or}
use Rattle.std.proofs.lemmas.Slice.Zip.{AllZip-long}
use Rattle.std.proofs.lemmas.List.Sums.{list_all-from_AllPass}
use Rattle.std.proofs.lemmas.Option.{slice_get_within, slice_get_past, slice_get_cases, unwrap_or-slice_get, get_or_from_slice_get}
use Rattle.symk_task.specs.declared.parts.Fact.{Fact}
use Rattle.symk_task.specs.declared.parts.Variable.{Variable}
use Rattle.symk_task.specs.declared.parts.Operator.{Operator}
use Rattle.symk_task.specs.declared.parts.TaskParts.{TaskParts}
use Rattle.symk_task.specs.Variables.{IsBase, place}
use Rattle.bdd_table.specs.declared.node.Node.{Node}
use Rattle.bdd_table.specs.Diagram.{Bits}
use Rattle.var_order.specs.Layout.{Layout, IsOrderOf, slot_of}
use Rattle.var_order.specs.Codes.{value_at, IsCode, IsStateOf, IsInRange}
use Rattle.var_order.proofs.Laying.{laid_at}
use Rattle.var_order.proofs.Values.{base_slot}
use Rattle.bdd_sets.specs.Marks.{is_marked}
use Rattle.bdd_sets.specs.Occurs.{AreOccurring}
use Rattle.bdd_sets.specs.Placed.{IsPlaceOf, ArePlacesOf}
use Rattle.bdd_sets.specs.Steps.{IsAsked, IsLeft, AreFactsBy, AreWatched}
use Rattle.bdd_sets.specs.Leading.{AreChosen, MissNone, HasState, LeadsFrom, LeadsInto}
use Rattle.bdd_sets.proofs.StepLaws.{is_step, asked_before, left_after}

by_layer : (x : Option ℕ) → (x ≡ None) ⊎ IsSome x
by_layer None = inl refl
by_layer (Some y) = inr refl

-- what has no value in a state is no base variable
slot_or_base : (task : TaskParts) (o : Layout) (var : ℕ) → IsOrderOf task o → (slot_of o var ≡ None) ⊎ IsBase task var
slot_or_base task o var order = go (slice_get task.variables var) refl
  where
    past : slice_get task.variables var ≡ None → slot_of o var ≡ None
    past e = (
        let cases = slice_get_cases task.variables var in
        elim cases.1 [
          | inl some ↦ (let z : None ≡ Some some.0 = sym e ∙ some.2 in cc)
          | inr far ↦ (
              let lt = far.0 in
              let same = order.variables in
              sym (unwrap_or-slice_get o.slots var None) ∙ ap (λ (x : Option (Option ℕ)). unwrap_or x None)
              (slice_get_past o.slots var (omega (arith, lt, same))))
        ])

    go : (x : Option Variable) → slice_get task.variables var ≡ x → (slot_of o var ≡ None) ⊎ IsBase task var
    go None e = inl (past e)
    go (Some v) e = elim (by_layer v.layer) [
      | inl none ↦ inr (subst (λ (x : Option Variable). IsSomeAnd x (λ v. v.layer ≡ None)) (sym e) none)
      | inr some ↦ inl ((laid_at task o var v order e).derived some)
    ]

module _ (task : TaskParts) (o : Layout) (nodes : List Node) (set : ℕ) (starts : List ℕ) (marks : List Bool)
    (order : IsOrderOf task o) (occurs : AreOccurring o nodes set starts marks) where
  -- the bits of a state spell values in range
  in_range : (s : List ℕ) (b : Bits) → IsStateOf o s → IsCode o 0 s b → IsInRange o 0 b
  in_range s b state code slot lt = (let v = code.values slot lt in let range = state.in_range slot lt in omega (arith, v, range))

  none_some : (x : Option ℕ) (slot : ℕ) → x ≡ None → x ≡ Some slot → ⊥
  none_some x slot e f = cc

  same_slot : (x : Option ℕ) (a c : ℕ) → x ≡ Some a → x ≡ Some c → a ≡ c
  same_slot x a c e f = cc

  -- the place of a fact that holds in a state of the set is marked
  place_marked : (s : List ℕ) (f : Fact) (p : ℕ) → HasState o nodes set s
      → (IsBase task f.var → get_or s (place task f.var) 0 ≡ f.val) → IsPlaceOf o starts f p
      → is_marked marks p ≡ true
  place_marked s f p (state, (b, code, holds)) value at = elim (slot_or_base task o f.var order) [
    | inl none ↦ absurd (none_some (slot_of o f.var) at.slot none at.at)
    | inr base ↦ (
        let slot = at.slot in
        let same : slot ≡ place task f.var = same_slot (slot_of o f.var) slot (place task f.var) at.at (base_slot task o f.var order base) in
        let lt = order.layout.slots f.var slot at.at in
        let v : value_at o 0 b slot ≡ f.val = code.values slot lt ∙ ap (λ (k : ℕ). get_or s k 0) same ∙ value base in
        ap (is_marked marks) (at.is ∙ ap (λ (n : ℕ). get_or starts slot 0 + n) (sym v)) ∙ occurs.each b slot (in_range s b state code) holds lt at.some)
  ]

  module _ (Of : Operator → Fact → Type 0) (lists : List (List ℕ)) (watched : AreWatched o starts Of task.operators lists) where
    -- where the place of each fact of an operator is marked, it is chosen
    chosen_for : (ops : List ℕ) (op : ℕ) (x : Operator) → slice_get task.operators op ≡ Some x
        → ((f : Fact) (p : ℕ) → Of x f → IsPlaceOf o starts f p → is_marked marks p ≡ true)
        → AreChosen marks lists (length task.operators) ops → Contains ops op
    chosen_for ops op x is may c =
        let lt = slice_get_within task.operators op x is in
        let same : get_or task.operators op x ≡ x = get_or_from_slice_get task.operators op x x is in
        c.each op lt (list_all-from_AllPass (is_marked marks) (get_or lists op [])
        (λ k d less.
        let p = get_or (get_or lists op []) k d in
        let w = (watched.places op p x lt).0 (Contains-get_or (get_or lists op []) k d less) in
        may w.0 p (subst (λ (y : Operator). Of y w.0) same w.1) w.2))

    known : (ops : List ℕ) → AreChosen marks lists (length task.operators) ops → All (λ op. op < length task.operators) ops
    known ops c k d lt = (c.only k d lt).0

  pub from_missed : (lists : List (List ℕ)) (ops : List ℕ) → AreWatched o starts IsAsked task.operators lists
      → AreChosen marks lists (length task.operators) ops → MissNone (length task.operators)
      (LeadsFrom task o nodes set) ops
  from_missed lists ops watched c = record {
    rising = c.rising;
    known = known IsAsked lists watched ops c;
    all = λ op (s, t, leads, has). (
        let x = is_step task op s t leads in
        chosen_for IsAsked lists watched ops op x.operator x.is (λ f p asked. place_marked s f p has (asked_before task op s t x f asked)) c);
  }

  pub into_missed : (lists : List (List ℕ)) (ops : List ℕ) → AreWatched o starts IsLeft task.operators lists
      → AreChosen marks lists (length task.operators) ops → MissNone (length task.operators)
      (LeadsInto task o nodes set) ops
  into_missed lists ops watched c = record {
    rising = c.rising;
    known = known IsLeft lists watched ops c;
    all = λ op (s, t, leads, has). (
        let x = is_step task op s t leads in
        chosen_for IsLeft lists watched ops op x.operator x.is (λ f p left. place_marked t f p has (left_after task op s t x f left)) c);
  }

-- the places of the facts of operators
pub watched_of : (o : Layout) (starts : List ℕ) (Of : Operator → Fact → Type 0) (operators : List Operator)
    (lists : List (List Fact)) (all : List (List ℕ)) → AreFactsBy Of operators lists
    → AllZip (ArePlacesOf o starts) lists all → AreWatched o starts Of operators all
watched_of o starts Of operators lists all facts zip = record {
  each = AllZip-long (ArePlacesOf o starts) lists all zip ∙ facts.each;
  places = λ op p d lt. (
      let less : op < length lists = (let e = facts.each in omega (arith, lt, e)) in
      let at = zip_at op less p in (
        (λ h. let w = at.0 h in (w.0, (facts.facts op d w.0 lt).0 w.1, w.2)),
        (λ w. at.1 (w.0, (facts.facts op d w.0 lt).1 w.1, w.2)),
      ));
}
  where
    zip_at : (op : ℕ) → op < length lists → ArePlacesOf o starts (get_or lists op []) (get_or all op [])
    zip_at op less = at_of lists all op zip less
      where
        at_of : (xs : List (List Fact)) (ys : List (List ℕ)) (i : ℕ) → AllZip (ArePlacesOf o starts) xs ys
            → i < length xs → ArePlacesOf o starts (get_or xs i []) (get_or ys i [])
        at_of [] ys i z lt = absurd (omega (arith, lt))
        at_of (x ∷ xs) [] i z lt = absurd z
        at_of (x ∷ xs) (y ∷ ys) zero z lt = z.0
        at_of (x ∷ xs) (y ∷ ys) (suc i) z lt = at_of xs ys i z.1 (omega (arith, lt))

-- one list more
zip_push : {A B : Type 0} (R : A → B → Type 0) (xs : List A) (ys : List B) (x : A) (y : B) → AllZip R xs ys → R x y → AllZip R (xs ++ x ∷ []) (ys ++ y ∷ [])
zip_push R [] [] x y z r = (r, z)
zip_push R [] (b ∷ ys) x y z r = absurd z
zip_push R (a ∷ xs) [] x y z r = absurd z
zip_push R (a ∷ xs) (b ∷ ys) x y z r = (z.0, zip_push R xs ys x y z.1 r)

pub zip_more : (o : Layout) (starts : List ℕ) (lists : List (List Fact)) (all : List (List ℕ)) (i : ℕ)
    (facts : List Fact) (places : List ℕ) → i < length lists → facts ≡ get_or lists i facts
    → AllZip (ArePlacesOf o starts) (take i lists) all → ArePlacesOf o starts facts places
    → AllZip (ArePlacesOf o starts) (take (i + 1) lists) (all ++ places ∷ [])
zip_more o starts lists all i facts places lt is z r =
    subst (λ (xs : List (List Fact)). AllZip (ArePlacesOf o starts) xs (all ++ places ∷ []))
    (sym (take_more lists i facts lt ∙ ap (λ (x : List Fact). take i lists ++ (x ∷ [])) (sym is)))
    (zip_push (ArePlacesOf o starts) (take i lists) all facts places z r)
