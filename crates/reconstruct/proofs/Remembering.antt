-- What is remembered, place by place.
use Rattle.std.proofs.Common.{◌≡◌, ℕ, ◌<◌, ◌⊎◌, inl, inr, Bool, List, [], ◌∷◌, ◌++◌, length, get_or, Option, Some, None, refl, sym, ◌∙◌, ap, subst}
use Rattle.std.specs.List.{All, Contains}
use Rattle.std.proofs.lemmas.List.Elements.{All-set, All-contains, All-weaker, All-contains_itself, Contains-append_left, Contains-append_right, Contains-push}
use Rattle.std.proofs.Math.ListN.{set}
use Rattle.task_system.specs.System.{State}
use Rattle.space_api.specs.View.{View}
use Rattle.cost_layers.specs.declared.layers.Layers.{Layers}
use Rattle.reconstruct.specs.Moves.{AreSuccessors}
use Rattle.reconstruct.specs.Expansions.{Remembers, RemembersNone, Forgets, RemembersToo, RemembersFrom, IsAmongPlaces, AreRightExpansions}
use Rattle.reconstruct.specs.declared.moves.Move.{Move}
use Rattle.reconstruct.specs.declared.expansions.Expansion.{Expansion}
use Rattle.reconstruct.specs.declared.expansions.Expansions.{Expansions}

none_some : {A : Type 0} (x : A) → Some x ≡ None → ⊥
none_some x e = cc

some_one : {A : Type 0} (x y : A) → Some x ≡ Some y → x ≡ y
some_one x y e = cc

-- a place that isn't empty
pub place_has : (os : List (Option Expansion)) (i : ℕ) (o : Option Expansion) (e : Expansion) → i < length os
    → o ≡ get_or os i o → o ≡ Some e → Contains os (Some e)
place_has os i o e lt at is = (i, lt, subst (λ (q : Option Expansion). get_or os i q ≡ q) is (sym at))

-- an expansion was put at a place
put_in : (os : List (Option Expansion)) (i : ℕ) (e e2 : Expansion) → Contains (set os i (Some e)) (Some e2) → Contains os (Some e2) ⊎ (Some e ≡ Some e2)
put_in os i e e2 h =
    All-contains (λ o. Contains os o ⊎ (Some e ≡ o)) (set os i (Some e)) (Some e2)
    (All-set (λ o. Contains os o ⊎ (Some e ≡ o)) os i (Some e) (inr refl)
    (All-weaker (Contains os) (λ o. Contains os o ⊎ (Some e ≡ o)) (λ o c. inl c) os (All-contains_itself os))) h

pub puts_place : (x : Expansions) (os : List (Option Expansion)) (i : ℕ) (e : Expansion)
    → os ≡ set x.places.items i (Some e) → (cost : ℕ) (s : State) (moves : List Move) (ends : Bool)
    → IsAmongPlaces os cost s moves ends → Remembers x cost s moves ends
    ⊎ ((e.cost ≡ cost) × (e.state ≡ s) × (e.moves.items ≡ moves) × (e.ends ≡ ends))
puts_place x os i e is cost s moves ends r =
    elim (put_in x.places.items i e r.0 (subst (λ (ps : List (Option Expansion)). Contains ps (Some r.0)) is r.1)) [
      | inl old ↦ inl (r.0, old, r.2, r.3, r.4, r.5)
      | inr same ↦ (let one : e ≡ r.0 = some_one e r.0 same in
          inr (
            ap (λ (q : Expansion). q.cost) one ∙ r.2,
            ap (λ (q : Expansion). q.state) one
                ∙ r.3,
            ap (λ (q : Expansion). q.moves.items) one ∙ r.4,
            ap (λ (q : Expansion). q.ends) one ∙ r.5,
          ))
    ]

-- expansions that are put back one by one, the last first: those so far, and those that are left
pub record PutsBack (x z : Expansions) (places left : List (Option Expansion)) : Type 0 where
  pub from : RemembersFrom x z places
  pub within : (o : Option Expansion) → Contains left o → Contains places o

pub back_first : (x : Expansions) (places : List (Option Expansion)) → PutsBack x x places places
back_first x places = record { from = λ cost s moves ends r. inl r; within = λ o h. h }

pub back_next : (x y z : Expansions) (places left left2 : List (Option Expansion)) (place : Option Expansion)
    → left ≡ left2 ++ place ∷ [] → PutsBack x y places left → RemembersFrom y z (place ∷ [])
    → PutsBack x z places left2
back_next x y z places left left2 place is b put = record {
  from = λ cost s moves ends r. elim (put cost s moves ends r) [
    | inl old ↦ b.from cost s moves ends old
    | inr one ↦ inr (
      one.0,
      b.within (Some one.0) (subst (λ (os : List (Option Expansion)). Contains os (Some one.0))
          (sym is) (Contains-append_right left2 (place ∷ []) (Some one.0) one.1)),
      one.2,
      one.3,
      one.4,
      one.5,
    )
  ];
  within = λ o h. b.within o (subst (λ (os : List (Option Expansion)). Contains os o) (sym is) (Contains-append_left left2 (place ∷ []) o h));
}

pub back_all : (x z : Expansions) (places left : List (Option Expansion)) → PutsBack x z places left → RemembersFrom x z places
back_all x z places left b = b.from

-- the one place has the expansion
pub one_from : (x z : Expansions) (e : Expansion) (place : Option Expansion) → place ≡ Some e
    → RemembersToo x z e.cost e.state e.moves.items e.ends → RemembersFrom x z (place ∷ [])
one_from x z e place is too cost s moves ends r = elim (too cost s moves ends r) [
  | inl old ↦ inl old
  | inr new ↦ inr (e, subst (λ (o : Option Expansion). Contains (o ∷ []) (Some e)) (sym is) (Contains-push [] (Some e)), new.0, new.1, new.2, new.3)
]

-- the places were empty, and what they had before was put back
pub moved_from : (x y z : Expansions) (places : List (Option Expansion)) → places ≡ x.places.items
    → All (λ o. o ≡ None) y.places.items → RemembersFrom y z places → Forgets x z
moved_from x y z places same empty from cost s moves ends r = elim (from cost s moves ends r) [
  | inl old ↦ absurd (none_some old.0 (All-contains (λ o. o ≡ None) y.places.items (Some old.0) empty old.1))
  | inr among ↦ (among.0, subst (λ (os : List (Option Expansion)). Contains os (Some among.0)) same among.1, among.2, among.3, among.4, among.5)
]

pub then_put : (x y z : Expansions) (cost : ℕ) (s : State) (moves : List Move) (ends : Bool) → Forgets x y
    → RemembersToo y z cost s moves ends → RemembersToo x z cost s moves ends
then_put x y z cost s moves ends f too cost2 s2 moves2 ends2 r =
    elim (too cost2 s2 moves2 ends2 r) [ inl old ↦ inl (f cost2 s2 moves2 ends2 old) | inr new ↦ inr new ]

-- what is remembered stays right
pub right_empty : {Set : Type 0} (v : View Set) (back : Layers Set) (x : Expansions) → RemembersNone x → AreRightExpansions v back x
right_empty v back x none cost s moves ends r = absurd (none cost s moves ends r)

pub right_too : {Set : Type 0} (v : View Set) (back : Layers Set) (x z : Expansions) (cost : ℕ) (s : State)
    (moves : List Move) (ends : Bool) → AreRightExpansions v back x → AreSuccessors v back cost s moves ends
    → RemembersToo x z cost s moves ends → AreRightExpansions v back z
right_too v back x z cost s moves ends right all too cost2 s2 moves2 ends2 r =
    elim (too cost2 s2 moves2 ends2 r) [
      | inl old ↦ right cost2 s2 moves2 ends2 old
      | inr new ↦ rw
          (sym new.0, sym new.1, sym new.2, sym new.3) all
    ]
