-- What leads on from a state, found operator by operator, and the children by it.
use Rattle.std.proofs.Common.{◌≡◌, ℕ, ◌+◌, ◌-◌, ◌^◌, ◌<◌, ◌≤◌, ◌⊎◌, inl, inr, List, [], ◌∷◌, ◌++◌, length, length-append, zero, suc, get_or, Option, Some, None, refl, sym, ◌∙◌, ap, subst, arith}
use Rattle.std.specs.List.{All, Contains}
use Rattle.std.specs.List.Sorted.{IsStrictlyIncreasing}
use Rattle.std.specs.Option.{option_to_list}
use Rattle.std.proofs.lemmas.List.{append-nil, map-append, length-map, get_or-map}
use Rattle.std.proofs.lemmas.List.Elements.{All-push, All-weaker, All-map, Contains-append_left, Contains-push}
use Rattle.task_system.specs.System.{State, Leads}
use Rattle.space_api.specs.View.{View}
use Rattle.cost_layers.specs.declared.layers.Layers.{Layers}
use Rattle.plan_cuts.specs.Growing.{MissesNone}
use Rattle.reconstruct.specs.Entries.{as_plain_entry, EntryOk, member_in, Ready}
use Rattle.reconstruct.specs.Ways.{IsFirstRing, JoinsEntry}
use Rattle.reconstruct.specs.Moves.{LeadsNotOn, IsMove, FoundMove, ops_of, AreMoves}
use Rattle.reconstruct.specs.Grown.{PutsBy, PutsAfter, MakesOn, AddsChild}
use Rattle.reconstruct.specs.declared.moves.Move.{Move}
use Rattle.reconstruct.specs.declared.entries.Suffix.{Suffix}
use Rattle.reconstruct.specs.declared.entries.Entry.{Entry}
use Rattle.reconstruct.specs.declared.entries.Entry.TheVariants.{After}
use Rattle.reconstruct.proofs.Barren.{no_child}
use Rattle.reconstruct.proofs.Adding.{after_made, after_added}

-- the last of a longer list
at_end : (xs : List ℕ) (x d i : ℕ) → i ≡ length xs → get_or (xs ++ x ∷ []) i d ≡ x
at_end [] x d zero e = refl
at_end [] x d (suc i) e = absurd (omega (arith, e))
at_end (y ∷ xs) x d zero e = absurd (omega (arith, e))
at_end (y ∷ xs) x d (suc i) e = at_end xs x d i (omega (arith, e))

at_front : (xs : List ℕ) (x d i : ℕ) → i < length xs → get_or (xs ++ x ∷ []) i d ≡ get_or xs i d
at_front [] x d i lt = absurd (omega (arith, lt))
at_front (y ∷ xs) x d zero lt = refl
at_front (y ∷ xs) x d (suc i) lt = at_front xs x d i (omega (arith, lt))

last_or : (i n : ℕ) → i < n + 1 → (i < n) ⊎ (i ≡ n)
last_or i n h = grind arith

rising_push : (xs : List ℕ) (n : ℕ) → IsStrictlyIncreasing xs → All (λ k. k < n) xs → IsStrictlyIncreasing (xs ++ n ∷ [])
rising_push xs n rising below i lt = elim (last_or (i + 1) (length xs) (omega (arith, lt, length-append xs (n ∷ [])))) [
  | inl less ↦ let r = rising i less in omega (arith, r, at_front xs n 0 i (omega (arith, less)), at_front xs n 0 (i + 1) less)
  | inr e ↦ let b = below i 0 (omega (arith, e)) in omega (arith, b, at_front xs n 0 i (omega (arith, e)), at_end xs n 0 (i + 1) e)
]

-- all moves by the first operators
pub record MovesBelow {Set : Type 0} (v : View Set) (back : Layers Set) (cost : ℕ) (s : State) (n : ℕ) (moves : List Move) : Type 0 where
  pub rising : IsStrictlyIncreasing (ops_of moves)
  pub each : All (IsMove v back cost s) moves
  pub below : All (λ k. k < n) (ops_of moves)
  pub others : (op : ℕ) → op < n → ¬ Contains (ops_of moves) op → LeadsNotOn v back cost s op

module _ {Set : Type 0} (v : View Set) (back : Layers Set) (cost : ℕ) (s : State) where
  pub moves_none : (moves : List Move) → moves ≡ [] → MovesBelow v back cost s 0 moves
  moves_none moves e = subst (λ (ms : List Move). MovesBelow v back cost s 0 ms) (sym e) (record {
    rising = λ i lt. absurd (omega (arith, lt));
    each = λ i d lt. absurd (omega (arith, lt));
    below = λ i d lt. absurd (omega (arith, lt));
    others = λ op lt missing. absurd (omega (arith, lt));
  })

  module _ (n : ℕ) (moves : List Move) (b : MovesBelow v back cost s n moves) where
    same_next : LeadsNotOn v back cost s n → MovesBelow v back cost s (n + 1) moves
    same_next none = record {
      rising = b.rising;
      each = b.each;
      below = All-weaker (λ k. k < n) (λ k. k < n + 1) (λ k lt. omega (arith, lt)) (ops_of moves) b.below;
      others = λ op lt missing. elim (last_or op n lt) [
        | inl less ↦ b.others op less missing
        | inr e ↦ subst
            (λ (k : ℕ). LeadsNotOn v back cost s k) (sym e) none
      ];
    }

    more_next : (m : Move) → m.op ≡ n → IsMove v back cost s m → MovesBelow v back cost s (n + 1) (moves ++ m ∷ [])
    more_next m is move =
        let ops : ops_of (moves ++ m ∷ []) ≡ ops_of moves ++ n ∷ [] = map-append (λ (z : Move). z.op) moves (m ∷ [])
        ∙ ap (λ (k : ℕ). ops_of moves ++ k ∷ []) is in
        record {
          rising = subst (λ (ks : List ℕ). IsStrictlyIncreasing ks) (sym ops) (rising_push (ops_of moves) n b.rising b.below);
          each = All-push (IsMove v back cost s) moves m b.each move;
          below = subst (λ (ks : List ℕ). All (λ k. k < n + 1) ks) (sym ops)
              (All-push (λ k. k < n + 1) (ops_of moves) n (All-weaker (λ k. k < n) (λ k. k < n + 1)
              (λ k lt. omega (arith, lt)) (ops_of moves) b.below) (omega arith));
          others = λ op lt missing. elim (last_or op n lt) [
            | inl less ↦ b.others op less (λ h. missing (subst (λ (ks : List ℕ). Contains ks op) (sym ops) (Contains-append_left (ops_of moves) (n ∷ []) op h)))
            | inr e ↦ absurd (missing (subst (λ (ks : List ℕ). Contains ks op) (sym ops)
                (subst (λ (k : ℕ). Contains (ops_of moves ++ n ∷ []) k) (sym e) (Contains-push (ops_of moves) n))))
          ];
        }

    -- the next operator
    pub moves_next : (found : Option Move) (moves2 : List Move) → moves2 ≡ moves ++ option_to_list found
        → FoundMove v back cost s n found → MovesBelow v back cost s (n + 1) moves2
    moves_next None moves2 e none = subst (λ (ms : List Move). MovesBelow v back cost s (n + 1) ms) (sym (e ∙ append-nil moves)) (same_next none)
    moves_next (Some m) moves2 e f = subst (λ (ms : List Move). MovesBelow v back cost s (n + 1) ms) (sym e) (more_next m f.0 f.1)

    -- all operators
    pub moves_all : n ≡ v.system.operators → AreMoves v back cost s moves
    moves_all e = record {
      rising = b.rising;
      each = b.each;
      others = λ op lt missing. b.others op (omega (arith, e, lt)) missing;
    }

-- the child by a move
module _ {Set : Type 0} {v : View Set} {back : Layers Set} (e : Suffix) {m : Move}
    (move : IsMove v back e.cost e.state m) (ok : EntryOk v (After e))
    (level falling level2 falling2 : List (Entry Set))
    (put : PutsBy e m level falling level2 falling2) where
  puts_after : PutsAfter v back e m.op (v.system.cost m.op) m.state level falling level2 falling2
  puts_after =
      let g = put.1 in (
        put.0,
        record {
          state_is = g.state_is;
          cost_is = g.cost_is ∙ move.cost_is;
          operators_are = g.operators_are;
          least = subst (λ (n : ℕ). IsFirstRing v back (e.cost - v.system.cost m.op) m.state n) (sym g.ring_is) move.least;
          fits = subst (λ (n : ℕ). n < 2 ^ 64) (sym g.ring_is) move.small;
        },
        put.2,
      )

  joins : JoinsEntry v (After e) m.op move.lands.0 e.state m.state
  joins = (move.leads, refl, move.lands.2)

  pub moved_made : MakesOn v v (level ++ falling) (level2 ++ falling2)
  moved_made = after_made level falling level2 falling2 move.number ok move.fits move.lands.1 joins puts_after

  pub moved_added : (front : Layers Set) → AddsChild v v front back (After e) m.op level falling level2 falling2
  moved_added = after_added level falling level2 falling2 move.number ok move.fits move.lands.1 joins puts_after

-- the moves one by one
pub move_at : (moves : List Move) (m : Move) (i : ℕ) → i < length moves → m ≡ get_or moves i m
    → (i < length (ops_of moves)) × (m.op ≡ get_or (ops_of moves) i 0)
move_at moves m i lt is = (
  omega (arith, lt, length-map moves (λ (z : Move). z.op)),
  ap (λ (z : Move). z.op) is ∙ sym
      (get_or-map (λ (z : Move). z.op) moves i m 0 lt),
)

pub ops_many : (moves : List Move) (i : ℕ) → length moves ≤ i → length (ops_of moves) ≤ i
ops_many moves i le = omega (arith, le, length-map moves (λ (z : Move). z.op))

module _ {Set : Type 0} {v : View Set} {back : Layers Set} (e : Suffix) {moves : List Move} (all : AreMoves v back e.cost e.state moves) where
  pub one_move : (m : Move) (i : ℕ) → i < length moves → m ≡ get_or moves i m → IsMove v back e.cost e.state m
  one_move m i lt is = subst (λ (z : Move). IsMove v back e.cost e.state z) (sym is) (all.each i m lt)

  -- there is no child by an operator of which there is no move
  pub misses_no_move : (front : Layers Set) (f b listed : ℕ) → EntryOk v (After e) → Ready v.system v front back f b listed (as_plain_entry v (After e))
      → MissesNone v.system (member_in v front) (member_in v back) (as_plain_entry v (After e)) (ops_of moves)
  misses_no_move front f b listed ok ready = record {
    rising = all.rising;
    range = All-map (λ k. k < v.system.operators) (λ (z : Move). z.op) moves
        (All-weaker (IsMove v back e.cost e.state) (λ z. z.op < v.system.operators)
        (λ z move. move.number) moves all.each);
    others = λ k number missing. no_child v front back k number f b listed (After e) ok ready
        (λ a s t le at j. all.others k number missing a t le at
        (subst (λ (z : State). Leads v.system k z t) j.1 j.0) j.2);
  }
