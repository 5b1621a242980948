-- What a round comes to: the pair that it keeps, and that spaces of one system answer alike.
use Rattle.std.proofs.Common.{◌≡◌, ◌+◌, ◌<◌, ◌≤◌, ℕ, suc, ◌↔◌, Bool, true, IsTrue, List, [], ◌∷◌, ◌++◌, length, refl, sym, ◌∙◌, ap, subst, arith}
use Rattle.std.specs.List.{AllByRecursion, Contains}
use Rattle.std.proofs.lemmas.List.Elements.{All-from_recursion}
use Rattle.task_system.specs.System.{State, System, Listed}
use Rattle.space_api.specs.View.{View, Valid}
use Rattle.space_api.specs.Frames.{Stays}
use Rattle.space_tests.specs.declared.asking.Call.{Call}
use Rattle.space_tests.specs.declared.pairs.Pair.{Pair}
use Rattle.space_tests.specs.Calls.{Means}
use Rattle.space_tests.specs.Pairs.{AreKept, AgreeInPairs, IsAlike, MakesPair, MovesPairs}
use Rattle.space_tests.specs.Answers.{AnswerAlike, Compares}
use Rattle.space_tests.specs.Rounds.{IsAgreeingRound, AreRounds, AgreeFor}
use Rattle.space_tests.proofs.Moving.{moves_push, moves_stay, moves_trans, amid_at}
use Rattle.space_tests.proofs.Meaning.{means_alike, listed_alike}

-- a pair that is kept
pub alike_at : {S T : Type 0} {v : View S} {w : View T} (pairs : List (Pair S T)) (p : Pair S T) → Contains pairs p → AgreeInPairs v w pairs → IsAlike v w p
alike_at {v = v} {w = w} pairs p k h = subst (IsAlike v w) k.2 (All-from_recursion (IsAlike v w) pairs h.each k.0 p k.1)

pub kept_at : {S T : Type 0} {v : View S} {w : View T} (pairs : List (Pair S T)) (p : Pair S T) → Contains pairs p → AreKept v w pairs → Valid v p.left × Valid w p.right
kept_at pairs p k o = (o.left.valid p.left (amid_at (λ q. q.left) pairs k.0 p k.1 (sym k.2)), o.right.valid p.right (amid_at (λ q. q.right) pairs k.0 p k.1 (sym k.2)))

last_of : {X : Type 0} (P : X → Type 0) (xs : List X) (x : X) → AllByRecursion P (xs ++ x ∷ []) → AllByRecursion P xs × P x
last_of P [] x h = (tt, h.0)
last_of P (y ∷ xs) x h = (let r = last_of P xs x h.1 in ((h.0, r.0), r.1))

-- sets that have the same states are told of alike
module _ {S T : Type 0} (v : View S) (w : View T) (pairs : List (Pair S T)) (p : Pair S T) (e : v.system ≡ w.system) (each : AllByRecursion (IsAlike v w) pairs) (h : IsAlike v w p) where
  pub alike_answers : AnswerAlike v w pairs p
  alike_answers = record {
    alone = record {
      empty = ((λ k s. sym (h s) ∙ k s), (λ k s. h s ∙ k s));
      initial = subst (λ (y : System). v.has p.left v.system.initial ≡ w.has p.right y.initial) e (h v.system.initial);
    };
    beside = λ i d lt.
        let other = All-from_recursion (IsAlike v w) pairs each i d lt in
        ((λ k s. sym (h s) ∙ k s ∙ other s), (λ k s. h s ∙ k s ∙ sym (other s)));
  }

module _ {S T : Type 0} {v v2 : View S} {w w2 : View T} {P Q : State
    → Type 0} {old new : List (Pair S T)} {told : Bool} (o : AreKept v w old)
    (c : Compares v v2 w w2 P Q old new told) (same : AgreeInPairs v w old → (s : State) → P s ↔ Q s) where
  pub compares_moves : MovesPairs v v2 w w2 old new
  compares_moves = subst (λ (ps : List (Pair S T)). MovesPairs v v2 w w2 old ps) (sym c.kept) (moves_push old c.pair o c.made same)

  pub compares_yes : AgreeInPairs v w old → IsTrue told
  compares_yes h =
      let a = (moves_push old c.pair o c.made same).alike h in
      let l = last_of (IsAlike v2 w2) old c.pair a.each in
      c.answer.1 (alike_answers v2 w2 old c.pair a.system l.0 l.1)

-- the pair of a call was compared with the old ones, and then put behind them
pub compared : {S T : Type 0} {v v1 v2 : View S} {w w1 w2 : View T} {P Q : State
    → Type 0} {old slice new : List (Pair S T)} {pair : Pair S T} {told : Bool} → MakesPair v v1 w w1 P Q pair
    → slice ≡ old → new ≡ old ++ pair ∷ [] → v2 ≡ v1 → w2 ≡ w1 → (IsTrue told ↔ AnswerAlike v1 w1 slice pair)
    → Compares v v2 w w2 P Q old new told
compared {S = S} {T = T} {v = v} {v1 = v1} {v2 = v2} {w = w} {w1 = w1} {w2 = w2} {P = P} {Q = Q} {old = old} {pair = pair} {told = told} m s n e f a = record {
  pair = pair;
  made = subst (λ (x : View S). MakesPair v x w w2 P Q pair) (sym e) (subst (λ (x : View T). MakesPair v v1 w x P Q pair) (sym f) m);
  kept = n;
  answer =
      subst (λ (x : View S). IsTrue told ↔ AnswerAlike x w2 old pair) (sym e)
      (subst (λ (x : View T). IsTrue told ↔ AnswerAlike v1 x old pair) (sym f)
      (subst (λ (ps : List (Pair S T)). IsTrue told ↔ AnswerAlike v1 w1 ps pair) s a));
}

-- one call, with two pairs that are kept
module _ {S T : Type 0} {v v2 : View S} {w w2 : View T} {old new : List (Pair S T)} {told : Bool} (o : AreKept v w old) (call : Call) (first second : Pair S T) (k : Contains old first) (l : Contains old second) (c : Compares v v2 w w2 (Means v call first.left second.left) (Means w call first.right second.right) old new told) where
  same : AgreeInPairs v w old → (s : State) → Means v call first.left second.left s ↔ Means w call first.right second.right s
  same h s = means_alike v w first second h.system (alike_at old first k h) (alike_at old second l h) call s

  pub call_moves : MovesPairs v v2 w w2 old new
  call_moves = compares_moves o c same

  pub call_yes : AgreeInPairs v w old → IsTrue told
  call_yes = compares_yes o c same

-- nothing is put behind them
pub still : {S T : Type 0} {v v2 : View S} {w w2 : View T} {old new : List (Pair S T)} → AreKept v w old → new ≡ old
    → Stays v v2 → Stays w w2 → MovesPairs v v2 w w2 old new
still {v = v} {v2 = v2} {w = w} {w2 = w2} {old = old} o e x y = subst (λ (ps : List _). MovesPairs v v2 w w2 old ps) (sym e) (moves_stay old o x y)

-- the call was a round, if both spaces answered alike
pub round_of : {S T : Type 0} {v v1 v2 : View S} {w w1 w2 : View T} {old mid new : List (Pair S T)} {told : Bool}
    (call : Call) (first second : Pair S T) → Contains old first → Contains old second
    → Compares v v1 w w1 (Means v call first.left second.left) (Means w call first.right second.right) old mid told
    → told ≡ true → MovesPairs v1 v2 w1 w2 mid new → IsAgreeingRound v v2 w w2 old new
round_of {v = v} {v1 = v1} {w = w} {w1 = w1} {old = old} {mid = mid} call first second k l c e m = record {
  call = call;
  first = first;
  first_kept = k;
  second = second;
  second_kept = l;
  left = v1;
  right = w1;
  more = mid;
  compares = subst (Compares v v1 w w1 (Means v call first.left second.left) (Means w call first.right second.right) old mid) e c;
  moves = m;
}

-- In the midst of the rounds, n of which are done: what was made is kept, some pairs and not too many.
pub record InRounds {S T : Type 0} (n : ℕ) (v v2 : View S) (w w2 : View T) (pairs : List (Pair S T)) : Type 0 where
  pub moves : MovesPairs v v2 w w2 [] pairs
  pub some : 0 < length pairs
  pub few : length pairs ≤ 16
  pub operators : v2.system.operators ≡ w2.system.operators
  pub left : View S
  pub right : View T
  pub first : List (Pair S T)
  pub start : Compares v left w right (Listed v.system.states) (Listed w.system.states) [] first true
  pub rounds : AreRounds n left v2 right w2 first pairs

none_kept : {S T : Type 0} (v : View S) (w : View T) → AreKept v w []
none_kept v w = record { left = record { valid = λ a m. absurd m; apart = tt }; right = record { valid = λ a m. absurd m; apart = tt } }

-- so after the pair of all states
module _ {S T : Type 0} {v v2 : View S} {w w2 : View T} {old new : List (Pair S T)} {told : Bool} (none : old ≡ []) (c : Compares v v2 w w2 (Listed v.system.states) (Listed w.system.states) old new told) where
  first_pair : Compares v v2 w w2 (Listed v.system.states) (Listed w.system.states) [] new told
  first_pair = subst (λ (ps : List (Pair S T)). Compares v v2 w w2 (Listed v.system.states) (Listed w.system.states) ps new told) none c

  pub start_moves : MovesPairs v v2 w w2 [] new
  start_moves = compares_moves (none_kept v w) first_pair (λ h. listed_alike v.system w.system h.system)

  one : length new ≡ 1
  one = ap length first_pair.kept

  pub start_in : v.system.operators ≡ w.system.operators → told ≡ true → InRounds 0 v v2 w w2 new
  start_in e is = record {
    moves = start_moves;
    some = omega (arith, one);
    few = omega (arith, one);
    operators = ap (λ (y : System). y.operators) start_moves.left.system ∙ e ∙ sym (ap (λ (y : System). y.operators) start_moves.right.system);
    left = v2;
    right = w2;
    first = new;
    start = subst (Compares v v2 w w2 (Listed v.system.states) (Listed w.system.states) [] new) is first_pair;
    rounds = (refl, refl, refl);
  }

-- and after each round
module _ {S T : Type 0} {n : ℕ} {u v v2 : View S} {t w w2 : View T} {old new : List (Pair S T)}
    (i : InRounds n u v t w old) (m : MovesPairs v v2 w w2 old new) where
  next : IsAgreeingRound v v2 w w2 old new → AreRounds (suc n) i.left v2 i.right w2 i.first new
  next r = (v, w, old, i.rounds, r)

  pub round_in : 0 < length new → length new ≤ 16 → IsAgreeingRound v v2 w w2 old new → InRounds (n + 1) u v2 t w2 new
  round_in some few r = record {
    moves = moves_trans i.moves m;
    some = some;
    few = few;
    operators = ap (λ (y : System). y.operators) m.left.system ∙ i.operators ∙ sym (ap (λ (y : System). y.operators) m.right.system);
    left = i.left;
    right = i.right;
    first = i.first;
    start = i.start;
    rounds = (let e : suc n ≡ n + 1 = omega arith in subst (λ (k : ℕ). AreRounds k i.left v2 i.right w2 i.first new) e (next r));
  }

-- all rounds are done
pub agree_for : {S T : Type 0} {n m : ℕ} {u v : View S} {t w : View T} {pairs : List (Pair S T)} → InRounds n u v t w pairs → n ≡ m → AgreeFor m u t
agree_for {S = S} {T = T} {u = u} {v = v} {t = t} {w = w} {pairs = pairs} i e = record {
  left = i.left;
  right = i.right;
  pairs = i.first;
  start = i.start;
  last_left = v;
  last_right = w;
  last = pairs;
  rounds = subst (λ (k : ℕ). AreRounds k i.left v i.right w i.first pairs) e i.rounds;
}
