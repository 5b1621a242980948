-- A conjunction of tests, built from the last to the first.
use Rattle.std.proofs.Common.{◌≡◌, ℕ, ◌+◌, ◌<◌, ◌≤◌, ◌&&◌, ◌↔◌, inl, inr, Bool, true, List, length, refl, sym, ◌∙◌, ap, subst, arith}
use Rattle.std.proofs.lemmas.Bool.{cases_eq, and_parts, and_from}
use Rattle.bdd_table.specs.declared.node.Node.{Node}
use Rattle.bdd_table.specs.Diagram.{Bits, means, Keeps, IsReduced}
use Rattle.bdd_table.proofs.Meaning.{means_true}

-- the tests from a number on all pass
abbrev pub PassFrom : (ℕ → Bool) → ℕ → ℕ → Type 0
PassFrom test from n = (k : ℕ) → from ≤ k → k < n → test k ≡ true

pub pass_none : (test : ℕ → Bool) (n : ℕ) (all : Bool) → all ≡ true → (all ≡ true) ↔ PassFrom test n n
pass_none test n all is = ((λ h k from lt. absurd (omega (arith, from, lt))), (λ h. is))

pub pass_more : (test : ℕ → Bool) (i n : ℕ) (one old new : Bool) → i < n → new ≡ (one && old) → one ≡ test i
    → (old ≡ true) ↔ PassFrom test (i + 1) n → (new ≡ true) ↔ PassFrom test i n
pass_more test i n one old new lt is first later = (
  (λ h k from below. (let both = and_parts one old (sym is ∙ h) in elim (cases_eq k i) [
    | inl e ↦ ap test e ∙ sym first ∙ both.0
    | inr ne ↦ (let ne2 : k ≡ i → ⊥ = ne in later.0 both.1 k (omega (arith, from, ne2)) below)
  ])),
  (λ h. is ∙ and_from one old (first ∙ h i (omega arith) lt) (later.1 (λ k from below. h k (omega (arith, from)) below))),
)

pub kept_twice : (xs ys zs ws : List Node) → Keeps xs ys → Keeps ys zs → Keeps zs ws → Keeps xs ws
kept_twice xs ys zs ws k l m = record {
  known = (let a = k.known in let c = l.known in let d = m.known in omega (arith, a, c, d));
  meaning = λ id b lt. m.meaning id b (let a = k.known in let c = l.known in omega (arith, a, c, lt))
      ∙ l.meaning id b (let a = k.known in omega (arith, a, lt)) ∙ k.meaning id b lt;
}

-- What a conjunction of tests is, from a number on.
pub record IsConj (test : Bits → ℕ → Bool) (start now : List Node) (all from n : ℕ) : Type 0 where
  pub kept : Keeps start now
  pub reduced : IsReduced now
  pub known : all < length now
  pub meaning : (b : Bits) → (means now all b ≡ true) ↔ PassFrom (test b) from n

pub conj_none : (test : Bits → ℕ → Bool) (xs : List Node) (n m : ℕ) → IsReduced xs → m ≡ n → IsConj test xs xs 1 m n
conj_none test xs n m r same = record {
  kept = record { known = omega arith; meaning = λ id b lt. refl };
  reduced = r;
  known = (let k = r.constants in omega (arith, k));
  meaning = λ b. subst (λ (x : ℕ). (means xs 1 b ≡ true) ↔ PassFrom (test b) x n) (sym same) (pass_none (test b) n (means xs 1 b) (means_true xs r b));
}

-- one more test became an Id, which was joined to the others
pub record IsJoined (test : Bits → ℕ → Bool) (xs ys zs : List Node) (all one next i : ℕ) : Type 0 where
  pub tested_kept : Keeps xs ys
  pub tested_known : one < length ys
  pub tested : (b : Bits) → means ys one b ≡ test b i
  pub joined_kept : Keeps ys zs
  pub reduced : IsReduced zs
  pub known : next < length zs
  pub joined : (b : Bits) → means zs next b ≡ (means ys one b && means ys all b)

pub conj_more : {test : Bits → ℕ → Bool} {start xs ys zs : List Node} {all one next from i n : ℕ}
    → IsConj test start xs all from n → IsJoined test xs ys zs all one next i → from ≡ i + 1 → i < n
    → IsConj test start zs next i n
conj_more {test} {start} {xs} {ys} {zs} {all} {one} {next} {from} {i} {n} was more is lt = record {
  kept = kept_twice start xs ys zs was.kept more.tested_kept more.joined_kept;
  reduced = more.reduced;
  known = more.known;
  meaning = λ b. pass_more (test b) i n (means ys one b) (means xs all b) (means zs next b) lt
      (more.joined b ∙ ap (λ (t : Bool). means ys one b && t) (more.tested_kept.meaning all b was.known))
      (more.tested b) (subst (λ (x : ℕ). (means xs all b ≡ true) ↔ PassFrom (test b) x n) is (was.meaning b));
}
