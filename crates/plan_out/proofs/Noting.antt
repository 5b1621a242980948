-- What is noted of the blocks seen so far.
use Rattle.std.proofs.Common.{◌≡◌, ℕ, suc, zero, ◌+◌, ◌-◌, ◌<◌, ◌≤◌, Bool, true, false, cond, List, [], ◌∷◌, ◌++◌, length, take, Option, Some, None, refl, sym, ap, subst, ◌∙◌, arith}
use Rattle.std.specs.Prelude.{All, IsSomeAnd, slice_get, MatchOption, ◌==◌}
use Rattle.std.specs.Bool.{Decides}
use Rattle.std.specs.Option.{option_map_or}
use Rattle.std.specs.Cmp.Lexicographic.{pointwise}
use Rattle.indexmap.specs.IndexMap.{get}
use Rattle.std.proofs.lemmas.Bool.{false≢true}
use Rattle.std.proofs.lemmas.Bool.Decides.{Decides-eqb}
use Rattle.std.proofs.lemmas.List.{take-append-le, take_at, get_or_push, length_push}
use Rattle.std.proofs.lemmas.List.Elements.{All-push, All-same}
use Rattle.std.proofs.lemmas.Option.{slice_get-get_or}
use Rattle.std.proofs.lemmas.Slice.Eq.{slice_eq-Decides}
use Rattle.symk_task.specs.declared.parts.Mode.{Mode}
use Rattle.symk_task.specs.declared.parts.Mode.TheVariants.{TopK, Loopless, Unordered}
use Rattle.symk_task.specs.Plans.{Same}
use Rattle.symk_task.proofs.Rising.{sorted_same}
use Rattle.plan_out.specs.declared.blocks.ReadBlock.{ReadBlock}
use Rattle.plan_out.specs.declared.seen.Seen.{Seen}
use Rattle.plan_out.specs.Fails.{IsFirstSame, IsCheaper}
use Rattle.plan_out.specs.Checks.{IsKey, first_of, IsNoted, IsSeen}

-- plans with one key count as one
same_from_key : (mode : Mode) (p q key : List ℕ) → IsKey mode p key → IsKey mode q key → Same mode p q
same_from_key TopK p q key h k = h ∙ sym k
same_from_key Loopless p q key h k = h ∙ sym k
same_from_key Unordered p q key h k = (sorted_same p q key key h.0 k.0 h.1 k.1).0 refl

-- and plans that count as one have one key
key_from_same : (mode : Mode) (p q key other : List ℕ) → IsKey mode p key → IsKey mode q other → Same mode p q → key ≡ other
key_from_same TopK p q key other h k same = sym h ∙ same ∙ k
key_from_same Loopless p q key other h k same = sym h ∙ same ∙ k
key_from_same Unordered p q key other h k same = (sorted_same p q key other h.0 k.0 h.1 k.1).1 same

same_key : (x y : List ℕ) → Decides (pointwise ◌==◌ x y) (x ≡ y)
same_key x y = slice_eq-Decides Decides-eqb x y (pointwise ◌==◌ x y) refl

some_longer : (P : ReadBlock → Type 0) (xs ys : List ReadBlock) (i : ℕ) → IsSomeAnd (slice_get xs i) P → IsSomeAnd (slice_get (xs ++ ys) i) P
some_longer P [] ys i h = absurd h
some_longer P (x ∷ xs) ys zero h = h
some_longer P (x ∷ xs) ys (suc i) h = some_longer P xs ys i h

some_within : (P : ReadBlock → Type 0) (xs : List ReadBlock) (i : ℕ) → IsSomeAnd (slice_get xs i) P → i < length xs
some_within P [] i h = absurd h
some_within P (x ∷ xs) zero h = omega arith
some_within P (x ∷ xs) (suc i) h = (let lt = some_within P xs i h in omega (arith, lt))

pub get_push : (xs : List ReadBlock) (x : ReadBlock) (i : ℕ) → length xs ≡ i → slice_get (xs ++ x ∷ []) i ≡ Some x
get_push xs x i e = slice_get-get_or (xs ++ x ∷ []) i x (let l = length_push xs x in omega (arith, l, e))
    ∙ ap (λ (y : ReadBlock). Some y) (get_or_push xs x x i e)

first_longer : (mode : Mode) (blocks : List ReadBlock) (b : ReadBlock) (p : List ℕ) (i : ℕ)
    → IsFirstSame mode blocks p i → IsFirstSame mode (blocks ++ b ∷ []) p i
first_longer mode blocks b p i h =
    let lt = some_within (λ x. Same mode x.ops p) blocks i h.here in
    record {
      here = some_longer (λ x. Same mode x.ops p) blocks (b ∷ []) i h.here;
      before = All-same (λ x. ¬ Same mode x.ops p) (take i (blocks ++ b ∷ [])) (take i blocks) (take-append-le i blocks (b ∷ []) (omega (arith, lt))) h.before;
    }

first_here : (mode : Mode) (blocks : List ReadBlock) (b : ReadBlock) (p : List ℕ) (i : ℕ) → length blocks ≡ i
    → Same mode b.ops p → All (λ x. ¬ Same mode x.ops p) blocks → IsFirstSame mode (blocks ++ b ∷ []) p i
first_here mode blocks b p i e same none = record {
  here = subst (λ (o : Option ReadBlock). IsSomeAnd o (λ x. Same mode x.ops p)) (sym (get_push blocks b i e)) same;
  before = All-same (λ x. ¬ Same mode x.ops p) (take i (blocks ++ b ∷ [])) blocks (take_at blocks (b ∷ []) i e) none;
}

abbrev Says : Mode → List ReadBlock → List ℕ → Option ℕ → Type 0
Says mode blocks p o = MatchOption o (All (λ b. ¬ Same mode b.ops p) blocks) (λ number. (1 ≤ number) × IsFirstSame mode blocks p (number - 1))

says_longer : (mode : Mode) (blocks : List ReadBlock) (b : ReadBlock) (p : List ℕ) (o : Option ℕ)
    → ¬ Same mode b.ops p → Says mode blocks p o → Says mode (blocks ++ b ∷ []) p o
says_longer mode blocks b p None other h = All-push (λ x. ¬ Same mode x.ops p) blocks b h other
says_longer mode blocks b p (Some number) other h = (h.0, first_longer mode blocks b p (number - 1) h.1)

-- what is said of a key after one block more
module _ (mode : Mode) (blocks : List ReadBlock) (b : ReadBlock) (key : List ℕ) (number : ℕ) (is : IsKey mode b.ops key)
    (e : number ≡ length blocks + 1)
    (none : (p : List ℕ) → IsKey mode p key → All (λ x. ¬ Same mode x.ops p) blocks) where
  first_more : (old : Option ℕ) (p k : List ℕ) → IsKey mode p k → Says mode blocks p old → (same : Bool)
      → pointwise ◌==◌ key k ≡ same → Says mode (blocks ++ b ∷ []) p (cond same (Some number) old)
  first_more old p k has h true t =
      let same : key ≡ k = (same_key key k).0 t in
      let here : IsKey mode p key = subst (λ (x : List ℕ). IsKey mode p x) (sym same) has in (
        omega (arith, e),
        first_here mode blocks b p (number - 1) (omega (arith, e))
            (same_from_key mode b.ops p key is here) (none p here),
      )
  first_more old p k has h false t =
      says_longer mode blocks b p old
      (λ s. false≢true (sym t ∙ (same_key key k).1 (key_from_same mode b.ops p key k is has s))) h

-- The next block is noted by its key, which was not noted before.
pub record NotesNext (mode : Mode) (blocks : List ReadBlock) (b : ReadBlock) (key : List ℕ) (number : ℕ)
    (old noted new : Seen) : Type 0 where
  pub is : IsKey mode b.ops key
  pub absent : first_of old key ≡ None
  pub adds : IsNoted old noted key number
  pub place : number ≡ length blocks + 1
  pub first : new.first ≡ noted.first
  pub cost : new.cost ≡ b.cost

-- the next block is noted
pub seen_more : {mode : Mode} {blocks : List ReadBlock} {b : ReadBlock} {key : List ℕ} {number : ℕ}
    {old noted new : Seen}
    → IsSeen mode blocks old → NotesNext mode blocks b key number old noted new → IsSeen mode (blocks ++ b ∷ []) new
seen_more {mode} {blocks} {b} {key} {number} {old} {noted} {new} seen n = record {
  first = (λ p k has.
      let o = first_of old k in
      let now : first_of new k ≡ cond (pointwise ◌==◌ key k) (Some number) o = first_at k ∙ n.adds.0 k in
      subst (λ (x : Option ℕ). Says mode (blocks ++ b ∷ []) p x) (sym now)
      (first_more mode blocks b key number n.is n.place none o p k has (seen.first p k has)
      (pointwise ◌==◌ key k) refl));
  cost = n.cost ∙ sym (ap (λ (x : Option ReadBlock). option_map_or (λ y. y.cost) x 0)
      (get_push blocks b (length (blocks ++ b ∷ []) - 1) (let l = length_push blocks b in omega (arith, l))));
}
  where
    none : (p : List ℕ) → IsKey mode p key → All (λ x. ¬ Same mode x.ops p) blocks
    none p has = subst (λ (x : Option ℕ). Says mode blocks p x) n.absent (seen.first p key has)

    first_at : (k : List ℕ) → first_of new k ≡ first_of noted k
    first_at k = ap (λ m. get (pointwise ◌==◌) m k) n.first

cost_below : (o : Option ReadBlock) (cost mine : ℕ) → cost ≡ option_map_or (λ b. b.cost) o 0 → mine < cost → IsSomeAnd o (λ last. mine < last.cost)
cost_below None cost mine e lt = absurd (omega (arith, e, lt))
cost_below (Some last) cost mine e lt = omega (arith, e, lt)

below_cost : (o : Option ReadBlock) (cost mine : ℕ) → cost ≡ option_map_or (λ b. b.cost) o 0 → IsSomeAnd o (λ last. mine < last.cost) → mine < cost
below_cost None cost mine e h = absurd h
below_cost (Some last) cost mine e h = omega (arith, e, h)

pub cheaper : (blocks : List ReadBlock) (b : ReadBlock) (cost : ℕ)
    → cost ≡ option_map_or (λ b. b.cost) (slice_get blocks (length blocks - 1)) 0
    → b.cost < cost → IsCheaper blocks b
cheaper blocks b cost e lt = cost_below (slice_get blocks (length blocks - 1)) cost b.cost e lt

pub not_cheaper : (blocks : List ReadBlock) (b : ReadBlock) (cost : ℕ)
    → cost ≡ option_map_or (λ b. b.cost) (slice_get blocks (length blocks - 1)) 0
    → ¬ (b.cost < cost) → ¬ IsCheaper blocks b
not_cheaper blocks b cost e least h = least (below_cost (slice_get blocks (length blocks - 1)) cost b.cost e h)
