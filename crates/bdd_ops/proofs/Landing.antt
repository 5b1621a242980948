-- Laws of what holds for some values of levels, at bits that stand elsewhere, over truth functions alone.
use Rattle.std.proofs.Common.{◌≡◌, ℕ, ◌≤◌, Bool, true, false, cond, ◌||◌, inl, inr, refl, sym, ◌∙◌, ap, true≢false, leb, leb-true, le-leb}
use Rattle.bdd_table.specs.Diagram.{Bits, put}
use Rattle.bdd_table.proofs.Canonical.{put_here}
use Rattle.bdd_ops.specs.Images.{ExistsAt}
use Rattle.bdd_ops.proofs.Existing.{or_left, or_right, or_split, off_put}

pub at_same : {d e : ℕ → Bool} {to on : ℕ → ℕ} {F H G K : Bits → Bool} → ((l : ℕ) → d l ≡ e l)
    → ((l : ℕ) → to l ≡ on l) → ((b : Bits) → F b ≡ H b) → ((b : Bits) → G b ≡ K b)
    → ExistsAt d to F G → ExistsAt e on H K
at_same {d} {e} {to} {on} {F} {H} {G} {K} de same fh gk x = record {
  upper = λ b c off h. sym (gk b) ∙ x.upper b c (λ l n. off l (sym (de l) ∙ n) ∙ ap b (sym (same l))) (fh c ∙ h);
  witness = λ b k. let w = x.witness b (gk b ∙ k) in (w.0, (λ l n. w.1 l (de l ∙ n) ∙ ap b (same l)), sym (fh w.0) ∙ w.2);
}

-- nothing is bound that F depends on, and what it depends on stays
pub at_none : (d : ℕ → Bool) (to : ℕ → ℕ) (F : Bits → Bool) → ((b c : Bits) → ((l : ℕ) → d l ≡ false → c l ≡ b (to l)) → F c ≡ F b) → ExistsAt d to F F
at_none d to F same = record {
  upper = λ b c off h. sym (same b c off) ∙ h;
  witness = λ b h. ((λ l. b (to l)), (λ l n. refl), same b (λ l. b (to l)) (λ l n. refl) ∙ h);
}

-- what is false for all bits is so for some
pub at_false : (d : ℕ → Bool) (to : ℕ → ℕ) (F G : Bits → Bool) → ((b : Bits) → F b ≡ false) → ((b : Bits) → G b ≡ false) → ExistsAt d to F G
at_false d to F G none zero = record {
  upper = λ b c off h. absurd (true≢false (sym h ∙ none c));
  witness = λ b g. absurd (true≢false (sym g ∙ zero b));
}

-- the same is bound from a level on, and lands there, and F depends on no earlier one
pub at_from : (d e : ℕ → Bool) (to on : ℕ → ℕ) (m : ℕ) (F G : Bits → Bool) → ((l : ℕ) → m ≤ l → d l ≡ e l) → ((l : ℕ) → m ≤ l → to l ≡ on l)
    → ((b c : Bits) → ((l : ℕ) → m ≤ l → b l ≡ c l) → F b ≡ F c) → ExistsAt d to F G → ExistsAt e on F G
at_from d e to on m F G de same later x = record {
  upper = λ b c off h. x.upper b (mix c (λ l. b (to l))) (λ l n. early c (λ k. b (to k)) l
      (λ le. off l (sym (de l le) ∙ n) ∙ ap b (sym (same l le))))
      (later (mix c (λ l. b (to l))) c (λ l le. late c (λ k. b (to k)) l le) ∙ h);
  witness = λ b g. let w = x.witness b g in (
    mix w.0 (λ l. b (on l)),
    (λ l n. early w.0 (λ k. b (on k)) l (λ le. w.1 l (de l le ∙ n) ∙ ap b (same l le))),
    later (mix w.0 (λ l. b (on l))) w.0 (λ l le. late w.0 (λ k. b (on k)) l le) ∙ w.2,
  );
}
  where
    mix : Bits → Bits → Bits
    mix b c = λ l. cond (leb m l) (b l) (c l)

    late : (b c : Bits) (l : ℕ) → m ≤ l → mix b c l ≡ b l
    late b c l le = ap (λ t. cond t (b l) (c l)) (le-leb m l le)

    early : (b c : Bits) (l : ℕ) → (m ≤ l → b l ≡ c l) → mix b c l ≡ c l
    early b c l same = (elim (leb m l) as (λ t. leb m l ≡ t → cond t (b l) (c l) ≡ c l) [
      | true ↦ λ t. same (leb-true m l t)
      | false ↦ λ t. refl
    ]) refl

-- where the one half holds for some values whatever the rest, so does the whole
pub at_settled : {d : ℕ → Bool} {to : ℕ → ℕ} {F0 F G0 G : Bits → Bool} (l : ℕ) (F1 : Bits → Bool)
    → ((b : Bits) → F b ≡ cond (b l) (F1 b) (F0 b)) → ((b : Bits) (v : Bool) → F0 (put b l v) ≡ F0 b)
    → ExistsAt d to F0 G0 → d l ≡ true → ((b : Bits) → G0 b ≡ true) → ((b : Bits) → G b ≡ true) → ExistsAt d to F G
at_settled {d} {to} {F0} {F} {G0} {G} l F1 halves free0 x0 bound zero all = record {
  upper = λ b c off h. all b;
  witness = λ b g. let w = x0.witness b (zero b) in (
    put w.0 l false,
    off_put d l (λ k. b (to k)) w.0 false bound w.1,
    halves (put w.0 l false) ∙ ap (λ v. cond v (F1 (put w.0 l false)) (F0 (put w.0 l false))) (put_here w.0 l false) ∙ free0 w.0 false ∙ w.2,
  );
}

module _ (d : ℕ → Bool) (to : ℕ → ℕ) (l : ℕ) (F0 F1 F G0 G1 G : Bits → Bool) (halves : (b : Bits) → F b ≡ cond (b l) (F1 b) (F0 b))
    (free0 : (b : Bits) (v : Bool) → F0 (put b l v) ≡ F0 b) (free1 : (b : Bits) (v : Bool) → F1 (put b l v) ≡ F1 b)
    (x0 : ExistsAt d to F0 G0) (x1 : ExistsAt d to F1 G1) where
  -- a level that isn't bound chooses between the halves where it lands
  at_kept : d l ≡ false → ((b : Bits) → G b ≡ cond (b (to l)) (G1 b) (G0 b)) → ExistsAt d to F G
  at_kept not_bound is = record {
    upper = λ b c off h. (elim (b (to l)) as (λ v. b (to l) ≡ v → G b ≡ true) [
      | true ↦ λ e. is b ∙ ap (λ v. cond v (G1 b) (G0 b)) e ∙ x1.upper b c off (sym (halves c ∙ ap (λ v. cond v (F1 c) (F0 c)) (off l not_bound ∙ e)) ∙ h)
      | false ↦ λ e. is b ∙ ap (λ v. cond v (G1 b) (G0 b)) e ∙ x0.upper b c off (sym (halves c ∙ ap (λ v. cond v (F1 c) (F0 c)) (off l not_bound ∙ e)) ∙ h)
    ]) refl;
    witness = λ b g. (elim (b (to l)) as (λ v. b (to l) ≡ v → (c : Bits) × ((k : ℕ) → d k ≡ false → c k ≡ b (to k)) × (F c ≡ true)) [
      | true ↦ λ e. let w = x1.witness b (sym (is b ∙ ap (λ v. cond v (G1 b) (G0 b)) e) ∙ g) in
          (w.0, w.1, halves w.0 ∙ ap (λ v. cond v (F1 w.0) (F0 w.0)) (w.1 l not_bound ∙ e) ∙ w.2)
      | false ↦ λ e. let w = x0.witness b (sym (is b ∙ ap (λ v. cond v (G1 b) (G0 b)) e) ∙ g) in
          (w.0, w.1, halves w.0 ∙ ap (λ v. cond v (F1 w.0) (F0 w.0)) (w.1 l not_bound ∙ e) ∙ w.2)
    ]) refl;
  }

  -- a bound level joins the halves
  at_bound : d l ≡ true → ((b : Bits) → G b ≡ (G0 b || G1 b)) → ExistsAt d to F G
  at_bound bound is = record {
    upper = λ b c off h. (elim (c l) as (λ v. c l ≡ v → G b ≡ true) [
      | true ↦ λ e. is b ∙ or_right (G0 b) (G1 b) (x1.upper b c off (sym (halves c ∙ ap (λ v. cond v (F1 c) (F0 c)) e) ∙ h))
      | false ↦ λ e. is b ∙ or_left (G0 b) (G1 b) (x0.upper b c off (sym (halves c ∙ ap (λ v. cond v (F1 c) (F0 c)) e) ∙ h))
    ]) refl;
    witness = λ b g. elim (or_split (G0 b) (G1 b) (sym (is b) ∙ g)) [
      | inl h ↦ let w = x0.witness b h in (
        put w.0 l false,
        off_put d l (λ k. b (to k)) w.0 false bound w.1,
        halves (put w.0 l false) ∙ ap (λ v. cond v (F1 (put w.0 l false)) (F0 (put w.0 l false))) (put_here w.0 l false) ∙ free0 w.0 false ∙ w.2,
      )
      | inr h ↦ let w = x1.witness b h in (
        put w.0 l true,
        off_put d l (λ k. b (to k)) w.0 true bound w.1,
        halves (put w.0 l true) ∙ ap (λ v. cond v (F1 (put w.0 l true)) (F0 (put w.0 l true))) (put_here w.0 l true) ∙ free1 w.0 true ∙ w.2,
      )
    ];
  }

  -- both halves are joined, where the level is bound, and chosen between, where it isn't
  pub at_joined : (is_bound : Bool) → is_bound ≡ d l → ((b : Bits) → G b ≡ cond is_bound (G0 b || G1 b) (cond (b (to l)) (G1 b) (G0 b))) → ExistsAt d to F G
  at_joined is_bound says meaning = (elim is_bound as (λ t. is_bound ≡ t → ExistsAt d to F G) [
    | true ↦ λ t. at_bound (sym says ∙ t) (λ b. meaning b ∙ ap (λ v. cond v (G0 b || G1 b) (cond (b (to l)) (G1 b) (G0 b))) t)
    | false ↦ λ t. at_kept (sym says ∙ t) (λ b. meaning b ∙ ap (λ v. cond v (G0 b || G1 b) (cond (b (to l)) (G1 b) (G0 b))) t)
  ]) refl
