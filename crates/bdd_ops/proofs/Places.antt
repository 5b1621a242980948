-- Where no result is kept, each place has what is false.
use Rattle.std.proofs.Common.{◌≡◌, ℕ, ◌<◌, ◌&&◌, Bool, false, inl, List, [], length, slice_index_or, refl, sym, ◌∙◌, ap, subst, arith}
use Rattle.bdd_table.specs.declared.node.Node.{Node}
use Rattle.bdd_table.specs.Diagram.{IsReduced}
use Rattle.bdd_ops.specs.declared.key.Op.TheVariants.{Conj}
use Rattle.bdd_ops.specs.declared.key.Kind.TheVariants.{Quantify, ConjQuantify, Image, Preimage}
use Rattle.bdd_ops.specs.declared.recent.PairSlot.{PairSlot}
use Rattle.bdd_ops.specs.declared.recent.BoundSlot.{BoundSlot}
use Rattle.bdd_ops.specs.declared.recent.Recent.{Recent}
use Rattle.bdd_ops.specs.Quantified.{GivesSome}
use Rattle.bdd_ops.specs.Recent.{no_pair, no_bound}
use Rattle.bdd_ops.specs.Cached.{IsRightPair, IsRightBound, AreRightPlaces}
use Rattle.bdd_ops.proofs.Combining.{short_gives}
use Rattle.bdd_ops.proofs.Quantifying.{constant_some, short_both}
use Rattle.bdd_ops.proofs.ImageLaws.{image_false}
use Rattle.bdd_ops.proofs.PreimageLaws.{preimage_false}

module _ (xs : List Node) (r : IsReduced xs) where
  known : 0 < length xs
  known = omega (arith, r.constants)

  both_false : (m : ℕ → Bool) → m 0 ≡ false → m 0 ≡ (m 0 && m 0)
  both_false m z = z ∙ sym (ap (λ v. v && v) z)

  right_no_pair : IsRightPair xs no_pair
  right_no_pair = record {
    f_known = known;
    g_known = known;
    set_known = known;
    gives = short_gives Conj xs 0 0 0 r known known (λ m z o. both_false m z) (inl (omega arith));
  }

  some_false : GivesSome xs 0 0 xs 0
  some_false = constant_some xs r 0 0 known (omega arith)

  right_no_some : IsRightBound Quantify xs no_bound
  right_no_some = record { f_known = known; g_known = known; set_known = known; gives = some_false }

  right_no_both : IsRightBound ConjQuantify xs no_bound
  right_no_both = record {
    f_known = known;
    g_known = known;
    set_known = known;
    gives = short_both r known known (λ m z o. both_false m z) (inl (omega arith)) some_false;
  }

  right_no_images : IsRightBound Image xs no_bound
  right_no_images = record { f_known = known; g_known = known; set_known = known; gives = image_false xs r 0 0 0 known known (inl refl) }

  right_no_preimages : IsRightBound Preimage xs no_bound
  right_no_preimages = record { f_known = known; g_known = known; set_known = known; gives = preimage_false xs r 0 0 0 known known (inl refl) }

  pub no_places_right : (recent : Recent) → recent.pairs.items ≡ [] → recent.some.items ≡ [] → recent.both.items ≡ []
      → recent.images.items ≡ [] → recent.preimages.items ≡ [] → recent.whole_images.items ≡ []
      → recent.whole_preimages.items ≡ [] → AreRightPlaces xs recent
  no_places_right recent p s b m n i j = record {
    pairs = λ place. subst (λ (l : List PairSlot). IsRightPair xs (slice_index_or l place no_pair)) (sym p) right_no_pair;
    some = λ place. subst (λ (l : List BoundSlot). IsRightBound Quantify xs (slice_index_or l place no_bound)) (sym s) right_no_some;
    both = λ place. subst (λ (l : List BoundSlot). IsRightBound ConjQuantify xs (slice_index_or l place no_bound)) (sym b) right_no_both;
    images = λ place. subst (λ (l : List BoundSlot). IsRightBound Image xs (slice_index_or l place no_bound)) (sym m) right_no_images;
    preimages = λ place. subst (λ (l : List BoundSlot). IsRightBound Preimage xs (slice_index_or l place no_bound)) (sym n) right_no_preimages;
    whole_images = λ place. subst (λ (l : List BoundSlot). IsRightBound Image xs (slice_index_or l place no_bound)) (sym i) right_no_images;
    whole_preimages = λ place. subst (λ (l : List BoundSlot). IsRightBound Preimage xs (slice_index_or l place no_bound)) (sym j) right_no_preimages;
  }
