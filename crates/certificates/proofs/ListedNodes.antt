-- The nodes of a reduced table are those of a certificate.
use Rattle.std.proofs.Common.{◌≡◌, ◌≢◌, ℕ, zero, suc, ◌+◌, ◌-◌, ◌<◌, ◌≤◌, inl, inr, Bool, true, false, cond, nat_lt, List, [], ◌∷◌, ◌++◌, length, map, get_or, take, slice_get, Option, Some, None, IfSome, refl, sym, ◌∙◌, ap, subst, arith}
use Rattle.std.specs.List.{range_with_len, fold}
use Rattle.std.specs.Option.{option_map_or}
use Rattle.std.proofs.lemmas.Bool.{cases_lt}
use Rattle.std.proofs.lemmas.Bool.Decides.{nat_tests}
use Rattle.std.proofs.lemmas.List.{append-nil, append_assoc, map-append, take_more, take_all, length-take-le}
use Rattle.std.proofs.lemmas.List.Sums.{fold-append}
use Rattle.std.proofs.lemmas.List.FromFn.{length-map-range_with_len, get_or-map-range_with_len, take-map-range_with_len}
use Rattle.std.proofs.lemmas.Option.{slice_get_cases}
use Rattle.bdd_table.specs.declared.node.Node.{Node}
use Rattle.bdd_table.specs.Diagram.{as_bits, at, level_of, means, IsReduced}
use Rattle.bdd_table.specs.Collected.{Reaches}
use Rattle.bdd_table.specs.Collected.Reaches.{root as reach_root, lo as reach_lo, hi as reach_hi}
use Rattle.bdd_table.proofs.Meaning.{split, means_false, means_true, means_chosen}
use Rattle.certificates.specs.declared.node.CertNode.{CertNode}
use Rattle.certificates.specs.declared.node.Certificate.{Certificate}
use Rattle.certificates.specs.Meaning.{node_says, with_node, says, holds}
use Rattle.certificates.specs.Texts.{bit_of, IsNodeAfter, AreNodesAfter, IsInOrder}
use Rattle.certificates.specs.Tidy.{IsReachedNode, IsTidy}
use Rattle.certificates.specs.Tidy.IsReachedNode.{root as got_root, lo as got_lo, hi as got_hi}
use Rattle.certificates.proofs.Listed.{range_more}
use Rattle.certificates.specs.Listed.{listed_at, listed}

-- nodes that are in order one by one
are_after : (width : ℕ) (before xs : List CertNode) → ((i : ℕ) (d : CertNode) → i < length xs → IsNodeAfter width
    (before ++ take i xs) (get_or xs i d)) → AreNodesAfter width before xs
are_after width before [] h = tt
are_after width before (x ∷ xs) h = (
  subst (λ (z : List CertNode). IsNodeAfter width z x) (append-nil before) (h 0 x (omega arith)),
  are_after width (before ++ x ∷ []) xs (λ i d lt. subst (λ (z : List CertNode). IsNodeAfter width z (get_or xs i d))
      (sym (append_assoc before (x ∷ []) (take i xs))) (h (suc i) d (omega (arith, lt)))),
)

module _ (xs : List Node) (r : IsReduced xs) where
  pub listed_length : length (listed xs) ≡ length xs - 2
  unfolding listed
  listed_length = length-map-range_with_len (listed_at xs) 0 (length xs - 2)

  listed_get : (i : ℕ) (d : CertNode) → i < length xs - 2 → get_or (listed xs) i d ≡ listed_at xs i
  unfolding listed
  listed_get i d lt = get_or-map-range_with_len (listed_at xs) 0 (length xs - 2) i i d lt (omega arith)

  listed_some : (i : ℕ) → i < length xs - 2 → slice_get (listed xs) i ≡ Some (listed_at xs i)
  listed_some i lt = elim (slice_get_cases (listed xs) i).1 [
    | inl some ↦ some.2 ∙ ap (λ (x : CertNode). Some x) (sym some.3 ∙ listed_get i some.0 lt)
    | inr past ↦ (let far = past.0 in let long = listed_length in absurd (omega (arith, far, long, lt)))
  ]

  listed_within : (i : ℕ) (x : CertNode) → slice_get (listed xs) i ≡ Some x → (i < length xs - 2) × (x ≡ listed_at xs i)
  listed_within i x e = elim (slice_get_cases (listed xs) i).1 [
    | inl some ↦ (
        let long = listed_length in
        let inside = some.1 in
        let lt : i < length xs - 2 = omega (arith, inside, long) in
        (lt, (let z : Some x ≡ Some (listed_at xs i) = sym e ∙ listed_some i lt in cc)))
    | inr past ↦ absurd (let z : Some x ≡ None = sym e ∙ past.1 in let f : ⊥ = cc in f)
  ]

  first_listed : (i : ℕ) → i ≤ length xs - 2 → take i (listed xs) ≡ map (listed_at xs) (range_with_len 0 i)
  unfolding listed
  first_listed i le = take-map-range_with_len (listed_at xs) 0 (length xs - 2) i le

  inner_at : (i : ℕ) → i < length xs - 2 → i + 2 < length xs
  inner_at i lt = omega (arith, lt)

  -- the bit that a number before the node asks for
  bit_before : (width i m : ℕ) → i ≤ length xs - 2 → m < i + 2 → 2 ≤ m → bit_of width (take i (listed xs)) m ≡ level_of xs m
  bit_before width i m le lt two =
      let test : nat_lt m 2 ≡ false = grind (arith, nat_tests) in
      let e : (m - 2) + 2 ≡ m = omega (arith, two) in
      let short : m - 2 < i = omega (arith, lt, two) in
      let there : slice_get (map (listed_at xs) (range_with_len 0 i)) (m - 2) ≡ Some (listed_at xs (m - 2)) = mapped i (m - 2) short in
      ap (λ (t : Bool). cond t width (option_map_or (λ (x : CertNode). x.bit) (slice_get (take i (listed xs)) (m - 2)) 0)) test
      ∙ ap (λ (ys : List CertNode). option_map_or (λ (x : CertNode). x.bit) (slice_get ys (m - 2)) 0) (first_listed i le)
      ∙ ap (λ (x : Option CertNode). option_map_or (λ (x : CertNode). x.bit) x 0) there
      ∙ ap (level_of xs) e
    where
      mapped : (i k : ℕ) → k < i → slice_get (map (listed_at xs) (range_with_len 0 i)) k ≡ Some (listed_at xs k)
      mapped i k lt = elim (slice_get_cases (map (listed_at xs) (range_with_len 0 i)) k).1 [
        | inl some ↦ some.2 ∙ ap (λ (x : CertNode). Some x) (sym some.3 ∙ get_or-map-range_with_len (listed_at xs) 0 i k k some.0 lt (omega arith))
        | inr past ↦ (let far = past.0 in let long = length-map-range_with_len (listed_at xs) 0 i in absurd (omega (arith, far, long, lt)))
      ]

  bit_constant : (width i m : ℕ) → m < 2 → bit_of width (take i (listed xs)) m ≡ width
  bit_constant width i m lt = (let test : nat_lt m 2 ≡ true = grind (arith, nat_tests) in ap
      (λ (t : Bool). cond t width (option_map_or (λ (x : CertNode). x.bit) (slice_get (take i (listed xs)) (m - 2))
      0)) test)

  later : (width i m l : ℕ) → i ≤ length xs - 2 → m < i + 2 → l < width → l < level_of xs m → l < bit_of width (take i (listed xs)) m
  later width i m l le lt inside below = elim (cases_lt m 2) [
    | inl low ↦ (let e = bit_constant width i m low in omega (arith, e, inside))
    | inr high ↦ (let e = bit_before width i m le lt high in omega (arith, e, below))
  ]

  pub in_order : (width root : ℕ) → ((id : ℕ) → 2 ≤ id → id < length xs → level_of xs id < width) → root < length xs
      → IsInOrder width (record { nodes = listed xs; root = root })
  in_order width root levels known =
      let two = r.constants in
      let long = listed_length in
      record {
        none = λ e. (elim (cases_lt 2 (length xs)) [
          | inl more ↦ (let l = levels 2 (omega arith) more in absurd (omega (arith, l, e)))
          | inr few ↦ omega (arith, long, few)
        ]);
        nodes = are_after width [] (listed xs) (λ i d lt. (
            let inside : i < length xs - 2 = omega (arith, lt, long) in
            let there : i + 2 < length xs = inner_at i inside in
            let inner = r.inner (i + 2) (omega arith) there in
            let level = levels (i + 2) (omega arith) there in
            let many : length (take i (listed xs)) ≡ i = length-take-le i (listed xs) (omega (arith, inside, long)) in
            let lo = inner.lo_before in
            let hi = inner.hi_before in
            subst (IsNodeAfter width (take i (listed xs))) (sym (listed_get i d inside)) (record {
              bit = level;
              lo_before = omega (arith, lo, many);
              hi_before = omega (arith, hi, many);
              lo_later = later width i (at xs (i + 2)).lo (level_of xs (i + 2)) (omega (arith, inside)) lo level inner.lo_below;
              hi_later = later width i (at xs (i + 2)).hi (level_of xs (i + 2)) (omega (arith, inside)) hi level inner.hi_below;
            })));
        root = omega (arith, known, long, two);
      }

  -- what the numbers say is what the Ids mean
  pub says_means : (bits : List Bool) (i : ℕ) → i ≤ length xs - 2
      → says bits (take i (listed xs)) ≡ map (λ k. means xs k (as_bits bits)) (range_with_len 0 (i + 2))
  unfolding says
  says_means bits zero le = ap (λ (x : Bool). x ∷ true ∷ []) (sym (means_false xs r (as_bits bits)))
      ∙ ap (λ (x : Bool). means xs 0 (as_bits bits) ∷ x ∷ []) (sym (means_true xs r (as_bits bits)))
  says_means bits (suc i) le =
      let f : ℕ → Bool = λ k. means xs k (as_bits bits) in
      let inside : i < length xs - 2 = omega (arith, le) in
      let there : i + 2 < length xs = inner_at i inside in
      let inner = r.inner (i + 2) (omega arith) there in
      let long = listed_length in
      let x = listed_at xs i in
      let ih = says_means bits i (omega (arith, le)) in
      let cut : take (suc i) (listed xs) ≡ take i (listed xs) ++ x ∷ [] =
      (let e : suc i ≡ i + 1 = omega arith in ap (λ (k : ℕ). take k (listed xs)) e)
      ∙ take_more (listed xs) i x (omega (arith, inside, long))
      ∙ ap (λ (y : CertNode). take i (listed xs) ++ y ∷ []) (listed_get i x inside) in
      let old = fold (with_node bits) (false ∷ true ∷ []) (take i (listed xs)) in
      let lo = inner.lo_before in
      let hi = inner.hi_before in
      let read : (k : ℕ) → k < i + 2 → get_or old k false ≡ f k =
      λ k lt. ap (λ (ys : List Bool). get_or ys k false) ih
      ∙ get_or-map-range_with_len f 0 (i + 2) k k false lt (omega arith) in
      let one : node_says bits old x ≡ f (i + 2) = choose (get_or bits (level_of xs (i + 2)) false) (at xs (i + 2)).lo
      (at xs (i + 2)).hi old f (read (at xs (i + 2)).lo lo) (read (at xs (i + 2)).hi hi)
      ∙ sym (means_chosen xs r (as_bits bits) (i + 2) there) in
      ap (λ (ys : List CertNode). fold (with_node bits) (false ∷ true ∷ []) ys) cut
      ∙ fold-append (with_node bits) (false ∷ true ∷ []) (take i (listed xs)) (x ∷ [])
      ∙ ap (λ (y : Bool). old ++ y ∷ []) one
      ∙ ap (λ (ys : List Bool). ys ++ f (i + 2) ∷ []) ih
      ∙ sym (map-append f (range_with_len 0 (i + 2)) ((i + 2) ∷ []))
      ∙ sym (ap (λ (k : ℕ). map f (range_with_len 0 k)) (let e : suc i + 2 ≡ (i + 2) + 1 = omega arith in e) ∙ ap (map f) (range_more (i + 2)))
    where
      choose : (t : Bool) (lo hi : ℕ) (ys : List Bool) (f : ℕ → Bool) → get_or ys lo false ≡ f lo
          → get_or ys hi false ≡ f hi → get_or ys (cond t hi lo) false ≡ f (cond t hi lo)
      choose true lo hi ys f l h = h
      choose false lo hi ys f l h = l

  pub holds_means : (bits : List Bool) (root : ℕ) → root < length xs → holds (record { nodes = listed xs; root = root }) bits ≡ means xs root (as_bits bits)
  holds_means bits root known =
      let long = listed_length in
      let two = r.constants in
      let all : take (length xs - 2) (listed xs) ≡ listed xs = take_all (length xs - 2) (listed xs) (omega (arith, long)) in
      let f : ℕ → Bool = λ k. means xs k (as_bits bits) in
      ap (λ (ys : List CertNode). get_or (says bits ys) root false) (sym all)
      ∙ ap (λ (ys : List Bool). get_or ys root false) (says_means bits (length xs - 2) (omega arith))
      ∙ get_or-map-range_with_len f 0 ((length xs - 2) + 2) root root false (omega (arith, known, two)) (omega arith)

  -- nothing is to spare
  module _ (roots : List ℕ) (root : ℕ) (alone : length roots ≡ 1) (is : get_or roots 0 0 ≡ root) where
    abbrev made : Certificate
    made = record { nodes = listed xs; root = root }

    record Got (id : ℕ) : Type 0 where
      known : id < length xs
      got : IsReachedNode made id

    abbrev child : Bool → ℕ → ℕ
    child v id = cond v (at xs id).hi (at xs id).lo

    from_node : (id : ℕ) (v : Bool) → 2 ≤ id → id < length xs → IsReachedNode made id → IsReachedNode made (child v id)
    from_node id v two known got =
        let inside : id - 2 < length xs - 2 = omega (arith, two, known) in
        let e : (id - 2) + 2 ≡ id = omega (arith, two) in
        let there : slice_get (listed xs) (id - 2) ≡ Some (listed_at xs (id - 2)) = listed_some (id - 2) inside in
        by_side v (subst (λ (k : ℕ). IsReachedNode made (at xs k).hi) e (got_hi id (listed_at xs (id - 2)) two there got))
        (subst (λ (k : ℕ). IsReachedNode made (at xs k).lo) e (got_lo id (listed_at xs (id - 2)) two there got))
      where
        by_side : (v : Bool) → IsReachedNode made (at xs id).hi → IsReachedNode made (at xs id).lo → IsReachedNode made (child v id)
        by_side true h l = h
        by_side false h l = l

    own_child : (id : ℕ) (v : Bool) (low : id < 2) → child v id ≡ id
    own_child id true low = elim (split id) [
      | inl z ↦ ap (λ (n : ℕ). (at xs n).hi) z ∙ ap (λ (n : Node). n.hi) r.of_false ∙ sym z
      | inr (inl z) ↦ ap (λ (n : ℕ). (at xs n).hi) z ∙ ap (λ (n : Node). n.hi) r.of_true ∙ sym z
      | inr (inr two) ↦ absurd (omega (arith, low, two))
    ]
    own_child id false low = elim (split id) [
      | inl z ↦ ap (λ (n : ℕ). (at xs n).lo) z ∙ ap (λ (n : Node). n.lo) r.of_false ∙ sym z
      | inr (inl z) ↦ ap (λ (n : ℕ). (at xs n).lo) z ∙ ap (λ (n : Node). n.lo) r.of_true ∙ sym z
      | inr (inr two) ↦ absurd (omega (arith, low, two))
    ]

    next : (id : ℕ) (v : Bool) → Got id → Got (child v id)
    next id v g = elim (cases_lt id 2) [
      | inl low ↦ subst Got (sym (own_child id v low)) g
      | inr two ↦ (let i = r.inner id two g.known in record { known = in_table v i.lo_before i.hi_before g.known; got = from_node id v two g.known g.got })
    ]
      where
        in_table : (v : Bool) → (at xs id).lo < id → (at xs id).hi < id → id < length xs → child v id < length xs
        in_table true lo hi known = omega (arith, hi, known)
        in_table false lo hi known = omega (arith, lo, known)

    got_all : root < length xs → (id : ℕ) → Reaches xs roots id → Got id
    got_all known id (reach_root i lt) =
        let zero_is : i ≡ 0 = omega (arith, lt, alone) in
        subst Got (sym is ∙ ap (λ (k : ℕ). get_or roots k 0) (sym zero_is)) (record { known = known; got = got_root })
    got_all known id (reach_lo m h) = next m false (got_all known m h)
    got_all known id (reach_hi m h) = next m true (got_all known m h)

    node_is : (i j : ℕ) → listed_at xs i ≡ listed_at xs j → at xs (i + 2) ≡ at xs (j + 2)
    node_is i j e = (
        let a : (at xs (i + 2)).level ≡ (at xs (j + 2)).level = ap (λ (x : CertNode). x.bit) e in
        let b : (at xs (i + 2)).lo ≡ (at xs (j + 2)).lo = ap (λ (x : CertNode). x.lo) e in
        let c : (at xs (i + 2)).hi ≡ (at xs (j + 2)).hi = ap (λ (x : CertNode). x.hi) e in
        λ k. record { level = a k; lo = b k; hi = c k })

    pub tidy : root < length xs → ((id : ℕ) → 2 ≤ id → id < length xs → Reaches xs roots id) → IsTidy made
    tidy known reached =
        let long = listed_length in
        let two = r.constants in
        record {
          differ = λ i. by_get i (slice_get (listed xs) i) refl;
          apart = λ i j x e f. (
              let g = listed_within i x e in
              let h = listed_within j x f in
              let same = r.unique (i + 2) (j + 2) (inner_at i g.0) (inner_at j h.0) (node_is i j (sym g.1 ∙ h.1)) in
              omega (arith, same));
          reached = λ id low lt. (let g = got_all known id (reached id low (omega (arith, lt, long, two))) in g.got);
        }
      where
        by_get : (i : ℕ) (o : Option CertNode) → slice_get (listed xs) i ≡ o → IfSome o (λ (x : CertNode). x.lo ≢ x.hi)
        by_get i None e = tt
        by_get i (Some x) e = (let g = listed_within i x e in subst (λ (y : CertNode). y.lo ≢ y.hi) (sym g.1)
            (let k = r.inner (i + 2) (omega arith) (inner_at i g.0) in k.differ))
