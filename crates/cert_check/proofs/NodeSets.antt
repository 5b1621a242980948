-- The diagrams of the numbers of a certificate.
use Rattle.std.proofs.Common.{◌≡◌, ℕ, zero, suc, ◌+◌, ◌-◌, ◌<◌, ◌≤◌, Bool, true, false, cond, List, [], ◌∷◌, ◌++◌, length, map, get_or, take, refl, sym, ◌∙◌, ap, subst, arith, append_assoc}
use Rattle.std.specs.List.{All}
use Rattle.std.proofs.lemmas.List.{append-nil, map-append, get_or-map, length_push, take_more, take_all}
use Rattle.std.proofs.lemmas.List.Sums.{fold-append}
use Rattle.std.proofs.lemmas.List.Elements.{All-nil, All-cons, All-push, All-head, All-tail}
use Rattle.bdd_table.specs.declared.node.Node.{Node}
use Rattle.bdd_table.specs.Diagram.{Bits, means, Keeps, IsReduced}
use Rattle.bdd_table.proofs.Meaning.{means_false, means_true}
use Rattle.var_order.specs.Layout.{level_at}
use Rattle.axiom_layers.proofs.RootValues.{keeps_on, keeps_itself}
use Rattle.certificates.specs.declared.node.CertNode.{CertNode}
use Rattle.certificates.specs.declared.node.Certificate.{Certificate}
use Rattle.certificates.specs.Meaning.{node_says, with_node, says, holds}
use Rattle.certificates.specs.Texts.{IsNodeAfter, AreNodesAfter, IsInOrder}
use Rattle.certificates.specs.Places.{bits_at}

-- Nodes in order.

-- a node of the list goes on at numbers before it
pub node_there : (width : ℕ) (before xs : List CertNode) (i : ℕ) (d : CertNode) → AreNodesAfter width before xs
    → i < length xs → IsNodeAfter width (before ++ take i xs) (get_or xs i d)
node_there width before [] i d h lt = absurd (omega (arith, lt))
node_there width before (x ∷ xs) zero d h lt = subst (λ (z : List CertNode). IsNodeAfter width z x) (sym (append-nil before)) h.0
node_there width before (x ∷ xs) (suc i) d h lt = subst (λ (z : List CertNode). IsNodeAfter width z (get_or xs i d))
    (append_assoc before (x ∷ []) (take i xs)) (node_there width (before ++ x ∷ []) xs i d h.1 (omega (arith, lt)))

-- what is asked of the node of this number
pub record IsNext (width : ℕ) (done : List CertNode) (x : CertNode) : Type 0 where
  pub bit : x.bit < width
  pub lo : x.lo < length done + 2
  pub hi : x.hi < length done + 2

pub next_node : (width : ℕ) (cert : Certificate) (there : List CertNode) (i : ℕ) (d : CertNode) → IsInOrder width cert
    → there ≡ cert.nodes → i < length there → IsNext width (take i there) (get_or there i d)
next_node width cert there i d order same lt =
    let nodes : AreNodesAfter width [] there = subst (AreNodesAfter width []) (sym same) order.nodes in
    let here : IsNodeAfter width (take i there) (get_or there i d) = node_there width [] there i d nodes lt in
    record { bit = here.bit; lo = here.lo_before; hi = here.hi_before }

-- there are diagrams of the numbers that it goes on at
pub next_within : (width : ℕ) (ids shown : List ℕ) (there : List CertNode) (i n : ℕ) → shown ≡ ids
    → length ids ≡ length (take i there) + 2 → n < length (take i there) + 2 → n < length shown
next_within width ids shown there i n e count lt = (let long = ap (λ (xs : List ℕ). length xs) e in omega (arith, long, count, lt))

-- The diagrams of the first numbers.

-- each means what its number says of the bits at the places
pub record Built (places : List ℕ) (start now : List Node) (ids : List ℕ) (done : List CertNode) : Type 0 where
  pub count : length ids ≡ length done + 2
  pub known : All (λ id. id < length now) ids
  pub says : (b : Bits) → map (λ id. means now id b) ids ≡ says (bits_at places b) done
  pub keeps : Keeps start now
  pub reduced : IsReduced now

pub built_none : (places : List ℕ) (now : List Node) (ids : List ℕ) → IsReduced now → ids ≡ ([] ++ 0 ∷ []) ++ 1 ∷ [] → Built places now now ids []
unfolding says
built_none places now ids reduced is = record {
  count = ap (λ (xs : List ℕ). length xs) is;
  known = subst (λ (xs : List ℕ). All (λ id. id < length now) xs) (sym is)
      (let two = reduced.constants in All-cons (λ id. id < length now) 0 (1 ∷ []) (omega (arith, two))
      (All-cons (λ id. id < length now) 1 [] (omega (arith, two)) (All-nil (λ id. id < length now))));
  says = λ b. ap (map (λ id. means now id b)) is ∙ ap (λ (x : Bool). x ∷ means now 1 b ∷ [])
      (means_false now reduced b) ∙ ap (λ (x : Bool). false ∷ x ∷ []) (means_true now reduced b);
  keeps = keeps_itself now;
  reduced = reduced;
}

map_all : (f g : ℕ → Bool) (P : ℕ → Type 0) (xs : List ℕ) → All P xs → ((x : ℕ) → P x → f x ≡ g x) → map f xs ≡ map g xs
map_all f g P [] all h = refl
map_all f g P (x ∷ xs) all h = ap (λ (y : Bool). y ∷ map f xs) (h x (All-head P x xs all))
    ∙ ap (λ (ys : List Bool). g x ∷ ys) (map_all f g P xs (All-tail P x xs all) h)

choose : (t u x y : Bool) (lo hi : ℕ) (xs : List Bool) → t ≡ u → x ≡ get_or xs hi false → y ≡ get_or xs lo false → cond t x y ≡ get_or xs (cond u hi lo) false
choose true u x y lo hi xs e h l = h ∙ ap (λ (v : Bool). get_or xs (cond v hi lo) false) e
choose false u x y lo hi xs e h l = l ∙ ap (λ (v : Bool). get_or xs (cond v hi lo) false) e

-- the next table keeps what the last one has, and has a diagram that means what the node says of those before it
pub record IsMade (places : List ℕ) (now new : List Node) (ids : List ℕ) (x : CertNode) (id : ℕ) : Type 0 where
  pub keeps : Keeps now new
  pub reduced : IsReduced new
  pub known : id < length new
  pub meaning : (b : Bits) → means new id b ≡ cond (b (level_at 0 (get_or places x.bit 0)))
      (means now (get_or ids x.hi 0) b) (means now (get_or ids x.lo 0) b)

module _ (places : List ℕ) (start now : List Node) (ids : List ℕ) (done : List CertNode) (built : Built places start now ids done) where
  -- what the diagram of a number means
  pub number_means : (k : ℕ) (b : Bits) → k < length ids → means now (get_or ids k 0) b ≡ get_or (says (bits_at places b) done) k false
  number_means k b lt = sym (get_or-map (λ id. means now id b) ids k 0 false lt) ∙ ap (λ (xs : List Bool). get_or xs k false) (built.says b)

  pub built_more : {new : List Node} {all : List ℕ} {id : ℕ} {x : CertNode} → IsNext (length places) done x
      → IsMade places now new ids x id → all ≡ ids ++ id ∷ [] → Built places start new all (done ++ x ∷ [])
  unfolding says
  built_more {new} {all} {id} {x} next made is =
      let count = built.count in
      let more = made.keeps.known in
      let still : All (λ (i : ℕ). i < length new) ids = λ k d lt. (let h = built.known k d lt in omega (arith, h, more)) in
      let pushed : Built places start new (ids ++ id ∷ []) (done ++ x ∷ []) = record {
        count = omega (arith, count, length_push ids id, length_push done x);
        known = All-push (λ (i : ℕ). i < length new) ids id still made.known;
        says = λ b. (
            let bits = bits_at places b in
            let old : map (λ i. means new i b) ids ≡ says bits done =
            map_all (λ i. means new i b) (λ i. means now i b) (λ i. i < length now) ids built.known
            (λ i lt. made.keeps.meaning i b lt) ∙ built.says b in
            let bit : b (level_at 0 (get_or places x.bit 0)) ≡ get_or bits x.bit false =
            sym (get_or-map (λ p. b (level_at 0 p)) places x.bit 0 false next.bit) in
            let hi_in : x.hi < length ids = (let h = next.hi in omega (arith, h, count)) in
            let lo_in : x.lo < length ids = (let h = next.lo in omega (arith, h, count)) in
            let one : means new id b ≡ node_says bits (says bits done) x = made.meaning b
            ∙ choose (b (level_at 0 (get_or places x.bit 0))) (get_or bits x.bit false)
            (means now (get_or ids x.hi 0) b) (means now (get_or ids x.lo 0) b) x.lo x.hi (says bits done) bit
            (number_means x.hi b hi_in) (number_means x.lo b lo_in) in
            map-append (λ i. means new i b) ids (id ∷ []) ∙ ap (λ (ys : List Bool). ys ++ means new id b ∷ []) old
            ∙ ap (λ (y : Bool). says bits done ++ y ∷ []) one
            ∙ sym (fold-append (with_node bits) (false ∷ true ∷ []) done (x ∷ [])));
        keeps = keeps_on start now new built.keeps made.keeps;
        reduced = made.reduced;
      } in
      subst (λ (xs : List ℕ). Built places start new xs (done ++ x ∷ [])) (sym is) pushed

pub built_next : {places : List ℕ} {start now new : List Node} {ids shown all : List ℕ} {id : ℕ}
    (there : List CertNode) (i : ℕ) (d : CertNode) → Built places start now ids (take i there) → i < length there
    → IsNext (length places) (take i there) (get_or there i d) → IsMade places now new shown (get_or there i d) id
    → shown ≡ ids → all ≡ ids ++ id ∷ [] → Built places start new all (take (i + 1) there)
built_next {places} {start} {now} {new} {ids} {shown} {all} {id} there i d built lt next made same e =
    subst (Built places start new all) (sym (take_more there i d lt))
    (built_more places start now ids (take i there) built next
    (subst (λ (xs : List ℕ). IsMade places now new xs (get_or there i d) id) same made) e)

pub record IsNamed (places : List ℕ) (cert : Certificate) (now : List Node) (id : ℕ) : Type 0 where
  pub known : id < length now
  pub meaning : (b : Bits) → means now id b ≡ holds cert (bits_at places b)

pub root_named : {places : List ℕ} {start now : List Node} {ids : List ℕ} {cert : Certificate}
    (there : List CertNode) (i : ℕ) → IsInOrder (length places) cert → there ≡ cert.nodes → i ≤ length there
    → length there ≤ i → Built places start now ids (take i there) → IsNamed places cert now (get_or ids cert.root 0)
root_named {places} {start} {now} {ids} {cert} there i order same low high built =
    let all : take i there ≡ cert.nodes = take_all i there high ∙ same in
    let done : Built places start now ids cert.nodes = subst (Built places start now ids) all built in
    let count = done.count in
    let root = order.root in
    let lt : cert.root < length ids = omega (arith, count, root) in
    record { known = done.known cert.root 0 lt; meaning = λ b. number_means places start now ids cert.nodes done cert.root b lt }
