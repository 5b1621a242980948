-- The relations of one cost have the steps of the operators of that cost.
use Rattle.std.proofs.Common.{◌≡◌, ◌≢◌, ℕ, zero, suc, ◌+◌, ◌<◌, ◌↔◌, ◌⊎◌, inl, inr, List, [], ◌∷◌, ◌++◌, length, get_or, refl, sym, ◌∙◌, ap, subst, arith}
use Rattle.std.specs.List.{All}
use Rattle.std.proofs.lemmas.List.{length-append, get_or_append_left}
use Rattle.std.proofs.Math.Seq.{get_or-append_seam}
use Rattle.std.proofs.lemmas.List.Elements.{All-append}
use Rattle.symk_task.specs.declared.parts.TaskParts.{TaskParts}
use Rattle.symk_task.specs.Steps.{Step, cost_at}
use Rattle.bdd_table.specs.declared.node.Node.{Node}
use Rattle.bdd_table.specs.Diagram.{means, Keeps}
use Rattle.var_order.specs.Layout.{Layout}
use Rattle.var_order.specs.Codes.{IsStateOf}
use Rattle.transitions.specs.declared.relations.Relation.{Relation}
use Rattle.transitions.specs.Relations.{Connects, IsStepSet, Relates}
use Rattle.transitions.specs.Ready.{IsReadyRelation}
use Rattle.transitions.proofs.Using.{steps_of_relates, connects_related}
use Rattle.trans_merge.specs.Merging.{IsRelation, SomeLeads, Merges}
use Rattle.trans_merge.specs.Merging.Merges.{none, more}
use Rattle.trans_merge.proofs.Merged.{all_merged}
use Rattle.trans_merge.specs.Steps.{HasSteps, HaveSteps}
use Rattle.trans_merge.specs.Gathered.{AreSingle}
use Rattle.trans_merge.specs.Copies.{IsCopy, TakesTurn}
use Rattle.trans_merge.proofs.Moving.{has_kept}

some_append : (o : Layout) (nodes : List Node) (s t : List ℕ) (xs ys : List Relation)
    → SomeLeads o nodes s t (xs ++ ys) ↔ (SomeLeads o nodes s t xs ⊎ SomeLeads o nodes s t ys)
some_append o nodes s t [] ys = ((λ h. inr h), (λ h. elim h [ inl x ↦ absurd x | inr y ↦ y ]))
some_append o nodes s t (x ∷ xs) ys =
    let rest = some_append o nodes s t xs ys in (
      (λ h. elim h [ inl a ↦ inl (inl a) | inr b ↦ elim (rest.0 b) [ inl c ↦ inl (inr c) | inr d ↦ inr d ] ]),
      (λ h. elim h [ inl a ↦ elim a [ inl c ↦ inl c | inr d ↦ inr (rest.1 (inl d)) ] | inr b ↦ inr (rest.1 (inr b)) ]),
    )

all_one : (P : Relation → Type 0) (y : Relation) → P y → All P (y ∷ [])
all_one P y p zero d lt = p
all_one P y p (suc i) d lt = absurd (omega (arith, lt))

-- a copy has the steps of its original
pub copy_has : (o : Layout) (nodes : List Node) (R : List ℕ → List ℕ → Type 0) (r q : Relation) → IsCopy r q → HasSteps o nodes R r → HasSteps o nodes R q
copy_has o nodes R r q copy is = record {
  relation = record {
    known = (let k = is.relation.known in let e = copy.root in omega (arith, k, e));
    ready = copy.ready;
    steps = subst (λ (x : ℕ). IsStepSet o q.touched.items (means nodes x)) (sym copy.root)
        (subst (λ (xs : List ℕ). IsStepSet o xs (means nodes r.root)) (sym copy.touched) is.relation.steps);
  };
  leads = λ s t ss st. subst (λ (x : ℕ). Connects o q.touched.items (means nodes x) s t ↔ R s t) (sym copy.root)
      (subst (λ (xs : List ℕ). Connects o xs (means nodes r.root) s t ↔ R s t)
      (sym copy.touched) (is.leads s t ss st));
}

-- the steps of the operators before this number that have the cost
abbrev pub StepBelow : TaskParts → ℕ → ℕ → List ℕ → List ℕ → Type 0
StepBelow task cost n s t = (op : ℕ) × (op < n) × (cost_at task op ≡ cost) × Step task s op t

pub below_or_at : (op n : ℕ) → op < n + 1 → (op < n) ⊎ (op ≡ n)
below_or_at op n h = grind arith

module _ (task : TaskParts) (o : Layout) (nodes : List Node) (cost : ℕ) where
  pub below_none : HaveSteps o nodes (StepBelow task cost 0) []
  below_none = record {
    relations = λ i d lt. absurd (omega (arith, lt));
    leads = λ s t ss st. ((λ h. absurd h), (λ (op, lt, c, step). absurd (omega (arith, lt))));
  }

  below_copy : (n : ℕ) (r q : Relation) (old : List Relation) → HasSteps o nodes (λ s t. Step task s n t) r
      → cost_at task n ≡ cost → IsCopy r q → HaveSteps o nodes (StepBelow task cost n) old
      → HaveSteps o nodes (StepBelow task cost (n + 1)) (old ++ q ∷ [])
  below_copy n r q old has same copy have =
      let one = copy_has o nodes (λ s t. Step task s n t) r q copy has in
      record {
        relations = All-append (IsRelation o nodes) old (q ∷ []) have.relations (all_one (IsRelation o nodes) q one.relation);
        leads = λ s t ss st.
            let both = some_append o nodes s t old (q ∷ []) in
            let was = have.leads s t ss st in
            let new = one.leads s t ss st in (
              (λ h. elim (both.0 h) [
                | inl a ↦ (let x = was.0 a in (x.0, omega (arith, x.1), x.2, x.3))
                | inr b ↦ elim b [ inl c ↦ (n, omega arith, same, new.0 c) | inr c ↦ absurd c ]
              ]),
              (λ (op, lt, c, step). elim (below_or_at op n lt) [
                | inl less ↦ both.1 (inl (was.1 (op, less, c, step)))
                | inr e ↦ both.1 (inr (inl (new.1 (subst (λ (x : ℕ). Step task s x t) e step))))
              ]),
            );
      }

  below_other : (n : ℕ) (old : List Relation) → cost_at task n ≢ cost → HaveSteps o nodes (StepBelow task cost n) old
      → HaveSteps o nodes (StepBelow task cost (n + 1)) old
  below_other n old other have = record {
    relations = have.relations;
    leads = λ s t ss st.
        let was = have.leads s t ss st in (
          (λ h. (let x = was.0 h in (x.0, omega (arith, x.1), x.2, x.3))),
          (λ (op, lt, c, step). elim (below_or_at op n lt) [
            | inl less ↦ was.1 (op, less, c, step)
            | inr e ↦ absurd (other (ap (cost_at task) (sym e) ∙ c))
          ]),
        );
  }

  -- one operator more
  pub below_more : (n : ℕ) (r : Relation) (old new : List Relation) → HasSteps o nodes (λ s t. Step task s n t) r
      → TakesTurn task n cost r old new → HaveSteps o nodes (StepBelow task cost n) old
      → HaveSteps o nodes (StepBelow task cost (n + 1)) new
  below_more n r old new has turn have = elim turn [
    | inl (same, (q, copy, e)) ↦ subst (HaveSteps o nodes (StepBelow task cost (n + 1))) (sym e) (below_copy n r q old has same copy have)
    | inr (other, e) ↦ subst (HaveSteps o nodes (StepBelow task cost (n + 1))) (sym e) (below_other n old other have)
  ]

-- merged relations have the steps of their members
module _ (o : Layout) (bound : ℕ) (start : List Node) where
  merged_leads : (members : List Relation) (now : List Node) (results : List Relation)
      → Merges o bound start members now results → (s t : List ℕ) → IsStateOf o s → IsStateOf o t
      → SomeLeads o now s t results ↔ SomeLeads o start s t members
  merged_leads _ now _ (none _) s t ss st = ((λ h. h), (λ h. h))
  merged_leads _ now _ (more members part results _ r before is) s t ss st =
      let rest = merged_leads members now results before s t ss st in
      let one = is.leads s t ss st in
      let after = some_append o now s t results (r ∷ []) in
      let whole = some_append o start s t members part in (
        (λ h. elim (after.0 h) [ inl a ↦ whole.1 (inl (rest.0 a)) | inr b ↦ elim b [ inl c ↦ whole.1 (inr (one.0 c)) | inr c ↦ absurd c ] ]),
        (λ h. elim (whole.0 h) [ inl a ↦ after.1 (inl (rest.1 a)) | inr b ↦ after.1 (inr (inl (one.1 b))) ]),
      )

  pub merged_have : (R : List ℕ → List ℕ → Type 0) (members : List Relation) (now : List Node)
      (results : List Relation) → Merges o bound start members now results → HaveSteps o start R members
      → HaveSteps o now R results
  merged_have R members now results merges have = record {
    relations = all_merged o bound start members now results merges;
    leads = λ s t ss st. (let same = merged_leads members now results merges s t ss st in
        let was = have.leads s t ss st in ((λ h. was.0 (same.0 h)), (λ h. same.1 (was.1 h))));
  }

-- the operators' own relations, one more
pub record SingleBelow (task : TaskParts) (o : Layout) (nodes : List Node) (n : ℕ) (rs : List Relation) : Type 0 where
  pub count : length rs ≡ n
  pub each : (op : ℕ) (d : Relation) → op < n → HasSteps o nodes (λ s t. Step task s op t) (get_or rs op d)

pub related : (task : TaskParts) (o : Layout) (nodes : List Node) (op : ℕ) (r : Relation) → r.root < length nodes
    → IsReadyRelation r → Relates o r.touched.items (λ s t. Step task s op t) (means nodes r.root)
    → HasSteps o nodes (λ s t. Step task s op t) r
related task o nodes op r known ready relates = record {
  relation = record { known = known; ready = ready; steps = steps_of_relates o r.touched.items (λ s t. Step task s op t) (means nodes r.root) relates };
  leads = λ s t ss st. connects_related o r.touched.items (λ s t. Step task s op t) (means nodes r.root) s t relates ss st;
}

pub single_none : (task : TaskParts) (o : Layout) (nodes : List Node) → SingleBelow task o nodes 0 []
single_none task o nodes = record { count = refl; each = λ op d lt. absurd (omega (arith, lt)) }

pub single_more : (task : TaskParts) (o : Layout) (old new : List Node) (n : ℕ) (rs : List Relation) (r : Relation)
    → Keeps old new → SingleBelow task o old n rs → HasSteps o new (λ s t. Step task s n t) r
    → SingleBelow task o new (n + 1) (rs ++ r ∷ [])
single_more task o old new n rs r kept is has = record {
  count = (let e = length-append rs (r ∷ []) in let c = is.count in omega (arith, e, c));
  each = λ op d lt. elim (below_or_at op n lt) [
    | inl less ↦ subst (HasSteps o new (λ s t. Step task s op t)) (sym (get_or_append_left rs (r ∷ []) d op (let c = is.count in omega (arith, c, less))))
        (has_kept old new o (λ s t. Step task s op t) (get_or rs op d) kept (is.each op d less))
    | inr e ↦ (
        let at : get_or (rs ++ r ∷ []) op d ≡ r = ap (λ (k : ℕ). get_or (rs ++ r ∷ []) k d) (e ∙ sym is.count) ∙ get_or-append_seam rs r [] d in
        subst (HasSteps o new (λ s t. Step task s op t)) (sym at) (subst (λ (k : ℕ). HasSteps o new (λ s t. Step task s k t) r) (sym e) has))
  ];
}

pub single_all : (task : TaskParts) (o : Layout) (nodes : List Node) (n : ℕ) (rs : List Relation)
    → n ≡ length task.operators → SingleBelow task o nodes n rs → AreSingle task o nodes rs
single_all task o nodes n rs e is = record {
  operators = is.count ∙ e;
  each = λ op d lt. is.each op d (omega (arith, e, lt));
}
