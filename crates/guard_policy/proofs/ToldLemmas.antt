-- What is kept of all conditions tells of those of a decision.
use Rattle.std.proofs.Common.{◌≡◌, ℕ, suc, ◌==◌, ◌&&◌, ◌||◌, Bool, true, false, Some, List, [], ◌∷◌, ◌++◌, filter, get_or, refl, sym, ap, ◌∙◌, subst, inl, inr, arith}
use Rattle.std.specs.Prelude.{All}
use Rattle.std.specs.List.{AllByRecursion, flat_map}
use Rattle.std.proofs.lemmas.Bool.{cases_Bool, cond-true, cond-false, eqb-true, false≢true}
use Rattle.std.proofs.lemmas.List.{append_assoc}
use Rattle.std.proofs.lemmas.List.Elements.{Contains-get_or}
use Rattle.ifr_opcodes.specs.declared.codes.TheConstants.{SUPPRESS_IF, GRAY_OUT_IF, NO_SUBMIT_IF}
use Rattle.ifr_opcodes.specs.Fields.{option_value}
use Rattle.ifr_opcodes.specs.Forest.{Ancestor, Node, node_at}
use Rattle.ifr_opcodes.specs.Opcode.{number}
use Rattle.ifr_opcodes.specs.Reading.{tree_of}
use Rattle.ifr_nodes.specs.Accepted.{IsAccepted}
use Rattle.ifr_nodes.specs.code.Checked.{IsNodeOf, or_empty}
use Rattle.ifr_nodes.specs.Guards.{is_guard, nodes_on, ancestors, guards}
use Rattle.ifr_index.specs.code.Index.{is_conditional, kind_at}
use Rattle.ifr_opcodes.specs.Rows.{row_of, is_condition_number}
use Rattle.ifr_scopes.specs.code.Lists.{form_node, statement_node}
use Rattle.ifr_nodes.specs.Nodes.{nodes_of, is_no_submit, options}
use Rattle.ifr_nodes.proofs.PlaceLemmas.{is_found}
use Rattle.ifr_nodes.proofs.ScopeLemmas.{ancestor_node}
use Rattle.hii_varstore.specs.Stores.{StoreMap}
use Rattle.hii_questions.specs.code.Views.{question_node}
use Rattle.guard_policy.specs.laws.Support.{IsSubjectOf, around, conditions, counts, graying_out, suppressing}
use Rattle.guard_policy.specs.Conditions.{is_kept}
use Rattle.guard_policy.specs.code.KeptConditions.{Tells, TellsAll, is_by_kept}
use Rattle.guard_policy.specs.World.{World, is_met, world_over}
use Rattle.guard_policy.specs.code.Worlds.{is_met_at, is_met_if}
use Rattle.guard_policy.specs.declared.support.Decision.{Decision}
use Rattle.guard_policy.specs.declared.support.Decision.TheVariants.{Listed, Changeable, OptionOpen, Opens, Consistent, MaySubmit, Warnings}
use Rattle.hii_values.proofs.OptionLemmas.{options_are_nodes}
use Rattle.guard_policy.proofs.SupportLemmas.{front}

-- ---- lists

-- of what passes a test, by what holds of all
turned : {X : Type 0} (P Q : X → Type 0) (p : X → Bool) → ((x : X) → p x ≡ true → P x → Q x) → (xs : List X) → AllByRecursion P xs → AllByRecursion Q (filter p xs)
turned P Q p f [] h = tt
turned P Q p f (x ∷ xs) h = elim (cases_Bool (p x)) [
  | inl takes ↦ subst (AllByRecursion Q) (sym (cond-true (p x) (x ∷ filter p xs) (filter p xs) takes)) (f x takes h.0, turned P Q p f xs h.1)
  | inr leaves ↦ subst (AllByRecursion Q) (sym (cond-false (p x) (x ∷ filter p xs) (filter p xs) leaves)) (turned P Q p f xs h.1)
]

-- and back
unfiltered : {X : Type 0} (P : X → Type 0) (p : X → Bool) (xs : List X) → AllByRecursion P (filter p xs) → AllByRecursion (λ x. p x ≡ true → P x) xs
unfiltered P p [] h = tt
unfiltered P p (x ∷ xs) h = elim (cases_Bool (p x)) [
  | inl takes ↦ let these = subst (AllByRecursion P) (cond-true (p x) (x ∷ filter p xs) (filter p xs) takes) h in ((λ _. these.0), unfiltered P p xs these.1)
  | inr leaves ↦ ((λ e. absurd (false≢true (sym leaves ∙ e))), unfiltered P p xs (subst (AllByRecursion P) (cond-false (p x) (x ∷ filter p xs) (filter p xs) leaves) h))
]

joined : {X : Type 0} (P : X → Type 0) (xs ys : List X) → AllByRecursion P xs → AllByRecursion P ys → AllByRecursion P (xs ++ ys)
joined P [] ys h k = k
joined P (x ∷ xs) ys h k = (h.0, joined P xs ys h.1 k)

flattened : {X Y : Type 0} (P : Y → Type 0) (f : X → List Y) (xs : List X) → AllByRecursion (λ x. AllByRecursion P (f x)) xs → AllByRecursion P (flat_map f xs)
flattened P f [] h = tt
flattened P f (x ∷ xs) h = joined P (f x) (flat_map f xs) h.0 (flattened P f xs h.1)

each : {X : Type 0} (P : X → Type 0) (xs : List X) → All P xs → AllByRecursion P xs
each P [] h = tt
each P (x ∷ xs) h = (h 0 x (omega arith), each P xs (λ k d lt. h (suc k) d (omega arith)))

-- of the node that is found at a place
at_place : (P : Node → Type 0) (ns : List Node) (place : ℕ) (n : Node) → node_at ns place ≡ Some n → AllByRecursion P ns → P n
at_place P [] place n e h = absurd cc
at_place P (m ∷ ns) place n e h = elim (cases_Bool (m.place == place)) [
  | inl here ↦ subst P (ap or_empty (sym (cond-true (m.place == place) (Some m) (node_at ns place) here) ∙ e)) h.0
  | inr past ↦ at_place P ns place n (sym (cond-false (m.place == place) (Some m) (node_at ns place) past) ∙ e) h.1
]

and_false : (a : Bool) → a && false ≡ false
and_false true = refl
and_false false = refl

-- ---- kinds

suppressing_kept : (g : Node) → number g.op == SUPPRESS_IF ≡ true → is_kept g ≡ true
suppressing_kept g e = rw e refl

graying_out_kept : (g : Node) → number g.op == GRAY_OUT_IF ≡ true → is_kept g ≡ true
graying_out_kept g e = elim (cases_Bool (number g.op == SUPPRESS_IF)) [
  | inl first ↦ rw first refl
  | inr other ↦ rw (other, e) refl
]

no_submit_kept : (g : Node) → is_no_submit g ≡ true → is_kept g ≡ true
no_submit_kept g e = elim (cases_Bool (number g.op == SUPPRESS_IF)) [
  | inl first ↦ rw first refl
  | inr other ↦ elim (cases_Bool (number g.op == GRAY_OUT_IF)) [
    | inl second ↦ rw (other, second) refl
    | inr neither ↦ rw (other, neither, e) refl
  ]
]

-- ---- the nodes around a node

around_nodes : (bytes : List ℕ) (n : Node) (before path : List Ancestor) → IsAccepted bytes → IsNodeOf bytes n → n.path ≡ before ++ path → AllByRecursion (IsNodeOf bytes) (nodes_on before path)
around_nodes bytes n before [] accepted is e = tt
around_nodes bytes n before (a ∷ path) accepted is e =
    let found = ancestor_node bytes n before path a accepted.checked.spelled is e in
    let same : found.0 ≡ record { place = a.place; op = a.op; path = before; children = a.children } =
    ap (λ (b : Ancestor). record { place = b.place; op = b.op; path = found.0.path; children = b.children }) found.2 ∙ ap (λ (p : List Ancestor). record { place = a.place; op = a.op; path = p; children = a.children }) found.3 in
    (subst (IsNodeOf bytes) same found.1, around_nodes bytes n (before ++ a ∷ []) path accepted is (e ∙ sym (append_assoc before (a ∷ []) path)))

module _ (bytes removed : List ℕ) (stores : StoreMap) (holding : ℕ → Bool) (accepted : IsAccepted bytes) where
  abbrev w : World
  w = world_over (nodes_of bytes) removed stores

  abbrev IsTold : Node → Type 0
  IsTold c = holding c.place ≡ is_met w c

  kept_told : TellsAll holding w → (g : Node) → IsNodeOf bytes g → is_kept g ≡ true → IsTold g
  kept_told all g is = at_place (λ c. is_kept c ≡ true → IsTold c) (nodes_of bytes) g.place g is (unfiltered IsTold is_kept (nodes_of bytes) all)

  pub around_told : TellsAll holding w → (n : Node) → IsNodeOf bytes n → Tells holding w (around n)
  around_told all n is =
      let gs = turned (IsNodeOf bytes) (IsNodeOf bytes) (λ g. is_guard (number g.op)) (λ g e h. h) (ancestors n) (around_nodes bytes n [] n.path accepted is refl) in
      joined IsTold (suppressing n) (graying_out n)
      (turned (IsNodeOf bytes) IsTold (λ g. number g.op == SUPPRESS_IF) (λ g e h. kept_told all g h (suppressing_kept g e)) (guards n) gs)
      (turned (IsNodeOf bytes) IsTold (λ g. number g.op == GRAY_OUT_IF) (λ g e h. kept_told all g h (graying_out_kept g e)) (guards n) gs)

  suppressing_told : TellsAll holding w → (n : Node) → IsNodeOf bytes n → Tells holding w (suppressing n)
  suppressing_told all n is = front IsTold (suppressing n) (graying_out n) (around_told all n is)

  submission_told : TellsAll holding w → Tells holding w (filter (counts w.removed) (filter is_no_submit w.nodes))
  submission_told all =
      turned IsTold IsTold (counts w.removed) (λ c e h. h) (filter is_no_submit w.nodes)
      (turned (λ c. is_kept c ≡ true → IsTold c) IsTold is_no_submit (λ c e h. h (no_submit_kept c e)) w.nodes (unfiltered IsTold is_kept w.nodes all))

  pub decision_told : TellsAll holding w → (decision : Decision) → IsSubjectOf bytes decision → is_by_kept decision ≡ true → Tells holding w (conditions w decision)
  decision_told all (Listed statement) is e = suppressing_told all (statement_node statement) is
  decision_told all (Changeable statement) is e = around_told all (statement_node statement) is
  decision_told all (OptionOpen question value) is e =
      flattened IsTold around (filter (λ o. option_value o.op == value) (options (question_node question)))
      (turned (IsNodeOf bytes) (λ o. Tells holding w (around o)) (λ o. option_value o.op == value) (λ o e h. around_told all o h) (options (question_node question))
      (each (IsNodeOf bytes) (options (question_node question)) (options_are_nodes bytes (question_node question) accepted.checked.spelled is)))
  decision_told all (Opens form) is e = suppressing_told all (form_node form) is
  decision_told all (Consistent question) is e = absurd (false≢true e)
  decision_told all MaySubmit is e = submission_told all
  decision_told all (Warnings question) is e = absurd (false≢true e)

-- ---- conditions that are evaluated whenever they are asked

-- the node of a kind that is found at its place is the first of the kind there
pub kind_found : (is : Node → Bool) (ns : List Node) (n : Node) → node_at ns n.place ≡ Some n → is n ≡ true → kind_at is ns n.place ≡ Some n
kind_found is [] n e k = absurd cc
kind_found is (m ∷ ns) n e k = elim (cases_Bool (m.place == n.place)) [
  | inl here ↦
      let same : m ≡ n = ap or_empty (sym (cond-true (m.place == n.place) (Some m) (node_at ns n.place) here) ∙ e) in
      let kind : is m ≡ true = ap is same ∙ k in
      cond-true (is m && (m.place == n.place)) (Some m) (kind_at is ns n.place) (rw (kind, here) refl) ∙ ap (λ (x : Node). Some x) same
  | inr past ↦
      cond-false (is m && (m.place == n.place)) (Some m) (kind_at is ns n.place) (ap (λ (b : Bool). is m && b) past ∙ and_false (is m)) ∙ kind_found is ns n (sym (cond-false (m.place == n.place) (Some m) (node_at ns n.place) past) ∙ e) k
]

conditional_no_submit : (code : ℕ) → code ≡ NO_SUBMIT_IF → is_guard code || is_condition_number code ≡ true
unfolding is_condition_number row_of
conditional_no_submit code e = rw e refl

pub kept_conditional : (g : Node) → is_kept g ≡ true → is_conditional g ≡ true
kept_conditional g e = elim (cases_Bool (number g.op == SUPPRESS_IF)) [
  | inl first ↦ rw first refl
  | inr other ↦ elim (cases_Bool (number g.op == GRAY_OUT_IF)) [
    | inl second ↦ rw (other, second) refl
    | inr neither ↦ conditional_no_submit (number g.op) (eqb-true (number g.op) NO_SUBMIT_IF (sym (rw (other, neither) refl) ∙ e))
  ]
]

-- what is kept of its conditions by evaluating each tells of all of them
pub evaluated_told : (bytes removed : List ℕ) (stores : StoreMap) → IsAccepted bytes → TellsAll (is_met_at (world_over (nodes_of bytes) removed stores)) (world_over (nodes_of bytes) removed stores)
evaluated_told bytes removed stores accepted =
    let w = world_over (nodes_of bytes) removed stores in
    let ns = nodes_of bytes in
    turned (IsNodeOf bytes) (λ c. is_met_at w c.place ≡ is_met w c) is_kept (λ c e is. ap (is_met_if w) (kind_found is_conditional ns c is (kept_conditional c e))) ns
    (each (IsNodeOf bytes) ns (λ k d lt. is_found bytes (tree_of bytes) (get_or ns k d) accepted.checked.spelled (Contains-get_or ns k d lt)))
