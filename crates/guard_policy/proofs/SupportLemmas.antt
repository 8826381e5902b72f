-- A decision depends on the answers of its questions alone.
use Rattle.std.proofs.Common.{◌≡◌, ℕ, ◌==◌, ◌&&◌, ◌||◌, Bool, true, false, cond, Option, Some, None, is_none, List, [], ◌∷◌, ◌++◌, filter, find, refl, sym, ap, ◌∙◌, subst, inl, inr}
use Rattle.std.specs.Prelude.{option_map}
use Rattle.std.specs.List.{AllByRecursion, flat_map, list_any}
use Rattle.std.proofs.lemmas.Bool.{cases_Bool, cond-true, cond-false, false≢true}
use Rattle.std.proofs.lemmas.List.Elements.{All-filter, All-from_recursion, recursion_from_All}
use Rattle.ifr_opcodes.specs.declared.codes.TheConstants.{SUPPRESS_IF, GRAY_OUT_IF}
use Rattle.ifr_opcodes.specs.Fields.{option_value}
use Rattle.ifr_opcodes.specs.Forest.{Node}
use Rattle.ifr_opcodes.specs.Opcode.{number}
use Rattle.ifr_expr.specs.Meaning.{answered}
use Rattle.ifr_expr.specs.Values.{holds}
use Rattle.ifr_expr.proofs.DependenceLemmas.{depends}
use Rattle.ifr_nodes.specs.NodeExpressions.{expression_tree}
use Rattle.ifr_nodes.specs.Guards.{guards}
use Rattle.ifr_scopes.specs.code.Lists.{form_node, statement_node}
use Rattle.ifr_nodes.specs.Locks.{first_lock}
use Rattle.ifr_nodes.specs.Nodes.{is_no_submit, options, inconsistents, warnings, this_of}
use Rattle.ifr_nodes.specs.Rules.{rules_among}
use Rattle.hii_varstore.specs.Stores.{StoreMap}
use Rattle.hii_values.specs.declared.denial.DenialKind.TheVariants.{GrayOutIf, Locked, InconsistentIf, NoSubmitIf}
use Rattle.hii_questions.specs.Answers.{answers}
use Rattle.hii_questions.specs.code.Views.{question_node}
use Rattle.guard_policy.specs.Policy.{denied_by, told, or_else, is_removed, hides, hiding, hidden, grays_out, fixed_itself, fixed, all_fixed, closed, inconsistent, unsubmitted, warned}
use Rattle.guard_policy.specs.Conditions.{condition_ids}
use Rattle.guard_policy.specs.laws.Support.{suppressing, graying_out, around, counts, conditions, denial, warning_of, support_over, AnswersAgree, until_met, is_by_first}
use Rattle.guard_policy.specs.World.{World, is_met, is_met_over}
use Rattle.guard_policy.specs.code.Worlds.{otherwise}
use Rattle.guard_policy.specs.declared.denial.Denial.{Denial}
use Rattle.guard_policy.specs.declared.support.Decision.{Decision}
use Rattle.guard_policy.specs.declared.support.Decision.TheVariants.{Listed, Changeable, OptionOpen, Opens, Consistent, MaySubmit, Warnings}

-- ---- lists, under tests that agree on their elements

pub front : {X : Type 0} (P : X → Type 0) (xs ys : List X) → AllByRecursion P (xs ++ ys) → AllByRecursion P xs
front P [] ys h = tt
front P (x ∷ xs) ys h = (h.0, front P xs ys h.1)

pub back : {X : Type 0} (P : X → Type 0) (xs ys : List X) → AllByRecursion P (xs ++ ys) → AllByRecursion P ys
back P [] ys h = h
back P (x ∷ xs) ys h = back P xs ys h.1

-- What is found first is the same, where what is behind it need not be.
find_step : (p q : Node → Bool) (x : Node) (xs : List Node) → p x ≡ q x → (q x ≡ false → find p xs ≡ find q xs) → find p (x ∷ xs) ≡ find q (x ∷ xs)
find_step p q x xs here behind = elim (cases_Bool (q x)) [
  | inl found ↦ cond-true (p x) (Some x) (find p xs) (here ∙ found) ∙ sym (cond-true (q x) (Some x) (find q xs) found)
  | inr past ↦ cond-false (p x) (Some x) (find p xs) (here ∙ past) ∙ behind past ∙ sym (cond-false (q x) (Some x) (find q xs) past)
]

filter_same : (p q : Node → Bool) (xs : List Node) → AllByRecursion (λ x. p x ≡ q x) xs → filter p xs ≡ filter q xs
filter_same p q [] h = refl
filter_same p q (x ∷ xs) h = ap (λ (b : Bool). cond b (x ∷ filter p xs) (filter p xs)) h.0 ∙ ap (λ (l : List Node). cond (q x) (x ∷ l) l) (filter_same p q xs h.1)

kept : {X : Type 0} (P : X → Type 0) (p : X → Bool) (xs : List X) → AllByRecursion P xs → AllByRecursion P (filter p xs)
kept P p xs h = recursion_from_All P (filter p xs) (All-filter p P xs (All-from_recursion P xs h))

list_any_same : (p q : Node → Bool) (xs : List Node) → AllByRecursion (λ x. p x ≡ q x) xs → list_any p xs ≡ list_any q xs
list_any_same p q [] h = refl
list_any_same p q (x ∷ xs) h = ap (λ (b : Bool). b || list_any p xs) h.0 ∙ ap (λ (b : Bool). q x || b) (list_any_same p q xs h.1)

filter_all : (xs : List Node) → filter (λ _. true) xs ≡ xs
filter_all [] = refl
filter_all (x ∷ xs) = ap (λ (l : List Node). x ∷ l) (filter_all xs)

second_false : (a b : Bool) → a || b ≡ false → b ≡ false
second_false true b e = absurd (false≢true (sym e))
second_false false b e = e

-- where nothing is found the first is none of it, nor is anything behind it
not_found : (q : Node → Bool) (x : Node) (xs : List Node) → find q (x ∷ xs) ≡ None → (q x ≡ false) × (find q xs ≡ None)
not_found q x xs e = elim (cases_Bool (q x)) [
  | inl found ↦ let bad : Some x ≡ None = sym (cond-true (q x) (Some x) (find q xs) found) ∙ e in absurd cc
  | inr past ↦ (past, sym (cond-false (q x) (Some x) (find q xs) past) ∙ e)
]

none_found : (f : Node → Denial) (found : Option Node) → option_map f found ≡ None → found ≡ None
none_found f None e = refl
none_found f (Some x) e = absurd cc

-- What covers a node stays, where what hides it does, and what grays it out where nothing hides it.
covered_same : (h h' g g' l : Option Denial) → h' ≡ h → (h ≡ None → g' ≡ g) → or_else h' (or_else g' l) ≡ or_else h (or_else g l)
covered_same None h' g g' l e f = ap (λ (o : Option Denial). or_else o (or_else g' l)) e ∙ ap (λ (o : Option Denial). or_else o l) (f refl)
covered_same (Some denial) h' g g' l e f = ap (λ (o : Option Denial). or_else o (or_else g' l)) e

-- ---- conditions over other stores

module _ (ns : List Node) (removed : List ℕ) (stores others : StoreMap) where
  abbrev Agrees : ℕ → Type 0
  Agrees id = answered (answers ns stores) id ≡ answered (answers ns others) id

  -- A condition holds over other stores as it does over these.
  abbrev HoldsAlike : Node → Type 0
  HoldsAlike c = is_met_over ns others c ≡ is_met_over ns stores c

  alike : (c : Node) → AnswersAgree ns stores others (condition_ids ns c) → HoldsAlike c
  alike c h = ap holds (sym (depends (rules_among ns) (answers ns stores) (answers ns others) (this_of c) (expression_tree c) h))

  pub all_alike : (cs : List Node) → AnswersAgree ns stores others (support_over ns cs) → AllByRecursion HoldsAlike cs
  all_alike [] h = tt
  all_alike (c ∷ cs) h = (alike c (front Agrees (condition_ids ns c) (support_over ns cs) h), all_alike cs (back Agrees (condition_ids ns c) (support_over ns cs) h))

-- ---- decisions where other conditions hold

module _ (w : World) (met : Node → Bool) where
  abbrev v : World
  v = otherwise w met

  -- These conditions hold as they do in the world.
  abbrev SameAt : Node → Type 0
  SameAt c = met c ≡ is_met w c

  abbrev Same : List Node → Type 0
  Same cs = AllByRecursion SameAt cs

  -- ---- those up to the first that holds

  first_same : (c : Node) (cs : List Node) → Same (until_met w (c ∷ cs)) → met c ≡ is_met w c
  first_same c cs h = elim (cases_Bool (is_met w c)) [
    | inl met ↦ let these = subst Same (cond-true (is_met w c) (c ∷ []) (c ∷ until_met w cs) met) h in these.0
    | inr past ↦ let these = subst Same (cond-false (is_met w c) (c ∷ []) (c ∷ until_met w cs) past) h in these.0
  ]

  later_same : (c : Node) (cs : List Node) → is_met w c ≡ false → Same (until_met w (c ∷ cs)) → Same (until_met w cs)
  later_same c cs past h = let these = subst Same (cond-false (is_met w c) (c ∷ []) (c ∷ until_met w cs) past) h in these.1

  until_same : (cs : List Node) → Same cs → Same (until_met w cs)
  until_same [] h = tt
  until_same (c ∷ cs) h = elim (cases_Bool (is_met w c)) [
    | inl met ↦ subst Same (sym (cond-true (is_met w c) (c ∷ []) (c ∷ until_met w cs) met)) (h.0, tt)
    | inr past ↦ subst Same (sym (cond-false (is_met w c) (c ∷ []) (c ∷ until_met w cs) past)) (h.0, until_same cs h.1)
  ]

  front_same : (xs ys : List Node) → Same (until_met w (xs ++ ys)) → Same (until_met w xs)
  front_same [] ys h = tt
  front_same (x ∷ xs) ys h = elim (cases_Bool (is_met w x)) [
    | inl met ↦ subst Same (sym (cond-true (is_met w x) (x ∷ []) (x ∷ until_met w xs) met)) (first_same x (xs ++ ys) h, tt)
    | inr past ↦ subst Same (sym (cond-false (is_met w x) (x ∷ []) (x ∷ until_met w xs) past)) (first_same x (xs ++ ys) h, front_same xs ys (later_same x (xs ++ ys) past h))
  ]

  -- behind conditions of which none holds
  back_same : (xs ys : List Node) → AllByRecursion (λ c. is_met w c ≡ false) xs → Same (until_met w (xs ++ ys)) → Same (until_met w ys)
  back_same [] ys none h = h
  back_same (x ∷ xs) ys none h = back_same xs ys none.1 (later_same x (xs ++ ys) none.0 h)

  abbrev Unmet : Node → Type 0
  Unmet c = is_met w c ≡ false

  unmet : (others which : Node → Bool) (n : Node) → which n ≡ true → others n || (which n && is_met w n) ≡ false → Unmet n
  unmet others which n is past = ap (λ (b : Bool). b && is_met w n) (sym is) ∙ second_false (others n) (which n && is_met w n) past

  -- The first of some nodes by a condition, or by what is no condition, stays the first.
  first_stays : (others which : Node → Bool) (ns : List Node) → Same (until_met w (filter which ns))
      → find (λ n. others n || (which n && met n)) ns ≡ find (λ n. others n || (which n && is_met w n)) ns
  first_stays others which [] h = refl
  first_stays others which (n ∷ ns) h =
      let p : Node → Bool = λ m. others m || (which m && met m) in
      let q : Node → Bool = λ m. others m || (which m && is_met w m) in
      elim (cases_Bool (which n)) [
        | inl is ↦
            let these = subst (λ (l : List Node). Same (until_met w l)) (cond-true (which n) (n ∷ filter which ns) (filter which ns) is) h in
            let here : p n ≡ q n = ap (λ (b : Bool). others n || (which n && b)) (first_same n (filter which ns) these) in
            find_step p q n ns here (λ past. first_stays others which ns (later_same n (filter which ns) (unmet others which n is past) these))
        | inr other ↦
            let these = subst (λ (l : List Node). Same (until_met w l)) (cond-false (which n) (n ∷ filter which ns) (filter which ns) other) h in
            let here : p n ≡ q n = ap (λ (b : Bool). others n || (b && met n)) other ∙ sym (ap (λ (b : Bool). others n || (b && is_met w n)) other) in
            find_step p q n ns here (λ past. first_stays others which ns these)
      ]

  -- Where nothing is found no condition holds.
  all_unmet : (others which : Node → Bool) (ns : List Node) → find (λ n. others n || (which n && is_met w n)) ns ≡ None → AllByRecursion Unmet (filter which ns)
  all_unmet others which [] e = tt
  all_unmet others which (n ∷ ns) e =
      let none = not_found (λ m. others m || (which m && is_met w m)) n ns e in
      let behind = all_unmet others which ns none.1 in
      elim (cases_Bool (which n)) [
        | inl is ↦ subst (AllByRecursion Unmet) (sym (cond-true (which n) (n ∷ filter which ns) (filter which ns) is)) (unmet others which n is none.0, behind)
        | inr other ↦ subst (AllByRecursion Unmet) (sym (cond-false (which n) (n ∷ filter which ns) (filter which ns) other)) behind
      ]

  -- ---- what denies

  hidden_stays : (n : Node) → Same (until_met w (suppressing n)) → hidden v n ≡ hidden w n
  hidden_stays n h = ap (option_map hiding) (first_stays (is_removed w.removed) (λ g. number g.op == SUPPRESS_IF) (guards n) h)

  pub hidden_same : (n : Node) → Same (suppressing n) → hidden v n ≡ hidden w n
  hidden_same n h = hidden_stays n (until_same (suppressing n) h)

  abbrev grayed_out : World → Node → Option Denial
  grayed_out its n = option_map (denied_by GrayOutIf) (find (grays_out its) (guards n))

  grayed_stays : (n : Node) → Same (until_met w (graying_out n)) → grayed_out v n ≡ grayed_out w n
  grayed_stays n h = ap (option_map (denied_by GrayOutIf)) (first_stays (λ _. false) (λ g. number g.op == GRAY_OUT_IF) (guards n) h)

  fixed_stays : (n : Node) → Same (until_met w (around n)) → fixed v n ≡ fixed w n
  fixed_stays n h =
      let seen = hidden_stays n (front_same (suppressing n) (graying_out n) h) in
      let uncovered : hidden w n ≡ None → grayed_out v n ≡ grayed_out w n =
      λ none. grayed_stays n (back_same (suppressing n) (graying_out n) (all_unmet (is_removed w.removed) (λ g. number g.op == SUPPRESS_IF) (guards n) (none_found hiding (find (hides w) (guards n)) none)) h) in
      ap (λ (o : Option Denial). or_else o (fixed_itself w.nodes n))
      (covered_same (hidden w n) (hidden v n) (grayed_out w n) (grayed_out v n) (option_map (denied_by Locked) (first_lock w.nodes n)) seen uncovered)

  pub fixed_same : (n : Node) → Same (around n) → fixed v n ≡ fixed w n
  fixed_same n h = fixed_stays n (until_same (around n) h)

  abbrev SameFixed : Node → Type 0
  SameFixed o = fixed v o ≡ fixed w o

  each_fixed : (os : List Node) → Same (flat_map around os) → AllByRecursion SameFixed os
  each_fixed [] h = tt
  each_fixed (o ∷ os) h = (fixed_same o (front SameAt (around o) (flat_map around os) h), each_fixed os (back SameAt (around o) (flat_map around os) h))

  each_none : (os : List Node) → AllByRecursion SameFixed os → AllByRecursion (λ o. is_none (fixed v o) ≡ is_none (fixed w o)) os
  each_none [] h = tt
  each_none (o ∷ os) h = (ap is_none h.0, each_none os h.1)

  all_fixed_same : (os : List Node) → AllByRecursion SameFixed os → all_fixed v os ≡ all_fixed w os
  all_fixed_same [] h = refl
  all_fixed_same (o ∷ os) h =
      ap (λ (b : Bool). cond b None (fixed v o)) (list_any_same (λ p. is_none (fixed v p)) (λ p. is_none (fixed w p)) (o ∷ os) (each_none (o ∷ os) h))
      ∙ ap (λ (d : Option Denial). cond (list_any (λ p. is_none (fixed w p)) (o ∷ os)) None d) h.0

  -- a value of a question, by the conditions around all of its options
  pub closed_same : (q : Node) (value : ℕ) → Same (flat_map around (options q)) → closed v q value ≡ closed w q value
  closed_same q value h =
      let of_value : Node → Bool = λ o. option_value o.op == value in
      all_fixed_same (filter of_value (options q)) (kept SameFixed of_value (options q) (each_fixed (options q) h))

  inconsistent_stays : (q : Node) → Same (until_met w (inconsistents q)) → inconsistent v q ≡ inconsistent w q
  inconsistent_stays q h =
      ap (option_map (told InconsistentIf)) (first_stays (λ _. false) (λ _. true) (inconsistents q) (subst (λ (l : List Node). Same (until_met w l)) (sym (filter_all (inconsistents q))) h))

  pub inconsistent_same : (q : Node) → Same (inconsistents q) → inconsistent v q ≡ inconsistent w q
  inconsistent_same q h = inconsistent_stays q (until_same (inconsistents q) h)

  unsubmitted_stays : Same (until_met w (filter (counts w.removed) (filter is_no_submit w.nodes))) → unsubmitted v ≡ unsubmitted w
  unsubmitted_stays h = ap (option_map (told NoSubmitIf)) (first_stays (λ _. false) (counts w.removed) (filter is_no_submit w.nodes) h)

  pub denial_stays : (decision : Decision) → is_by_first decision ≡ true → Same (until_met w (conditions w decision)) → denial v decision ≡ denial w decision
  denial_stays (Listed statement) is h = hidden_stays (statement_node statement) h
  denial_stays (Changeable statement) is h = fixed_stays (statement_node statement) h
  denial_stays (OptionOpen question value) is h = absurd (false≢true is)
  denial_stays (Opens form) is h = hidden_stays (form_node form) h
  denial_stays (Consistent question) is h = inconsistent_stays (question_node question) h
  denial_stays MaySubmit is h = unsubmitted_stays h
  denial_stays (Warnings question) is h = absurd (false≢true is)

  pub denial_same : (decision : Decision) → Same (conditions w decision) → denial v decision ≡ denial w decision
  denial_same (Listed statement) h = denial_stays (Listed statement) refl (until_same (conditions w (Listed statement)) h)
  denial_same (Changeable statement) h = fixed_same (statement_node statement) h
  denial_same (OptionOpen question value) h =
      let os = filter (λ o. option_value o.op == value) (options (question_node question)) in
      all_fixed_same os (each_fixed os h)
  denial_same (Opens form) h = denial_stays (Opens form) refl (until_same (conditions w (Opens form)) h)
  denial_same (Consistent question) h = inconsistent_same (question_node question) h
  denial_same MaySubmit h = denial_stays MaySubmit refl (until_same (conditions w MaySubmit) h)
  denial_same (Warnings question) h = refl

  pub warned_same : (q : Node) → Same (warnings q) → warned v q ≡ warned w q
  warned_same q h = filter_same met (is_met w) (warnings q) h

  pub warning_same : (decision : Decision) → Same (conditions w decision) → warning_of v decision ≡ warning_of w decision
  warning_same (Warnings question) h = warned_same (question_node question) h
  warning_same _ h = refl
