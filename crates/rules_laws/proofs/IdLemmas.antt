-- Good ids and small rules are those without a fault.
use Rattle.std.proofs.Common.{◌≡◌, ℕ, ◌≤◌, Bool, true, false, Option, Some, None, List, [], ◌∷◌, map, refl, sym, ap, ◌∙◌, subst, inl, inr, arith}
use Rattle.std.specs.Prelude.{Contains, filter, nat_eq, nat_lt, not, ◌&&◌, ◌||◌, ◌==◌}
use Rattle.std.specs.List.{IsDistinct, list_any}
use Rattle.std.proofs.lemmas.Bool.{cases_Bool, false≢true, true≢false, and_from, or_from, or_parts, eqb-true, not_from_true, le-ltb, ltb-false}
use Rattle.hii_bytes.specs.Faults.{HasNone}
use Rattle.hii_bytes.specs.declared.cause.Cause.{Cause}
use Rattle.hii_bytes.specs.declared.cause.Cause.TheVariants.{DuplicateForm, DuplicateQuestion, NoForm, RuleTooLarge}
use Rattle.ifr_opcodes.specs.Fields.{form_id, question_id, ref_target}
use Rattle.ifr_opcodes.specs.Forest.{Node}
use Rattle.ifr_opcodes.proofs.TableLemmas.{and_first, and_second}
use Rattle.ifr_nodes.specs.Checked.{IsChecked}
use Rattle.ifr_nodes.specs.Nodes.{nodes_of, is_form, is_question, is_reference}
use Rattle.ifr_nodes.specs.ReferenceFaults.{Ranked, ranked, has_form_id, has_question_id, has_reference_fault, is_lost, IsReferenceFault}
use Rattle.ifr_nodes.specs.Rules.{is_rule, as_rule, rules_among, size, is_rule_too_large}
use Rattle.ifr_nodes.specs.declared.rules.RuleSize.{RuleSize}
use Rattle.ifr_index.proofs.OptionsOfLemmas.{passes}
use Rattle.hii_questions.proofs.FieldLemmas.{passing}
use Rattle.rules_laws.specs.laws.Ids.{AreReferred, form_ids, is_id, question_ids}
use Rattle.rules_laws.specs.laws.Naming.{IsSmallRule, HasDepth, weight}
use Rattle.rules_laws.proofs.DepthLemmas.{IsRuleAt, whole, depth_before, weight_before, has_depth, depth_has, weight_is}
use Rattle.rules_laws.proofs.FoundLemmas.{alike, nothing}
use Rattle.rules_laws.proofs.RankedLemmas.{IsPart, part_of, part_at, part_there, ranked_part, has_id, some_has, has_some, no_repeat, differ}

-- ---- ids

abbrev form_of : Node → ℕ
form_of n = form_id n.op

abbrev question_of : Node → ℕ
question_of n = question_id n.op

-- a question that has an id
abbrev is_named : Node → Bool
is_named n = is_question n && is_id (question_of n)

question_ids_are : (ns : List Node) → question_ids ns ≡ map question_of (filter is_named ns)
question_ids_are [] = refl
question_ids_are (n ∷ ns) = elim (cases_Bool (is_question n)) [
  | inl asks ↦ elim (cases_Bool (is_id (question_of n))) [
    | inl named ↦ rw (asks, named) (ap (λ (l : List ℕ). question_of n ∷ l) (question_ids_are ns))
    | inr bare ↦ rw (asks, bare) (question_ids_are ns)
  ]
  | inr other ↦ rw other (question_ids_are ns)
]

same_question : (i : ℕ) (m : Node) → is_id i ≡ true → has_id is_named question_of i m ≡ has_question_id i m
same_question i m is = alike (has_id is_named question_of i m) (has_question_id i m)
    (λ e. and_from (is_question m) (question_of m == i) (and_first (is_question m) (is_id (question_of m)) (and_first (is_named m) (question_of m == i) e)) (and_second (is_named m) (question_of m == i) e))
    (λ e.
    let same : question_of m ≡ i = eqb-true (question_of m) i (and_second (is_question m) (question_of m == i) e) in
    and_from (is_named m) (question_of m == i) (and_from (is_question m) (is_id (question_of m)) (and_first (is_question m) (question_of m == i) e) (ap is_id same ∙ is)) (and_second (is_question m) (question_of m == i) e))

same_questions : (i : ℕ) (ns : List Node) → is_id i ≡ true → list_any (has_id is_named question_of i) ns ≡ list_any (has_question_id i) ns
same_questions i [] is = refl
same_questions i (n ∷ ns) is = ap (λ (b : Bool). b || list_any (has_id is_named question_of i) ns) (same_question i n is) ∙ ap (λ (b : Bool). has_question_id i n || b) (same_questions i ns is)

-- ---- rules

small_size : (s : RuleSize) → s.depth ≤ 16 → s.weight ≤ 4096 → is_rule_too_large s ≡ false
small_size s deep heavy = or_from (nat_lt 16 s.depth) (nat_lt 4096 s.weight) (le-ltb 16 s.depth deep) (le-ltb 4096 s.weight heavy)

size_small : (s : RuleSize) → is_rule_too_large s ≡ false → (s.depth ≤ 16) × (s.weight ≤ 4096)
size_small s e = let both = or_parts (nat_lt 16 s.depth) (nat_lt 4096 s.weight) e in (ltb-false 16 s.depth both.0, ltb-false 4096 s.weight both.1)

abbrev size_there : List Node → Node → RuleSize
size_there before r = size (rules_among before) (as_rule r)

rule_at : (bytes : List ℕ) (before : List Node) (r : Node) → IsPart (nodes_of bytes) before r → is_rule r ≡ true → IsRuleAt bytes before r
rule_at bytes before r p is = record { rest = p.rest; split = p.split; is = is }

is_not_large : (bytes : List ℕ) (before : List Node) (r : Node) → IsChecked bytes → IsPart (nodes_of bytes) before r → is_rule r ≡ true → IsSmallRule (nodes_of bytes) r → is_rule_too_large (size_there before r) ≡ false
is_not_large bytes before r checked p is small =
    let at = rule_at bytes before r p is in
    let within = part_there (nodes_of bytes) before r p in
    let deep : (whole bytes r).depth ≤ 16 = has_depth bytes 16 r checked within is small.depth in
    let heavy : weight (nodes_of bytes) 16 r ≡ (whole bytes r).weight = weight_is bytes 16 r checked within is small.depth in
    small_size (size_there before r)
    (subst (λ (k : ℕ). k ≤ 16) (sym (depth_before bytes before r checked at)) deep)
    (subst (λ (k : ℕ). k ≤ 4096) (heavy ∙ sym (weight_before bytes before r checked at)) small.weight)

is_small : (bytes : List ℕ) (before : List Node) (r : Node) → IsChecked bytes → IsPart (nodes_of bytes) before r → is_rule r ≡ true → is_rule_too_large (size_there before r) ≡ false → IsSmallRule (nodes_of bytes) r
is_small bytes before r checked p is fits =
    let at = rule_at bytes before r p is in
    let within = part_there (nodes_of bytes) before r p in
    let both = size_small (size_there before r) fits in
    let deep : HasDepth (nodes_of bytes) 16 r = depth_has bytes 16 r checked within is (subst (λ (k : ℕ). k ≤ 16) (depth_before bytes before r checked at) both.0) in
    record {
      depth = deep;
      weight = subst (λ (k : ℕ). k ≤ 4096) (weight_before bytes before r checked at ∙ sym (weight_is bytes 16 r checked within is deep)) both.1;
    }

-- ---- where ids are good there is no fault

no_fault_there : (bytes : List ℕ) (q : Ranked) → IsChecked bytes → AreReferred (nodes_of bytes) → Contains (ranked [] (nodes_of bytes)) q → (cause : Cause) → has_reference_fault (nodes_of bytes) q cause ≡ true → ⊥
no_fault_there bytes q checked a within DuplicateForm h =
    let repeats = list_any (has_form_id (form_of q.node)) q.before in
    false≢true (sym (no_repeat is_form form_of (nodes_of bytes) q.before q.node (part_of (nodes_of bytes) q within) (and_first (is_form q.node) repeats h) a.forms) ∙ and_second (is_form q.node) repeats h)
no_fault_there bytes q checked a within DuplicateQuestion h =
    let i = question_of q.node in
    let repeats = list_any (has_question_id i) q.before in
    let rest : is_id i && repeats ≡ true = and_second (is_question q.node) (is_id i && repeats) h in
    let named = and_first (is_id i) repeats rest in
    let is : is_named q.node ≡ true = and_from (is_question q.node) (is_id i) (and_first (is_question q.node) (is_id i && repeats) h) named in
    let alone = no_repeat is_named question_of (nodes_of bytes) q.before q.node (part_of (nodes_of bytes) q within) is (subst (IsDistinct nat_eq) (question_ids_are (nodes_of bytes)) a.questions) in
    false≢true (sym alone ∙ same_questions i q.before named ∙ and_second (is_id i) repeats rest)
no_fault_there bytes q checked a within NoForm h =
    let n = q.node in
    let is = and_first (is_reference n) (is_lost (nodes_of bytes) (ref_target n.op)) h in
    let there = passes is_reference (nodes_of bytes) n (part_there (nodes_of bytes) q.before n (part_of (nodes_of bytes) q within)) is in
    go (ref_target n.op) (λ id e. a.targets n id there e) (and_second (is_reference n) (is_lost (nodes_of bytes) (ref_target n.op)) h)
  where
    go : (o : Option ℕ) → ((id : ℕ) → o ≡ Some id → Contains (form_ids (nodes_of bytes)) id) → is_lost (nodes_of bytes) o ≡ true → ⊥
    go None led lost = false≢true lost
    go (Some id) led lost = false≢true (sym (not_from_true (list_any (has_form_id id) (nodes_of bytes)) (some_has is_form form_of (nodes_of bytes) id (led id refl))) ∙ lost)
no_fault_there bytes q checked a within RuleTooLarge h =
    let r = q.node in
    let p = part_of (nodes_of bytes) q within in
    let large = is_rule_too_large (size_there q.before r) in
    let is = and_first (is_rule r) large h in
    let small = a.rules r (passes is_rule (nodes_of bytes) r (part_there (nodes_of bytes) q.before r p) is) in
    false≢true (sym (is_not_large bytes q.before r checked p is small) ∙ and_second (is_rule r) large h)
no_fault_there bytes q checked a within _ h = false≢true h

pub good_is_faultless : (bytes : List ℕ) → IsChecked bytes → AreReferred (nodes_of bytes) → HasNone (IsReferenceFault (nodes_of bytes))
good_is_faultless bytes checked a = λ cause place fault. elim fault [
  | inl bare ↦ nothing a.first (subst (λ (l : List Node). Contains l a.first) bare.0 a.is_there)
  | inr there ↦ no_fault_there bytes there.0 checked a there.1 cause there.3
]

-- ---- and the other way round

rest_fails : (b c : Bool) → b ≡ true → b && c ≡ false → c ≡ false
rest_fails true c is e = e
rest_fails false c is e = absurd (false≢true is)

holds : (b : Bool) → not b ≡ false → b ≡ true
holds true e = refl
holds false e = absurd (true≢false e)

none_at : (ns before : List Node) (n : Node) → HasNone (IsReferenceFault ns) → IsPart ns before n → (cause : Cause) → has_reference_fault ns (record { before = before; node = n }) cause ≡ false
none_at ns before n none p cause = elim (cases_Bool (has_reference_fault ns (record { before = before; node = n }) cause)) [
  | inl bad ↦ absurd (none cause n.place (inr (record { before = before; node = n }, ranked_part ns before n p, refl, bad)))
  | inr good ↦ good
]

first_form : (ns : List Node) → HasNone (IsReferenceFault ns) → (f : Node) × Contains (filter is_form ns) f
first_form ns none = go (filter is_form ns) refl
  where
    go : (fs : List Node) → filter is_form ns ≡ fs → (f : Node) × Contains (filter is_form ns) f
    go [] e = absurd (none NoForm 4 (inl (e, refl, refl)))
    go (f ∷ fs) e = (f, subst (λ (l : List Node). Contains l f) (sym e) (0, omega arith, refl))

pub faultless_is_good : (bytes : List ℕ) → IsChecked bytes → HasNone (IsReferenceFault (nodes_of bytes)) → AreReferred (nodes_of bytes)
faultless_is_good bytes checked none =
    let ns = nodes_of bytes in
    let form = first_form ns none in
    record {
      first = form.0;
      is_there = form.1;
      forms = differ is_form form_of ns (λ before n p is. rest_fails (is_form n) (list_any (has_form_id (form_of n)) before) is (none_at ns before n none p DuplicateForm));
      questions = subst (IsDistinct nat_eq) (sym (question_ids_are ns)) (differ is_named question_of ns (λ before n p is.
          let i = question_of n in
          let repeats = list_any (has_question_id i) before in
          let named = and_second (is_question n) (is_id i) is in
          same_questions i before named ∙ rest_fails (is_id i) repeats named (rest_fails (is_question n) (is_id i && repeats) (and_first (is_question n) (is_id i) is) (none_at ns before n none p DuplicateQuestion))));
      targets = λ n id w e.
          let its = passing is_reference ns n w in
          let at = part_at ns n its.0 in
          let found : is_lost ns (ref_target n.op) ≡ false = rest_fails (is_reference n) (is_lost ns (ref_target n.op)) its.1 (none_at ns at.0 n none at.1 NoForm) in
          has_some is_form form_of ns id (holds (list_any (has_form_id id) ns) (ap (is_lost ns) (sym e) ∙ found));
      rules = λ r w.
          let its = passing is_rule ns r w in
          let at = part_at ns r its.0 in
          is_small bytes at.0 r checked at.1 its.1 (rest_fails (is_rule r) (is_rule_too_large (size_there at.0 r)) its.1 (none_at ns at.0 r none at.1 RuleTooLarge));
    }
