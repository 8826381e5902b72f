-- The faults of nodes among each other, node by node.
use Rattle.std.proofs.Common.{◌≡◌, ℕ, zero, suc, ◌+◌, ◌<◌, ◌≤◌, ◌==◌, Bool, true, false, eqb, ltb, List, [], ◌∷◌, ◌++◌, append_assoc, append-nil, length, refl, sym, ap, subst, ◌∙◌, arith, inl, inr, lit≤}
use Rattle.std.specs.Prelude.{Contains, filter, not, ◌||◌}
use Rattle.std.specs.List.{AllByRecursion, list_any}
use Rattle.std.proofs.lemmas.Bool.{cases_Bool, eqb-true, false≢true, true≢false, ltb-true, ltb-false}
use Rattle.hii_bytes.specs.code.FirstFaults.{Rise}
use Rattle.hii_bytes.specs.declared.cause.Cause.{Cause}
use Rattle.hii_bytes.specs.declared.cause.Cause.TheVariants.{DuplicateForm, DuplicateQuestion, NoForm, NotFormSet, RuleTooLarge}
use Rattle.hii_bytes.specs.declared.cause.Fault.{Fault}
use Rattle.hii_bytes.specs.code.NumberSets.{has_number}
use Rattle.ifr_opcodes.specs.Forest.{Node}
use Rattle.ifr_opcodes.specs.Opcode.{number}
use Rattle.ifr_opcodes.specs.Reading.{tree_of}
use Rattle.ifr_opcodes.specs.Rows.{is_question_number, row_of}
use Rattle.ifr_opcodes.specs.declared.codes.TheConstants.{FORM, FORM_SET, REF, RULE}
use Rattle.ifr_opcodes.specs.Forest.{flat}
use Rattle.ifr_nodes.specs.Checked.{IsChecked}
use Rattle.ifr_nodes.specs.Nodes.{nodes_of, is_form, is_question, is_reference}
use Rattle.ifr_nodes.specs.ReferenceFaults.{IsRankedFault, IsReferenceFault, Ranked, has_form_id, has_reference_fault, ranked}
use Rattle.ifr_nodes.specs.Rules.{as_rule, is_rule, is_rule_too_large, rules_among, size}
use Rattle.ifr_nodes.specs.Structure.{has_structure_fault}
use Rattle.ifr_nodes.specs.code.Causes.{reference_causes}
use Rattle.ifr_nodes.proofs.NodeFactLemmas.{no_fault}
use Rattle.ifr_nodes.proofs.PlaceLemmas.{Within, nodes_within}
use Rattle.package_faults.specs.AllFaults.{AreAll, IsBefore, fault_of}
use Rattle.package_faults.specs.code.Gathering.{where_it_is}
use Rattle.package_faults.specs.code.Met.{AreOf, MeetsNext}
use Rattle.package_faults.specs.code.Parts.{faults_of_node, node_faults, ranked_place}
use Rattle.package_faults.specs.declared.references.Met.{Met}
use Rattle.package_faults.proofs.GatheringLemmas.{all_of, its_split}

-- ---- the faults of ranked nodes

among : (ns : List Node) (r : Ranked) (cause : Cause) → has_reference_fault ns r cause ≡ true → Contains reference_causes cause
among ns r DuplicateForm h = (0, omega arith, refl)
among ns r DuplicateQuestion h = (1, omega arith, refl)
among ns r NoForm h = (2, omega arith, refl)
among ns r RuleTooLarge h = (3, omega arith, refl)
among ns r _ h = absurd (false≢true h)

rising : (before ns : List Node) (low high : ℕ) → Within low high ns → Rise ranked_place low (ranked before ns)
rising before [] low high w = tt
rising before (n ∷ ns) low high w = (w.0, rising (before ++ n ∷ []) ns (n.place + 1) high w.1)

all_ranked : (bytes : List ℕ) → IsChecked bytes → AreAll (IsRankedFault (nodes_of bytes)) (node_faults (nodes_of bytes) [] (nodes_of bytes))
all_ranked bytes checked =
    let f = tree_of bytes in
    let ns = nodes_of bytes in
    all_of ranked_place (has_reference_fault ns) reference_causes 4 (ranked [] ns) (record { rise = (lit≤ tt, (lit≤ tt, (lit≤ tt, (lit≤ tt, tt)))); all = among ns })
    (rising [] ns 4 (4 + length (flat f)) (nodes_within f 4 [] checked.spelled.are_nodes))

-- ---- where there is no form

ranked_within : (before ns : List Node) (r : Ranked) → Contains (ranked before ns) r → Contains ns r.node
ranked_within before [] r (k, lt, e) = absurd (omega arith)
ranked_within before (n ∷ ns) r (zero, lt, e) = (0, omega arith, ap (λ (q : Ranked). q.node) e)
ranked_within before (n ∷ ns) r (suc k, lt, e) =
    let there = ranked_within (before ++ n ∷ []) ns r (k, omega arith, e) in
    (suc there.0, omega (arith, there.1), there.2)

not_below : (ns : List Node) (low high : ℕ) (n : Node) → Within low high ns → Contains ns n → low ≤ n.place
not_below [] low high n w (k, lt, e) = absurd (omega arith)
not_below (m ∷ ns) low high n w (zero, lt, e) = omega (arith, w.0, ap (λ (q : Node). q.place) e)
not_below (m ∷ ns) low high n w (suc k, lt, e) = omega (arith, w.0, not_below ns (m.place + 1) high n w.1 (k, omega arith, e))

not_false : (b : Bool) → not b ≡ false → b ≡ true
not_false true e = refl
not_false false e = absurd (true≢false e)

first_is : (n : Node) → n.place ≡ 4 → has_structure_fault n NotFormSet ≡ false → number n.op ≡ FORM_SET
first_is n at sound =
    let here : (n.place == 4) ≡ true = ap (λ (p : ℕ). p == 4) at in
    eqb-true (number n.op) FORM_SET (not_false (number n.op == FORM_SET) (rw here at sound))

no_set_question : is_question_number FORM_SET ≡ false
unfolding is_question_number row_of
no_set_question = refl

-- a form set has none of these faults
none_of_set : (ns : List Node) (r : Ranked) (cause : Cause) → number r.node.op ≡ FORM_SET → has_reference_fault ns r cause ≡ true → ⊥
none_of_set ns r DuplicateForm is h = let other : is_form r.node ≡ false = ap (λ (k : ℕ). eqb k FORM) is in false≢true (rw other at h)
none_of_set ns r DuplicateQuestion is h = let other : is_question r.node ≡ false = ap is_question_number is ∙ no_set_question in false≢true (rw other at h)
none_of_set ns r NoForm is h = let other : is_reference r.node ≡ false = ap (λ (k : ℕ). eqb k REF) is in false≢true (rw other at h)
none_of_set ns r RuleTooLarge is h = let other : is_rule r.node ≡ false = ap (λ (k : ℕ). eqb k RULE) is in false≢true (rw other at h)
none_of_set ns r _ is h = false≢true h

-- so all of them stand behind it
behind_set : (bytes : List ℕ) (cause : Cause) (place : ℕ) → IsChecked bytes → IsRankedFault (nodes_of bytes) cause place → 4 < place
behind_set bytes cause place checked (r, within, at, is) =
    let f = tree_of bytes in
    let there = ranked_within [] (nodes_of bytes) r within in
    let low = not_below (nodes_of bytes) 4 (4 + length (flat f)) r.node (nodes_within f 4 [] checked.spelled.are_nodes) there in
    elim (cases_Bool (ltb 4 place)) [
      | inl less ↦ ltb-true 4 place less
      | inr past ↦
          let here : r.node.place ≡ 4 = omega (arith, at, low, ltb-false 4 place past) in
          absurd (none_of_set (nodes_of bytes) r cause (first_is r.node here (no_fault bytes r.node NotFormSet checked there)) is)
    ]

all_each : (P : Fault → Type 0) (fs : List Fault) → ((f : Fault) → Contains fs f → P f) → AllByRecursion P fs
all_each P [] each = tt
all_each P (f ∷ fs) each = (each f (0, omega arith, refl), all_each P fs (λ g w. each g (suc w.0, omega (arith, w.1), w.2)))

no_forms : (ns : List Node) → list_any is_form ns ≡ false → filter is_form ns ≡ []
no_forms [] e = refl
no_forms (n ∷ ns) e = elim (cases_Bool (is_form n)) [ inl h ↦ absurd (true≢false (rw h at e)) | inr h ↦ rw h (no_forms ns (rw h at e)) ]

some_form : (ns : List Node) → list_any is_form ns ≡ true → filter is_form ns ≡ [] → ⊥
some_form [] some e = false≢true some
some_form (n ∷ ns) some e = elim (cases_Bool (is_form n)) [ inl h ↦ let filled = rw h at e in cc | inr h ↦ some_form ns (rw h at some) (rw h at e) ]

-- that there is no form, and then the faults of the nodes
abbrev pub told_first : List Node → List Fault
told_first ns = where_it_is (not (list_any is_form ns)) NoForm 4

pub all_references : (bytes : List ℕ) → IsChecked bytes → AreAll (IsReferenceFault (nodes_of bytes)) (told_first (nodes_of bytes) ++ node_faults (nodes_of bytes) [] (nodes_of bytes))
all_references bytes checked =
    let ns = nodes_of bytes in
    let fs = node_faults ns [] ns in
    let ranked_all = all_ranked bytes checked in
    elim (cases_Bool (list_any is_form ns)) [
      | inl some ↦
          rw some
          record {
            all = λ cause place. (
              λ within. inr ((ranked_all.all cause place).0 within),
              λ is. elim is [ inl none ↦ absurd (some_form ns some none.0) | inr there ↦ (ranked_all.all cause place).1 there ],
            );
            in_order = ranked_all.in_order;
          }
      | inr bare ↦
          rw bare
          record {
            all = λ cause place. (
              λ within. found cause place (no_forms ns bare) (ranked_all.all cause place).0 within,
              λ is. elim is [
                | inl none ↦ (0, omega arith, λ i. fault_of (sym none.1 i) (sym none.2 i))
                | inr there ↦ let w = (ranked_all.all cause place).1 there in (suc w.0, omega (arith, w.1), w.2)
              ],
            );
            in_order = (all_each (IsBefore (fault_of NoForm 4)) fs (λ f w. inl (behind_set bytes f.cause f.place checked ((ranked_all.all f.cause f.place).0 w))), ranked_all.in_order);
          }
    ]
  where
    found : (cause : Cause) (place : ℕ) → filter is_form (nodes_of bytes) ≡ [] → (Contains (node_faults (nodes_of bytes) [] (nodes_of bytes)) (fault_of cause place) → IsRankedFault (nodes_of bytes) cause place)
        → Contains (fault_of NoForm 4 ∷ node_faults (nodes_of bytes) [] (nodes_of bytes)) (fault_of cause place) → IsReferenceFault (nodes_of bytes) cause place
    found cause place none later (zero, lt, e) = inl (none, ap (λ (f : Fault). f.cause) (sym e), ap (λ (f : Fault). f.place) (sym e))
    found cause place none later (suc k, lt, e) = inr (later (k, omega arith, e))

-- ---- the faults of one node

module _ (ns before : List Node) (n : Node) where
  abbrev r : Ranked
  r = record { before = before; node = n }

  abbrev has : Cause → Bool
  has cause = has_reference_fault ns r cause

  abbrev at : Cause → List Fault
  at cause = where_it_is (has cause) cause n.place

  by_cause : faults_of_node ns before n ≡ at DuplicateForm ++ (at DuplicateQuestion ++ (at NoForm ++ (at RuleTooLarge ++ [])))
  by_cause =
      its_split ranked_place (has_reference_fault ns) DuplicateForm (DuplicateQuestion ∷ NoForm ∷ RuleTooLarge ∷ []) r
      ∙ ap (λ (l : List Fault). at DuplicateForm ++ l)
      (its_split ranked_place (has_reference_fault ns) DuplicateQuestion (NoForm ∷ RuleTooLarge ∷ []) r
      ∙ ap (λ (l : List Fault). at DuplicateQuestion ++ l)
      (its_split ranked_place (has_reference_fault ns) NoForm (RuleTooLarge ∷ []) r
      ∙ ap (λ (l : List Fault). at NoForm ++ l) (its_split ranked_place (has_reference_fault ns) RuleTooLarge [] r)))

  -- of one that is no rule
  pub other_told : (form question lost : Bool) (told a b c : List Fault) → is_rule n ≡ false → form ≡ has_reference_fault ns (record { before = before; node = n }) DuplicateForm
      → question ≡ has_reference_fault ns (record { before = before; node = n }) DuplicateQuestion → lost ≡ has_reference_fault ns (record { before = before; node = n }) NoForm
      → a ≡ told ++ where_it_is form DuplicateForm n.place → b ≡ a ++ where_it_is question DuplicateQuestion n.place → c ≡ b ++ where_it_is lost NoForm n.place → c ≡ told ++ faults_of_node ns before n
  other_told form question lost told a b c other e f g added_a added_b added_c =
      let one = at DuplicateForm in
      let two = at DuplicateQuestion in
      let three = at NoForm in
      let none : at RuleTooLarge ++ [] ≡ [] = rw other refl in
      let all : faults_of_node ns before n ≡ one ++ (two ++ three) = by_cause ∙ ap (λ (l : List Fault). one ++ (two ++ (three ++ l))) none ∙ ap (λ (l : List Fault). one ++ (two ++ l)) (append-nil three) in
      let is_a : a ≡ told ++ one = added_a ∙ ap (λ (x : Bool). told ++ where_it_is x DuplicateForm n.place) e in
      let is_b : b ≡ (told ++ one) ++ two = added_b ∙ ap (λ (x : Bool). a ++ where_it_is x DuplicateQuestion n.place) f ∙ ap (λ (l : List Fault). l ++ two) is_a in
      added_c ∙ ap (λ (x : Bool). b ++ where_it_is x NoForm n.place) g ∙ ap (λ (l : List Fault). l ++ three) is_b
      ∙ append_assoc (told ++ one) two three ∙ append_assoc told one (two ++ three) ∙ ap (λ (l : List Fault). told ++ l) (sym all)

  no_question_rule : is_question_number RULE ≡ false
  unfolding is_question_number row_of
  no_question_rule = refl

  -- of a rule
  pub rule_told : (large : Bool) (told new : List Fault) → is_rule n ≡ true → large ≡ is_rule_too_large (size (rules_among before) (as_rule n))
      → new ≡ told ++ where_it_is large RuleTooLarge n.place → new ≡ told ++ faults_of_node ns before n
  rule_told large told new is e added =
      let rule : number n.op ≡ RULE = eqb-true (number n.op) RULE is in
      let form : is_form n ≡ false = ap (λ (k : ℕ). eqb k FORM) rule in
      let question : is_question n ≡ false = ap is_question_number rule ∙ no_question_rule in
      let reference : is_reference n ≡ false = ap (λ (k : ℕ). eqb k REF) rule in
      let none_a : at DuplicateForm ≡ [] = rw form refl in
      let none_b : at DuplicateQuestion ≡ [] = rw question refl in
      let none_c : at NoForm ≡ [] = rw reference refl in
      let own : at RuleTooLarge ≡ where_it_is (is_rule_too_large (size (rules_among before) (as_rule n))) RuleTooLarge n.place = rw is refl in
      let all : faults_of_node ns before n ≡ where_it_is large RuleTooLarge n.place =
      by_cause ∙ ap (λ (l : List Fault). l ++ (at DuplicateQuestion ++ (at NoForm ++ (at RuleTooLarge ++ [])))) none_a
      ∙ ap (λ (l : List Fault). l ++ (at NoForm ++ (at RuleTooLarge ++ []))) none_b ∙ ap (λ (l : List Fault). l ++ (at RuleTooLarge ++ [])) none_c
      ∙ append-nil (at RuleTooLarge) ∙ own ∙ ap (λ (x : Bool). where_it_is x RuleTooLarge n.place) (sym e) in
      added ∙ ap (λ (l : List Fault). told ++ l) (sym all)

-- ---- node by node

-- Some nodes were met; what is told, with the faults of the nodes that are left, is all.
pub record HasMet (bytes : List ℕ) (left : List Node) (met : Met) (faults : List Fault) : Type 0 where
  pub before : List Node
  pub split : before ++ left ≡ nodes_of bytes
  pub known : AreOf bytes before met
  pub so_far : faults ++ node_faults (nodes_of bytes) before left ≡ told_first (nodes_of bytes) ++ node_faults (nodes_of bytes) [] (nodes_of bytes)

pub met_next : (bytes : List ℕ) (left rest : List Node) (n : Node) (old new : Met) (faults next : List Fault) → (met : HasMet bytes left old faults) → left ≡ n ∷ rest
    → MeetsNext bytes met.before n old new faults next → HasMet bytes rest new next
met_next bytes left rest n old new faults next met steps meets =
    let ns = nodes_of bytes in
    let later = node_faults ns (met.before ++ n ∷ []) rest in
    record {
      before = met.before ++ n ∷ [];
      split = append_assoc met.before (n ∷ []) rest ∙ ap (λ (l : List Node). met.before ++ l) (sym steps) ∙ met.split;
      known = meets.are;
      so_far = ap (λ (l : List Fault). l ++ later) meets.added ∙ append_assoc faults (faults_of_node ns met.before n) later
          ∙ ap (λ (l : List Node). faults ++ node_faults ns met.before l) (sym steps) ∙ met.so_far;
    }

pub met_all : (bytes : List ℕ) (left : List Node) (met : Met) (faults : List Fault) → IsChecked bytes → HasMet bytes left met faults → left ≡ [] → AreAll (IsReferenceFault (nodes_of bytes)) faults
met_all bytes left met faults checked so e =
    let all : faults ≡ told_first (nodes_of bytes) ++ node_faults (nodes_of bytes) [] (nodes_of bytes) =
    sym (append-nil faults) ∙ ap (λ (l : List Node). faults ++ node_faults (nodes_of bytes) so.before l) (sym e) ∙ so.so_far in
    subst (AreAll (IsReferenceFault (nodes_of bytes))) (sym all) (all_references bytes checked)

-- ---- the ids of all forms

-- The ids that are had, and those of the forms that are left, are those of all forms.
abbrev pub Gathers : List Node → List Node → List Bool → Type 0
Gathers all left ids = (id : ℕ) → (has_number ids id || list_any (has_form_id id) left) ≡ list_any (has_form_id id) all
