-- The first node that has a fault beside those before it has the least fault.
use Rattle.std.proofs.Common.{◌≡◌, ℕ, zero, suc, ◌+◌, ◌<◌, ◌≤◌, ◌⊎◌, Bool, ltb, true, false, Option, Some, None, List, [], ◌∷◌, ◌++◌, length, reverse, refl, sym, ap, ◌∙◌, arith, inl, inr, lit≤}
use Rattle.std.specs.Prelude.{◌&&◌, not, ◌==◌, Contains, filter}
use Rattle.std.specs.List.{list_any}
use Rattle.std.proofs.Math.Bool.{and-false}
use Rattle.std.proofs.lemmas.Bool.{cases_Bool, ltb-true, ltb-false, false≢true, true≢false}
use Rattle.hii_bytes.specs.Cause.{number_of}
use Rattle.hii_bytes.specs.Faults.{IsLeast, HasNone}
use Rattle.hii_bytes.specs.code.FirstFaults.{AreAll, first_fault, Rise}
use Rattle.hii_bytes.specs.declared.cause.Cause.{Cause}
use Rattle.hii_bytes.specs.declared.cause.Cause.TheVariants.{DuplicateForm, DuplicateQuestion, NoForm, RuleTooLarge}
use Rattle.hii_bytes.specs.declared.cause.Fault.{Fault}
use Rattle.hii_bytes.proofs.FirstFaultLemmas.{first_among, none_among}
use Rattle.ifr_opcodes.specs.Fields.{question_id}
use Rattle.ifr_opcodes.specs.Forest.{Forest, flat, Node, nodes, AreNodes}
use Rattle.ifr_nodes.specs.Nodes.{is_form, is_question}
use Rattle.ifr_nodes.specs.ReferenceFaults.{Ranked, ranked, has_reference_fault, IsReferenceFault}
use Rattle.ifr_nodes.specs.code.Causes.{reference_causes}
use Rattle.ifr_nodes.specs.code.Met.{AreOf}
use Rattle.ifr_nodes.specs.Rules.{is_rule}
use Rattle.ifr_nodes.specs.code.KeptRules.{AreKeptRules, kept_rules}
use Rattle.ifr_nodes.specs.declared.references.Met.{Met}
use Rattle.ifr_nodes.specs.declared.rules.RuleTable.{RuleTable}
use Rattle.ifr_nodes.proofs.KeptRuleLemmas.{no_rule}
use Rattle.ifr_nodes.proofs.PlaceLemmas.{Within, nodes_within}

abbrev place_of : Ranked → ℕ
place_of r = r.node.place

-- the first fault among nodes that have others before them
abbrev pub first_repeat : List Node → List Node → List Node → Option Fault
first_repeat all before ns = first_fault place_of (has_reference_fault all) reference_causes (ranked before ns)

-- Some nodes were met, and their ids and rules are known: the first fault of all nodes is that of those which are left.
pub record HasMet (bytes : List ℕ) (all left : List Node) (met : Met) : Type 0 where
  pub before : List Node
  pub split : before ++ left ≡ all
  pub known : AreOf bytes before met
  pub same : first_repeat all before left ≡ first_repeat all [] all

among : (ns : List Node) (r : Ranked) (d : Cause) → has_reference_fault ns r d ≡ true → Contains reference_causes d
among ns r DuplicateForm h = (0, omega arith, refl)
among ns r DuplicateQuestion h = (1, omega arith, refl)
among ns r NoForm h = (2, omega arith, refl)
among ns r RuleTooLarge h = (3, omega arith, refl)
among ns r _ h = absurd (false≢true h)

all_causes : (ns : List Node) → AreAll (has_reference_fault ns) reference_causes
all_causes ns = record { rise = (lit≤ tt, (lit≤ tt, (lit≤ tt, (lit≤ tt, tt)))); all = among ns }

rising : (before ns : List Node) (low high : ℕ) → Within low high ns → Rise place_of low (ranked before ns)
rising before [] low high w = tt
rising before (n ∷ ns) low high w = (w.0, rising (before ++ n ∷ []) ns (n.place + 1) high w.1)

above : (before ns : List Node) (low high : ℕ) (r : Ranked) → Within low high ns → Contains (ranked before ns) r → low ≤ r.node.place
above before [] low high r w (k, lt, e) = absurd (omega arith)
above before (n ∷ ns) low high r w (zero, lt, e) = omega (arith, w.0, ap place_of e)
above before (n ∷ ns) low high r w (suc k, lt, e) = omega (arith, w.0, above (before ++ n ∷ []) ns (n.place + 1) high r w.1 (k, omega arith, e))

-- the first node has no id of a node before it
first_fault_of : (ns : List Node) (n : Node) (d : Cause) → has_reference_fault ns (record { before = []; node = n }) d ≡ true → number_of NoForm ≤ number_of d
first_fault_of ns n DuplicateForm h = absurd (false≢true (sym (and-false (is_form n)) ∙ h))
first_fault_of ns n DuplicateQuestion h = absurd (false≢true (sym (ap (λ (b : Bool). is_question n && b) (and-false (not (question_id n.op == 0))) ∙ and-false (is_question n)) ∙ h))
first_fault_of ns n NoForm h = lit≤ tt
first_fault_of ns n RuleTooLarge h = lit≤ tt
first_fault_of ns n _ h = absurd (false≢true h)

later : (all ns : List Node) (low high : ℕ) (r : Ranked) (d : Cause) → Within low high ns → Contains (ranked [] ns) r → has_reference_fault all r d ≡ true → (low < r.node.place) ⊎ ((low ≤ r.node.place) × (number_of NoForm ≤ number_of d))
later all [] low high r d w (k, lt, e) h = absurd (omega arith)
later all (n ∷ ns) low high r d w (zero, lt, e) h = inr (omega (arith, w.0, ap place_of e), first_fault_of all n d (ap (λ (q : Ranked). has_reference_fault all q d) e ∙ h))
later all (n ∷ ns) low high r d w (suc k, lt, e) h = inl (omega (arith, w.0, above (n ∷ []) ns (n.place + 1) high r w.1 (k, omega arith, e)))

no_forms : (ns : List Node) → list_any is_form ns ≡ false → filter is_form ns ≡ []
no_forms [] e = refl
no_forms (n ∷ ns) e = elim (cases_Bool (is_form n)) [ inl h ↦ absurd (true≢false (rw h at e)) | inr h ↦ rw h (no_forms ns (rw h at e)) ]

some_form : (ns : List Node) → list_any is_form ns ≡ true → filter is_form ns ≡ [] → ⊥
some_form [] some e = false≢true some
some_form (n ∷ ns) some e = elim (cases_Bool (is_form n)) [ inl h ↦ let filled = rw h at e in cc | inr h ↦ some_form ns (rw h at some) (rw h at e) ]

pub no_form_is_least : (f : Forest) → AreNodes f → list_any is_form (nodes f) ≡ false → IsLeast (IsReferenceFault (nodes f)) (record { cause = NoForm; place = 4 })
no_form_is_least f a e = record {
  told = inl (no_forms (nodes f) e, refl, refl);
  least = λ d p other. elim other [
    | inl h ↦ inr (sym h.2, omega (arith, ap number_of h.1))
    | inr h ↦ elim (later (nodes f) (nodes f) 4 (4 + length (flat f)) h.0 d (nodes_within f 4 [] a) h.1 h.3) [
      | inl behind ↦ inl (omega (arith, h.2, behind))
      | inr there ↦ elim (cases_Bool (ltb 4 p)) [
        | inl less ↦ inl (ltb-true 4 p less)
        | inr past ↦ inr (omega (arith, h.2, there.0, ltb-false 4 p past), there.1)
      ]
    ]
  ];
}

pub refused_among : (f : Forest) (fault : Fault) → AreNodes f → list_any is_form (nodes f) ≡ true → first_repeat (nodes f) [] (nodes f) ≡ Some fault → IsLeast (IsReferenceFault (nodes f)) fault
refused_among f fault a some e =
    let l = first_among place_of (has_reference_fault (nodes f)) reference_causes 4 (ranked [] (nodes f)) fault (all_causes (nodes f)) (rising [] (nodes f) 4 (4 + length (flat f)) (nodes_within f 4 [] a)) e in
    record { told = inr l.told; least = λ d p other. elim other [ inl h ↦ absurd (some_form (nodes f) some h.0) | inr h ↦ l.least d p h ] }

pub sound_among : (ns : List Node) → list_any is_form ns ≡ true → first_repeat ns [] ns ≡ None → HasNone (IsReferenceFault ns)
sound_among ns some e = λ d p other. elim other [
  | inl h ↦ some_form ns some h.0
  | inr h ↦ none_among place_of (has_reference_fault ns) reference_causes (ranked [] ns) (all_causes ns) e d p h
]

-- the rules stay where the next node is none
pub kept_on : (before : List Node) (n : Node) (table : RuleTable) → is_rule n ≡ false → AreKeptRules before table → AreKeptRules (before ++ n ∷ []) table
kept_on before n table other kept id = kept id ∙ ap (λ (l : List Node). reverse (kept_rules id l)) (sym (no_rule before n other))
