-- A form set is well-formed exactly where its package has no fault of its structure.
use Rattle.std.proofs.Common.{◌≡◌, ℕ, ◌+◌, ◌≤◌, true, false, List, [], length, refl, sym, ap, subst, ◌∙◌, arith, inl}
use Rattle.std.specs.Prelude.{◌==◌}
use Rattle.std.proofs.lemmas.Bool.{cond-false, false≢true, and_left, not_from_true, not-false, eqb-true, eq-eqb}
use Rattle.hii_bytes.specs.Faults.{HasNone}
use Rattle.hii_bytes.specs.declared.cause.Cause.TheVariants.{NotFormSet, AfterFormSet}
use Rattle.ifr_opcodes.specs.declared.codes.TheConstants.{FORM_SET, DEFAULT}
use Rattle.ifr_opcodes.specs.Forest.{Forest, none, node, flat, Node, AreNodes, nodes}
use Rattle.ifr_opcodes.specs.Opcode.{number}
use Rattle.ifr_opcodes.specs.Rows.{is_operator}
use Rattle.ifr_nodes.specs.Guards.{is_guard}
use Rattle.ifr_nodes.specs.Structure.{IsStructureFault}
use Rattle.ifr_nodes.specs.Table.{row, class_of, wants_expression, wants_value}
use Rattle.ifr_nodes.specs.declared.table.Class.TheVariants.{OfFormSet}
use Rattle.ifr_nodes.proofs.ClassLemmas.{class-other}
use Rattle.rules_laws.specs.laws.WellFormed.{Beginning, nothing_first, wanted_by, IsGoodOpcode, IsFormSet}
use Rattle.rules_laws.proofs.RowLemmas.{form_set_facts}
use Rattle.rules_laws.proofs.CleanLemmas.{IsClean, AreClean, no_fault, good_scope, clean_good, clean_without_fault, without_fault_clean}
use Rattle.rules_laws.proofs.StandLemmas.{lacks, lacks_as_wanted, Stands, some_bytes}
use Rattle.rules_laws.proofs.SoundLemmas.{clean_inside}
use Rattle.rules_laws.proofs.CompleteLemmas.{stands_inside}

-- a form set begins with nothing
no_value : (op : List ℕ) → number op ≡ FORM_SET → wants_value op ≡ false
no_value op is = and_left (number op == DEFAULT) _ (ap (λ (code : ℕ). code == DEFAULT) is)

no_expression : (op : List ℕ) → number op ≡ FORM_SET → wants_expression (number op) ≡ false
no_expression op is = ap wants_expression is ∙ form_set_facts.2

nothing_wanted : (op : List ℕ) → number op ≡ FORM_SET → wanted_by op ≡ nothing_first
nothing_wanted op is = cond-false (wants_expression (number op)) _ _ (no_expression op is) ∙ cond-false (wants_value op) _ _ (no_value op is)

first_place : (op : List ℕ) (children : Forest) → number op ≡ FORM_SET → 2 ≤ length op → Stands nothing_first OfFormSet (4 + length op) [] (record { place = 4; op = op; children = children })
first_place op children is long = record {
  around = class-other [] (record { place = 4; op = op; children = children }) (ap is_guard is) ∙ ap (λ (code : ℕ). class_of (row code)) is ∙ ap class_of form_set_facts.0;
  plain = refl;
  other = ap is_operator is ∙ form_set_facts.1;
  low = omega arith;
  behind = omega arith;
  condition = and_left _ _ (no_expression op is);
  value = and_left _ _ (no_value op is);
}

root_clean : (op : List ℕ) (children : Forest) → number op ≡ FORM_SET → IsGoodOpcode op → IsClean (record { place = 4; op = op; path = []; children = children })
root_clean op children is g = record {
  fault = no_fault n (not_from_true (number op == FORM_SET) (eq-eqb (number op) FORM_SET is)) refl g.known g.long refl (good_scope n g refl)
      (lacks_as_wanted op children ∙ ap (λ (w : Beginning). lacks w children) (nothing_wanted op is));
  expression = λ e. absurd (false≢true e);
}
  where
    n : Node
    n = record { place = 4; op = op; path = []; children = children }

pub sound : (f : Forest) → AreNodes f → IsFormSet f → HasNone (IsStructureFault (nodes f))
sound none h i = absurd i
sound (node op children rest) h i = clean_without_fault op children rest (
  root_clean op children i.0 i.1.0,
  (
    clean_inside children nothing_first OfFormSet (4 + length op) [] (record { place = 4; op = op; children = children }) h.1.0 (first_place op children i.0 h.0.whole.long) i.1.1.0,
    subst (AreClean (4 + length (flat (node op children none))) []) (sym i.1.1.1) tt,
  ),
)

pub complete : (f : Forest) → AreNodes f → HasNone (IsStructureFault (nodes f)) → IsFormSet f
complete none h clear = clear NotFormSet 4 (inl (refl, refl, refl))
complete (node op children rest) h clear =
    let c = without_fault_clean (node op children rest) clear in
    let is : number op ≡ FORM_SET = eqb-true (number op) FORM_SET (not-false (number op == FORM_SET) (c.0.fault NotFormSet)) in (
      is,
      (
        clean_good (record { place = 4; op = op; path = []; children = children }) c.0 refl,
        (
          stands_inside children nothing_first OfFormSet (4 + length op) [] (record { place = 4; op = op; children = children }) h.1.0 (first_place op children is h.0.whole.long) refl c.1.0,
          alone rest c.1.1,
        ),
      ),
    )
  where
    alone : (f : Forest) → AreClean (4 + length (flat (node op children none))) [] f → f ≡ none
    alone none c = refl
    alone (node other inner more) c =
        let first : (4 + length (flat (node op children none)) == 4) ≡ true = not-false (4 + length (flat (node op children none)) == 4) (c.0.fault AfterFormSet) in
        absurd (omega (arith, some_bytes op children rest h, eqb-true (4 + length (flat (node op children none))) 4 first))
