-- Nodes without fault are those of a well-formed form set.
use Rattle.std.proofs.Common.{◌≡◌, ℕ, ◌+◌, Bool, true, false, List, [], ◌∷◌, ◌++◌, length, refl, sym, ap, subst, ◌∙◌, arith, inl, inr}
use Rattle.std.specs.Prelude.{◌==◌, ◌&&◌, not}
use Rattle.std.proofs.lemmas.Bool.{false≢true, and_from, and_cases, or_from, not_from_false, not-false, eqb-true}
use Rattle.hii_bytes.specs.declared.cause.Cause.TheVariants.{OpOutside, Misplaced, ExprShape}
use Rattle.ifr_opcodes.specs.declared.codes.TheConstants.{VALUE}
use Rattle.ifr_opcodes.specs.Forest.{Forest, none, node, flat, Ancestor, AreNodes}
use Rattle.ifr_opcodes.specs.Opcode.{number}
use Rattle.ifr_opcodes.specs.Rows.{is_operator, is_listed}
use Rattle.ifr_opcodes.proofs.RowLemmas.{inside_parts}
use Rattle.ifr_nodes.specs.Structure.{is_wanted, is_condition}
use Rattle.ifr_nodes.specs.Table.{class_around, admits}
use Rattle.ifr_nodes.specs.declared.table.Class.{Class}
use Rattle.ifr_nodes.specs.declared.table.Class.TheVariants.{OfNothing}
use Rattle.rules_laws.specs.laws.WellFormed.{Beginning, an_expression, a_value, nothing_first, wanted_by, class_inside, IsGoodOpcode, StandsIn}
use Rattle.rules_laws.proofs.ExpressionLemmas.{clear_is_good}
use Rattle.rules_laws.proofs.RowLemmas.{admitted_plain}
use Rattle.rules_laws.proofs.CleanLemmas.{IsClean, AreClean, clean_good}
use Rattle.rules_laws.proofs.StandLemmas.{lacks, lacks_as_wanted, Stands, some_bytes, later, first_of, there, no_root, in_operator, as_condition, as_value}
use Rattle.rules_laws.proofs.SoundLemmas.{value_begins}

-- what a scope begins with, where nothing is lacking and its opcode is known
begins_with : (known is : Bool) → known ≡ true → (known && not is) ≡ false → is ≡ true
begins_with true is e lacking = not-false is lacking
begins_with false is e lacking = absurd (false≢true e)

module _ (place : ℕ) (op : List ℕ) (children : Forest) (outer : List Ancestor) (a : Ancestor) (c : IsClean (there place op children outer a)) where
  is_known : is_listed (number op) ≡ true
  is_known = (inside_parts op (c.fault OpOutside)).0

  its_good : is_operator (number a.op) ≡ false → IsGoodOpcode op
  its_good other = clean_good (there place op children outer a) c (in_operator place op children outer a ∙ other)

  -- where nothing is wanted it is admitted
  its_admitted : is_wanted (there place op children outer a) ≡ false → admits (class_around (outer ++ a ∷ [])) (number op) ≡ true
  its_admitted free = elim (and_cases _ _ (c.fault Misplaced)) [
    | inl root ↦ absurd (false≢true (sym root ∙ not_from_false _ (no_root place op children outer a)))
    | inr rest ↦ elim (and_cases _ _ rest) [
      | inl wanted ↦ absurd (false≢true (sym wanted ∙ not_from_false _ free))
      | inr admitted ↦ not-false _ admitted
    ]
  ]

  its_first : lacks (wanted_by op) children ≡ false
  its_first = sym (lacks_as_wanted op children) ∙ c.fault ExprShape

-- ---- the induction

pub stands_inside : (f : Forest) (wanted : Beginning) (class : Class) (place : ℕ) (outer : List Ancestor) (a : Ancestor) → AreNodes f → Stands wanted class place outer a → lacks wanted f ≡ false → AreClean place (outer ++ a ∷ []) f → StandsIn wanted class place f
stands_inside none an_expression class place outer a h s l c = absurd (false≢true (sym l))
stands_inside none a_value class place outer a h s l c = absurd (false≢true (sym l))
stands_inside none nothing_first class place outer a h s l c = refl
stands_inside (node op children rest) an_expression class place outer a h s l c =
    let known : is_operator (number op) ≡ true = begins_with (is_listed (number op)) (is_operator (number op)) (is_known place op children outer a c.0) l in
    let condition : is_condition (there place op children outer a) ≡ true = as_condition place op children outer a ∙ s.condition in
    let more = some_bytes op children rest h in (
      clear_is_good place op children (h.0, (h.1.0, tt)) (c.0.expression (and_from _ _ condition known)),
      stands_inside rest nothing_first class (place + length (flat (node op children none))) outer a h.1.1 (later an_expression class place (length (flat (node op children none))) outer a more s) refl c.1.1,
    )
stands_inside (node op children rest) a_value class place outer a h s l c =
    let is : number op ≡ VALUE = eqb-true (number op) VALUE (begins_with (is_listed (number op)) (number op == VALUE) (is_known place op children outer a c.0) l) in
    let value = value_begins op is in
    let first = first_of class place op children (outer ++ a ∷ []) s.around s.plain value.0 (omega (arith, s.low)) in
    let begins : Stands (wanted_by op) OfNothing (place + length op) (outer ++ a ∷ []) (record { place = place; op = op; children = children }) =
    subst (λ (c : Class). Stands (wanted_by op) c (place + length op) (outer ++ a ∷ []) (record { place = place; op = op; children = children })) (value.2 class) first in
    let more = some_bytes op children rest h in
    let inner = stands_inside children (wanted_by op) OfNothing (place + length op) (outer ++ a ∷ []) (record { place = place; op = op; children = children }) h.1.0 begins (its_first place op children outer a c.0) c.1.0 in (
      is,
      (
        its_good place op children outer a c.0 s.other,
        (
          subst (λ (w : Beginning). StandsIn w OfNothing (place + length op) children) value.1 inner,
          stands_inside rest nothing_first class (place + length (flat (node op children none))) outer a h.1.1 (later a_value class place (length (flat (node op children none))) outer a more s) refl c.1.1,
        ),
      ),
    )
stands_inside (node op children rest) nothing_first class place outer a h s l c =
    let free : is_wanted (there place op children outer a) ≡ false = or_from _ _ (as_condition place op children outer a ∙ s.condition) (as_value place op children outer a ∙ s.value) in
    let admitted : admits class (number op) ≡ true = ap (λ (d : Class). admits d (number op)) (sym s.around) ∙ its_admitted place op children outer a c.0 free in
    let other = admitted_plain class (number op) s.plain admitted in
    let first = first_of class place op children (outer ++ a ∷ []) s.around s.plain other (omega (arith, s.low)) in
    let more = some_bytes op children rest h in (
      admitted,
      (
        its_good place op children outer a c.0 s.other,
        (
          stands_inside children (wanted_by op) (class_inside class op) (place + length op) (outer ++ a ∷ []) (record { place = place; op = op; children = children }) h.1.0 first (its_first place op children outer a c.0) c.1.0,
          stands_inside rest nothing_first class (place + length (flat (node op children none))) outer a h.1.1 (later nothing_first class place (length (flat (node op children none))) outer a more s) refl c.1.1,
        ),
      ),
    )
