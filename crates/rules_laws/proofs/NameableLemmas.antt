-- The rule that a reference names by where nodes stand is the one that it names by where rules and forms end.
use Rattle.std.proofs.Common.{◌≡◌, ℕ, ◌<◌, Bool, true, false, List, [], refl, sym, ap, ◌∙◌, inl, inr, arith}
use Rattle.std.specs.Prelude.{Contains, ◌&&◌, ◌==◌, not, nat_le, nat_lt, option_map}
use Rattle.std.specs.List.{find}
use Rattle.std.proofs.lemmas.Bool.{cases_Bool, and_from, eqb-true, eq-eqb, leb-true, le-leb, ltb-true, lt-ltb, false_from_ne_true, not_from_false}
use Rattle.ifr_opcodes.specs.Fields.{rule_id, rule_ref_rule}
use Rattle.ifr_opcodes.specs.Forest.{Node}
use Rattle.ifr_opcodes.specs.Reading.{tree_of}
use Rattle.ifr_opcodes.proofs.TableLemmas.{and_first, and_second}
use Rattle.ifr_expr.specs.Meaning.{names}
use Rattle.ifr_nodes.specs.Checked.{IsChecked}
use Rattle.ifr_nodes.specs.Nodes.{nodes_of, end_of}
use Rattle.ifr_nodes.specs.Rules.{is_rule, as_rule, rules_among, form_end, end_or_0}
use Rattle.ifr_nodes.proofs.BehindLemmas.{below_or_behind}
use Rattle.ifr_scopes.proofs.FormFacts.{IsBelowForm, behind_form}
use Rattle.ifr_index.proofs.OptionFacts.{between}
use Rattle.rules_laws.specs.laws.Naming.{place_or_0, form_around, is_inside, is_nameable, named_rule}
use Rattle.rules_laws.proofs.FoundLemmas.{alike, found_from_behind}
use Rattle.rules_laws.proofs.HolderLemmas.{before_it_ends, ends_before, around_is, form_of_rule, innermost_is}

-- ---- the form of a rule

-- Where the form of a rule ends, and where it stands.
record HasForm (bytes : List ℕ) (r : Node) : Type 0 where
  its : IsBelowForm bytes r
  ends : form_end r.path ≡ end_of its.form
  stands : form_around r ≡ its.form.place

has_form : (bytes : List ℕ) (r : Node) → IsChecked bytes → Contains (nodes_of bytes) r → is_rule r ≡ true → HasForm bytes r
has_form bytes r checked within is =
    let h = form_of_rule bytes r checked within is in
    let last = innermost_is bytes r checked within h in
    record { its = h; ends = ap end_or_0 last; stands = ap place_or_0 last }

-- What stands behind a rule and before the end of its form has the same form around it.
in_its_form : (bytes : List ℕ) (r n : Node) → IsChecked bytes → Contains (nodes_of bytes) r → Contains (nodes_of bytes) n → HasForm bytes r → r.place < n.place → n.place < form_end r.path → form_around r ≡ form_around n
in_its_form bytes r n checked v w h less goes_on =
    let f = h.its.form in
    let behind : f.place < n.place = omega (arith, behind_form bytes r checked h.its, less) in
    elim (below_or_behind (tree_of bytes) 4 [] f n checked.spelled.are_nodes h.its.within w behind) [
      | inl inner ↦ h.stands ∙ sym (ap place_or_0 (innermost_is bytes n checked w (record { form = f; within = h.its.within; is = h.its.is; below = inner })))
      | inr past ↦ absurd (omega (arith, past, goes_on, h.ends))
    ]

still_in_it : (bytes : List ℕ) (r n : Node) → IsChecked bytes → Contains (nodes_of bytes) n → HasForm bytes r → form_around r ≡ form_around n → n.place < form_end r.path
still_in_it bytes r n checked w h same =
    let inner = around_is bytes n h.its.form checked w h.its.within (sym same ∙ h.stands) in
    omega (arith, h.ends, (between bytes h.its.form n checked h.its.within inner).before)

-- ---- what a reference may name

abbrev by_ends : Node → Node → Bool
by_ends n r = nat_le (end_of r) n.place && nat_lt n.place (form_end r.path)

abbrev by_nodes : Node → Node → Bool
by_nodes n r = nat_lt r.place n.place && (form_around r == form_around n && not (is_inside r n))

from_not : (b : Bool) → not b ≡ true → b ≡ false
from_not true e = sym e
from_not false e = refl

same_places : (bytes : List ℕ) (n r : Node) → IsChecked bytes → Contains (nodes_of bytes) n → Contains (nodes_of bytes) r → is_rule r ≡ true → by_nodes n r ≡ by_ends n r
same_places bytes n r checked w v is = alike (by_nodes n r) (by_ends n r) onward back
  where
    onward : by_nodes n r ≡ true → by_ends n r ≡ true
    onward e =
        let h = has_form bytes r checked v is in
        let less = ltb-true r.place n.place (and_first (nat_lt r.place n.place) (form_around r == form_around n && not (is_inside r n)) e) in
        let rest = and_second (nat_lt r.place n.place) (form_around r == form_around n && not (is_inside r n)) e in
        let same = eqb-true (form_around r) (form_around n) (and_first (form_around r == form_around n) (not (is_inside r n)) rest) in
        let outside = from_not (is_inside r n) (and_second (form_around r == form_around n) (not (is_inside r n)) rest) in
        and_from (nat_le (end_of r) n.place) (nat_lt n.place (form_end r.path))
        (le-leb (end_of r) n.place (before_it_ends bytes r n checked v w less outside))
        (lt-ltb n.place (form_end r.path) (still_in_it bytes r n checked w h same))

    back : by_ends n r ≡ true → by_nodes n r ≡ true
    back e =
        let h = has_form bytes r checked v is in
        let ended = leb-true (end_of r) n.place (and_first (nat_le (end_of r) n.place) (nat_lt n.place (form_end r.path)) e) in
        let goes_on = ltb-true n.place (form_end r.path) (and_second (nat_le (end_of r) n.place) (nat_lt n.place (form_end r.path)) e) in
        let its = ends_before bytes r n checked v w ended in
        and_from (nat_lt r.place n.place) (form_around r == form_around n && not (is_inside r n))
        (lt-ltb r.place n.place its.0)
        (and_from (form_around r == form_around n) (not (is_inside r n))
        (eq-eqb (form_around r) (form_around n) (in_its_form bytes r n checked v w h its.0 goes_on))
        (not_from_false (is_inside r n) (false_from_ne_true (is_inside r n) its.1)))

pub nameable : (bytes : List ℕ) (n r : Node) → IsChecked bytes → Contains (nodes_of bytes) n → Contains (nodes_of bytes) r → is_nameable n r ≡ is_rule r && names (rule_ref_rule n.op) n.place (as_rule r)
nameable bytes n r checked w v = elim (cases_Bool (is_rule r)) [
  | inl is ↦
      rw is (ap (λ (b : Bool). rule_id r.op == rule_ref_rule n.op && b) (same_places bytes n r checked w v is))
  | inr other ↦ rw other refl
]

-- the rule that a node names, if it is a reference
pub named_by_place : (bytes : List ℕ) (n : Node) → IsChecked bytes → Contains (nodes_of bytes) n → find (names (rule_ref_rule n.op) n.place) (rules_among (nodes_of bytes)) ≡ option_map as_rule (named_rule (nodes_of bytes) n)
named_by_place bytes n checked w =
    found_from_behind as_rule is_rule (is_nameable n) (names (rule_ref_rule n.op) n.place) (nodes_of bytes) (λ r v. nameable bytes n r checked w v)
