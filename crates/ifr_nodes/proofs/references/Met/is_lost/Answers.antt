use Rattle.std.proofs.Common.{◌≡◌, Bool, true, false, Some, sym, ap, ◌∙◌, inl, inr}
use Rattle.std.specs.Prelude.{not, is_some}
use Rattle.std.specs.List.{list_any}
use Rattle.std.proofs.lemmas.Bool.{cases_Bool}
use Rattle.ifr_opcodes.specs.Fields.{ref_target}
use Rattle.ifr_nodes.specs.Nodes.{is_reference}
use Rattle.ifr_nodes.specs.ReferenceFaults.{has_form_id, is_lost}
use Rattle.ifr_nodes.specs.code.Views.{node_of}
use Rattle.ifr_nodes.proofs.FormTableLemmas.{some_with}
use Rattle.ifr_nodes.proofs.references.Met.is_lost.Goals as goal

other_way : (a b : Bool) → not a ≡ b → a ≡ not b
other_way true b e = ap not e
other_way false b e = ap not e

pub returns-in-Some : goal.returns-in-Some
returns-in-Some c = λ ns entries.
    let n = node_of c.args.node in
    let found : not c.is_none.result ≡ list_any (has_form_id c.in-Some.id) ns = sym c.is_none.ensures ∙ ap is_some (c.find.ensures ∙ entries c.in-Some.id) ∙ some_with ns c.in-Some.id in
    elim (cases_Bool (is_reference n)) [
      | inl is ↦
          let target : Some c.in-Some.id ≡ ref_target n.op = rw is at c.in-Some.ensures in
          rw is (other_way c.is_none.result _ found ∙ ap (is_lost ns) target)
      | inr other ↦ absurd (let none = rw other at c.in-Some.ensures in cc)
    ]
