use Rattle.std.proofs.Common.{rules, inl, inr}
use Rattle.std.proofs.lemmas.Result.{err_from_is_err_and}
use Rattle.hii_bytes.specs.Faults.{Then}
use Rattle.hii_bytes.proofs.FaultLemmas.{then_first, then_second}
use Rattle.ifr_opcodes.specs.Reading.{tree_of}
use Rattle.ifr_nodes.specs.Checked.{IsChecked}
use Rattle.ifr_nodes.specs.Framing.{IsFramingFault}
use Rattle.ifr_nodes.specs.Structure.{IsStructureFault}
use Rattle.ifr_nodes.specs.ReferenceFaults.{IsReferenceFault}
use Rattle.ifr_nodes.specs.Nodes.{nodes_of}
use Rattle.ifr_nodes.proofs.RunLemmas.{none_where_spelled}
use Rattle.ifr_scopes.proofs.forms.Forms.read.Goals as goal

pub returns-in_err-check_framing-clause-refused : goal.returns-in_err-check_framing-clause-refused
returns-in_err-check_framing-clause-refused c =
    let bytes = c.args.source.bytes.now in
    let p = err_from_is_err_and c.from_residual.result c.from_residual.ensures.1 in
    rw (p.1, p.2) (inr (then_first (IsFramingFault bytes) (Then (IsStructureFault (nodes_of bytes)) (IsReferenceFault (nodes_of bytes))) _ c.in_err-check_framing.ensures.refused))

pub returns-in_err-check_structure-clause-refused : goal.returns-in_err-check_structure-clause-refused
returns-in_err-check_structure-clause-refused c =
    let bytes = c.args.source.bytes.now in
    let framed = none_where_spelled bytes (tree_of bytes) c.in_ok-check_framing.ensures.spelled in
    let p = err_from_is_err_and c.from_residual-in_err-check_structure.result c.from_residual-in_err-check_structure.ensures.1 in
    rw (p.1, p.2) (inr (then_second (IsFramingFault bytes) (Then (IsStructureFault (nodes_of bytes)) (IsReferenceFault (nodes_of bytes))) _ framed
    (then_first (IsStructureFault (nodes_of bytes)) (IsReferenceFault (nodes_of bytes)) _ c.in_err-check_structure.ensures.refused)))

pub returns-in_err-rules-clause-refused : goal.returns-in_err-rules-clause-refused
returns-in_err-rules-clause-refused c =
    let bytes = c.args.source.bytes.now in
    let checked : IsChecked bytes = search rules in
    let framed = none_where_spelled bytes (tree_of bytes) c.in_ok-check_framing.ensures.spelled in
    let p = err_from_is_err_and c.from_residual-in_err-rules.result c.from_residual-in_err-rules.ensures.1 in
    rw (p.1, p.2) (elim c.in_err-rules.ensures.refused [
      | inl memory ↦ inl memory
      | inr least ↦ inr (then_second (IsFramingFault bytes) (Then (IsStructureFault (nodes_of bytes)) (IsReferenceFault (nodes_of bytes))) _ framed
          (then_second (IsStructureFault (nodes_of bytes)) (IsReferenceFault (nodes_of bytes)) _ checked.sound least))
    ])
