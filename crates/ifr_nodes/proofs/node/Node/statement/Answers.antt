use Rattle.std.proofs.Common.{sym, ap, ◌∙◌}
use Rattle.ifr_opcodes.specs.Opcode.{number}
use Rattle.ifr_opcodes.specs.Rows.{is_statement_number}
use Rattle.ifr_nodes.proofs.NodeFactLemmas.{statement_long}
use Rattle.ifr_nodes.proofs.node.Node.statement.Goals as goal

pub invariant_of-result : goal.invariant_of-result
invariant_of-result c =
    let view = c.args.self in
    record {
      coded = ap is_statement_number (sym (ap number view.stands.opcode)) ∙ c.requires;
      sized = statement_long _ _ _ view.checked view.stands c.requires;
    }
