use Rattle.std.proofs.Common.{◌≡◌, ℕ, true, List, map, refl, ap, ◌∙◌}
use Rattle.std.specs.Prelude.{◌||◌, not}
use Rattle.ifr_opcodes.specs.Opcode.{number}
use Rattle.ifr_opcodes.specs.Rows.{row_of, is_among, is_statement_number}
use Rattle.ifr_opcodes.proofs.StatementLemmas.{none_states}
use Rattle.ifr_opcodes.proofs.TableLemmas.{numbers, of_kind}
use Rattle.ifr_scopes.specs.code.Lists.{statement_numbers}
use Rattle.ifr_nodes.proofs.NodeFactLemmas.{view_sized}
use Rattle.ifr_scopes.proofs.statement.Statement.kind.Goals as goal

-- each statement has a view
viewed : map (λ c. not (is_statement_number c) || is_among c statement_numbers) numbers ≡ map (λ c. true) numbers
unfolding is_statement_number row_of
viewed = refl

pub of-requires-clause-statement : goal.of-requires-clause-statement
of-requires-clause-statement c =
    of_kind is_statement_number (λ code. is_among code statement_numbers) viewed none_states c.op.result.code
    (ap (λ (op : List ℕ). is_statement_number (number op)) c.op.ensures.bytes ∙ c.args.self.statement)

pub of-requires-clause-sized : goal.of-requires-clause-sized
of-requires-clause-sized c = view_sized c.args.self.node _ c.op.ensures.bytes
