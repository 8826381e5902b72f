use Rattle.std.proofs.Common.{◌≡◌, ℕ, true, List, map, refl, ap, ◌∙◌}
use Rattle.std.specs.Prelude.{◌||◌, not}
use Rattle.ifr_opcodes.specs.Opcode.{number}
use Rattle.ifr_opcodes.specs.Rows.{row_of, is_among, is_condition_number}
use Rattle.ifr_opcodes.proofs.StatementLemmas.{none_denies}
use Rattle.ifr_opcodes.proofs.TableLemmas.{numbers, of_kind}
use Rattle.ifr_scopes.specs.code.Parts.{condition_numbers}
use Rattle.ifr_nodes.proofs.NodeFactLemmas.{view_sized}
use Rattle.ifr_scopes.proofs.condition_view.ConditionView.op.Goals as goal

-- each condition of a question has a view
viewed : map (λ c. not (is_condition_number c) || is_among c condition_numbers) numbers ≡ map (λ c. true) numbers
unfolding is_condition_number row_of
viewed = refl

pub of-requires-clause-condition : goal.of-requires-clause-condition
of-requires-clause-condition c =
    of_kind is_condition_number (λ code. is_among code condition_numbers) viewed none_denies c.op.result.code
    (ap (λ (op : List ℕ). is_condition_number (number op)) c.op.ensures.bytes ∙ c.args.self.condition)

pub of-requires-clause-sized : goal.of-requires-clause-sized
of-requires-clause-sized c = view_sized c.args.self.node _ c.op.ensures.bytes
