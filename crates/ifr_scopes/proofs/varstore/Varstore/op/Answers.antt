use Rattle.std.proofs.Common.{◌≡◌, ℕ, true, List, map, refl, ap, ◌∙◌}
use Rattle.std.specs.Prelude.{◌||◌, not}
use Rattle.ifr_opcodes.specs.Opcode.{number}
use Rattle.ifr_opcodes.specs.Rows.{row_of, is_among, is_store_number}
use Rattle.ifr_opcodes.proofs.StatementLemmas.{none_stores}
use Rattle.ifr_opcodes.proofs.TableLemmas.{numbers, of_kind}
use Rattle.ifr_scopes.specs.code.Lists.{store_numbers}
use Rattle.ifr_nodes.proofs.NodeFactLemmas.{view_sized}
use Rattle.ifr_scopes.proofs.varstore.Varstore.op.Goals as goal

-- each store has a view
viewed : map (λ c. not (is_store_number c) || is_among c store_numbers) numbers ≡ map (λ c. true) numbers
unfolding is_store_number row_of
viewed = refl

pub of-requires-clause-store : goal.of-requires-clause-store
of-requires-clause-store c =
    of_kind is_store_number (λ code. is_among code store_numbers) viewed none_stores c.op.result.code
    (ap (λ (op : List ℕ). is_store_number (number op)) c.op.ensures.bytes ∙ c.args.self.store)

pub of-requires-clause-sized : goal.of-requires-clause-sized
of-requires-clause-sized c = view_sized c.args.self.node _ c.op.ensures.bytes
