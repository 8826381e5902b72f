-- What an opcode has that is not too short.
use Rattle.std.proofs.Common.{◌≡◌, ℕ, ◌≤◌, false, List, length, subst, arith}
use Rattle.ifr_opcodes.specs.Opcode.{number, IsWhole}
use Rattle.ifr_opcodes.specs.Fields.{is_left_out, option_kind}
use Rattle.ifr_opcodes.specs.Rows.{is_short}
use Rattle.ifr_opcodes.specs.code.Tables.{row_length}
use Rattle.ifr_opcodes.specs.declared.codes.TheConstants.{ONE_OF_OPTION}
use Rattle.ifr_opcodes.specs.declared.kinds.TheConstants.{TYPE_BOOLEAN}
use Rattle.ifr_opcodes.proofs.RowLemmas as rows
use Rattle.ifr_opcodes.proofs.RowLemmas.{row_from}
use Rattle.ifr_opcodes.proofs.SizeLemmas.{all_there}
use Rattle.ifr_nodes.proofs.NodeFactLemmas.{past_front}

-- the fields of its row
pub row_there : (op : List ℕ) (code : ℕ) → IsWhole op → is_short op ≡ false → number op ≡ code → row_length code op ≤ length op
row_there op code whole long is = subst (λ (k : ℕ). row_length k op ≤ length op) is (all_there op whole.long long)

-- an option has a value that is a number or a Boolean
pub option_numeric : (op : List ℕ) → IsWhole op → is_short op ≡ false → is_left_out op ≡ false → number op ≡ ONE_OF_OPTION → option_kind op ≤ TYPE_BOOLEAN
option_numeric op whole long known is = rows.option_numeric op (row_from op ONE_OF_OPTION is known) (omega (arith, past_front 6 _ _ (row_there op ONE_OF_OPTION whole long is)))
