-- An opcode is its bytes: its number, a byte with the length in the low seven bits and Scope in the top one, its fields
-- (UEFI 2.8, 33.3.8.2.1 EFI_IFR_OP_HEADER).
use Rattle.std.specs.Prelude.{◌≡◌, ℕ, ◌≤◌, Bool, ◌==◌, List, length}
pub use Rattle.browser_rules.specs.Opcodes.{number, has_scope}
pub use Rattle.browser_rules.specs.Forest.{stated_length, end}
use Rattle.ifr_opcodes.specs.declared.codes.TheConstants.{END}

abbrev pub is_end : List ℕ → Bool
is_end op = number op == END

-- It is as long as it states. A longer END is none (own rule).
pub record IsWhole (op : List ℕ) : Type 0 where
  pub long : 2 ≤ length op
  pub sized : length op ≡ stated_length op
  pub ends : number op ≡ END → op ≡ end
