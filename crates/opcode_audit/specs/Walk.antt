-- The opcodes of a forms package as far as their lengths allow (own rule; UEFI 2.8, 33.3.8.2.1 EFI_IFR_OP_HEADER).
use Rattle.std.specs.Prelude.{ℕ, zero, suc, ◌+◌, ◌-◌, ◌==◌, ◌&&◌, nat_le, if◌then◌else◌, Bool, List, [], ◌∷◌, drop, length, take}
use Rattle.browser_rules.specs.Forest.{END, stated_length}
use Rattle.browser_rules.specs.Opcodes.{has_scope, number}

-- whether the length of the opcode fits with which bytes begin: at least its header, and no more than there is
abbrev pub fits : List ℕ → Bool
fits bytes = nat_le 2 (stated_length bytes) && nat_le (stated_length bytes) (length bytes)

-- n opcodes at most, one behind the other, up to one whose length does not fit
unfoldable pub opcodes_from : ℕ → List ℕ → List (List ℕ)
opcodes_from zero bytes = []
opcodes_from (suc n) bytes =
    if fits bytes
    then take (stated_length bytes) bytes ∷ opcodes_from n (drop (stated_length bytes) bytes)
    else []

abbrev pub opcodes_in : List ℕ → List (List ℕ)
opcodes_in bytes = opcodes_from (length bytes) bytes

-- how many scopes are open around an opcode, of those that are open before it: an END stands where its scope was opened
abbrev pub depth_at : ℕ → List ℕ → ℕ
depth_at scopes op = if number op == END then scopes - 1 else scopes

-- how many are open behind it
abbrev pub scopes_behind : ℕ → List ℕ → ℕ
scopes_behind scopes op =
    if number op == END then scopes - 1 else (if has_scope op then scopes + 1 else scopes)
