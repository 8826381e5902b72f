use Rattle.std.proofs.Common.{◌≡◌, ◌+◌, ◌*◌, ◌++◌, length}
use Rattle.std.specs.List.{flat_map}
use Rattle.audit_text.specs.Texts.{byte_digits}
use Rattle.audit_text.specs.code.Cases.{is_upper}
use Rattle.audit_text.proofs.guid.push_digits.Given as goal

-- the digits of the rest are left to be added
abbrev pub invariant-loop-rest : goal.invariant-loop-rest
invariant-loop-rest l = record {
  items : l.text.items ++ flat_map (byte_digits (is_upper l.case)) l.rest ≡ l.fn.text.items ++ flat_map (byte_digits (is_upper l.case)) l.bytes;
  count : length l.text.items + 2 * length l.rest ≡ length l.fn.text.items + 2 * length l.bytes;
}

abbrev pub decreases-loop-rest : goal.decreases-loop-rest
decreases-loop-rest l = length l.rest
