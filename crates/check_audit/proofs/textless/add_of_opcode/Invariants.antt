use Rattle.std.proofs.Common.{◌≡◌, ◌++◌, List, drop}
use Rattle.std.specs.Prelude.{filter}
use Rattle.std.specs.List.{filter_map}
use Rattle.opcode_audit.specs.Facts.{string_ids}
use Rattle.check_audit.specs.Warnings.{firsts, textless_at}
use Rattle.check_audit.specs.code.Naming.{is_unnamed}
use Rattle.check_audit.specs.declared.warning.Warning.{Warning}
use Rattle.check_audit.proofs.textless.add_of_opcode.Given as goal

-- with those of the ids that are left all are added
abbrev pub invariant-loop-id : goal.invariant-loop-id
invariant-loop-id l =
    (left : List Warning) → l.warnings.items ++ filter (is_unnamed l.named) (firsts (filter_map (textless_at l.fn.strings l.fn.place) (drop l.id-index l.id-items) ++ left))
    ≡ l.fn.warnings.items ++ filter (is_unnamed l.fn.named) (firsts (filter_map (textless_at l.fn.strings l.fn.place) (string_ids l.fn.opcode) ++ left))
