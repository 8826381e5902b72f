-- The case of hex digits.
use Rattle.std.specs.Prelude.{Bool, true, false}
use Rattle.audit_text.specs.declared.guid.Case.{Case}
use Rattle.audit_text.specs.declared.guid.Case.TheVariants.{Upper, Lower}

abbrev pub is_upper : Case → Bool
is_upper Upper = true
is_upper Lower = false
