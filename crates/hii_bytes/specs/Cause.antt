-- The numbers and the names of the causes of the code are those of the chapter Words.
use Rattle.std.specs.Prelude.{ℕ, List, codes}
use Rattle.browser_rules.specs.Words.{number_and_name}
use Rattle.hii_bytes.specs.Causes.{cause_for}
use Rattle.hii_bytes.specs.declared.cause.Cause.{Cause}

-- the number by which a cause is told
abbrev pub number_of : Cause → ℕ
number_of cause = (number_and_name (cause_for cause)).0

-- the bytes of a cause's name
abbrev pub name_of : Cause → List ℕ
name_of cause = codes (number_and_name (cause_for cause)).1
