-- Warnings of ids that are added one behind the other, each once.
use Rattle.std.specs.Prelude.{◌≡◌, Bool, not, List, ◌++◌, filter}
use Rattle.hii_bytes.specs.code.NumberSets.{has_number}
use Rattle.check_audit.specs.Warnings.{firsts, id_of}
use Rattle.check_audit.specs.declared.warning.Warning.{Warning}

-- whether the id of a warning is none of these
abbrev pub is_unnamed : List Bool → Warning → Bool
is_unnamed named w = not (has_number named (id_of w.oddity))

-- whatever is left behind those that are added
abbrev pub AddsFirsts : List Bool → List Bool → List Warning → List Warning → List Warning → Type 0
AddsFirsts old new before after added =
    (left : List Warning) → after ++ filter (is_unnamed new) (firsts left) ≡ before ++ filter (is_unnamed old) (firsts (added ++ left))
