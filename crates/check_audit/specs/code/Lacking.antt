-- How a string package that lacks texts is seen.
use Rattle.std.specs.Prelude.{Option, None, Some, List, [], ◌∷◌, filter}
use Rattle.browser_rules.specs.Strings.{Spoken}
use Rattle.check_audit.specs.Lacks as spec
use Rattle.check_audit.specs.declared.lacks.Lack.{Lack}

abbrev pub lack_seen : Lack → spec.Lack
lack_seen lack =
    record { language = lack.language.now; first = lack.first.now; lacks = lack.lacks; texts = lack.texts }

-- what is added by one more string package behind the first one, if there is one
abbrev pub lacks_behind : Option Spoken → Spoken → List spec.Lack
lacks_behind None other = []
lacks_behind (Some first) other = filter spec.lacks_some (spec.shortage_of first other ∷ [])
