-- How a list is told.
use Rattle.std.specs.Prelude.{◌≡◌, ⊤, ℕ, List}
use Rattle.ifr_nodes.specs.Nodes.{nodes_of}
use Rattle.check_audit.specs.Checks as checks
use Rattle.check_audit.specs.Lines as lines
use Rattle.check_audit.specs.Warnings.{crossed_spans}
use Rattle.check_audit.specs.code.Standing.{AllStand}
use Rattle.check_audit.specs.declared.check.Told.{Told}
use Rattle.check_audit.specs.declared.setting.Setting.{Setting}
use Rattle.check_audit.specs.declared.verdict.Verdict.{Verdict}
use Rattle.check_audit.specs.declared.verdict.Verdict.TheVariants.{Good, Refused}

abbrev pub setting_of : Setting → lines.Setting
setting_of s = record { telling = s.telling; spoken = s.strings.now; lacks = s.lacks.now; base = s.base }

abbrev pub told_in : Told → checks.Told
told_in t = record { telling = t.telling; spoken = t.strings.now; lacks = t.lacks.now; start = t.start }

-- where a forms package is good, the bounds that are told are its own, and where conditions are told, its guards stand
abbrev pub HasDetails : List ℕ → Verdict → Type 0
HasDetails ifr (Good good) =
    (good.spans.items ≡ crossed_spans (nodes_of ifr)) × AllStand ifr good.warnings.items
HasDetails ifr (Refused refusal) = ⊤
