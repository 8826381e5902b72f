-- All warnings of a forms package stay one line each.
use Rattle.std.proofs.Common.{ℕ, List, [], ◌∷◌, Option, Some, None, true}
use Rattle.std.specs.List.{AllByRecursion}
use Rattle.std.proofs.lemmas.Bool.{cond_both}
use Rattle.browser_rules.specs.Strings.{Spoken}
use Rattle.ifr_nodes.specs.Nodes.{nodes_of}
use Rattle.audit_json.specs.declared.telling.Telling.TheVariants.{Lines}
use Rattle.check_audit.specs.Lacks.{Lack}
use Rattle.check_audit.specs.WarningLines.{Details, comes_again, warning_line, warnings_behind, warnings_told}
use Rattle.check_audit.specs.Warnings.{AreWarnings, asking, order_of}
use Rattle.check_audit.proofs.EachLemmas.{each_warning}
use Rattle.object_laws.specs.laws.Lines.{AreLines, IsLine}
use Rattle.object_laws.proofs.BehindLemmas.{TypeOf}
use Rattle.object_laws.proofs.SafeLemmas.{lines_behind, no_lines, one_line}
use Rattle.object_laws.proofs.WarningLineLemmas.{lines_hold}

-- a warning, of which the type has no name here
abbrev Warned : Type 0
Warned = TypeOf (asking 0 0 true)

abbrev IsTold : Details → Warned → Type 0
IsTold d w = IsLine (warning_line d w)

behind_told : (d : Details) (last : Option ℕ) (ws : List Warned) → AllByRecursion (IsTold d) ws → AreLines (warnings_behind Lines d last ws)
behind_told d last [] all = no_lines
behind_told d last (w ∷ ws) all =
    lines_behind (cond_both (comes_again last w) [] (warning_line d w) AreLines (λ _. no_lines) (λ _. one_line all.0)) (behind_told d (Some (order_of w)) ws all.1)

pub warnings_are_lines : (d : Details) (spoken : List Spoken) (lacks : List Lack) (ifr : List ℕ) (ws : List Warned) → AreWarnings spoken lacks ifr ws → AreLines (warnings_told Lines d ws)
warnings_are_lines d spoken lacks ifr ws are = behind_told d None ws (each_warning (IsTold d) spoken lacks ifr ws (lines_hold d (nodes_of ifr)) are)
