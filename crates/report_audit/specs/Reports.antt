-- The page of a form set over its stores (own rule).
use Rattle.std.specs.Prelude.{◌≡◌, ◌≤◌, ◌<◌, ℕ, Bool, Option, Some, None, List, ◌++◌, codes, filter, length}
use Rattle.std.specs.List.{flat_map}
use Rattle.ifr_nodes.specs.Nodes.{is_form}
use Rattle.question_audit.specs.Audited.{Audited}
use Rattle.report_audit.specs.Contents.{contents}
use Rattle.report_audit.specs.Forms.{section}
use Rattle.report_audit.specs.Heads.{head, heading, report_title}
use Rattle.report_audit.specs.declared.page.TheConstants.{PAGE_LIMIT}

-- where a test of ids tells which forms are reached
abbrev pub report : Audited → (ℕ → Bool) → List ℕ
report a is_reached =
    head (report_title a) ++ heading a ++ contents a is_reached ++ codes "<main>\n"
    ++ flat_map (section a is_reached) (filter is_form a.world.nodes) ++ codes "</main>\n"

-- The text is a page that may be written, or it is longer than one may be.
abbrev pub IsPage : List ℕ → Option (List ℕ) → Type 0
IsPage text None = PAGE_LIMIT < length text
IsPage text (Some bytes) = (bytes ≡ text) × (length text ≤ PAGE_LIMIT)
