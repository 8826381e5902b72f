-- Whether a question may be changed (own rule).
use Rattle.std.specs.Prelude.{ℕ, Option, Some, None, option_map, List, ◌++◌, codes}
use Rattle.ifr_opcodes.specs.Forest.{Node}
use Rattle.hii_values.specs.Denials.{kind_name}
use Rattle.hii_values.specs.declared.denial.DenialKind.{DenialKind}
use Rattle.hii_values.specs.declared.denial.DenialKind.TheVariants.{DisableIf, SuppressIf, GrayOutIf, ReadOnly}
use Rattle.guard_policy.specs.Policy.{fixed}
use Rattle.guard_policy.specs.declared.denial.Denial.{Denial}
use Rattle.question_audit.specs.Audited.{Audited}

-- what a denial of a kind makes of a question
abbrev pub kind_word : DenialKind → List ℕ
kind_word DisableIf = codes "disabled"
kind_word SuppressIf = codes "hidden"
kind_word GrayOutIf = codes "grayed"
kind_word ReadOnly = codes "read only"
kind_word kind = kind_name kind

-- how a question stands: that it may be changed, or the kind of the denial with which `why` answers
abbrev pub standing_of : Option Denial → Option DenialKind
standing_of denied = option_map (λ (d : Denial). d.kind) denied

-- the class of elements that tell this, and its word
abbrev pub standing_class : Option DenialKind → List ℕ
standing_class None = codes "open"
standing_class (Some kind) = kind_name kind

abbrev pub standing_word : Option DenialKind → List ℕ
standing_word None = codes "open"
standing_word (Some kind) = kind_word kind

abbrev pub badge : Option DenialKind → List ℕ
badge standing =
    codes "<span class=\"badge " ++ standing_class standing ++ codes "\">" ++ standing_word standing
    ++ codes "</span>"

-- of a question
abbrev pub state_cell : Audited → Node → List ℕ
state_cell a n = badge (standing_of (fixed a.world n))
