-- The options of a question (own rule).
use Rattle.std.specs.Prelude.{ℕ, Bool, Option, Some, None, is_some, List, [], ◌∷◌, ◌++◌, codes, decimal}
use Rattle.ifr_opcodes.specs.Fields.{option_text, option_value}
use Rattle.ifr_opcodes.specs.Forest.{Node}
use Rattle.ifr_nodes.specs.Nodes.{options}
use Rattle.guard_policy.specs.Policy.{fixed}
use Rattle.guard_policy.specs.declared.denial.Denial.{Denial}
use Rattle.audit_json.specs.Objects.{array_member, first_member, inner_object, quoted, word_member}
use Rattle.question_audit.specs.Audited.{Audited}
use Rattle.question_audit.specs.OptionFacts.{beside_question, deciding_words, own_denial, with_place}
use Rattle.question_objects.specs.Members.{denial_members, shown_member}
use Rattle.question_objects.specs.Values.{word_if_there}
use Rattle.question_objects.specs.declared.detail.Detail.{Detail}
use Rattle.question_objects.specs.declared.detail.Detail.TheVariants.{Alone, Listed}

-- what denies an option by itself, or else whether its question is denied
abbrev pub option_verdict_members : Bool → Option Denial → List ℕ
option_verdict_members is_denied (Some denial) = denial_members (codes "verdict") (codes "at") denial
option_verdict_members is_denied None = word_member (codes "verdict") (beside_question is_denied)

-- What the guard that denies it says: of a question alone, at the first option that the guard denies, where these are the places of
-- what denies the options before.
abbrev pub told_words : Detail → List ℕ → Node → Option Denial → Option (List ℕ)
told_words Alone places o denial = deciding_words places o denial
told_words Listed places o denial = None

abbrev pub option_members : Audited → Bool → Node → Option Denial → List ℕ
option_members a is_denied o denial =
    first_member (codes "value") (quoted (decimal (option_value o.op)))
    ++ shown_member (codes "text") (a.texts (option_text o.op))
    ++ option_verdict_members is_denied denial

abbrev pub option_item : Detail → Audited → ℕ → Bool → List ℕ → Node → List ℕ
option_item detail a place is_denied places o =
    inner_object
    (option_members a is_denied o (own_denial a.world place o)
    ++ word_if_there (codes "condition") (told_words detail places o (own_denial a.world place o)))

-- one behind the other
abbrev pub option_items : Detail → Audited → ℕ → Bool → List ℕ → List Node → List (List ℕ)
option_items detail a place is_denied places [] = []
option_items detail a place is_denied places (o ∷ os) =
    option_item detail a place is_denied places o
    ∷ option_items detail a place is_denied (with_place (own_denial a.world place o) places) os

abbrev pub options_member : Detail → Audited → Node → List ℕ
options_member detail a n =
    array_member (codes "options") (option_items detail a n.place (is_some (fixed a.world n)) [] (options n))
