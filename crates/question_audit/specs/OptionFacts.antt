-- What is known of the options of a question (own rule).
use Rattle.std.specs.Prelude.{ℕ, ◌==◌, Bool, nat_lt, if◌then◌else◌, Option, Some, None, is_some, option_map, List, [], ◌∷◌, ◌++◌, filter, codes, decimal}
use Rattle.std.specs.List.{find, flat_map}
use Rattle.ifr_opcodes.specs.Fields.{option_text, option_value}
use Rattle.ifr_opcodes.specs.Forest.{Node}
use Rattle.ifr_opcodes.specs.Rows.{is_among}
use Rattle.ifr_nodes.specs.Guards.{guards}
use Rattle.ifr_nodes.specs.Locks.{first_of_nodes, locked_in}
use Rattle.ifr_nodes.specs.Nodes.{options}
use Rattle.guard_policy.specs.Policy.{covered_by, fixed}
use Rattle.guard_policy.specs.World.{World}
use Rattle.guard_policy.specs.declared.denial.Denial.{Denial}
use Rattle.audit_text.specs.Texts.{safe_text}
use Rattle.question_audit.specs.Audited.{Audited}
use Rattle.question_audit.specs.FormLines.{denial_text}
use Rattle.question_audit.specs.ScriptValues.{behind}
use Rattle.question_audit.specs.ConditionFacts.{condition_words, fact}

-- ---- what denies an option that does not deny its question

-- the guards around an option that stand inside of its question, which stands at a place
abbrev pub own_guards : ℕ → Node → List Node
own_guards place o = filter (λ g. nat_lt place g.place) (guards o)

-- the LOCKEDs directly in these; in an option stands none
abbrev pub own_locks : List Node → ℕ → Node → List Node
own_locks ns place o = flat_map (λ g. locked_in ns g.place) (own_guards place o)

abbrev pub own_denial : World → ℕ → Node → Option Denial
own_denial w place o = covered_by w (own_guards place o) (first_of_nodes (own_locks w.nodes place o))

-- ---- its line

-- where nothing denies it by itself: whether its question is denied
abbrev pub beside_question : Bool → List ℕ
beside_question is_denied = if is_denied then codes "as the question" else codes "open"

abbrev pub option_verdict : Bool → Option Denial → List ℕ
option_verdict is_denied (Some denial) = denial_text denial
option_verdict is_denied None = beside_question is_denied

-- the guard at a place around it
abbrev pub guard_at : ℕ → Node → Option Node
guard_at place o = find (λ g. g.place == place) (guards o)

-- What the guard that denies it says: this stands at the first option that it denies, where these are the places of what denies the
-- options before.
abbrev pub deciding_words : List ℕ → Node → Option Denial → Option (List ℕ)
deciding_words places o None = None
deciding_words places o (Some denial) =
    if is_among denial.place places then None else option_map condition_words (guard_at denial.place o)

abbrev pub deciding : List ℕ → Node → Option Denial → List ℕ
deciding places o denial = behind (codes ": ") (deciding_words places o denial)

abbrev pub option_fact : Audited → ℕ → Bool → List ℕ → Node → List ℕ
option_fact a place is_denied places o =
    fact (codes "option")
    (decimal (option_value o.op) ++ codes " " ++ safe_text (a.texts (option_text o.op)) ++ codes ": "
    ++ option_verdict is_denied (own_denial a.world place o)
    ++ deciding places o (own_denial a.world place o))

-- ---- one behind the other

abbrev pub with_place : Option Denial → List ℕ → List ℕ
with_place None places = places
with_place (Some denial) places = denial.place ∷ places

abbrev pub option_facts_behind : Audited → ℕ → Bool → List ℕ → List Node → List ℕ
option_facts_behind a place is_denied places [] = []
option_facts_behind a place is_denied places (o ∷ os) =
    option_fact a place is_denied places o
    ++ option_facts_behind a place is_denied (with_place (own_denial a.world place o) places) os

-- those of a question
abbrev pub option_facts : Audited → Node → List ℕ
option_facts a n = option_facts_behind a n.place (is_some (fixed a.world n)) [] (options n)
