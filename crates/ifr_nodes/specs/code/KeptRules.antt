-- Rules as they are kept, in a list for each id.
use Rattle.std.specs.Prelude.{◌≡◌, ℕ, ◌==◌, if◌then◌else◌, Option, Some, None, List, [], ◌∷◌, map, reverse, slice_index_or}
use Rattle.std.specs.Global.{Vec}
use Rattle.ifr_opcodes.specs.Forest.{Node}
use Rattle.ifr_expr.specs.Meaning.{names}
use Rattle.ifr_nodes.specs.Nodes.{end_of}
use Rattle.ifr_nodes.specs.Rules.{as_rule, rule_nodes, form_end, size}
use Rattle.ifr_nodes.specs.declared.rules.KeptRule.{KeptRule}
use Rattle.ifr_nodes.specs.declared.rules.RuleTable.{RuleTable}

-- a rule, over those before it, the latest of them first
abbrev pub kept_rule : List Node → Node → KeptRule
kept_rule earlier n =
    record {
      place = n.place;
      ends = end_of n;
      form_ends = form_end n.path;
      size = size (map as_rule earlier) (as_rule n);
    }

-- the rule that a reference names
abbrev pub kept_named : List Node → ℕ → ℕ → Option KeptRule
kept_named [] id place = None
kept_named (n ∷ earlier) id place =
    if names id place (as_rule n) then Some (kept_rule earlier n) else kept_named earlier id place

-- those of an id, the latest first
abbrev pub kept_rules : ℕ → List Node → List KeptRule
kept_rules id [] = []
kept_rules id (n ∷ earlier) =
    if (as_rule n).id == id then kept_rule earlier n ∷ kept_rules id earlier
    else kept_rules id earlier

-- the list of an id, empty where there is none
abbrev pub list_of : List (Vec KeptRule) → ℕ → List KeptRule
list_of lists id = slice_index_or (map (λ l. l.items) lists) id []

-- A table has the rules among nodes, those of each id by place.
abbrev pub AreKeptRules : List Node → RuleTable → Type 0
AreKeptRules ns table =
    (id : ℕ) → list_of table.rules.items id ≡ reverse (kept_rules id (rule_nodes ns))
