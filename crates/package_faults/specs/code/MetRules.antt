-- Rules that were met, with sizes that are capped where they are too large.
use Rattle.std.specs.Prelude.{◌≡◌, ℕ, min, List, map, reverse}
use Rattle.ifr_opcodes.specs.Forest.{Node}
use Rattle.ifr_nodes.specs.Rules.{rule_nodes}
use Rattle.ifr_nodes.specs.code.KeptRules.{kept_rules, list_of}
use Rattle.ifr_nodes.specs.declared.rules.KeptRule.{KeptRule}
use Rattle.ifr_nodes.specs.declared.rules.RuleSize.{RuleSize}
use Rattle.package_faults.specs.declared.met_rules.MetRules.{MetRules}

-- a size, or the least one above it that is too large
abbrev pub capped : RuleSize → RuleSize
capped s = record { depth = min 17 s.depth; weight = min 4097 s.weight }

abbrev pub capped_rule : KeptRule → KeptRule
capped_rule r = record { place = r.place; ends = r.ends; form_ends = r.form_ends; size = capped r.size }

-- A table has the rules among nodes, those of each id by place.
abbrev pub AreMetRules : List Node → MetRules → Type 0
AreMetRules ns table =
    (id : ℕ) → list_of table.rules.items id ≡ map capped_rule (reverse (kept_rules id (rule_nodes ns)))
