-- Which rules lead to a question: whose value depends on its answer.
use Rattle.std.specs.Prelude.{◌≡◌, ◌==◌, ℕ, Bool, false, Option, Some, None, List}
use Rattle.ifr_opcodes.specs.Forest.{Node}
use Rattle.ifr_opcodes.specs.Rows.{is_among}
use Rattle.ifr_expr.specs.Dependence.{own, rule_ids}
use Rattle.ifr_expr.specs.declared.names.Name.{Name}
use Rattle.ifr_expr.specs.declared.names.Name.TheVariants as name
use Rattle.ifr_expr.specs.declared.references.RuleReference.{RuleReference}
use Rattle.ifr_nodes.specs.Rules.{rules_among}
use Rattle.question_audit.specs.code.NamedRules.{named_by}

-- whether a rule is there, if there is one
abbrev pub has_rule : (ℕ → Bool) → Option Node → Bool
has_rule has None = false
has_rule has (Some n) = has n.place

-- whether a name is that of a question, or of a rule that is there
abbrev pub leads : List Node → (ℕ → Bool) → ℕ → ℕ → Name → Bool
leads ns has this id (name.Question other) = other == id
leads ns has this id name.This = is_among id (own this)
leads ns has this id (name.Rule r) = has_rule has (named_by ns r)

-- The rules are there that lead to a question, as far as references name them.
abbrev pub AreLeading : List Node → ℕ → (ℕ → Bool) → Type 0
AreLeading ns id has =
    (r : RuleReference) → has_rule has (named_by ns r) ≡ is_among id (rule_ids (rules_among ns) r.id r.place)
