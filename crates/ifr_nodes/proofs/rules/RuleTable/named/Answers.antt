use Rattle.std.proofs.Common.{◌≡◌, ltb, Option, Some, None, List, sym, ap, ◌∙◌, ℕ, rules}
use Rattle.std.proofs.lemmas.Bool.{le-ltb, lt-ltb, cond-true, cond-false}
use Rattle.std.proofs.lemmas.Map.Entries.{option_filter}
use Rattle.ifr_opcodes.specs.Forest.{Node}
use Rattle.ifr_nodes.specs.Rules.{rule_nodes}
use Rattle.ifr_nodes.specs.code.KeptRules.{AreKeptRules, kept_named}
use Rattle.ifr_nodes.specs.code.RuleNodes.{Descend}
use Rattle.ifr_nodes.specs.declared.rules.KeptRule.{KeptRule}
use Rattle.ifr_nodes.proofs.NamedLemmas.{named_found}
use Rattle.ifr_nodes.proofs.rules.RuleTable.named.Goals as goal
use Rattle.ifr_nodes.proofs.rules.RuleTable.named.Goals.{After-last_ended}

-- a rule whose form goes on at a place
abbrev going_on : ℕ → Option KeptRule → Option KeptRule
going_on place found = option_filter (λ (r : KeptRule). ltb place r.form_ends) found

-- what the last that ended tells
its : (c : After-last_ended) (ns : List Node) → AreKeptRules ns c.args.self.now → Descend (rule_nodes ns)
    → kept_named (rule_nodes ns) c.args.id c.args.place ≡ going_on c.args.place c.last_ended.result
its c ns kept descend = named_found (rule_nodes ns) c.args.id c.args.place c.of_id.result.now c.last_ended.result descend (c.of_id.ensures ∙ kept c.args.id) c.last_ended.ensures

pub returns-in_err-rule : goal.returns-in_err-rule
returns-in_err-rule c = λ ns kept descend.
    let none : c.last_ended.result ≡ None = search rules in
    let given : c.from_residual.result ≡ None = search rules in
    given ∙ sym (its (goal.at.returns-in_err-rule c).After-last_ended ns kept descend ∙ ap (going_on c.args.place) none)

pub returns-then-rule-place : goal.returns-then-rule-place
returns-then-rule-place c = λ ns kept descend.
    let rule = c.in_ok-rule.rule in
    let some : c.last_ended.result ≡ Some rule = search rules in
    sym (its (goal.at.returns-then-rule-place c).After-last_ended ns kept descend ∙ ap (going_on c.args.place) some
    ∙ cond-false (ltb c.args.place rule.form_ends) _ _ (le-ltb c.args.place rule.form_ends c.if-rule-place.true))

pub returns : goal.returns
returns c = λ ns kept descend.
    let rule = c.in_ok-rule.rule in
    let some : c.last_ended.result ≡ Some rule = search rules in
    sym (its (goal.at.returns c).After-last_ended ns kept descend ∙ ap (going_on c.args.place) some
    ∙ cond-true (ltb c.args.place rule.form_ends) _ _ (lt-ltb c.args.place rule.form_ends c.if-rule-place.false))
