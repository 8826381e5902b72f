use Rattle.std.proofs.Common.{◌≡◌, ltb, Some, None, sym, ap, ◌∙◌, rules}
use Rattle.std.specs.Prelude.{option_map}
use Rattle.std.proofs.lemmas.Bool.{le-ltb, lt-ltb, cond-true, cond-false}
use Rattle.std.proofs.Common.{List}
use Rattle.ifr_opcodes.specs.Forest.{Node}
use Rattle.ifr_nodes.specs.Rules.{rule_nodes}
use Rattle.ifr_nodes.specs.code.KeptRules.{kept_named}
use Rattle.ifr_nodes.specs.code.RuleNodes.{Descend}
use Rattle.package_faults.specs.code.MetRules.{AreMetRules, capped_rule}
use Rattle.package_faults.proofs.RuleLemmas.{going_on, named_is}
use Rattle.package_faults.proofs.met_rules.MetRules.named.Goals as goal
use Rattle.package_faults.proofs.met_rules.MetRules.named.Goals.{After-last_ended}

-- what the last that ended tells
its : (c : After-last_ended) (ns : List Node) → AreMetRules ns c.args.self.now → Descend (rule_nodes ns)
    → going_on c.args.place c.last_ended.result ≡ option_map capped_rule (kept_named (rule_nodes ns) c.args.id c.args.place)
its c ns kept descend = named_is (rule_nodes ns) c.args.id c.args.place c.of_id.result.now c.last_ended.result descend (c.of_id.ensures ∙ kept c.args.id) c.last_ended.ensures

pub returns-in_err-rule : goal.returns-in_err-rule
returns-in_err-rule c = λ ns kept descend.
    let none : c.last_ended.result ≡ None = search rules in
    let given : c.from_residual.result ≡ None = search rules in
    given ∙ ap (going_on c.args.place) (sym none) ∙ its (goal.at.returns-in_err-rule c).After-last_ended ns kept descend

pub returns-then-rule-place : goal.returns-then-rule-place
returns-then-rule-place c = λ ns kept descend.
    let rule = c.in_ok-rule.rule in
    let some : c.last_ended.result ≡ Some rule = search rules in
    sym (cond-false (ltb c.args.place rule.form_ends) (Some rule) None (le-ltb c.args.place rule.form_ends c.if-rule-place.true))
    ∙ ap (going_on c.args.place) (sym some) ∙ its (goal.at.returns-then-rule-place c).After-last_ended ns kept descend

pub returns : goal.returns
returns c = λ ns kept descend.
    let rule = c.in_ok-rule.rule in
    let some : c.last_ended.result ≡ Some rule = search rules in
    sym (cond-true (ltb c.args.place rule.form_ends) (Some rule) None (lt-ltb c.args.place rule.form_ends c.if-rule-place.false))
    ∙ ap (going_on c.args.place) (sym some) ∙ its (goal.at.returns c).After-last_ended ns kept descend
