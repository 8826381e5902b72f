use Rattle.std.proofs.Common.{◌≡◌, ℕ, List, refl, sym, ap, subst, ◌∙◌}
use Rattle.ifr_expr.specs.Values.{Value}
use Rattle.ifr_expr.specs.code.RuleValues.{AreValues, kept_under}
use Rattle.ifr_nodes.specs.Nodes.{nodes_of}
use Rattle.ifr_nodes.specs.code.Rules.{rules_of}
use Rattle.hii_questions.specs.Answers.{answers}
use Rattle.hii_questions.specs.code.Over.{answers_over}
use Rattle.guard_policy.proofs.conditions.condition_holds_by.Goals.{After-over-answers}
use Rattle.guard_policy.proofs.conditions.condition_holds_by.Goals as goal

-- what the questions answer over these stores
same : (c : After-over-answers) → answers_over c.over-answers.result ≡ answers (nodes_of c.args.forms.now) c.args.stores.now
same c = c.over-answers.ensures ∙ ap (λ (ifr : List ℕ). answers (nodes_of ifr) c.args.stores.now) c.requires.together

pub holds_by-requires : goal.holds_by-requires
holds_by-requires c = λ κs.
    let at = (goal.at.holds_by-requires c).After-over-answers in
    ((refl, tt), subst (λ (a : ℕ → Value). AreValues (rules_of c.args.forms.now) a (kept_under c.args.rules.now)) (sym (same at)) c.requires.kept)

pub returns-clause-kept : goal.returns-clause-kept
returns-clause-kept c =
    let at = (goal.at.returns-clause-kept c).After-over-answers in
    subst (λ (a : ℕ → Value). AreValues (rules_of c.args.forms.now) a (kept_under c.holds_by.new.values)) (same at) c.holds_by.ensures.kept
