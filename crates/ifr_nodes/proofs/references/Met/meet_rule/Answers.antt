use Rattle.std.proofs.Common.{◌≡◌, List, ◌∷◌, ◌++◌, sym, ap, ◌∙◌, subst}
use Rattle.ifr_opcodes.specs.Forest.{Node}
use Rattle.ifr_expr.specs.Trees.{Tree}
use Rattle.ifr_nodes.specs.code.KeptRules.{AreKeptRules}
use Rattle.ifr_nodes.specs.code.Met.{AreOf}
use Rattle.ifr_nodes.specs.Nodes.{nodes_of}
use Rattle.ifr_nodes.specs.Rules.{rule_sizes, rules_among, size, size_over, as_rule}
use Rattle.ifr_nodes.specs.code.Rules.{fitting_size}
use Rattle.ifr_nodes.specs.code.Views.{node_of}
use Rattle.ifr_nodes.proofs.MetRuleLemmas.{form_around, told_large, told_none, its_size, no_form_more, no_question_more}
use Rattle.ifr_nodes.proofs.NodeFactLemmas.{is_node}
use Rattle.ifr_nodes.proofs.RuleOrderLemmas.{descend_before}
use Rattle.ifr_nodes.proofs.references.Met.meet_rule.Goals as goal
use Rattle.ifr_nodes.proofs.references.Met.meet_rule.Goals.{After-size_of}

pub form_end-form_ends-requires-clause-there : goal.form_end-form_ends-requires-clause-there
form_end-form_ends-requires-clause-there c =
    let view = c.args.rule in
    (form_around view.ifr.now (node_of view) c.args.form view.checked (is_node view.ifr.now view.op.place _ view.checked view.stands) c.requires.form).there

-- what the table tells of its size
its : (c : After-size_of) (before rest : List Node) → before ++ node_of c.args.rule ∷ rest ≡ nodes_of c.args.rule.ifr.now → AreOf c.args.rule.ifr.now before c.args.self.now
    → c.size_of.result ≡ fitting_size (size (rules_among before) (as_rule (node_of c.args.rule)))
its c before rest split known =
    let kept = subst (AreKeptRules before) (sym c.form_end-form_ends.ensures.stays.3) known.rules in
    c.size_of.ensures before kept (descend_before c.args.rule.ifr.now before (node_of c.args.rule ∷ rest) c.args.rule.checked split)
    ∙ ap (λ (t : Tree). fitting_size (size_over (rule_sizes (rules_among before)) t)) c.expression_of.ensures.tree

pub returns-in_default-clause-told : goal.returns-in_default-clause-told
returns-in_default-clause-told c = λ before rest split known.
    told_large (nodes_of c.args.rule.ifr.now) before (node_of c.args.rule) c.requires.rule (sym c.in_default.is ∙ its (goal.at.returns-in_default-clause-told c).After-size_of before rest split known)

pub returns-clause-told : goal.returns-clause-told
returns-clause-told c = λ before rest split known.
    told_none (nodes_of c.args.rule.ifr.now) before (node_of c.args.rule) c.in-Some.size c.requires.rule (sym c.in-Some.is ∙ its (goal.at.returns-clause-told c).After-size_of before rest split known)

pub returns-clause-met : goal.returns-clause-met
returns-clause-met c = λ _ before rest split known.
    let view = c.args.rule in
    let n = node_of view in
    let told = sym c.in-Some.is ∙ its (goal.at.returns-clause-met c).After-size_of before rest split known in
    let kept = subst (AreKeptRules before) (sym c.form_end-form_ends.ensures.stays.3) known.rules in
    let around = form_around view.ifr.now n c.args.form view.checked (is_node view.ifr.now view.op.place _ view.checked view.stands) c.requires.form in
    record {
      all = rw c.form_end-form_ends.ensures.stays.0 known.all;
      forms = λ id. rw c.form_end-form_ends.ensures.stays.1 (known.forms id ∙ sym (no_form_more before n id c.requires.rule));
      questions = λ id. rw c.form_end-form_ends.ensures.stays.2 (known.questions id ∙ sym (no_question_more before n id c.requires.rule));
      rules = c.in_ok-add.ensures before kept (c.form_end-form_ends.ensures.end ∙ around.ends) (its_size before n c.in-Some.size told);
      form = c.form_end-form_ends.ensures.known;
    }
