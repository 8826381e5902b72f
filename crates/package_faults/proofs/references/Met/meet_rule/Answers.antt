use Rattle.std.proofs.Common.{◌≡◌, List, ◌∷◌, ◌++◌, sym, ap, ◌∙◌, subst}
use Rattle.std.proofs.lemmas.Result.{on_ok_weaker}
use Rattle.ifr_opcodes.specs.Forest.{Node}
use Rattle.ifr_expr.specs.Trees.{Tree}
use Rattle.ifr_nodes.specs.Nodes.{nodes_of}
use Rattle.ifr_nodes.specs.Rules.{as_rule, rule_sizes, rules_among, size, size_over}
use Rattle.ifr_nodes.specs.code.Views.{node_of}
use Rattle.ifr_nodes.proofs.MetRuleLemmas.{form_around, no_form_more, no_question_more}
use Rattle.ifr_nodes.proofs.NodeFactLemmas.{is_node}
use Rattle.ifr_nodes.proofs.RuleOrderLemmas.{descend_before}
use Rattle.package_faults.specs.code.MetRules.{AreMetRules, capped}
use Rattle.package_faults.proofs.ReferenceLemmas.{rule_told}
use Rattle.package_faults.proofs.references.Met.meet_rule.Goals as goal
use Rattle.package_faults.proofs.references.Met.meet_rule.Goals.{After-size_of-size}

pub form_end-form_ends-requires-clause-there : goal.form_end-form_ends-requires-clause-there
form_end-form_ends-requires-clause-there c =
    let view = c.args.rule in
    (form_around view.ifr.now (node_of view) c.args.form view.checked (is_node view.ifr.now view.op.place _ view.checked view.stands) c.requires.form).there

-- what the table tells of its size
its : (c : After-size_of-size) (before rest : List Node) → before ++ node_of c.args.rule ∷ rest ≡ nodes_of c.args.rule.ifr.now → AreMetRules before c.form_end-form_ends.new.self.rules
    → c.size_of-size.result ≡ capped (size (rules_among before) (as_rule (node_of c.args.rule)))
its c before rest split kept =
    c.size_of-size.ensures before kept (descend_before c.args.rule.ifr.now before (node_of c.args.rule ∷ rest) c.args.rule.checked split)
    ∙ ap (λ (t : Tree). capped (size_over (rule_sizes (rules_among before)) t)) c.expression_of.ensures.tree

pub returns : goal.returns
returns c = on_ok_weaker c.add.result (λ adds. λ before rest split known.
    let view = c.args.rule in
    let n = node_of view in
    let ns = nodes_of view.ifr.now in
    let stays = c.form_end-form_ends.ensures.stays in
    let kept = subst (AreMetRules before) (sym stays.3) known.rules in
    let size_is = its (goal.at.returns c).After-size_of-size before rest split kept in
    let around = form_around view.ifr.now n c.args.form view.checked (is_node view.ifr.now view.op.place _ view.checked view.stands) c.requires.form in
    record {
      are = record {
        all = rw stays.0 known.all;
        forms = λ id. rw stays.1 (known.forms id ∙ sym (no_form_more before n id c.requires.rule));
        questions = λ id. rw stays.2 (known.questions id ∙ sym (no_question_more before n id c.requires.rule));
        rules = adds before kept (c.form_end-form_ends.ensures.end ∙ around.ends) size_is;
        form = c.form_end-form_ends.ensures.known;
      };
      added = rule_told ns before n c.is_too_large.result _ _ c.requires.rule (c.is_too_large.ensures _ size_is) (rw c.op.ensures.place at c.in_ok-add_where.ensures);
    }) c.add.ensures
