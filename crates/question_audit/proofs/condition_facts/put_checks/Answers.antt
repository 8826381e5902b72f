use Rattle.std.proofs.Common.{arith, sym, ap, subst, ◌∙◌}
use Rattle.hii_bytes.specs.Watching.{pen_of}
use Rattle.ifr_opcodes.specs.Forest.{Node}
use Rattle.ifr_opcodes.specs.Opcode.{number}
use Rattle.ifr_opcodes.specs.Rows.{is_condition_number}
use Rattle.ifr_nodes.specs.Nodes.{nodes_of}
use Rattle.ifr_nodes.specs.code.Checked.{AreNodesOf}
use Rattle.ifr_nodes.proofs.ConditionLemmas.{place_below}
use Rattle.ifr_nodes.proofs.ViewLemmas.{contains_found}
use Rattle.ifr_scopes.specs.code.ConditionsInLeft.{conditions_in_left}
use Rattle.ifr_scopes.specs.code.Parts.{condition_node}
use Rattle.hii_questions.specs.code.Views.{question_node}
use Rattle.guard_policy.specs.code.Views.{bytes_of}
use Rattle.guard_policy.proofs.OptionLemmas.{first_of, rest_of}
use Rattle.guard_policy.proofs.RuleValueLemmas.{forgotten}
use Rattle.question_audit.specs.code.Pages.{audited}
use Rattle.question_audit.specs.ConditionFacts.{check_fact, checks}
use Rattle.question_audit.proofs.BeginningLemmas.{at_error, stands_begun}
use Rattle.question_audit.proofs.FactLemmas.{all_left, past_item}
use Rattle.question_audit.proofs.InsideLemmas.{inside_are_nodes}
use Rattle.question_audit.proofs.OptionLemmas.{nothing_begun}
use Rattle.question_audit.proofs.condition_facts.put_checks.Goals as goal

pub loop-check-init : goal.loop-check-init
loop-check-init g c =
    let page = c.args.page in
    let bytes = bytes_of page.policy in
    let n = question_node c.args.question in
    let all = c.conditions_in-checks.ensures ∙ ap checks c.statement.ensures in
    record {
      written = all_left (check_fact (audited page) c.args.package_place) (pen_of g.W.Write.contents c.args.out.now) (checks n) (conditions_in_left c.conditions_in-checks.result) all;
      nodes = subst (AreNodesOf bytes) (sym all) (inside_are_nodes bytes (λ (m : Node). is_condition_number (number m.op)) n page.policy.accepted.checked.spelled c.requires.node);
      kept = forgotten (bytes_of page.policy) page.stores.now c.in_ok-rules.rules c.in_ok-rules.ensures;
    }

pub put_check-requires-clause-in_list : goal.put_check-requires-clause-in_list
put_check-requires-clause-in_list g c =
    let bytes = bytes_of c.args.page.policy in
    let n = condition_node c.in-Some.check in
    let node = first_of bytes _ n _ c.in-Some.ensures.steps c.loop-check.invariant.nodes in
    let below = place_below bytes n c.args.page.policy.accepted.checked (contains_found (nodes_of bytes) n.place n node) in
    omega (arith, below, c.requires.in_list)

pub loop-check-preserved : goal.loop-check-preserved
loop-check-preserved g c = record {
  written = past_item (check_fact (audited c.args.page) c.args.package_place) _ _ _ _ _ _ (condition_node c.in-Some.check) c.in-Some.ensures.steps c.loop-check.invariant.written c.put_check.ensures.told;
  nodes = rest_of (bytes_of c.args.page.policy) _ _ _ c.in-Some.ensures.steps c.loop-check.invariant.nodes;
  kept = c.put_check.ensures.kept;
}
