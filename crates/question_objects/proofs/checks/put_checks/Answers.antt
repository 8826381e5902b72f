use Rattle.std.proofs.Common.{arith, sym, ap, subst, ◌∙◌}
use Rattle.hii_bytes.specs.Watching.{pen_of}
use Rattle.ifr_opcodes.specs.Forest.{Node}
use Rattle.ifr_opcodes.specs.Opcode.{number}
use Rattle.ifr_opcodes.specs.Rows.{is_condition_number}
use Rattle.ifr_nodes.specs.Nodes.{nodes_of}
use Rattle.ifr_nodes.specs.code.Checked.{AreNodesOf}
use Rattle.ifr_nodes.proofs.ConditionLemmas.{place_below}
use Rattle.ifr_nodes.proofs.ViewLemmas.{contains_found}
use Rattle.ifr_scopes.specs.code.Parts.{condition_node}
use Rattle.hii_questions.specs.code.Views.{question_node}
use Rattle.guard_policy.specs.code.Views.{bytes_of}
use Rattle.guard_policy.proofs.OptionLemmas.{first_of, rest_of}
use Rattle.question_audit.specs.code.Pages.{audited}
use Rattle.question_audit.specs.ConditionFacts.{checks}
use Rattle.question_audit.proofs.InsideLemmas.{inside_are_nodes}
use Rattle.question_objects.specs.Conditions.{check_item}
use Rattle.question_objects.proofs.ListingLemmas.{first_left, item_next, none_left}
use Rattle.question_objects.proofs.checks.put_checks.Goals as goal

pub loop-check-init : goal.loop-check-init
loop-check-init g c =
    let page = c.args.page in
    let bytes = bytes_of page.policy in
    let n = question_node c.args.question in
    let all = c.conditions_in-checks.ensures ∙ ap checks c.statement.ensures in
    record {
      written = first_left _ (check_item (audited page) c.args.package_place) (pen_of g.W.Write.contents c.args.out.now) _ _ all;
      nodes = subst (AreNodesOf bytes) (sym all) (inside_are_nodes bytes (λ (m : Node). is_condition_number (number m.op)) n page.policy.accepted.checked.spelled c.requires.node);
    }

pub put_check-requires : goal.put_check-requires
put_check-requires g c =
    let bytes = bytes_of c.args.page.policy in
    let n = condition_node c.in-Some.check in
    let node = first_of bytes _ n _ c.in-Some.ensures.steps c.loop-check.invariant.nodes in
    let below = place_below bytes n c.args.page.policy.accepted.checked (contains_found (nodes_of bytes) n.place n node) in
    omega (arith, below, c.requires.in_file)

pub loop-check-preserved : goal.loop-check-preserved
loop-check-preserved g c = record {
  written = item_next (check_item (audited c.args.page) c.args.package_place) (condition_node c.in-Some.check) c.in-Some.ensures.steps c.loop-check.invariant.written c.put_check.ensures;
  nodes = rest_of (bytes_of c.args.page.policy) _ _ _ c.in-Some.ensures.steps c.loop-check.invariant.nodes;
}

pub returns : goal.returns
returns g c = none_left (check_item (audited c.args.page) c.args.package_place) c.in_default.ensures.steps.0 c.loop-check.invariant.written c.put_array_end.ensures
