use Rattle.std.proofs.Common.{◌++◌, ◌∙◌, List, map, sym, ap, subst}
use Rattle.std.specs.List.{flat_map}
use Rattle.ifr_opcodes.specs.Forest.{Node}
use Rattle.ifr_nodes.specs.Nodes.{options}
use Rattle.ifr_nodes.specs.code.Checked.{AreNodesOf}
use Rattle.ifr_scopes.specs.code.Lists.{guard_node}
use Rattle.ifr_scopes.specs.code.Parts.{option_node}
use Rattle.hii_questions.specs.code.Views.{question_node}
use Rattle.guard_policy.specs.code.Views.{bytes_of}
use Rattle.hii_values.proofs.OptionLemmas.{options_are_nodes}
use Rattle.guard_policy.proofs.OptionLemmas.{rest_of}
use Rattle.question_audit.specs.OptionFacts.{own_guards}
use Rattle.unlock_audit.proofs.AskingLemmas.{each_added}
use Rattle.unlock_audit.proofs.asking.add_options.Goals as goal

pub loop-option-init : goal.loop-option-init
loop-option-init c =
    let n = question_node c.args.question in
    let bytes = bytes_of c.args.policy in
    let all = c.options_of-options.ensures ∙ ap options c.statement.ensures in
    record {
      added = ap (λ (os : List Node). map guard_node c.args.conditions.now.items ++ flat_map (own_guards n.place) os) all;
      nodes = subst (AreNodesOf bytes) (sym all) (options_are_nodes bytes n c.args.policy.accepted.checked.spelled c.requires);
    }

pub loop-option-preserved : goal.loop-option-preserved
loop-option-preserved c =
    let n = question_node c.args.question in
    record {
      added = each_added (own_guards n.place) _ _ _ _ _ (option_node c.in-Some.option) (rw c.place.ensures at c.in_ok-add_own.ensures) c.in-Some.ensures.steps c.loop-option.invariant.added;
      nodes = rest_of _ _ _ _ c.in-Some.ensures.steps c.loop-option.invariant.nodes;
    }
