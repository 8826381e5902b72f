use Rattle.std.proofs.Common.{◌++◌, map, ap, ◌∙◌}
use Rattle.ifr_nodes.specs.Guards.{guards}
use Rattle.ifr_nodes.specs.Nodes.{nodes_of}
use Rattle.ifr_scopes.specs.code.Lists.{guard_node}
use Rattle.hii_questions.specs.code.Views.{question_node}
use Rattle.guard_policy.specs.code.Views.{bytes_of}
use Rattle.unlock_audit.proofs.IdLemmas.{conditions_added}
use Rattle.unlock_audit.proofs.asking.add_question.Goals as goal

pub returns : goal.returns
returns c =
    let n = question_node c.args.question in
    let own = c.add_options.new.conditions.items in
    conditions_added guard_node (nodes_of (bytes_of c.args.policy)) n c.args.asking.now.conditions.items c.extend_from_slice.new.self.items c.add_around.new.conditions.items own c.args.asking.now.ids.items c.add_asked.new.ids.items
    (c.in_ok-add_around.ensures ∙ ap (λ gs. map guard_node gs ++ guards n) c.new-found.ensures.items) c.in_ok-add_options.ensures (rw c.as_slice.ensures.value at c.in_ok-add_asked.ensures) (c.in_ok-extend_from_slice.ensures.items ∙ ap (λ l. c.args.asking.now.conditions.items ++ l) c.as_slice-2.ensures.value)
