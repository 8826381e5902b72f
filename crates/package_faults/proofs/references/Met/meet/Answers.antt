use Rattle.std.proofs.Common.{sym, ◌∙◌}
use Rattle.ifr_nodes.specs.code.Views.{node_of}
use Rattle.ifr_nodes.proofs.MetRuleLemmas.{some_form}
use Rattle.ifr_nodes.proofs.NodeFactLemmas.{is_node}
use Rattle.package_faults.proofs.references.Met.meet.Goals as goal

pub unwrap-form-requires : goal.unwrap-form-requires
unwrap-form-requires c =
    let view = c.args.next.now.node in
    some_form view.ifr.now (node_of view) c.form.result view.checked (is_node view.ifr.now view.op.place _ view.checked view.stands) (sym c.is_rule.ensures ∙ c.if-not-is_rule.false) c.form.ensures
