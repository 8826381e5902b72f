use Rattle.std.proofs.Common.{ap, subst, sym, ◌∙◌}
use Rattle.ifr_nodes.specs.Checked.{IsChecked}
use Rattle.ifr_index.specs.code.Index.{guards_of_indexed}
use Rattle.ifr_nodes.specs.Nodes.{nodes_of}
use Rattle.ifr_index.proofs.PathLemmas.{own_guards}
use Rattle.ifr_nodes.proofs.ViewLemmas.{contains_found}
use Rattle.guard_policy.proofs.AskedLemmas.{suppressing_there}
use Rattle.guard_policy.proofs.around.Around.hiding.Goals as goal

pub returns : goal.returns
returns c = λ n node is at.
    let forms = c.args.forms.now in
    let law = own_guards forms n (subst IsChecked c.guards_at.ensures.of_package c.guards_at.result.checked).spelled (contains_found (nodes_of forms) n.place n node) is in
    suppressing_there n _ (c.guards_at.ensures.guards ∙ ap (guards_of_indexed (nodes_of forms)) (sym at) ∙ law)
