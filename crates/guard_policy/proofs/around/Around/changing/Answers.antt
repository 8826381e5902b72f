use Rattle.std.proofs.Common.{ap, subst, sym, ◌∙◌}
use Rattle.ifr_nodes.specs.Checked.{IsChecked}
use Rattle.ifr_index.specs.code.Index.{guards_of_indexed}
use Rattle.ifr_nodes.specs.Nodes.{nodes_of}
use Rattle.ifr_index.proofs.PathLemmas.{own_guards}
use Rattle.ifr_nodes.proofs.ViewLemmas.{contains_found}
use Rattle.guard_policy.proofs.AskedLemmas.{around_there}
use Rattle.guard_policy.proofs.around.Around.changing.Goals as goal

pub returns : goal.returns
returns c = λ n node is at.
    let forms = c.args.forms.now in
    let law = own_guards forms n (subst IsChecked c.guards_at-suppressing.ensures.of_package c.guards_at-suppressing.result.checked).spelled (contains_found (nodes_of forms) n.place n node) is in
    let found = ap (guards_of_indexed (nodes_of forms)) (sym at) ∙ law in
    around_there n _ _ (c.guards_at-suppressing.ensures.guards ∙ found) (c.guards_at-graying_out.ensures.guards ∙ found)
