use Rattle.std.proofs.Common.{length, ap, arith}
use Rattle.std.specs.Prelude.{is_none}
use Rattle.std.proofs.lemmas.List.Sums.{length-filter, count_by-le-length}
use Rattle.ifr_opcodes.specs.Forest.{Node}
use Rattle.ifr_nodes.specs.Nodes.{statements}
use Rattle.ifr_scopes.specs.code.Lists.{form_node}
use Rattle.guard_policy.specs.Policy.{hidden}
use Rattle.form_page.specs.code.PageViews.{world_of}
use Rattle.form_page.proofs.page.Page.rows.Goals as goal

pub invariant_of-result : goal.invariant_of-result
invariant_of-result g c =
    let page = c.args.self.now in
    let is_listed = λ (n : Node). is_none (hidden (world_of page) n) in
    let ns = statements (form_node page.form) in
    record { few = omega (arith, ap length c.listed.ensures.left, c.statements_are_few.ensures page.form, length-filter is_listed ns, count_by-le-length is_listed ns) }
