use Rattle.std.proofs.Common.{true, List, refl, sym, ap, ◌∙◌, arith, length}
use Rattle.std.proofs.lemmas.List.Elements.{All-filter}
use Rattle.ifr_opcodes.specs.Forest.{Node}
use Rattle.ifr_nodes.specs.Nodes.{statements}
use Rattle.ifr_nodes.specs.code.Checked.{IsNodeOf}
use Rattle.ifr_index.specs.code.Giving.{is_giving}
use Rattle.ifr_scopes.specs.code.Lists.{form_node}
use Rattle.ifr_index.proofs.IndexingLemmas.{few_of}
use Rattle.hii_varstore.specs.Stores.{shape_of}
use Rattle.browser_commands.proofs.Browsers.{stands_with}
use Rattle.browser_commands.proofs.DefaultLemmas.{sources_in, takes_all, takes_giving}
use Rattle.browser_commands.proofs.ValueLemmas.{browsed}
use Rattle.browser_commands.proofs.defaults.take_defaults.Goals as goal

pub invariant_of-sources : goal.invariant_of-sources
invariant_of-sources c = record { together = c.core.invariant.together ∙ sym c.new.ensures.forms }

pub take_each-requires-clause-nodes : goal.take_each-requires-clause-nodes
take_each-requires-clause-nodes c =
    let ifr = c.core.inside.forms in
    let all = c.statements_are_nodes.ensures ifr (form_node c.core.inside.form) c.core.invariant.browsable.accepted c.core.invariant.node in
    rw (c.new.ensures.forms, c.giving_statements_of-statements.ensures) (All-filter is_giving (λ n. IsNodeOf ifr n) (statements (form_node c.core.inside.form)) all)

pub take_each-requires-clause-few : goal.take_each-requires-clause-few
take_each-requires-clause-few c =
    let few = c.statements_are_few.ensures c.core.inside.form in
    omega (arith, few, few_of is_giving (statements (form_node c.core.inside.form)), ap (λ (ns : List Node). length ns) c.giving_statements_of-statements.ensures)

pub take_each-requires-clause-browsed : goal.take_each-requires-clause-browsed
take_each-requires-clause-browsed c = browsed c.new.result c.core.inside c.core.invariant c.new.ensures.forms

pub invariant_of-core : goal.invariant_of-core
invariant_of-core c =
    let takes = c.take_each.ensures.take in
    let shape = ap shape_of c.take_each.ensures.same ∙ takes.shape ∙ c.core.invariant.laid in
    stands_with c.core.inside c.take_each.new.working c.take_each.new.spare true c.core.invariant takes.same_package shape c.take_each.ensures.same (λ e. absurd cc)

pub returns-clause-state : goal.returns-clause-state
returns-clause-state c =
    let its = sources_in _ c.core.inside c.new.ensures.forms c.new.ensures.removed refl refl in
    let takes = takes_giving _ c.args.class (statements (form_node c.core.inside.form)) _ _ _ (rw c.giving_statements_of-statements.ensures at c.take_each.ensures.take) in
    (takes_all _ c.core.inside c.args.core.now c.args.class c.take_each.new.working c.take_each.result c.core.view_is c.core.invariant c.new.ensures.forms its takes).0

pub returns-clause-count : goal.returns-clause-count
returns-clause-count c =
    let its = sources_in _ c.core.inside c.new.ensures.forms c.new.ensures.removed refl refl in
    let takes = takes_giving _ c.args.class (statements (form_node c.core.inside.form)) _ _ _ (rw c.giving_statements_of-statements.ensures at c.take_each.ensures.take) in
    (takes_all _ c.core.inside c.args.core.now c.args.class c.take_each.new.working c.take_each.result c.core.view_is c.core.invariant c.new.ensures.forms its takes).1

pub returns-clause-renewed : goal.returns-clause-renewed
returns-clause-renewed c =
    let its = sources_in _ c.core.inside c.new.ensures.forms c.new.ensures.removed refl refl in
    let takes = takes_giving _ c.args.class (statements (form_node c.core.inside.form)) _ _ _ (rw c.giving_statements_of-statements.ensures at c.take_each.ensures.take) in
    (takes_all _ c.core.inside c.args.core.now c.args.class c.take_each.new.working c.take_each.result c.core.view_is c.core.invariant c.new.ensures.forms its takes).2
