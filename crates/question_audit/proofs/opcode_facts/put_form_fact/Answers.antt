use Rattle.std.proofs.Common.{ap, subst, ◌∙◌}
use Rattle.hii_bytes.specs.code.NumberSets.{has_number}
use Rattle.hii_bytes.proofs.WritingLemmas.{◌⨾◌}
use Rattle.ifr_nodes.specs.Nodes.{nodes_of}
use Rattle.ifr_nodes.specs.code.Checked.{IsNodeOf}
use Rattle.ifr_scopes.specs.code.Lists.{form_node, statement_node}
use Rattle.guard_policy.specs.code.Views.{bytes_of}
use Rattle.guard_policy.specs.declared.policy.Policy.{Policy}
use Rattle.condition_text.proofs.WriteLemmas.{written_as}
use Rattle.question_audit.specs.code.Pages.{audited}
use Rattle.question_audit.specs.QuestionFacts.{form_fact, form_of}
use Rattle.question_audit.proofs.opcode_facts.put_form_fact.Goals as goal

pub put_form-requires-clause-node : goal.put_form-requires-clause-node
put_form-requires-clause-node g c = subst (λ (p : Policy). IsNodeOf (bytes_of p) (form_node c.in-Some.form)) c.policy.ensures c.in-Some.ensures.node

pub returns-in-Some : goal.returns-in-Some
returns-in-Some g c =
    let n = statement_node c.args.statement in
    written_as (c.put_column.ensures ⨾ c.put_form.ensures ⨾ c.put.ensures)
    (ap (form_fact (audited c.args.page) (has_number c.args.ways.now.reached)) (c.in-Some.ensures.form ∙ ap (λ (p : Policy). form_of (nodes_of (bytes_of p)) n) c.policy.ensures))
