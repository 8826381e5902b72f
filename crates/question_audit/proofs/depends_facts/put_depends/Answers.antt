use Rattle.std.proofs.Common.{ap, ◌∙◌}
use Rattle.hii_bytes.specs.Watching.{pen_of}
use Rattle.ifr_nodes.specs.Nodes.{nodes_of}
use Rattle.ifr_scopes.specs.code.Lists.{statement_node}
use Rattle.guard_policy.specs.code.Views.{bytes_of}
use Rattle.guard_policy.specs.declared.policy.Policy.{Policy}
use Rattle.question_audit.specs.code.Pages.{audited}
use Rattle.question_audit.specs.Dependences.{depends_fact, support_ids}
use Rattle.question_audit.proofs.FactLemmas.{all_left, none_left, past_item}
use Rattle.question_audit.proofs.depends_facts.put_depends.Goals as goal

pub loop-id-init : goal.loop-id-init
loop-id-init g c =
    let page = c.args.page in
    let n = statement_node c.args.statement in
    all_left (depends_fact c.args.when (audited page)) (pen_of g.W.Write.contents c.args.out.now) (support_ids c.args.when (nodes_of (bytes_of page.policy)) n) c.iter-left.result
    (c.iter-left.ensures.rest ∙ c.in_ok-ids.ensures ∙ ap (λ (p : Policy). support_ids c.args.when (nodes_of (bytes_of p)) n) c.policy.ensures)

pub loop-id-preserved : goal.loop-id-preserved
loop-id-preserved g c = past_item (depends_fact c.args.when (audited c.args.page)) _ _ _ _ _ _ c.in-Some.id.now c.in-Some.ensures.steps c.loop-id.invariant c.put_dependence.ensures

pub returns-clause-told : goal.returns-clause-told
returns-clause-told g c = none_left (depends_fact c.args.when (audited c.args.page)) _ _ _ _ c.in_default.ensures.steps.0 c.loop-id.invariant
