use Rattle.std.proofs.lemmas.Result.{on_err_weaker, on_ok_weaker}
use Rattle.std.proofs.Common.{◌≡◌, arith, ap, refl, ◌∙◌}
use Rattle.hii_bytes.proofs.WritingLemmas.{◌⨾◌}
use Rattle.ifr_nodes.specs.Nodes.{nodes_of}
use Rattle.ifr_nodes.proofs.ConditionLemmas.{place_below}
use Rattle.ifr_nodes.proofs.ViewLemmas.{contains_found}
use Rattle.hii_questions.specs.code.Views.{question_node}
use Rattle.guard_policy.specs.Policy.{fixed}
use Rattle.guard_policy.specs.code.Answers.{unless}
use Rattle.guard_policy.specs.code.Views.{bytes_of, world}
use Rattle.guard_policy.specs.declared.policy.Policy.{Policy}
use Rattle.guard_policy.specs.declared.support.Decision.TheVariants.{Changeable}
use Rattle.question_audit.proofs.KeptLemmas.{kept_told}
use Rattle.question_audit.proofs.BeginningLemmas.{begun_behind}
use Rattle.question_audit.proofs.OptionLemmas.{error_where_denied}
use Rattle.question_objects.proofs.objects.put_members.Goals as goal
use Rattle.question_objects.proofs.objects.put_members.Goals.{After-question_changeable_by-verdict}

-- the verdict is what `why` answers
decided : (g : _) (c : After-question_changeable_by-verdict g) → c.question_changeable_by-verdict.result ≡ unless (fixed (world c.args.page.policy c.args.page.stores.now) (question_node c.args.question))
decided g c =
    let page = c.args.page in
    let stores = page.stores.now in
    let n = question_node c.args.question in
    let statement = c.args.question.statement in
    let tells = kept_told page.policy c.policy.result stores (g.C.Conditions.holding c.conditions.result.now) (Changeable statement) c.policy.ensures c.conditions.ensures c.requires.node refl in
    c.question_changeable_by-verdict.ensures statement refl stores tells ∙ ap (λ (p : Policy). unless (fixed (world p stores) n)) c.policy.ensures

pub put_plain-requires-clause-in_file : goal.put_plain-requires-clause-in_file
put_plain-requires-clause-in_file g c =
    let policy = c.args.page.policy in
    let n = question_node c.args.question in
    let below = place_below (bytes_of policy) n policy.accepted.checked (contains_found (nodes_of (bytes_of policy)) n.place n c.requires.node) in
    omega (arith, below, c.requires.in_file)

pub put_plain-requires-clause-verdict : goal.put_plain-requires-clause-verdict
put_plain-requires-clause-verdict g c = decided g (goal.at.put_plain-requires-clause-verdict g c).After-question_changeable_by-verdict

pub put_details-requires-clause-denied : goal.put_details-requires-clause-denied
put_details-requires-clause-denied g c =
    let page = c.args.page in
    c.is_err.ensures.value ∙ error_where_denied _ (fixed (world page.policy page.stores.now) (question_node c.args.question)) (decided g (goal.at.put_details-requires-clause-denied g c).After-question_changeable_by-verdict)

pub returns-clause-told : goal.returns-clause-told
returns-clause-told g c = on_ok_weaker c.put_details.result (λ told. c.put_plain.ensures.text ⨾ told) c.put_details.ensures.told

pub returns-clause-begun : goal.returns-clause-begun
returns-clause-begun g c = on_err_weaker c.put_details.result (λ begun. begun_behind c.put_plain.ensures.text begun) c.put_details.ensures.begun
