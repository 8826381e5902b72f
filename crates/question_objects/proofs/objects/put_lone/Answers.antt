use Rattle.std.proofs.Common.{◌≡◌, ℕ, List, Option, ap, subst, ◌∙◌}
use Rattle.ifr_opcodes.specs.Forest.{Node}
use Rattle.ifr_nodes.specs.Nodes.{nodes_of}
use Rattle.ifr_index.specs.code.LockIndex.{first_place}
use Rattle.hii_questions.specs.code.Views.{question_node, question_view}
use Rattle.guard_policy.specs.code.Views.{bytes_of}
use Rattle.guard_policy.specs.declared.policy.Policy.{Policy}
use Rattle.condition_text.proofs.WriteLemmas.{written_as}
use Rattle.question_audit.specs.code.Pages.{audited}
use Rattle.question_audit.proofs.AroundLemmas.{same_forms}
use Rattle.question_audit.specs.QuestionFacts.{form_of}
use Rattle.question_audit.specs.code.Beginnings.{Begins}
use Rattle.question_audit.proofs.BeginningLemmas.{at_error}
use Rattle.question_audit.proofs.OptionLemmas.{nothing_begun}
use Rattle.question_objects.specs.Objects.{question_object}
use Rattle.question_objects.specs.declared.detail.Detail.TheVariants.{Alone}
use Rattle.question_objects.proofs.objects.put_lone.Goals as goal

pub put_object-requires-clause-known : goal.put_object-requires-clause-known
put_object-requires-clause-known g c =
    let policy = c.args.page.policy in
    let own = same_forms c.forms-forms.result.now c.policy.result policy c.forms-forms.ensures c.policy.ensures in
    record {
      names = c.in_ok-names.ensures ∙ own;
      guards = c.in_ok-guards.ensures;
      locks = λ scope. c.in_ok-locks.ensures scope ∙ ap (λ (b : List ℕ). first_place (nodes_of b) scope) (c.bytes.ensures.bytes ∙ own);
    }

-- the form of the question
found : (asked policy : Policy) (form : Option Node) (m n : Node) → asked ≡ policy → m ≡ n → form ≡ form_of (nodes_of (bytes_of asked)) m → form ≡ form_of (nodes_of (bytes_of policy)) n
found asked policy form m n e f is = is ∙ ap (λ (p : Policy). form_of (nodes_of (bytes_of p)) m) e ∙ ap (form_of (nodes_of (bytes_of policy))) f

pub returns-clause-told : goal.returns-clause-told
returns-clause-told g c =
    let a = audited c.args.page in
    let q = question_view c.args.question in
    let form = found _ c.args.page.policy _ _ (question_node c.args.question) c.policy-2.ensures c.statement.ensures c.form_of.ensures.form in
    written_as c.in_ok-put_object.ensures.told (ap (λ (f : Option Node). question_object Alone a c.args.origin.place f q) form ∙ ap (question_object Alone a c.args.origin.place (form_of a.world.nodes q.node)) c.requires.asked)

pub returns-in_err-put_object-clause-begun : goal.returns-in_err-put_object-clause-begun
returns-in_err-put_object-clause-begun g c =
    let a = audited c.args.page in
    let q = question_view c.args.question in
    let form = found _ c.args.page.policy _ _ (question_node c.args.question) c.policy-2.ensures c.statement.ensures c.form_of.ensures.form in
    at_error c.from_residual-in_err-put_object.result
    (subst (Begins _ _) (ap (λ (f : Option Node). question_object Alone a c.args.origin.place f q) form ∙ ap (question_object Alone a c.args.origin.place (form_of a.world.nodes q.node)) c.requires.asked) c.in_err-put_object.ensures.begun)

pub returns-in_err-names-clause-begun : goal.returns-in_err-names-clause-begun
returns-in_err-names-clause-begun g c = at_error c.from_residual.result (nothing_begun _ _)

pub returns-in_err-guards-clause-begun : goal.returns-in_err-guards-clause-begun
returns-in_err-guards-clause-begun g c = at_error c.from_residual-in_err-guards.result (nothing_begun _ _)

pub returns-in_err-locks-clause-begun : goal.returns-in_err-locks-clause-begun
returns-in_err-locks-clause-begun g c = at_error c.from_residual-in_err-locks.result (nothing_begun _ _)

pub returns-in_err-spare-clause-begun : goal.returns-in_err-spare-clause-begun
returns-in_err-spare-clause-begun g c = at_error c.from_residual-in_err-spare.result (nothing_begun _ _)
