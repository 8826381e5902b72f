use Rattle.std.proofs.Common.{◌≡◌, ap, subst, sym, ◌∙◌}
use Rattle.hii_bytes.proofs.WritingLemmas.{◌⨾◌}
use Rattle.ifr_opcodes.specs.Forest.{Node}
use Rattle.ifr_nodes.specs.Nodes.{nodes_of}
use Rattle.ifr_nodes.specs.code.Checked.{IsNodeOf}
use Rattle.guard_policy.specs.code.Views.{bytes_of}
use Rattle.guard_policy.specs.declared.policy.Policy.{Policy}
use Rattle.condition_text.proofs.WriteLemmas.{written_as}
use Rattle.question_audit.specs.declared.when.When.{When}
use Rattle.question_audit.specs.declared.when.When.TheVariants.{AtCommands, AtOpening}
use Rattle.question_audit.proofs.BeginningLemmas.{at_error, begun_before, first_begun}
use Rattle.question_audit.proofs.OptionLemmas.{nothing_begun}
use Rattle.question_objects.specs.Dependences.{depends_member}
use Rattle.question_objects.proofs.objects.put_all_dependences.Goals as goal

-- the statement of a question over the same package
same_member : (when : When) (asked policy : Policy) (m n : Node) → asked ≡ policy → m ≡ n → depends_member when (nodes_of (bytes_of asked)) m ≡ depends_member when (nodes_of (bytes_of policy)) n
same_member when asked policy m n e f = ap (λ (p : Policy). depends_member when (nodes_of (bytes_of p)) m) e ∙ ap (depends_member when (nodes_of (bytes_of policy))) f

same_node : (asked policy : Policy) (m n : Node) → asked ≡ policy → m ≡ n → IsNodeOf (bytes_of policy) n → IsNodeOf (bytes_of asked) m
same_node asked policy m n e f is = subst (λ (p : Policy). IsNodeOf (bytes_of p) m) (sym e) (subst (λ (k : Node). IsNodeOf (bytes_of policy) k) (sym f) is)

pub put_depends-requires : goal.put_depends-requires
put_depends-requires g c = same_node _ _ _ _ c.policy-policy.ensures c.statement-statement.ensures c.requires

pub put_depends-requires-2 : goal.put_depends-requires-2
put_depends-requires-2 g c = same_node _ _ _ _ c.policy-policy.ensures c.statement-statement.ensures c.requires

pub returns-clause-told : goal.returns-clause-told
returns-clause-told g c =
    let same = λ (when : When). same_member when _ _ _ _ c.policy-policy.ensures c.statement-statement.ensures in
    written_as c.in_ok-put_depends.ensures.told (same AtCommands) ⨾ written_as c.in_ok-put_depends-2.ensures.told (same AtOpening) ⨾ c.in_ok-put_decides.ensures.told

pub returns-in_err-put_depends-clause-begun : goal.returns-in_err-put_depends-clause-begun
returns-in_err-put_depends-clause-begun g c = at_error c.from_residual.result (rw c.in_err-put_depends.ensures.nothing (nothing_begun _ _))

pub returns-in_err-put_depends-2-clause-begun : goal.returns-in_err-put_depends-2-clause-begun
returns-in_err-put_depends-2-clause-begun g c =
    let same = λ (when : When). same_member when _ _ _ _ c.policy-policy.ensures c.statement-statement.ensures in
    at_error c.from_residual-in_err-put_depends-2.result
    (rw c.in_err-put_depends-2.ensures.nothing (begun_before _ (first_begun _ (written_as c.in_ok-put_depends.ensures.told (same AtCommands)))))

pub returns-in_err-put_decides-clause-begun : goal.returns-in_err-put_decides-clause-begun
returns-in_err-put_decides-clause-begun g c =
    let same = λ (when : When). same_member when _ _ _ _ c.policy-policy.ensures c.statement-statement.ensures in
    at_error c.from_residual-in_err-put_decides.result
    (rw c.in_err-put_decides.ensures.nothing (first_begun _ (written_as c.in_ok-put_depends.ensures.told (same AtCommands) ⨾ written_as c.in_ok-put_depends-2.ensures.told (same AtOpening))))
