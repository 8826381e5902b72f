use Rattle.std.proofs.Common.{◌++◌, ◌∙◌, ℕ, List, map, subst, sym, ap, append-nil, refl}
use Rattle.ifr_opcodes.specs.Forest.{Node}
use Rattle.ifr_nodes.specs.Nodes.{nodes_of}
use Rattle.ifr_nodes.specs.code.Checked.{IsNodeOf}
use Rattle.hii_questions.specs.code.Views.{question_view}
use Rattle.guard_policy.specs.code.Views.{bytes_of}
use Rattle.question_audit.specs.Dependences.{support_ids}
use Rattle.question_rows.specs.code.Deciding.{told}
use Rattle.question_rows.proofs.DecidingLemmas.{one_pushed}
use Rattle.question_rows.proofs.decisions.add_decisions.Goals as goal

pub support_of-requires : goal.support_of-requires
support_of-requires c = subst (λ (n : Node). IsNodeOf (bytes_of c.args.policy) n) (sym c.statement.ensures) c.requires

pub loop-id-init : goal.loop-id-init
loop-id-init c =
    let q = question_view c.args.question in
    let its = c.iter-left.ensures.rest ∙ c.in_ok-ids.ensures ∙ ap (support_ids c.args.when (nodes_of (bytes_of c.args.policy))) c.statement.ensures in
    ap (λ (l : List ℕ). map told c.args.decisions.now.items ++ map (λ (k : ℕ). (k, q)) l) its

pub loop-id-preserved : goal.loop-id-preserved
loop-id-preserved c = one_pushed _ _ _ (question_view c.args.question) _ _ _ c.in_ok-push.ensures.items refl c.in-Some.ensures.steps c.loop-id.invariant

pub returns : goal.returns
returns c =
    let q = question_view c.args.question in
    sym (append-nil (map told c.loop-id.decisions.items)) ∙ ap (λ (l : List ℕ). map told c.loop-id.decisions.items ++ map (λ (k : ℕ). (k, q)) l) (sym c.in_default.ensures.steps.0) ∙ c.loop-id.invariant
