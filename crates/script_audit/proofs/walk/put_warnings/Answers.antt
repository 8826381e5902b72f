use Rattle.std.proofs.Common.{◌≡◌, Some, ap, subst, sym, ◌∙◌}
use Rattle.std.specs.List.{flat_map}
use Rattle.ifr_nodes.specs.code.Checked.{IsNodeOf}
use Rattle.hii_questions.specs.code.Views.{question_node, question_view}
use Rattle.guard_policy.specs.code.Views.{bytes_of}
use Rattle.guard_policy.specs.code.WarningsLeft.{warnings_left}
use Rattle.guard_policy.specs.declared.policy.Policy.{Policy}
use Rattle.condition_text.proofs.WriteLemmas.{written_as}
use Rattle.question_audit.proofs.AskedLemmas.{found_with}
use Rattle.script_audit.specs.Walk.{warned_of, warning_told, warnings_of}
use Rattle.script_audit.specs.code.Pages.{seen_in}
use Rattle.script_audit.proofs.walk.put_warnings.Goals as goal

pub warnings-warnings-requires : goal.warnings-warnings-requires
warnings-warnings-requires g c =
    let policy = c.args.page.policy in
    let found = found_with (bytes_of policy) _ c.args.id (question_view c.in-Some.question) policy.accepted.checked.spelled c.questions.ensures.own c.in-Some.ensures in
    subst (λ (p : Policy). IsNodeOf (bytes_of p) (question_node c.in-Some.question)) (sym c.policy.ensures) found.node

pub returns : goal.returns
returns g c =
    let policy = c.args.page.policy in
    let a = seen_in c.args.page in
    let found = found_with (bytes_of policy) _ c.args.id (question_view c.in-Some.question) policy.accepted.checked.spelled c.questions.ensures.own c.in-Some.ensures in
    let its : warnings_left c.warnings-warnings.result ≡ warned_of a (Some (question_node c.in-Some.question)) = rw (c.policy.ensures, c.stores.ensures) at c.warnings-warnings.ensures in
    written_as c.put_left.ensures
    (ap (flat_map (warning_told c.args.telling c.args.number a)) its ∙ ap (warnings_of c.args.telling c.args.number a) (sym found.with_id))
