use Rattle.std.proofs.Common.{ap, subst, sym}
use Rattle.hii_bytes.proofs.WritingLemmas.{◌⨾◌}
use Rattle.ifr_opcodes.specs.Forest.{Node}
use Rattle.ifr_nodes.specs.code.Checked.{IsNodeOf}
use Rattle.guard_policy.specs.code.Views.{bytes_of}
use Rattle.condition_text.proofs.WriteLemmas.{written_as}
use Rattle.question_audit.specs.code.Pages.{audited}
use Rattle.question_audit.proofs.BeginningLemmas.{at_error, first_begun}
use Rattle.question_objects.specs.Conditions.{guards_member}
use Rattle.question_objects.proofs.objects.put_conditions.Goals as goal

pub put_guards-requires-clause-node : goal.put_guards-requires-clause-node
put_guards-requires-clause-node g c = subst (λ (n : Node). IsNodeOf (bytes_of c.args.page.policy) n) (sym c.statement.ensures) c.requires.node

pub returns-clause-told : goal.returns-clause-told
returns-clause-told g c =
    let same = ap (guards_member c.args.detail (audited c.args.page) c.args.package_place) c.statement.ensures in
    written_as c.put_guards.ensures same ⨾ c.put_checks.ensures ⨾ c.in_ok-put_rules.ensures.told

pub returns-in_err-put_rules-clause-begun : goal.returns-in_err-put_rules-clause-begun
returns-in_err-put_rules-clause-begun g c =
    let same = ap (guards_member c.args.detail (audited c.args.page) c.args.package_place) c.statement.ensures in
    at_error c.from_residual.result (rw c.in_err-put_rules.ensures.nothing (first_begun _ (written_as c.put_guards.ensures same ⨾ c.put_checks.ensures)))
