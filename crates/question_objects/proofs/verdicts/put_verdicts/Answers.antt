use Rattle.std.proofs.Common.{subst, sym}
use Rattle.hii_bytes.proofs.WritingLemmas.{◌⨾◌}
use Rattle.ifr_opcodes.specs.Forest.{Node}
use Rattle.ifr_nodes.specs.code.Checked.{IsNodeOf}
use Rattle.hii_questions.specs.code.Views.{question_node}
use Rattle.guard_policy.specs.Policy.{fixed}
use Rattle.guard_policy.specs.code.Views.{bytes_of}
use Rattle.form_page.specs.code.PageViews.{world_of}
use Rattle.question_objects.proofs.verdicts.put_verdicts.Goals as goal

pub is_constant-requires-clause-node : goal.is_constant-requires-clause-node
is_constant-requires-clause-node g c = subst (λ (n : Node). IsNodeOf (bytes_of c.args.page.policy) n) (sym c.statement-statement.ensures) c.requires.node

pub put_undefined-requires-clause-node : goal.put_undefined-requires-clause-node
put_undefined-requires-clause-node g c = subst (λ (n : Node). IsNodeOf (bytes_of c.args.page.policy) n) (sym c.statement-statement.ensures) c.requires.node

pub returns : goal.returns
returns g c =
    let denied = fixed (world_of c.args.page) (question_node c.args.question) in
    rw (c.is_constant.ensures denied c.requires.verdict, c.statement-statement.ensures) at
    (c.put_verdict.ensures denied c.requires.verdict ⨾ c.put_where.ensures ⨾ c.put_also.ensures ⨾ c.put_undefined.ensures)
