use Rattle.std.proofs.Common.{sym, ap, ◌∙◌}
use Rattle.std.proofs.lemmas.Result.{err_from_is_err_and}
use Rattle.guard_policy.specs.code.Surroundings.{answer_of}
use Rattle.hii_questions.specs.code.Ranges.{range_in}
use Rattle.hii_questions.specs.code.Views.{question_node}
use Rattle.browser_commands.proofs.BlockLemmas.{all_fixed}
use Rattle.browser_commands.proofs.blocks.question_with.Goals as goal

pub returns-in_err-free : goal.returns-in_err-free
returns-in_err-free c =
    let p = err_from_is_err_and c.from_residual.result c.from_residual.ensures.1 in
    rw (p.1, p.2) (all_fixed c.args.policy c.args.working.now.stores (range_in c.args.field) (question_node c.in-Some.question) c.in_err-free.field-0.0 c.in-Some.ensures.1 (sym c.is_password.ensures ∙ c.if-is_password.false) (sym c.in-Some.ensures.2 ∙ ap answer_of c.in_err-free.was))
