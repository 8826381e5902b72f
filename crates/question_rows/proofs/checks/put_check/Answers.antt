use Rattle.std.proofs.Common.{ap, ◌∙◌}
use Rattle.hii_bytes.proofs.WritingLemmas.{◌⨾◌}
use Rattle.ifr_scopes.specs.code.Parts.{condition_node}
use Rattle.condition_text.proofs.WriteLemmas.{written_as}
use Rattle.question_audit.specs.code.Pages.{audited}
use Rattle.question_rows.specs.Conditions.{check_stated}
use Rattle.question_rows.proofs.checks.put_check.Goals as goal

pub returns-clause-told : goal.returns-clause-told
returns-clause-told g c =
    let words = rw c.condition.ensures at (c.deref.ensures.value ∙ c.in_ok-words.ensures) in
    written_as (c.put_check_start.ensures ⨾ c.put_check_words.ensures words ⨾ c.put.ensures) (ap (check_stated (audited c.args.page) (condition_node c.args.check)) c.state_by-state.ensures.state)
