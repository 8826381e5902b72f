use Rattle.std.proofs.Common.{◌∙◌, ap}
use Rattle.std.specs.Option.{option_copied}
use Rattle.audit_answers.proofs.GivenFileLemmas.{last_found, last_other}
use Rattle.audit_answers.proofs.given_files.last_given.Goals.{then-file-id, else-file-id}
use Rattle.audit_answers.proofs.given_files.last_given.Goals as goal

pub loop-file-preserved : goal.loop-file-preserved
loop-file-preserved c = elim c.if-file-id.branch [
  | then-file-id w ↦ ap option_copied w.last-is ∙ last_found c.args.files.now c.loop-file.file-index _ c.args.id c.loop-file-test.true w.if-file-id.true
  | else-file-id w ↦ ap option_copied w.last-is ∙ c.loop-file.invariant ∙ last_other c.args.files.now c.loop-file.file-index _ c.args.id c.loop-file-test.true w.if-file-id.false
]
