use Rattle.std.proofs.Common.{sym}
use Rattle.hii_questions.specs.code.Ranges.{range_in}
use Rattle.hii_questions.specs.code.Views.{question_view}
use Rattle.browser_commands.proofs.ChangeLemmas.{whole_field}
use Rattle.browser_commands.proofs.change.bytes_in.Goals as goal

pub returns : goal.returns
returns c = whole_field c.args.stores.now (question_view c.args.question) (range_in c.in_ok-field.field) c.from.result c.field-2.result c.requires (sym c.in_ok-field.ensures.found) c.from.ensures c.field-2.ensures
