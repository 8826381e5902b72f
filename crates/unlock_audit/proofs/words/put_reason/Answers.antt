use Rattle.std.proofs.Common.{ap, sym}
use Rattle.hii_bytes.proofs.WritingLemmas.{◌⨾◌}
use Rattle.condition_text.proofs.WriteLemmas.{written_as}
use Rattle.std.proofs.Common.{◌++◌, codes}
use Rattle.std.specs.Prelude.{option_map}
use Rattle.condition_text.specs.code.Conditions.{words_of}
use Rattle.question_audit.specs.FormLines.{denial_text}
use Rattle.question_audit.specs.ScriptValues.{behind}
use Rattle.unlock_audit.proofs.words.put_reason.Goals as goal

pub returns-in-Some : goal.returns-in-Some
returns-in-Some g c =
    written_as (c.put_denial.ensures ⨾ (c.put.ensures ⨾ c.put-in-Some.ensures)) (ap (λ o. denial_text c.args.reason ++ behind (codes ": ") (option_map (λ text. words_of text.now) o)) (sym c.in-Some.is))
