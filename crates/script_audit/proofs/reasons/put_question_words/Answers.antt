use Rattle.std.proofs.Common.{subst, sym}
use Rattle.hii_bytes.specs.Watching.{Writes}
use Rattle.hii_bytes.proofs.WritingLemmas.{writes_nil}
use Rattle.hii_questions.specs.code.Views.{question_node}
use Rattle.script_audit.proofs.ReasonLemmas.{no_words}
use Rattle.script_audit.proofs.reasons.put_question_words.Goals as goal

pub returns-in_default : goal.returns-in_default
returns-in_default g c =
    let other = c.in_default in
    subst (Writes _ _) (sym (no_words c.args.kind (question_node c.args.question) other.not-Outside other.not-Kind other.not-Range other.not-Length other.not-NoOption other.not-NotRef)) (writes_nil _)
