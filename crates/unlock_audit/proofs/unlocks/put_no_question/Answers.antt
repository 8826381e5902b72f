use Rattle.std.proofs.Common.{ap, sym}
use Rattle.hii_bytes.proofs.WritingLemmas.{◌⨾◌}
use Rattle.audit_json.specs.declared.telling.Telling.{Telling}
use Rattle.condition_text.proofs.WriteLemmas.{written_as}
use Rattle.unlock_audit.specs.Told.{no_question_told}
use Rattle.unlock_audit.proofs.unlocks.put_no_question.Goals as goal

pub returns-in-Lines : goal.returns-in-Lines
returns-in-Lines g c = written_as (rw c.from.ensures at (c.put.ensures ⨾ c.put_decimal.ensures ⨾ c.put-in-Lines.ensures)) (ap (λ (t : Telling). no_question_told t c.args.id) (sym c.in-Lines.is))

pub returns-in-Objects : goal.returns-in-Objects
returns-in-Objects g c =
    written_as (rw c.from-in-Objects.ensures at (c.put_kind.ensures ⨾ (c.put_member.ensures ⨾ (c.put-in-Objects.ensures ⨾ c.put_decimal-in-Objects.ensures ⨾ c.put-in-Objects-2.ensures)) ⨾ c.end_object.ensures))
    (ap (λ (t : Telling). no_question_told t c.args.id) (sym c.in-Objects.is))
