use Rattle.std.proofs.Common.{ap}
use Rattle.hii_bytes.proofs.WritingLemmas.{◌⨾◌}
use Rattle.condition_text.proofs.WriteLemmas.{written_as}
use Rattle.question_audit.specs.QuestionFacts.{guid_behind}
use Rattle.question_audit.proofs.opcode_facts.put_store_guid.Goals as goal

pub returns-in-Some : goal.returns-in-Some
returns-in-Some g c = written_as (rw c.guid.ensures at (c.put.ensures ⨾ c.put_guid.ensures)) (ap guid_behind c.in-Some.ensures)
