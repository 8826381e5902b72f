use Rattle.std.proofs.Common.{ap}
use Rattle.hii_bytes.proofs.WritingLemmas.{◌⨾◌}
use Rattle.ifr_opcodes.specs.code.Ops.{bytes_of}
use Rattle.condition_text.proofs.WriteLemmas.{written_as}
use Rattle.question_audit.specs.code.Pages.{audited}
use Rattle.question_audit.specs.Limits.{leads_fact}
use Rattle.question_audit.proofs.limits_facts.put_leads.Goals as goal

pub returns-in-Some : goal.returns-in-Some
returns-in-Some g c =
    written_as (c.put_column.ensures ⨾ c.put_form_behind.ensures ⨾ c.put.ensures) (ap (leads_fact (audited c.args.page) (bytes_of c.args.op.op)) c.in-Some.ensures)
