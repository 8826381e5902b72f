use Rattle.std.proofs.Common.{ap}
use Rattle.ifr_opcodes.specs.code.Ops.{bytes_of}
use Rattle.condition_text.proofs.WriteLemmas.{written_as}
use Rattle.question_audit.specs.code.Pages.{audited}
use Rattle.question_rows.specs.Leads.{led_part}
use Rattle.question_rows.proofs.leads.put_led.Goals as goal

pub returns-in-Some : goal.returns-in-Some
returns-in-Some g c = written_as c.put_form.ensures (ap (led_part (audited c.args.page) (bytes_of c.args.op.op)) c.in-Some.ensures)

pub returns-in-None : goal.returns-in-None
returns-in-None g c =
    written_as (rw c.form_set.ensures at c.put_form_set.ensures) (ap (led_part (audited c.args.page) (bytes_of c.args.op.op)) c.in-None.ensures)
