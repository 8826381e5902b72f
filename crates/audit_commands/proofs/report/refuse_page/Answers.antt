use Rattle.audit_commands.proofs.report.refuse_page.Goals as goal

pub returns : goal.returns
returns g c = (_, c.put.ensures, c.finish.ensures)
