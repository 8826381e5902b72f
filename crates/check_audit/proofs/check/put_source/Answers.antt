use Rattle.check_audit.proofs.check.put_source.Goals as goal

pub returns-clause-told : goal.returns-clause-told
returns-clause-told g c = (c.in_ok-verdict.verdict, c.in_ok-verdict.ensures.found, c.is_good.ensures, c.put_package.ensures)
