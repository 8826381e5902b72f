use Rattle.check_audit.proofs.StandingLemmas.{warnings_stand}
use Rattle.check_audit.proofs.verdict.good_of.Goals as goal

pub returns-clause-stand : goal.returns-clause-stand
returns-clause-stand c =
    warnings_stand c.args.strings.now c.args.lacks.now c.args.forms _ c.requires.accepted.checked c.in_ok-found.ensures.warned
