use Rattle.std.proofs.Common.{◌≢◌, rules}
use Rattle.hii_bytes.specs.declared.cause.Cause.TheVariants.{OutOfMemory}
use Rattle.survey_commands.specs.Surveying.{Refused}
use Rattle.survey_commands.proofs.SetLemmas.{least_of, nothing_of_set}
use Rattle.survey_commands.proofs.sets.put_set.Goals as goal

pub put_declared-requires-clause-in_dump : goal.put_declared-requires-clause-in_dump
put_declared-requires-clause-in_dump g c = rw c.in-Ok.ensures.read c.requires.in_dump

pub returns-in-Err-clause-begun : goal.returns-in-Err-clause-begun
returns-in-Err-clause-begun g c = λ list stands. nothing_of_set _ list _ _

pub returns-in-Err-2-clause-told : goal.returns-in-Err-2-clause-told
returns-in-Err-2-clause-told g c = λ list stands.
    let other : c.in-Err.fault.cause ≢ OutOfMemory = search rules in
    (Refused c.in-Err.fault, least_of _ c.in-Err.fault c.in-Err.ensures.refused other, c.put_fault.ensures)
