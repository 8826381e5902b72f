use Rattle.std.proofs.Common.{◌≢◌, [], inl, inr, refl, rules}
use Rattle.std.proofs.lemmas.Result.{on_err_weaker, on_ok_weaker}
use Rattle.hii_bytes.specs.declared.cause.Cause.TheVariants.{OutOfMemory}
use Rattle.hii_bytes.proofs.WritingLemmas.{writes_nil}
use Rattle.survey_commands.specs.Surveying.{NoSets, Sets}
use Rattle.survey_commands.proofs.SetLemmas.{least_of}
use Rattle.survey_commands.proofs.lists.put_list.Goals as goal

pub returns-in-Err-2-clause-told : goal.returns-in-Err-2-clause-told
returns-in-Err-2-clause-told g c =
    let other : c.in-Err.fault.cause ≢ OutOfMemory = search rules in
    (NoSets c.in-Err.fault, least_of _ c.in-Err.fault c.in-Err.ensures.refused other, c.put_list_fault.ensures)

pub returns-in-Ok-clause-told : goal.returns-in-Ok-clause-told
returns-in-Ok-clause-told g c = on_ok_weaker c.put_packages.result (λ said. (Sets said.0, said.1, said.2)) c.put_packages.ensures.told

pub returns-in-Ok-clause-begun : goal.returns-in-Ok-clause-begun
returns-in-Ok-clause-begun g c = on_err_weaker c.put_packages.result (λ said. (said.0, inr said.1, said.2)) c.put_packages.ensures.begun

pub returns-in-Err-clause-begun : goal.returns-in-Err-clause-begun
returns-in-Err-clause-begun g c = ([], inl refl, writes_nil _)
