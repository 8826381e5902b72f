use Rattle.std.proofs.Common.{inr}
use Rattle.std.proofs.lemmas.Result.{err_from_is_err_and}
use Rattle.hii_packages.specs.code.Package.{package_of}
use Rattle.session_steps.proofs.SourceLemmas.{list_refuses, no_source_fault, number_refuses}
use Rattle.audit_commands.proofs.judged.JudgedPackage.read.Goals as goal

pub returns-in_err-packages-clause-refused : goal.returns-in_err-packages-clause-refused
returns-in_err-packages-clause-refused c =
    let p = err_from_is_err_and c.from_residual.result c.from_residual.ensures.1 in
    rw (p.1, p.2) (inr (list_refuses c.args.list.now c.args.forms _ c.in_err-packages.ensures.refused))

pub returns-in_err-source-clause-refused : goal.returns-in_err-source-clause-refused
returns-in_err-source-clause-refused c =
    let p = err_from_is_err_and c.from_residual-in_err-source.result c.from_residual-in_err-source.ensures.1 in
    rw (p.1, p.2) (inr (number_refuses c.args.list.now c.args.forms _ c.in_ok-packages.ensures.sound (rw c.in_ok-packages.ensures.read at c.in_err-source.ensures.refused)))

pub refusal-requires-clause-sound : goal.refusal-requires-clause-sound
refusal-requires-clause-sound c =
    no_source_fault c.args.list.now c.args.forms (package_of c.in_ok-source.source) (c.in_ok-packages.ensures.sound, rw c.in_ok-packages.ensures.read at c.in_ok-source.ensures.found)
