use Rattle.std.proofs.Common.{ap, sym, ◌∙◌}
use Rattle.std.proofs.lemmas.Result.{err_from_is_err_and}
use Rattle.browser_rules.specs.Faults.{string_faults}
use Rattle.browser_rules.specs.Strings.{spoken_in}
use Rattle.hii_packages.specs.Packages.{packages_of}
use Rattle.dump_audit.proofs.FaultLemmas.{list_refuses, text_faults, text_refuses}
use Rattle.dump_audit.proofs.findings.read_list.Goals as goal

pub returns-in_err-packages-clause-refused : goal.returns-in_err-packages-clause-refused
returns-in_err-packages-clause-refused c =
    let p = err_from_is_err_and c.from_residual.result c.from_residual.ensures.1 in
    rw (p.1, p.2) (list_refuses c.args.bytes.now _ c.in_err-packages.ensures.refused)

pub returns-in_err-strings-clause-refused : goal.returns-in_err-strings-clause-refused
returns-in_err-strings-clause-refused c =
    let p = err_from_is_err_and c.from_residual-in_err-strings.result c.from_residual-in_err-strings.ensures.1 in
    rw (p.1, p.2) (text_refuses c.args.bytes.now c.in_ok-packages.packages _ c.in_ok-packages.ensures.read c.in_ok-packages.ensures.sound c.in_err-strings.ensures.refused)

pub returns-clause-found : goal.returns-clause-found
returns-clause-found c =
    let read = c.in_ok-packages.ensures.read in
    let sound = text_faults c.args.bytes.now c.in_ok-packages.ensures.sound ∙ sym (ap string_faults read) ∙ c.in_ok-strings.ensures.sound in
    (spoken_in c.in_ok-packages.packages, (sound, ap packages_of read, ap spoken_in read), c.in_ok-strings.ensures.read)
