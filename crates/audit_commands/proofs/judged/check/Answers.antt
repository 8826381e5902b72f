use Rattle.std.proofs.lemmas.Result.{err_from_is_err_and}
use Rattle.audit_commands.proofs.JudgingLemmas.{forms_refuse, none_refuses, texts_refuse}
use Rattle.audit_commands.proofs.judged.check.Goals as goal

pub returns-in_err-read-clause-refused : goal.returns-in_err-read-clause-refused
returns-in_err-read-clause-refused c =
    let p = err_from_is_err_and c.from_residual.result c.from_residual.ensures.1 in
    rw (p.1, p.2) (texts_refuse c.args.list.now c.args.packages.now c.args.forms _ c.requires.read c.requires.sound c.in_err-read.ensures.refused)

pub returns-in_err-read-2-clause-refused : goal.returns-in_err-read-2-clause-refused
returns-in_err-read-2-clause-refused c =
    let p = err_from_is_err_and c.from_residual-in_err-read-2.result c.from_residual-in_err-read-2.ensures.1 in
    rw (p.1, p.2) (forms_refuse c.args.list.now c.args.packages.now c.args.forms _ c.requires.read c.requires.sound c.in_ok-read.ensures.sound c.in_err-read-2.ensures.refused)

pub returns-clause-sound : goal.returns-clause-sound
returns-clause-sound c = none_refuses c.args.list.now c.args.packages.now c.args.forms c.requires.read c.requires.sound c.in_ok-read.ensures.sound c.in_ok-read-2.ensures.sound
