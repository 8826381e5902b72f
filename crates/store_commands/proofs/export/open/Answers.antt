use Rattle.std.proofs.lemmas.Result.{err_from_is_err_and}
use Rattle.store_commands.specs.Storing.{IsDeclaredBy}
use Rattle.store_commands.proofs.ExportingLemmas.{image_refuses, list_refuses}
use Rattle.store_commands.proofs.export.open.Goals as goal

pub returns-in_err-declared-clause-refused : goal.returns-in_err-declared-clause-refused
returns-in_err-declared-clause-refused c =
    let p = err_from_is_err_and c.from_residual.result c.from_residual.ensures.1 in
    rw (p.1, p.2) (list_refuses c.args.list.now c.args.forms c.args.image.now _ (rw c.from.ensures at c.in_err-declared.ensures.refused))

pub returns-in_err-stores-clause-refused : goal.returns-in_err-stores-clause-refused
returns-in_err-stores-clause-refused c =
    let p = err_from_is_err_and c.from_residual-in_err-stores.result c.from_residual-in_err-stores.ensures.1 in
    let found = rw c.from.ensures at c.in_ok-declared.ensures.found in
    let sound = rw c.from.ensures at c.in_ok-declared.ensures.sound in
    let declared : IsDeclaredBy c.args.list.now c.args.forms c.in_ok-declared.declared = record { source = found.0; found = found.1; bytes = found.2; sound = sound } in
    rw (p.1, p.2) (image_refuses c.args.list.now c.args.forms c.args.image.now _ c.in_ok-declared.declared declared (rw c.layout.ensures at c.in_err-stores.ensures.refused))

pub returns-clause-imaged : goal.returns-clause-imaged
returns-clause-imaged c =
    let found = rw c.from.ensures at c.in_ok-declared.ensures.found in
    let sound = rw c.from.ensures at c.in_ok-declared.ensures.sound in
    record {
      declared = record { source = found.0; found = found.1; bytes = found.2; sound = sound };
      spelled = rw c.layout.ensures at c.in_ok-stores.ensures.spelled;
    }
