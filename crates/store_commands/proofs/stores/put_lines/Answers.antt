use Rattle.std.proofs.lemmas.Result.{err_from_is_err_and}
use Rattle.session_steps.proofs.SourceLemmas.{list_refuses}
use Rattle.store_audit.proofs.DeclaringLemmas.{source_refuses}
use Rattle.store_commands.proofs.stores.put_lines.Goals.{then-options, else-options}
use Rattle.store_commands.proofs.stores.put_lines.Goals as goal

pub returns-in_err-path-clause-refused : goal.returns-in_err-path-clause-refused
returns-in_err-path-clause-refused g c =
    let p = err_from_is_err_and c.from_residual.result c.from_residual.ensures.1 in
    let list = c.args.list.now in
    let n = c.args.options.list.forms in
    rw (p.1, p.2) (source_refuses list n _ (list_refuses list n _ c.in_err-path.ensures.refused))

pub returns-in_err-declared-clause-refused : goal.returns-in_err-declared-clause-refused
returns-in_err-declared-clause-refused g c =
    let p = err_from_is_err_and c.from_residual-in_err-declared.result c.from_residual-in_err-declared.ensures.1 in
    rw (p.1, p.2) (rw c.from.ensures at c.in_err-declared.ensures.refused)

pub returns-clause-told : goal.returns-clause-told
returns-clause-told g c =
    let found = rw c.from.ensures at c.in_ok-declared.ensures.found in
    let sound = rw c.from.ensures at c.in_ok-declared.ensures.sound in (
      c.in_ok-declared.declared,
      record { source = found.0; found = found.1; bytes = found.2; sound = sound },
      elim c.if-options.branch [
        | then-options w ↦ rw (w.out-is, w.if-options.true) (rw (w.forms.ensures, c.in_ok-path.ensures.path, c.of-telling.ensures) at w.put_headers.ensures.lines)
        | else-options w ↦ rw (w.out-is, w.if-options.false) (rw (w.forms-else-options.ensures, c.of-telling.ensures) at w.put_stores.ensures)
      ],
    )
