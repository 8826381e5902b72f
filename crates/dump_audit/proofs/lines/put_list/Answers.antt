use Rattle.dump_audit.proofs.FoundLemmas.{finding_of}
use Rattle.dump_audit.proofs.lines.put_list.Goals.{in-Lines, in-Objects}
use Rattle.dump_audit.proofs.lines.put_list.Goals as goal

pub returns-clause-told : goal.returns-clause-told
returns-clause-told g c =
    let its = finding_of c.args.list.bytes.now c.in_ok-found.found c.in_ok-found.ensures.found c.in_ok-found.ensures.refused in (
      its.0,
      its.1,
      elim c.match-telling.branch [
        | in-Lines w ↦ rw (w.out-is, w.in-Lines.is) (w.put_line.ensures its.0 its.2)
        | in-Objects w ↦ rw (w.out-is, w.in-Objects.is) (w.put_object.ensures its.0 its.2)
      ],
    )
