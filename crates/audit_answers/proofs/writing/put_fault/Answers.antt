use Rattle.audit_answers.proofs.writing.put_fault.Goals as goal

pub returns-in-Lines : goal.returns-in-Lines
returns-in-Lines g c = rw c.in-Lines.is c.put_refusal_at.ensures

pub returns-in-Objects : goal.returns-in-Objects
returns-in-Objects g c = rw c.in-Objects.is c.put_refused_at.ensures
