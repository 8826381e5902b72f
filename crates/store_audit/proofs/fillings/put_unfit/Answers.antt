use Rattle.store_audit.proofs.fillings.put_unfit.Goals as goal

pub returns-in-Lines : goal.returns-in-Lines
returns-in-Lines g c = rw c.in-Lines.is c.put_unfit_line.ensures

pub returns-in-Objects : goal.returns-in-Objects
returns-in-Objects g c = rw c.in-Objects.is c.put_unfit_object.ensures
