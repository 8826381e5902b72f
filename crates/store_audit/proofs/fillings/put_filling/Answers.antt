use Rattle.store_audit.proofs.fillings.put_filling.Goals as goal

pub returns-in-Lines : goal.returns-in-Lines
returns-in-Lines g c = rw c.in-Lines.is c.put_filling_line.ensures

pub returns-in-Objects : goal.returns-in-Objects
returns-in-Objects g c = rw c.in-Objects.is c.put_filling_object.ensures
