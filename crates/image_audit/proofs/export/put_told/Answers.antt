use Rattle.image_audit.proofs.export.put_told.Goals as goal

pub returns-in-Lines : goal.returns-in-Lines
returns-in-Lines g c = rw c.in-Lines.is c.put_store_line.ensures

pub returns-in-Objects : goal.returns-in-Objects
returns-in-Objects g c = rw c.in-Objects.is c.put_store_object.ensures
