use Rattle.image_audit.proofs.difference.put_verdict_told.Goals as goal

pub returns-in-Lines : goal.returns-in-Lines
returns-in-Lines g c = λ b here there. rw c.in-Lines.is (c.put_verdict_line.ensures b here there)

pub returns-in-Objects : goal.returns-in-Objects
returns-in-Objects g c = λ b here there. rw c.in-Objects.is (c.put_verdict_object.ensures b here there)
