use Rattle.hii_varstore.proofs.WriteLemmas.{shape_after}
use Rattle.hii_questions.proofs.field.Field.put.Goals as goal

pub returns-clause-shape : goal.returns-clause-shape
returns-clause-shape c = shape_after c.args.stores.now c.args.self.store c.from.result c.write.new.into
